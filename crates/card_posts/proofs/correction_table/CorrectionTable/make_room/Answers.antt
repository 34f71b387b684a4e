use Rattle.std.proofs.Common.{sym, subst}
use Rattle.card_posts.specs.Later.{HasSpare}
use Rattle.card_posts.proofs.correction_table.CorrectionTable.make_room.Goals as goal

pub returns-clause-spare : goal.returns-clause-spare
returns-clause-spare c s = c.make_room_in.ensures.spare (subst HasSpare (sym c.self.view_is) s)
