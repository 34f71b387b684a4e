use Rattle.std.proofs.Common.{inr}
use Rattle.std.proofs.lemmas.Result.{on_ok_weaker}
use Rattle.card_replay.proofs.Beside.{all-or-none}
use Rattle.card_replay.proofs.replay.Replay.make_for.Goals as goal

pub returns-clause-all : goal.returns-clause-all
returns-clause-all g c = all-or-none c.make_owed.result c.args.self.now.late c.make_owed.new.self.late c.make_owed.ensures.none c.make_owed.ensures.err

pub returns-clause-once : goal.returns-clause-once
returns-clause-once g c = record { idle = c.make_owed.ensures.idle; once = on_ok_weaker c.make_owed.result (λ n. inr n) c.make_owed.ensures.none }
