use Rattle.std.proofs.Common.{sym, ap, ◌∙◌, subst}
use Rattle.card_posts.specs.Later.{AreSaid, each_from}
use Rattle.card_posts.proofs.Sparse.{none-each, none-said}
use Rattle.card_posts.proofs.correction_table.CorrectionTable.of_one.Goals as goal

pub invariant_of-result : goal.invariant_of-result
invariant_of-result c = subst (AreSaid 1) (sym (c.make_room_in.ensures.items ∙ c.new-said.ensures.items)) none-said

pub returns-clause-each : goal.returns-clause-each
returns-clause-each c = ap (each_from 1 1) (c.make_room_in.ensures.items ∙ c.new-said.ensures.items) ∙ none-each
