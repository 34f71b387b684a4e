use Rattle.card_desk.proofs.KeptLemmas.{first_desk}
use Rattle.card_desk.proofs.desk.Desk.new.Goals as goal

pub invariant_of-result : goal.invariant_of-result
invariant_of-result c = rw (c.new-4.ensures, c.new-3.ensures, c.first.ensures, c.new-2.ensures.items, c.new.ensures.items) first_desk
