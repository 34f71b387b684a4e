use Rattle.std.proofs.Common.{nat_le, subst, sym}
use Rattle.card_events.specs.declared.kept.Slot.{Slot}
use Rattle.card_posts.specs.Posted.{AreBounded}
use Rattle.card_fees.proofs.Bounded.{bounded-filter}
use Rattle.card_fees.proofs.counting.slots_of.Goals as goal

pub returns-clause-bounded : goal.returns-clause-bounded
returns-clause-bounded c = subst AreBounded (sym c.up_to.ensures) (bounded-filter (λ (s : Slot). nat_le s.day c.args.to) _ c.slots_since.ensures.bounded)
