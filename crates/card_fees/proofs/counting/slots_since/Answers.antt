use Rattle.std.proofs.Common.{nat_le, subst, sym}
use Rattle.card_events.specs.declared.kept.Slot.{Slot}
use Rattle.card_posts.specs.Order.{IsAscending}
use Rattle.card_posts.specs.Posted.{AreBounded}
use Rattle.card_posts.proofs.Ordered.{ascending-in_order}
use Rattle.card_fees.proofs.Bounded.{bounded-filter}
use Rattle.card_fees.proofs.counting.slots_since.Goals as goal

pub since-requires : goal.since-requires
since-requires c = subst IsAscending (sym c.in_order.ensures.order) (ascending-in_order _)

pub returns-clause-bounded : goal.returns-clause-bounded
returns-clause-bounded c = subst AreBounded (sym c.since.ensures.value) (bounded-filter (λ (s : Slot). nat_le c.args.from s.day) _ c.in_order.ensures.bounded)
