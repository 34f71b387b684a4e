use Rattle.std.proofs.Common.{◌<◌, length, sym, subst}
use Rattle.std.specs.Prelude.{◌≤◌, ◌≤ℤ◌, pos, slice_index_or}
use Rattle.std.proofs.Common.{w64}
use Rattle.std.proofs.lemmas.Int.{to_z-of_z}
use Rattle.card_segments.specs.Balances.{AreWithin, Balances, movable_balance}
use Rattle.card_segments.proofs.Kept.{IsAmount, kept-lowers}
use Rattle.card_segments.proofs.segments.Segments.credit.Goals as goal

pub invariant_of-self : goal.invariant_of-self
invariant_of-self c =
    let inside = sym c.self.view_is in
    let known = subst (λ (b : Balances). c.args.id < length b.balances) inside c.requires.known in
    let small = subst (λ (b : Balances). AreWithin movable_balance b.balances) inside c.requires.asked.small in
    let amount : IsAmount c.args.cents = record { low = c.requires.asked.amount; high = c.requires.asked.limit } in
    let enough = subst (λ (b : Balances). 1 ≤ c.args.id → c.args.cents ≤ℤ slice_index_or b.balances c.args.id (pos 0)) inside c.requires.enough in
    rw (c.lower.ensures.balances, to_z-of_z w64 c.args.cents c.ranges.cents) (kept-lowers _ c.args.id c.args.cents _ c.self.inside.balances.items enough known amount small c.self.invariant)
