use Rattle.std.proofs.Common.{◌<◌, length, sym, subst}
use Rattle.card_segments.specs.Balances.{Balances}
use Rattle.card_segments.proofs.Kept.{kept-more}
use Rattle.card_segments.proofs.segments.Segments.add.Goals as goal

pub invariant_of-self-2 : goal.invariant_of-self-2
invariant_of-self-2 c =
    let few = subst (λ (b : Balances). length b.segments < 64) (sym c.self.view_is) c.requires.few in
    rw (c.in_ok-extend_from_slice.ensures.items, c.push_reserved.ensures.items, c.reserve.ensures.items) (kept-more _ _ c.args.segment few c.self.invariant)
