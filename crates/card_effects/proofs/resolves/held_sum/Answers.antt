use Rattle.std.proofs.Common.{sym, subst, w64, to_z, ◌+ℤ◌, FitsSigned}
use Rattle.std.proofs.lemmas.Int.{to_z-of_z}
use Rattle.card_effects.proofs.HeldSums.{next-is}
use Rattle.card_effects.proofs.resolves.held_sum.Goals as goal

pub overflow_add-sum : goal.overflow_add-sum
overflow_add-sum c =
    let s = to_z w64 c.loop-entry.sum-bits in
    let h = to_z-of_z w64 c.held_of-sum.result (record { sfits = c.held_of-sum.type_inv }) in
    let next = next-is c.args.post c.loop-entry.entry-index c.args.entries.now c.entry-item.result s c.held_of-sum.result c.loop-entry-test.true c.requires c.entry-item.is c.loop-entry.invariant c.held_of-sum.ensures in
    subst (λ z. FitsSigned w64 (s +ℤ z)) (sym h) next.fits

pub loop-entry-preserved : goal.loop-entry-preserved
loop-entry-preserved c =
    let s = to_z w64 c.loop-entry.sum-bits in
    let h = to_z-of_z w64 c.held_of-sum.result (record { sfits = c.held_of-sum.type_inv }) in
    let next = next-is c.args.post c.loop-entry.entry-index c.args.entries.now c.entry-item.result s c.held_of-sum.result c.loop-entry-test.true c.requires c.entry-item.is c.loop-entry.invariant c.held_of-sum.ensures in
    rw (h, to_z-of_z w64 (s +ℤ c.held_of-sum.result) next.fits) next.sum
