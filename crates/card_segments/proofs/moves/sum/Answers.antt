use Rattle.std.proofs.Common.{◌+◌, ◌*◌, ◌<◌, length, ap, sym, ◌∙◌, arith, pos, ◌+ℤ◌, w64, to_z, FitsSigned, slice_index_or}
use Rattle.std.proofs.lemmas.Int.{to_z-of_z}
use Rattle.card_segments.proofs.Totals.{total-take_more, within-fits, within-sum}
use Rattle.card_segments.proofs.moves.sum.Goals as goal

pub loop-balance-preserved : goal.loop-balance-preserved
loop-balance-preserved c =
    let bs = c.args.balances.now in
    let i = c.loop-balance.balance-index in
    let b = slice_index_or bs i (pos 0) in
    let s = to_z w64 c.loop-balance.sum-bits in
    let here : i < length bs = omega arith in
    let sum = within-sum i s b c.loop-balance.invariant.within (c.requires.small i) in
    let one : FitsSigned w64 b = within-fits 11_000_000_000_000_000 b (omega arith) (c.requires.small i) in
    let all : FitsSigned w64 (s +ℤ b) = within-fits ((i + 1) * 11_000_000_000_000_000) (s +ℤ b) (omega (arith, c.requires.few)) sum in
    rw (to_z-of_z w64 b one, to_z-of_z w64 (s +ℤ b) all)
    (record { sum = ap (λ t. t +ℤ b) c.loop-balance.invariant.sum ∙ (sym (total-take_more bs i here)); within = sum })
