use Rattle.std.proofs.Common.{◌≡◌, Bool, true, false, not, refl, sym, ◌∙◌, arith}
use Rattle.card_dayend.proofs.Issues.{issue-cut}
use Rattle.card_dayend.proofs.break_day.is_cut.Goals as goal

isnt : (b : Bool) → not b ≡ true → b ≡ false
isnt true e = sym e
isnt false e = refl

pub returns : goal.returns
returns c is =
    issue-cut c.args.issued.now c.args.day c.args.place c.requires (omega (arith, c.if-place-eq0.false)) (omega (arith, c.if-count-place.false, c.if-place-count.false))
    (λ d. sym (c.is_early_at.ensures d) ∙ c.if-not-is_early_at.false) (λ d. sym (c.is_early_at-2.ensures d) ∙ isnt c.is_early_at-2.result is)
