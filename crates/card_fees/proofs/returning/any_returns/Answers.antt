use Rattle.std.proofs.Common.{get_or, sym, ap, ◌∙◌, arith}
use Rattle.std.proofs.lemmas.List.{take_all}
use Rattle.std.specs.List.{list_any}
use Rattle.card_fees.specs.Counting.{returns_until}
use Rattle.card_fees.proofs.Returned.{one-returns}
use Rattle.card_fees.proofs.returning.any_returns.Goals as goal

pub returns-then-returns_until : goal.returns-then-returns_until
returns-then-returns_until c =
    let posts = c.args.posts.now in
    sym (one-returns c.args.until.now posts.history posts.corrected c.args.payment (get_or c.waiting-waiting.result.now c.loop-number.number-index 0) (sym c.returns_until.ensures ∙ c.if-returns_until.true))

pub returns : goal.returns
returns c =
    let posts = c.args.posts.now in
    let all = take_all c.loop-number.number-index c.waiting-waiting.result.now (omega (arith, c.loop-number-test.false)) in
    sym (ap (list_any (returns_until c.args.until.now posts.history posts.corrected c.args.payment)) (sym c.waiting-waiting.ensures ∙ sym all) ∙ c.loop-number.invariant)
