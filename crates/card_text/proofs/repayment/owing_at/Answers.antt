use Rattle.std.proofs.Common.{◌≡◌, ◌+◌, ◌<◌, [], ◌∷◌, ◌++◌, length, map, take, arith, ap, ◌∙◌, sym}
use Rattle.std.proofs.lemmas.List.{map-append, take_more}
use Rattle.card_text.specs.Repayment.{owing_of}
use Rattle.card_text.proofs.repayment.owing_at.Goals as goal

pub loop-place-preserved : goal.loop-place-preserved
loop-place-preserved c =
    let amounts = c.args.amounts.now in
    let i = c.loop-place.place in
    let x = c.get.result in
    let f = owing_of c.args.lines.now in
    let within : i < length amounts = omega (arith, c.loop-place-test.true, c.len-place-end.ensures) in
    let more : take (i + 1) amounts ≡ take i amounts ++ x ∷ [] = take_more amounts i (0, 0) within ∙ ap (λ y. take i amounts ++ y ∷ []) (sym (c.get.ensures (0, 0))) in
    c.in_ok-push.ensures.items ∙ ap (λ l. l ++ c.owing_of.result ∷ []) c.loop-place.invariant ∙ ap (λ o. map f (take i amounts) ++ o ∷ []) c.owing_of.ensures
    ∙ sym (ap (map f) more ∙ map-append f (take i amounts) (x ∷ []))
