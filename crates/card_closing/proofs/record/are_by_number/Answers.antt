use Rattle.std.proofs.Common.{◌≡◌, ◌+◌, ◌<◌, [], ◌∷◌, ◌++◌, length, take, arith, ap, ◌∙◌, sym, subst}
use Rattle.std.proofs.lemmas.List.{take_all, take_more}
use Rattle.card_closing.proofs.Charged.{AreUpTo, are-all, none-yet, one-more}
use Rattle.card_closing.proofs.record.are_by_number.Goals as goal

pub loop-place-init : goal.loop-place-init
loop-place-init c = record { upto = none-yet; within = c.requires }

pub loop-place-preserved : goal.loop-place-preserved
loop-place-preserved c =
    let items = c.args.done.now in
    let i = c.loop-place.place in
    let x = c.get-segment.result in
    let within : i < length items = omega (arith, c.loop-place-test.true, c.len-place-end.ensures) in
    let more : take (i + 1) items ≡ take i items ++ x ∷ [] = take_more items i (0, 0) within ∙ ap (λ y. take i items ++ y ∷ []) (sym (c.get-segment.ensures (0, 0))) in
    record {
      upto =
          subst (AreUpTo (x.0 + 1)) (sym more)
          (one-more c.loop-place.next x.0 x.1 (take i items) c.loop-place.invariant.upto (omega (arith, c.if-segment-next.false)) (λ e. omega (arith, e, c.if-cents-eq0.false)));
      within = omega (arith, c.if-end-segment.false);
    }

pub returns : goal.returns
returns c e =
    let items = c.args.done.now in
    let all = take_all c.loop-place.place items (omega (arith, c.loop-place-test.false, c.len-place-end.ensures)) in
    are-all c.loop-place.next c.args.end items (subst (AreUpTo c.loop-place.next) all c.loop-place.invariant.upto) c.loop-place.invariant.within
