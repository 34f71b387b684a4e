use Rattle.std.proofs.Common.{◌≡◌, ◌+◌, ◌-◌, drop, length, refl, sym, ap, ◌∙◌, arith, get_or, pos}
use Rattle.std.specs.List.{sum_by}
use Rattle.std.proofs.lemmas.List.{get_or-drop, length-drop, take_all}
use Rattle.card_closing.specs.Interest.{amounts_of}
use Rattle.card_closing.specs.Record.{balance_later, deferred_after}
use Rattle.card_closing.proofs.ByNumber.{length-amounts_of, sum-next}
use Rattle.card_closing.proofs.Loops.{amount-at, no_segment}
use Rattle.card_closing.proofs.record.deferred_after.Goals as goal

pub loop-id-preserved : goal.loop-id-preserved
loop-id-preserved c =
    let segments = c.args.segments.now.segments in
    let balances = c.args.segments.now.balances in
    let id = c.loop-id.id in
    let amounts = amounts_of (balance_later c.args.day) (drop 2 segments) (drop 2 balances) in
    let all = c.len-id-end.ensures in
    let here = c.loop-id-test.true in
    let from = c.loop-id.auto.id in
    let g = length-drop 2 segments in
    let b = length-drop 2 balances in
    let long : length amounts ≡ length (drop 2 segments) = length-amounts_of (balance_later c.args.day) (drop 2 segments) (drop 2 balances) (omega (arith, g, b, all.segments, all.balances)) in
    let place : 2 + (id - 2) ≡ id = omega (arith, from) in
    let kept : get_or (drop 2 balances) (id - 2) (pos 0) ≡ get_or balances id (pos 0) = get_or-drop 2 balances (id - 2) (pos 0) ∙ ap (λ k. get_or balances k (pos 0)) place in
    let one : c.balance_later-sum.result ≡ get_or amounts (id - 2) 0 =
    c.balance_later-sum.ensures.value no_segment
    ∙ (ap (balance_later c.args.day (get_or segments id no_segment)) (sym kept)
    ∙ sym (amount-at (balance_later c.args.day) segments (drop 2 balances) id no_segment (pos 0) from (omega (arith, here, all.segments)) (omega (arith, b, all.segments, all.balances, all.five)))) in
    let little = c.balance_later-sum.ensures.bound in
    let before = c.loop-id.invariant.bound in
    record {
      value = sum-next amounts id c.balance_later-sum.result c.loop-id.sum _ from (omega (arith, here, from, long, g, all.segments)) c.loop-id.invariant.value one refl;
      bound = omega (arith, little, before, from);
    }

pub returns-clause-value : goal.returns-clause-value
unfolding deferred_after
returns-clause-value c =
    let segments = c.args.segments.now.segments in
    let balances = c.args.segments.now.balances in
    let amounts = amounts_of (balance_later c.args.day) (drop 2 segments) (drop 2 balances) in
    let all = c.len-id-end.ensures in
    let end = c.loop-id-test.false in
    let g = length-drop 2 segments in
    let b = length-drop 2 balances in
    let long : length amounts ≡ length (drop 2 segments) = length-amounts_of (balance_later c.args.day) (drop 2 segments) (drop 2 balances) (omega (arith, g, b, all.segments, all.balances)) in
    c.loop-id.invariant.value ∙ ap (sum_by (λ n. n)) (take_all (c.loop-id.id - 2) amounts (omega (arith, end, long, g, all.segments)))
