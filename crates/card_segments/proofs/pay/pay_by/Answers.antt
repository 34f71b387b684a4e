use Rattle.std.proofs.Common.{◌≡◌, ◌+◌, ◌≤◌, get_or, refl, sym, ◌∙◌, arith, Some}
use Rattle.card_model.specs.Allocation.{pay}
use Rattle.card_model.proofs.WholeParts.{paid_at-ascends}
use Rattle.card_segments.specs.Rules.{rule_of}
use Rattle.card_segments.proofs.Turn.{over, positive, turn}
use Rattle.card_segments.proofs.pay.pay_by.Goals as goal

pub loop-left-smaller : goal.loop-left-smaller
loop-left-smaller c =
    let hs = c.loop-left.holdings in
    let h = get_or hs c.in-Some.i c.index-holdings-i.result in
    omega (arith, positive c.args.rule hs h c.loop-left.invariant.ascending (c.in-Some.ensures.1 c.index-holdings-i.result), c.min-cents.ensures)

pub loop-left-preserved : goal.loop-left-preserved
loop-left-preserved c =
    let hs = c.loop-left.holdings in
    let h = get_or hs c.in-Some.i c.index-holdings-i.result in
    let chosen : rule_of c.args.rule hs ≡ Some h = c.in-Some.ensures.1 c.index-holdings-i.result in
    let within : c.min-cents.result ≤ h.balance = omega (arith, c.min-cents.ensures) in
    let less : c.min-cents.result ≤ c.loop-left.left = omega (arith, c.min-cents.ensures) in
    let done = c.give.ensures.paid c.index-holdings-i.result in
    record {
      paid = rw done (sym (turn c.args.rule hs h c.loop-left.left c.min-cents.result c.args.credit c.loop-left.invariant.ascending chosen within less) ∙ c.loop-left.invariant.paid);
      ascending = rw done (paid_at-ascends h.id c.min-cents.result 0 hs c.loop-left.invariant.ascending);
      room = c.give.ensures.room;
      few = omega (arith, c.loop-left.invariant.few);
    }

pub returns-in-None-clause-paid : goal.returns-in-None-clause-paid
returns-in-None-clause-paid c = sym c.loop-left.invariant.paid ∙ over c.args.rule c.loop-left.holdings c.loop-left.left c.args.credit c.in-None.ensures

pub returns-clause-paid : goal.returns-clause-paid
unfolding pay
returns-clause-paid c =
    let none : c.loop-left.left ≡ 0 = omega arith in
    let same : c.args.credit + 0 ≡ c.args.credit = omega arith in
    sym c.loop-left.invariant.paid ∙ rw (none, same) refl
