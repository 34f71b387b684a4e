use Rattle.std.proofs.Common.{◌≡◌, ◌-◌, length, ap, ◌∙◌, arith}
use Rattle.card_model.specs.Cycles.{amount_at}
use Rattle.card_closing.specs.Record.{by_number}
use Rattle.card_closing.proofs.ByNumber.{by_number-next, by_number-none}
use Rattle.card_closing.proofs.record.charged_amounts.Goals as goal

pub loop-id-init : goal.loop-id-init
loop-id-init c = c.none-amounts.ensures ∙ by_number-none (λ s. amount_at s c.args.done.now)

pub loop-id-preserved : goal.loop-id-preserved
loop-id-preserved c = by_number-next (λ s. amount_at s c.args.done.now) c.loop-id.id c.cents_of.result c.loop-id.amounts c.add.new.done c.loop-id.auto.id c.loop-id.invariant c.cents_of.ensures c.in_ok-add.ensures

pub returns : goal.returns
returns c =
    let all = c.len-id-end.ensures in
    let end = c.loop-id-test.false in
    let within = c.loop-id.auto.id-end in
    let same : c.loop-id.id - 2 ≡ length c.args.segments.now.balances - 2 = omega (arith, end, within, all.five, all.balances) in
    c.loop-id.invariant ∙ ap (by_number (λ s. amount_at s c.args.done.now)) same
