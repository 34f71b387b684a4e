use Rattle.std.proofs.Common.{◌≡◌, ◌-◌, drop, length, sym, ap, ◌∙◌, arith, get_or}
use Rattle.card_closing.specs.Interest.{amounts_of}
use Rattle.card_closing.specs.Record.{by_number, cycle_average}
use Rattle.card_closing.specs.Turns.{of_segment}
use Rattle.card_closing.proofs.ByNumber.{by_number-next, by_number-none}
use Rattle.card_closing.proofs.Loops.{amount-at}
use Rattle.card_closing.proofs.record.averages.Goals as goal

pub loop-id-init : goal.loop-id-init
loop-id-init c = c.none-amounts.ensures ∙ by_number-none (of_segment (amounts_of (cycle_average c.args.closing.now.purchase c.args.closing.now.closing) (drop 2 c.args.segments.now.segments) c.args.rows.now))

pub loop-id-preserved : goal.loop-id-preserved
loop-id-preserved c =
    let segments = c.args.segments.now.segments in
    let rows = c.args.rows.now in
    let id = c.loop-id.id in
    let average = cycle_average c.args.closing.now.purchase c.args.closing.now.closing in
    let g = c.get.result.now in
    let r = c.index-rows-id.result in
    let all = c.len-id-end.ensures in
    let here = c.loop-id-test.true in
    let from = c.loop-id.auto.id in
    let same : c.average_of-average.result ≡ of_segment (amounts_of average (drop 2 segments) rows) id =
    c.average_of-average.ensures
    ∙ (ap (λ k. average g k) c.index-rows-id.is
    ∙ (ap (λ k. average k (get_or rows (id - 2) r)) (c.get.ensures g)
    ∙ sym (amount-at average segments rows id g r from (omega (arith, here, all.segments)) (omega (arith, c.requires, all.segments, all.balances))))) in
    by_number-next (of_segment (amounts_of average (drop 2 segments) rows)) id c.average_of-average.result c.loop-id.amounts c.add.new.done from c.loop-id.invariant same c.in_ok-add.ensures

pub returns : goal.returns
returns c =
    let all = c.len-id-end.ensures in
    let end = c.loop-id-test.false in
    let within = c.loop-id.auto.id-end in
    let same : c.loop-id.id - 2 ≡ length c.args.segments.now.balances - 2 = omega (arith, end, within, all.five, all.balances) in
    c.loop-id.invariant ∙ ap (by_number (of_segment (amounts_of (cycle_average c.args.closing.now.purchase c.args.closing.now.closing) (drop 2 c.args.segments.now.segments) c.args.rows.now))) same
