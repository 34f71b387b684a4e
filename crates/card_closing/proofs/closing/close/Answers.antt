use Rattle.std.proofs.Common.{drop, ◌∙◌, arith}
use Rattle.std.proofs.lemmas.List.{length-drop}
use Rattle.std.specs.Prelude.{option_copied}
use Rattle.card_closing.proofs.Closed.{both-turns, closes, few-charged}
use Rattle.card_closing.proofs.closing.close.Goals as goal

pub record-requires-clause-few : goal.record-requires-clause-few
record-requires-clause-few c =
    let k = c.args.closing.now in
    let gs = c.args.segments.now.segments in
    let all = c.len-count.ensures in
    few-charged (option_copied c.args.issued) k.closing k.purchase c.args.rows.now c.args.accruals.now (drop 2 gs) c.args.out.now.items
    (record { amounts = c.charge_accruals.new.done; entries = c.charge_accruals.new.out.items }) (omega (arith, length-drop 2 gs, all.segments, all.few))
    (both-turns (option_copied c.args.issued) k.closing k.purchase c.args.rows.now c.args.accruals.now gs c.charge_interest.new.segments.segments c.none-done.result c.args.out.now.items _ _ c.none-done.ensures
    c.in_ok-charge_interest.ensures.turn c.in_ok-charge_interest.ensures.kept.segments c.in_ok-charge_accruals.ensures.turn)

pub returns-clause-entries : goal.returns-clause-entries
returns-clause-entries c row all sees a seen b g =
    let k = c.args.closing.now in
    (closes k (option_copied c.args.issued) c.args.segments.now c.charge_accruals.new.segments c.args.rows.now c.args.accruals.now c.args.fees.now c.args.out.now.items
    (record { amounts = c.charge_accruals.new.done; entries = c.charge_accruals.new.out.items }) c.in_ok-cycle.cycle c.len.result row all sees a seen b
    (both-turns (option_copied c.args.issued) k.closing k.purchase c.args.rows.now c.args.accruals.now c.args.segments.now.segments c.charge_interest.new.segments.segments c.none-done.result c.args.out.now.items _ _ c.none-done.ensures
    c.in_ok-charge_interest.ensures.turn c.in_ok-charge_interest.ensures.kept.segments c.in_ok-charge_accruals.ensures.turn)
    (c.in_ok-charge_accruals.ensures.kept.segments ∙ c.in_ok-charge_interest.ensures.kept.segments)
    (omega (arith, c.requires.rows, c.in_ok-charge_accruals.ensures.kept.balances, c.in_ok-charge_interest.ensures.kept.balances))
    c.in_ok-charge_accruals.ensures.kept.step.sums (c.len.ensures ∙ c.charge_accruals.new.out.ok.0) c.in_ok-cycle.ensures g).0

pub returns-clause-cycle : goal.returns-clause-cycle
returns-clause-cycle c row all sees a seen b g =
    let k = c.args.closing.now in
    (closes k (option_copied c.args.issued) c.args.segments.now c.charge_accruals.new.segments c.args.rows.now c.args.accruals.now c.args.fees.now c.args.out.now.items
    (record { amounts = c.charge_accruals.new.done; entries = c.charge_accruals.new.out.items }) c.in_ok-cycle.cycle c.len.result row all sees a seen b
    (both-turns (option_copied c.args.issued) k.closing k.purchase c.args.rows.now c.args.accruals.now c.args.segments.now.segments c.charge_interest.new.segments.segments c.none-done.result c.args.out.now.items _ _ c.none-done.ensures
    c.in_ok-charge_interest.ensures.turn c.in_ok-charge_interest.ensures.kept.segments c.in_ok-charge_accruals.ensures.turn)
    (c.in_ok-charge_accruals.ensures.kept.segments ∙ c.in_ok-charge_interest.ensures.kept.segments)
    (omega (arith, c.requires.rows, c.in_ok-charge_accruals.ensures.kept.balances, c.in_ok-charge_interest.ensures.kept.balances))
    c.in_ok-charge_accruals.ensures.kept.step.sums (c.len.ensures ∙ c.charge_accruals.new.out.ok.0) c.in_ok-cycle.ensures g).1
