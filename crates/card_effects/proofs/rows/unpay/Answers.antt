use Rattle.std.proofs.Common.{set, get_or, ap, ◌∙◌, arith}
use Rattle.card_closing.specs.Rows.{without_post}
use Rattle.card_effects.proofs.Carried.{change-all, change-next, changed_to}
use Rattle.card_effects.proofs.rows.unpay.Goals as goal

pub loop-row-preserved : goal.loop-row-preserved
loop-row-preserved c =
    let f = without_post c.args.post in
    let i = c.loop-row.row-index in
    let xs = c.args.rows.now in
    let d = c.row-item.result in
    let read = c.unpaid.ensures ∙ ap (λ us. f (get_or us i d)) c.loop-row.invariant in
    ap (λ us. set us i c.unpaid.new.self) c.loop-row.invariant ∙ (ap (set (changed_to f i xs) i) read ∙ change-next f i xs d (omega (arith, c.loop-row-test.true)))

pub returns : goal.returns
returns c = c.loop-row.invariant ∙ change-all (without_post c.args.post) c.loop-row.row-index c.args.rows.now (omega (arith, c.loop-row-test.false))
