use Rattle.std.proofs.Common.{◌≡◌, ◌+◌, ◌≤◌, ◌&&◌, true, false, leb, ltb, drop, length, rules, sym, ap, ◌∙◌, arith, ℕ}
use Rattle.std.proofs.lemmas.Bool.Decides.{nat_tests}
use Rattle.card_statement.specs.Standing.{are_in_order}
use Rattle.card_statement.proofs.InOrder.{order-ended, order-more}
use Rattle.card_statement.proofs.standing.are_in_order.Goals as goal

pub loop-entry-init : goal.loop-entry-init
loop-entry-init c = ap (λ (b : ℕ). are_in_order b c.args.last c.args.entries.now) (sym c.first-before.ensures)

pub returns-then-is_after : goal.returns-then-is_after
returns-then-is_after c =
    let e = c.entry-item.result in
    let b = c.loop-entry.before in
    let es = c.args.entries.now in
    let i = c.loop-entry.entry-index in
    let tested : ltb e.day b ≡ true = sym c.is_after.ensures ∙ c.if-is_after.true in
    let no : leb b e.day ≡ false = grind (arith, nat_tests) in
    sym (c.loop-entry.invariant ∙ (order-more b c.args.last es i e c.loop-entry-test.true c.entry-item.is ∙ ap (λ t. t && are_in_order e.day c.args.last (drop (i + 1) es)) no))

pub loop-entry-preserved : goal.loop-entry-preserved
loop-entry-preserved c =
    let e = c.entry-item.result in
    let b = c.loop-entry.before in
    let es = c.args.entries.now in
    let i = c.loop-entry.entry-index in
    let tested : ltb e.day b ≡ false = sym c.is_after.ensures ∙ c.if-is_after.false in
    let low : leb b e.day ≡ true = grind (arith, nat_tests) in
    c.loop-entry.invariant ∙ (order-more b c.args.last es i e c.loop-entry-test.true c.entry-item.is ∙ ap (λ t. t && are_in_order e.day c.args.last (drop (i + 1) es)) low)

pub returns : goal.returns
returns c =
    let es = c.args.entries.now in
    let past : length es ≤ c.loop-entry.entry-index = search rules in
    c.is_by.ensures ∙ sym (c.loop-entry.invariant ∙ order-ended c.loop-entry.before c.args.last es c.loop-entry.entry-index past)
