use Rattle.std.proofs.Common.{◌≡◌, ◌<◌, ◌≤◌, true, false, ltb, ◌||◌, ◌++◌, sym, ap, ◌∙◌, arith, ℤ, w64}
use Rattle.std.proofs.lemmas.Bool.Decides.{nat_tests}
use Rattle.std.specs.List.{list_any}
use Rattle.std.proofs.lemmas.Int.{to_z-of_z}
use Rattle.card_statement.specs.Standing.{are_in_order, is_owed_after, is_owed_between, is_owed_then}
use Rattle.card_statement.proofs.DayBalances.{no-days, owed-from}
use Rattle.card_statement.proofs.InOrder.{between-is}
use Rattle.card_events.specs.Range.{first_calendar_day}
use Rattle.card_statement.proofs.standing.was_owed.Goals as goal

pub returns-then-is_after : goal.returns-then-is_after
returns-then-is_after c earlier days sums =
    let tested : ltb c.args.last c.args.first ≡ true = sym c.is_after.ensures ∙ c.if-is_after.true in
    let past : c.args.last < c.args.first = grind (arith, nat_tests) in
    no-days c.args.segment c.args.first c.args.last (earlier ++ c.args.entries.now) past

pub returns-then-are_in_order : goal.returns-then-are_in_order
returns-then-are_in_order c earlier days sums =
    let tested : ltb c.args.last c.args.first ≡ false = sym c.is_after.ensures ∙ c.if-is_after.false in
    let order : c.args.first ≤ c.args.last = grind (arith, nat_tests) in
    let es = c.args.entries.now in
    let s = c.args.segment in
    let ordered : are_in_order first_calendar_day c.args.last es ≡ true = sym c.are_in_order.ensures ∙ c.if-are_in_order.true in
    c.is_owed_between.ensures
    ∙ (ap (λ (z : ℤ). is_owed_between z s c.args.first 0 es) (to_z-of_z w64 c.args.left c.ranges.left)
    ∙ (between-is c.args.left s c.args.first c.args.last es first_calendar_day order ordered ∙ owed-from c.args.left s c.args.first c.args.last earlier es order days sums))

pub returns : goal.returns
returns c earlier days sums =
    let tested : ltb c.args.last c.args.first ≡ false = sym c.is_after.ensures ∙ c.if-is_after.false in
    let order : c.args.first ≤ c.args.last = grind (arith, nat_tests) in
    let es = c.args.entries.now in
    let s = c.args.segment in
    c.is_owed_from.ensures
    ∙ (ap (λ (z : ℤ). is_owed_then z es s c.args.first || list_any (is_owed_after z es s c.args.first c.args.last) es) (to_z-of_z w64 c.args.left c.ranges.left)
    ∙ owed-from c.args.left s c.args.first c.args.last earlier es order days sums)
