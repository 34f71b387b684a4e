use Rattle.std.proofs.Common.{◌≡◌, ℕ, ◌≤◌, List, Option, Some, None, refl, sym, ◌∙◌, subst, arith}
use Rattle.std.specs.Option.{option_map}
use Rattle.card_events.specs.Range.{last_request_day}
use Rattle.card_events.specs.declared.anchor.Anchor.{Anchor}
use Rattle.card_fees.specs.Asked.{IsInCalendar}
use Rattle.card_fees.specs.DueLaws.{AreDueBy, AreOfTheCalendar, due_cycle_at}
use Rattle.card_model.specs.declared.due_cycle.DueCycle.{DueCycle}
use Rattle.card_model.specs.Cycles.{Cycle, Seen}
use Rattle.card_fees.proofs.Days.{due-later}
use Rattle.card_model.specs.Folds.{cycle_at}
use Rattle.card_model.specs.Payments.{due_cycle_of}
use Rattle.card_daily.proofs.ClosingDay.{cases-are}
use Rattle.card_daily.proofs.Counting.{list-is, of-posts}
use Rattle.card_daily.specs.Given.{seen_in}
use Rattle.card_dayend.proofs.closing.purchases.Goals as goal

-- a closed cycle as its due date sees it closed before its due date, which is there
in-calendar : (a : Anchor) (seen : Seen) (day k : ℕ) (cycles : List Cycle) (d : DueCycle) → day ≤ last_request_day → AreOfTheCalendar a cycles → AreDueBy day cycles → due_cycle_at seen k cycles ≡ Some d
    → IsInCalendar d
in-calendar a seen day k cycles d l days dues e = by (cycle_at k cycles) refl e
  where
    by : (o : Option Cycle) → cycle_at k cycles ≡ o → option_map (due_cycle_of seen.issued) o ≡ Some d → IsInCalendar d
    by None at e = cc
    by (Some c) at e =
        let h = days k c at in
        let by = dues k c at in
        let later = due-later a k in
        let is : due_cycle_of seen.issued c ≡ d = cc in
        subst IsInCalendar is (record { closed = omega (arith, later, h.closing, h.due); last = omega (arith, by, l) })

pub purchase_case-requires-clause-before : goal.purchase_case-requires-clause-before
purchase_case-requires-clause-before c d e =
    in-calendar _ (seen_in c.args.inputs.now c.args.day) c.args.day c.saturating_sub.result c.args.cycles.now d c.requires.last c.requires.days c.requires.due (sym c.due_at-before.ensures ∙ e)

pub purchase_case-requires-clause-last : goal.purchase_case-requires-clause-last
purchase_case-requires-clause-last c d e =
    in-calendar _ (seen_in c.args.inputs.now c.args.day) c.args.day _ c.args.cycles.now d c.requires.last c.requires.days c.requires.due (sym c.due_at-last.ensures ∙ e)

pub returns : goal.returns
returns c =
    let g = c.args.inputs.now in
    let counted = of-posts g c.posts.result.now c.args.day c.args.tally.now c.posts.ensures.stands c.posts.ensures.history c.requires.tally in
    c.purchase_case.ensures g.shared.holidays c.args.day c.posts.ensures.stands counted
    ∙ cases-are g c.args.day c.args.cycles.now c.posts.result.now.corrected c.saturating_sub.result _ _ c.requires.days c.requires.due c.requires.cycles
    (list-is g c.posts.result.now c.posts.ensures.stands c.posts.ensures.history) c.saturating_sub.ensures c.due_at-before.ensures c.due_at-last.ensures
