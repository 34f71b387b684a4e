-- Folding on, closing by closing: where it begins, and its steps.
use Rattle.std.proofs.Common.{◌≡◌, inr, ℕ, zero, suc, ◌+◌, ◌-◌, ◌≤◌, Bool, true, false, ◌&&◌, ◌||◌, nat_le, [], refl, sym, subst, arith, Some, None, eq-eqb}
use Rattle.std.specs.Prelude.{◌==◌, nat_lt}
use Rattle.std.specs.List.{list_any}
use Rattle.std.proofs.lemmas.Bool.{le-leb}
use Rattle.std.proofs.lemmas.List.Elements.{All-nil}
use Rattle.card_events.specs.Business.{is_due}
use Rattle.card_events.specs.Civil.{day_of_month}
use Rattle.card_events.specs.Range.{last_request_day}
use Rattle.card_events.specs.History.{CorrectedPost, anchor_of, corrected}
use Rattle.card_events.specs.SharedRows.{IndexRow}
use Rattle.card_model.specs.Breaks.{breaks_penalty, breaks_segment, is_break}
use Rattle.card_model.specs.Cycles.{Cycle, IssuedRow}
use Rattle.card_model.specs.CycleDays.{IsOpening}
use Rattle.card_model.specs.Folds.{cycle_at}
use Rattle.card_model.specs.Segments.{segments}
use Rattle.card_model.specs.Spans.{IsSpan}
use Rattle.card_model.proofs.Spans.{spans_are_steps}
use Rattle.card_daily.specs.Given.{Given, account_in, book_on, opened_in}
use Rattle.card_daily.specs.Stands.{IsBlank}
use Rattle.card_book.proofs.StepCounts.{steps_add_up}
use Rattle.card_book.specs.Marks.{AreMarks}
use Rattle.card_book.specs.Stands.{breaks_of, steps_over}
use Rattle.card_book.specs.declared.marks.Accruing.{Accruing}
use Rattle.card_past.specs.Pasts.{IsEmpty}
use Rattle.card_past.specs.Foldings.{HasMarks}
use Rattle.card_past.specs.declared.past.Past.{Past}

-- ---- where nothing is recorded
none-at : (k : ℕ) (c : Cycle) → cycle_at k [] ≡ Some c → ⊥
none-at zero c e = let no : None ≡ Some c = e in cc
none-at (suc n) c e = let no : None ≡ Some c = e in cc

no-marks : (g : Given) → AreMarks g [] [] []
no-marks g = record {
  count = refl;
  each = λ k c s at got. absurd (none-at k c at);
  closed = All-nil (λ (a : Accruing). a.cycle ≤ 0);
  ordered = λ k. refl;
  there = All-nil _;
}

pub none-marked : (g : Given) (p : Past) → IsEmpty p → HasMarks g p
none-marked g p e =
    subst (λ cycles. AreMarks g cycles p.since.items p.accrued.items) (sym e.cycles)
    (subst (λ since. AreMarks g [] since p.accrued.items) (sym e.since) (subst (λ kept. AreMarks g [] [] kept) (sym e.accrued) (no-marks g)))

pub none-recorded : (p : Past) → IsEmpty p → IsBlank p.track
none-recorded p e = record { entries = e.entries; cycles = e.cycles; fees = e.fees }

-- ---- a closing is a break day
closes-anyway : (p d i s q x : Bool) → (p || true || d || i || s || q || x) ≡ true
closes-anyway true d i s q x = refl
closes-anyway false d i s q x = refl

pub closing-breaks : (g : Given) (to day : ℕ) → opened_in g ≤ day → day_of_month day ≡ (anchor_of g.history).close_day → breaks_of g to day ≡ true
unfolding is_break
closing-breaks g to day low e =
    let a = anchor_of g.history in
    let all = corrected a g.shared.holidays g.history in
    let posts = list_any (λ (p : CorrectedPost). p.day == day) all in
    let due = is_due a (day - 1) in
    let rows = list_any (λ (r : IssuedRow). r.day == day) g.issued in
    let parts = list_any (breaks_segment day) (segments a (account_in g).terms all) in
    let rates = list_any (breaks_penalty day) (book_on g to).penalties in
    let index = (account_in g).variable && nat_lt a.opened day && list_any (λ (r : IndexRow). r.day == day) g.shared.index in
    let begun : nat_le a.opened day ≡ true = le-leb a.opened day low in
    let on : (day_of_month day == a.close_day) ≡ true = eq-eqb (day_of_month day) a.close_day e in
    let closes : nat_le a.opened day && (day_of_month day == a.close_day) ≡ true = rw (begun, on) refl in
    subst (λ b. (posts || b || due || rows || parts || rates || index) ≡ true) (sym closes) (closes-anyway posts due rows parts rates index)

-- so folding to it, and then on, takes the steps of the whole
pub steps-on : (g : Given) (first day to before mid : ℕ) → IsOpening (anchor_of g.history) → opened_in g ≤ day → day_of_month day ≡ (anchor_of g.history).close_day → first ≤ day + 1 → day ≤ to → to ≤ last_request_day
    → mid ≡ before + steps_over g day first → mid + steps_over g to (day + 1) ≡ before + steps_over g to first
steps-on g first day to before mid open' low e upto within last did =
    let join = steps_add_up.join g first day to open' upto within last (closing-breaks g to day low e) in
    omega (arith, join, did)

-- a day alone is one step
pub one-step : (g : Given) (day : ℕ) → steps_over g day day ≡ 1
one-step g day =
    let alone : IsSpan (breaks_of g day) day 0 day = record { quiet = λ i l. absurd (omega (arith, l)); within = omega arith; ends = inr (omega arith) } in
    let more = spans_are_steps.one (breaks_of g day) day 0 day alone in
    let none = spans_are_steps.none (breaks_of g day) (day + 0 + 1) day (omega arith) in
    omega (arith, more, none)
