-- Spans of quiet days, counted and told.
use Rattle.std.proofs.Common.{◌≡◌, ℕ, zero, suc, ◌+◌, ◌-◌, ◌<◌, ◌≤◌, Bool, true, false, cond, not, ◌&&◌, nat_le, List, refl, sym, ap, ◌∙◌, subst, arith, add_assoc, ◌⊎◌, inl, inr}
use Rattle.std.specs.List.{range_with_len}
use Rattle.std.proofs.lemmas.Bool.{cases_lt}
use Rattle.std.proofs.lemmas.Bool.Decides.{nat_tests}
use Rattle.std.proofs.lemmas.List.Sums.{sum_by-cons}
use Rattle.card_events.specs.Range.{last_calendar_day}
use Rattle.card_events.specs.History.{anchor_of, corrected}
use Rattle.card_events.specs.SharedRows.{SharedRows}
use Rattle.card_events.specs.declared.kept.Kept.{Kept}
use Rattle.card_model.specs.Books.{Book, account_of}
use Rattle.card_model.specs.Breaks.{breaks_among, is_break}
use Rattle.card_model.specs.CycleDays.{IsOpening}
use Rattle.card_model.specs.Cycles.{IssuedRow}
use Rattle.card_model.specs.Folds.{book}
use Rattle.card_model.specs.Spans.{IsSpan, SpansAreSteps, SpansAreTold, steps_among}
use Rattle.card_model.specs.declared.segment.Interval.{Interval}
use Rattle.card_model.proofs.BreakDays.{break_days_stay}
use Rattle.card_model.proofs.Quiet.{quiet_days_change_nothing}

-- ---- steps
first-of : (p : ℕ → Bool) (first n : ℕ) → breaks_among p first (suc n) ≡ cond (p first) 1 0 + breaks_among p (first + 1) n
first-of p first n = sum_by-cons (λ x. cond (p x) 1 0) first (range_with_len (first + 1) n)

-- with how many days there are, and whether there are any
steps-by : (p : ℕ → Bool) (first to n : ℕ) (b : Bool) → to + 1 - first ≡ n → nat_le first to ≡ b → steps_among p first to ≡ breaks_among p first n + cond (b && not (p to)) 1 0
steps-by p first to n b e f = ap (λ k. breaks_among p first k + cond (nat_le first to && not (p to)) 1 0) e ∙ ap (λ t. breaks_among p first n + cond (t && not (p to)) 1 0) f

steps-none : (p : ℕ → Bool) (first to : ℕ) → to < first → steps_among p first to ≡ 0
steps-none p first to l =
    let late : nat_le first to ≡ false = grind (arith, nat_tests) in
    steps-by p first to 0 false (omega arith) late

steps-last : (p : ℕ → Bool) (day : ℕ) → steps_among p day day ≡ 1
steps-last p day =
    let now : nat_le day day ≡ true = grind (arith, nat_tests) in
    steps-by p day day (suc 0) true (omega arith) now ∙ (ap (λ k. k + cond (not (p day)) 1 0) (first-of p day 0) ∙ by (p day))
  where
    by : (t : Bool) → cond t 1 0 + 0 + cond (not t) 1 0 ≡ 1
    by true = refl
    by false = refl

steps-next : (p : ℕ → Bool) (first to : ℕ) → first < to → steps_among p first to ≡ cond (p first) 1 0 + steps_among p (first + 1) to
steps-next p first to l =
    let now : nat_le first to ≡ true = grind (arith, nat_tests) in
    let then : nat_le (first + 1) to ≡ true = grind (arith, nat_tests) in
    let last : ℕ = cond (not (p to)) 1 0 in
    let rest = steps-by p (first + 1) to (to - first) true (omega arith) then in
    steps-by p first to (suc (to - first)) true (omega arith) now
    ∙ (ap (λ k. k + last) (first-of p first (to - first)) ∙ (add_assoc (cond (p first) 1 0) (breaks_among p (first + 1) (to - first)) last ∙ sym (ap (λ k. cond (p first) 1 0 + k) rest)))

one-step : (p : ℕ → Bool) (first days to : ℕ) → IsSpan p first days to → steps_among p first to ≡ 1 + steps_among p (first + days + 1) to
one-step p first zero to h = by (cases_lt first to) h.ends
  where
    here : first + 0 ≡ first
    here = omega arith

    index : first + 1 ≡ first + 0 + 1
    index = omega arith

    by : (first < to) ⊎ (to ≤ first) → (p (first + 0) ≡ true) ⊎ (first + 0 ≡ to) → steps_among p first to ≡ 1 + steps_among p (first + 0 + 1) to
    by (inl l) (inl e) =
        steps-next p first to l
        ∙ (ap (λ b. cond b 1 0 + steps_among p (first + 1) to) (ap p (sym here) ∙ e) ∙ ap (λ d. 1 + steps_among p d to) index)
    by (inl l) (inr e) = absurd (omega arith)
    by (inr m) ends =
        let same : to ≡ first = let w = h.within in omega arith in
        subst (λ t. steps_among p first t ≡ 1 + steps_among p (first + 0 + 1) t) (sym same)
        (steps-last p first ∙ sym (ap (λ n. 1 + n) (steps-none p (first + 0 + 1) first (omega arith))))
one-step p first (suc days) to h =
    let here : first ≡ first + 0 = omega arith in
    let quiet : p first ≡ false = ap p here ∙ h.quiet 0 (omega arith) in
    let index : first + 1 + days ≡ first + suc days = omega arith in
    let rest = one-step p (first + 1) days to (record {
      quiet = λ i l. let e : first + 1 + i ≡ first + suc i = omega arith in ap p e ∙ h.quiet (suc i) (omega arith);
      within = (let w = h.within in omega arith);
      ends = subst (λ d. (p d ≡ true) ⊎ (d ≡ to)) (sym index) h.ends;
    }) in
    steps-next p first to (let w = h.within in omega arith)
    ∙ (ap (λ b. cond b 1 0 + steps_among p (first + 1) to) quiet ∙ (none (steps_among p (first + 1) to) ∙ (rest ∙ ap (λ d. 1 + steps_among p (d + 1) to) index)))
  where
    none : (n : ℕ) → 0 + n ≡ n
    none n = omega arith

pub spans_are_steps : SpansAreSteps
spans_are_steps = record { one = one-step; none = steps-none }

-- ---- books
quiet-back : (history : List Kept) (issued : List IssuedRow) (shared : SharedRows) (penalties : List Interval) (day : ℕ) → IsOpening (anchor_of history) → day ≤ last_calendar_day
    → is_break (account_of history) (corrected (anchor_of history) shared.holidays history) issued shared.index penalties day ≡ false → book history issued shared day ≡ book history issued shared (day - 1)
quiet-back history issued shared penalties zero open' l q = refl
quiet-back history issued shared penalties (suc day) open' l q =
    let e : suc day ≡ day + 1 = omega arith in
    let back : day ≡ suc day - 1 = omega arith in
    ap (book history issued shared) e
    ∙ (quiet_days_change_nothing history issued shared penalties day open' (omega arith) (subst (λ d. is_break (account_of history) (corrected (anchor_of history) shared.holidays history) issued shared.index penalties d ≡ false) e q)
    ∙ ap (book history issued shared) back)

pub quiet-books : (history : List Kept) (issued : List IssuedRow) (shared : SharedRows) (penalties : List Interval) (first days : ℕ) → IsOpening (anchor_of history) → first + days ≤ 48577
    → ((i : ℕ) → i < days → is_break (account_of history) (corrected (anchor_of history) shared.holidays history) issued shared.index penalties (first + i) ≡ false)
    → book history issued shared (first + days - 1) ≡ book history issued shared (first - 1)
quiet-books history issued shared penalties first zero open' l q = let e : first + 0 - 1 ≡ first - 1 = omega arith in ap (book history issued shared) e
quiet-books history issued shared penalties first (suc days) open' l q =
    let e : first + suc days - 1 ≡ first + days = omega arith in
    ap (book history issued shared) e
    ∙ (quiet-back history issued shared penalties (first + days) open' (omega arith) (q days (omega arith)) ∙ quiet-books history issued shared penalties first days open' (omega arith) (λ i m. q i (omega arith)))

pub spans_are_told : SpansAreTold
spans_are_told history issued shared first days later open' l high q =
    break_days_stay history issued shared (first + days) later open' l high
    ∙ ap (λ (b : Book). is_break (account_of history) (corrected (anchor_of history) shared.holidays history) issued shared.index b.penalties (first + days))
    (quiet-books history issued shared (book history issued shared (first - 1)).penalties first days open' (omega arith) q)
