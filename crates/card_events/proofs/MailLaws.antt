-- Mail is credited as of the greatest due date that it still meets.
use Rattle.std.proofs.Common.{◌≡◌, ℕ, suc, ◌+◌, ◌-◌, ◌<◌, ◌≤◌, true, false, cond, not, ◌&&◌, nat_lt, nat_eq, List, Some, refl, sym, ◌∙◌, subst, arith, inl, inr, ◌⊎◌, eq-eqb}
use Rattle.std.proofs.lemmas.Bool.{cases_lt, false≢true}
use Rattle.std.proofs.lemmas.Bool.Decides.{nat_tests}
use Rattle.card_events.specs.Range.{last_request_day}
use Rattle.card_events.specs.declared.anchor.Anchor.{Anchor}
use Rattle.card_events.specs.Civil.{date_of}
use Rattle.card_events.specs.Billing.{due_day_of_month, due}
use Rattle.card_events.specs.Business.{is_business, next_business, is_due, mail_day, credit_day, IsMet, IsGreatestMet, cutoff}
use Rattle.card_events.specs.Kept.{AreHolidays}
use Rattle.card_events.specs.Months.{IsLastDue, month_from, first_month, due_shift}
use Rattle.card_events.proofs.Cycles.{IsAnchor}
use Rattle.card_events.proofs.Business.{next_business-is, next_business-later}
use Rattle.card_events.proofs.DueDays.{last_due-none, last_due-some}
use Rattle.card_events.proofs.MailDays.{mail_day-some, mail_day-none, next_business-at_most, due-opened}
use Rattle.card_events.proofs.DueLaws.{IsDueOf, numbered, is_due-due, quiet, quiet_day, unmet_by, met_by}

met_due : (a : Anchor) → IsAnchor a → (xs : List ℕ) (receipt k : ℕ) → receipt ≤ last_request_day → 1 ≤ k → IsMet xs receipt (due a k) → (due a k < receipt) × (is_due a (due a k) ≡ true)
met_due a h xs receipt k small low met =
    let back : suc (k - 1) ≡ k = omega arith in
    let less : due a k < receipt = omega (arith, next_business-later xs (due a k), met.first) in
    (less, subst (λ n. is_due a (due a n) ≡ true) back (is_due-due a h (k - 1) (rw back (omega arith))))

up_to_last : (a : Anchor) → IsAnchor a → (xs : List ℕ) (receipt last k : ℕ) → receipt ≤ last_request_day → IsLastDue a receipt (Some last) → 1 ≤ k → IsMet xs receipt (due a k) → due a k ≤ last
up_to_last a h xs receipt last k small is low met = by (cases_lt last (due a k)) (met_due a h xs receipt k small low met)
  where
    by : (last < due a k) ⊎ (due a k ≤ last) → (due a k < receipt) × (is_due a (due a k) ≡ true) → due a k ≤ last
    by (inl after) d = absurd (false≢true (sym (is.2 (due a k) after d.0) ∙ d.1))
    by (inr le) d = le

same_next : (xs : List ℕ) (receipt d last : ℕ) → AreHolidays 0 xs → receipt ≤ last_request_day → is_business xs receipt ≡ true → IsMet xs receipt d → d ≤ last → last < receipt → next_business xs last ≡ receipt
same_next xs receipt d last h small open_day met low less = by (cases_lt (next_business xs last) receipt)
  where
    most : next_business xs last ≤ receipt
    most = next_business-at_most xs last receipt less open_day

    by : (next_business xs last < receipt) ⊎ (receipt ≤ next_business xs last) → next_business xs last ≡ receipt
    by (inl early) =
        let closed = quiet xs d (next_business xs last) (omega (arith, next_business-later xs last)) (omega (arith, met.first)) in
        absurd (false≢true (sym closed ∙ next_business-is xs last h (omega arith)))
    by (inr le) = omega (arith, most)

met_last : (a : Anchor) → IsAnchor a → (xs : List ℕ) (receipt last k : ℕ) → AreHolidays 0 xs → receipt ≤ last_request_day → IsLastDue a receipt (Some last) → 1 ≤ k → IsMet xs receipt (due a k) → IsGreatestMet a xs receipt (mail_day a xs receipt)
met_last a h xs receipt last k o small is low met = subst (IsGreatestMet a xs receipt) (sym value) (record {
  cycle = number.0;
  numbered = number.1.numbered;
  is = number.1.is;
  met = record { closed = closed; first = next };
  greatest = λ j l m. up_to_last a h xs receipt last j small is l m;
})
  where
    le : due a k ≤ last
    le = up_to_last a h xs receipt last k small is low met

    open_day : is_business xs receipt ≡ true
    open_day = subst (λ x. is_business xs x ≡ true) met.first (next_business-is xs (due a k) o (omega (arith, (met_due a h xs receipt k small low met).0)))

    closed : is_business xs last ≡ false
    closed = quiet_day xs receipt (due a k) last met le is.0

    next : next_business xs last ≡ receipt
    next = same_next xs receipt (due a k) last o small open_day met le is.0

    number : (j : ℕ) × IsDueOf a last j
    number = numbered a h last is.1 (omega (arith, is.0))

    value : mail_day a xs receipt ≡ last
    value = mail_day-some a xs receipt last o small (due-opened a last (omega (arith, h.first)) is.1) is ∙ met_by _ _ _ last receipt open_day closed (eq-eqb _ _ next)

-- where mail still meets a due date, it is credited as of the greatest
pub mail_met : (a : Anchor) → IsAnchor a → (xs : List ℕ) (receipt k : ℕ) → AreHolidays 0 xs → a.opened ≤ receipt → receipt ≤ last_request_day → 1 ≤ k → IsMet xs receipt (due a k) → IsGreatestMet a xs receipt (mail_day a xs receipt)
mail_met a h xs receipt k o low small one met = by (cases_lt (first_month a + due_shift a.close_day) (month_from (due_day_of_month a.close_day) (date_of receipt)))
  where
    by : (first_month a + due_shift a.close_day < month_from (due_day_of_month a.close_day) (date_of receipt)) ⊎ (month_from (due_day_of_month a.close_day) (date_of receipt) ≤ first_month a + due_shift a.close_day) → IsGreatestMet a xs receipt (mail_day a xs receipt)
    by (inl some) = met_last a h xs receipt _ k o small (last_due-some a h receipt (omega (arith, h.first)) (omega arith) some _ refl) one met
    by (inr none) =
        let d = met_due a h xs receipt k small one met in
        absurd (false≢true (sym (last_due-none a h receipt (omega (arith, h.first)) (omega arith) none (due a k) d.0) ∙ d.1))

unmet_last : (a : Anchor) → IsAnchor a → (xs : List ℕ) (receipt last : ℕ) → AreHolidays 0 xs → receipt ≤ last_request_day → IsLastDue a receipt (Some last) → ((k : ℕ) → 1 ≤ k → IsMet xs receipt (due a k) → ⊥) → mail_day a xs receipt ≡ receipt
unmet_last a h xs receipt last o small is never =
    mail_day-some a xs receipt last o small (due-opened a last (omega (arith, h.first)) is.1) is ∙ by (unmet_by (is_business xs receipt) (is_business xs last) (next_business xs last) receipt last)
  where
    by : (cond (is_business xs receipt && (not (is_business xs last) && nat_eq (next_business xs last) receipt)) last receipt ≡ receipt) ⊎ ((is_business xs last ≡ false) × (next_business xs last ≡ receipt)) → cond (is_business xs receipt && (not (is_business xs last) && nat_eq (next_business xs last) receipt)) last receipt ≡ receipt
    by (inl e) = e
    by (inr met) =
        let number = numbered a h last is.1 (omega (arith, is.0)) in
        absurd (never number.0 number.1.numbered (subst (IsMet xs receipt) (sym number.1.is) (record { closed = met.0; first = met.1 })))

-- and where it meets none, on the day of receipt
pub mail_unmet : (a : Anchor) → IsAnchor a → (xs : List ℕ) (receipt : ℕ) → AreHolidays 0 xs → a.opened ≤ receipt → receipt ≤ last_request_day → ((k : ℕ) → 1 ≤ k → IsMet xs receipt (due a k) → ⊥) → mail_day a xs receipt ≡ receipt
mail_unmet a h xs receipt o low small never = by (cases_lt (first_month a + due_shift a.close_day) (month_from (due_day_of_month a.close_day) (date_of receipt)))
  where
    by : (first_month a + due_shift a.close_day < month_from (due_day_of_month a.close_day) (date_of receipt)) ⊎ (month_from (due_day_of_month a.close_day) (date_of receipt) ≤ first_month a + due_shift a.close_day) → mail_day a xs receipt ≡ receipt
    by (inl some) = unmet_last a h xs receipt _ o small (last_due-some a h receipt (omega (arith, h.first)) (omega arith) some _ refl) never
    by (inr none) = mail_day-none a xs receipt (omega (arith, h.first)) (last_due-none a h receipt (omega (arith, h.first)) (omega arith) none)

-- ---- the three cases
pub credit_mail : (a : Anchor) (xs : List ℕ) (receipt minute : ℕ) → minute ≤ cutoff → credit_day a xs receipt minute true ≡ mail_day a xs receipt
unfolding credit_day
credit_mail a xs receipt minute l = let test : nat_lt cutoff minute ≡ false = grind (arith, nat_tests) in rw test refl
