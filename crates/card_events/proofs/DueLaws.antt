-- What the regulation asks of due dates, and the due date that mail still meets.
use Rattle.std.proofs.Common.{◌≡◌, ℕ, zero, suc, ◌+◌, ◌-◌, ◌/◌, ◌%◌, ◌<◌, ◌≤◌, Bool, true, false, cond, not, ◌&&◌, eqb, nat_lt, nat_le, nat_eq, List, refl, sym, ap, ◌∙◌, arith, inl, inr, ◌⊎◌, eq-eqb}
use Rattle.std.proofs.lemmas.Bool.{cases_lt, false≢true, eqb-true}
use Rattle.std.proofs.lemmas.Bool.Decides.{nat_tests}
use Rattle.card_events.specs.Range.{last_calendar_day}
use Rattle.card_events.specs.declared.anchor.Anchor.{Anchor}
use Rattle.card_events.specs.Civil.{month_length, day_at, date_of, day_of_month, next_month, year_of_next_month}
use Rattle.card_events.specs.Billing.{next_on, closing, due_day_of_month, due_after, due, cycle_of}
use Rattle.card_events.specs.Business.{is_business, next_business, is_due, IsMet}
use Rattle.card_events.specs.Months.{day_in_month, first_month, due_shift}
use Rattle.card_events.proofs.DateFacts.{date_of-day_at}
use Rattle.card_events.proofs.Months.{first_day-below, later_day, over, month_civil, length_bounds, next_number, next_month-next}
use Rattle.card_events.proofs.Cycles.{IsAnchor, closing-day, first_month-bounds, closing_is, closing_late, closing_grows, due_is, due_late, due_grows, due_day-bounds, shift_small, cycle_around, cycle_from_one}
use Rattle.card_events.proofs.Business.{first_day-at_most}
use Rattle.card_events.proofs.DueDays.{month_day}
use Rattle.card_events.proofs.MailDays.{due_parts, due-opened}

-- ---- from a closing to its due date and to the next closing
-- the month's length after a day of the month
pub month_later : (i d : ℕ) → 23_640 ≤ i → i ≤ 26_000 → 1 ≤ d → d ≤ 28 → day_in_month i d + month_length (i / 12) (i % 12 + 1) ≡ day_in_month (i + 1) d
unfolding day_in_month
month_later i d low high d1 d2 =
    let next = next_number i in
    over (i / 12) (i % 12 + 1) d (month_length (i / 12) (i % 12 + 1)) d (month_civil i d low (omega arith) d1 d2) d1 (omega arith)
    ∙ ap (λ y. day_at y (next_month (i % 12 + 1)) d) next.0 ∙ ap (λ m. day_at ((i + 1) / 12) m d) next.1

pub earlier_next : (i d e : ℕ) → 23_640 ≤ i → i ≤ 26_000 → 1 ≤ e → e ≤ d → d ≤ 28 → day_in_month (i + 1) e + (d - e) ≡ day_in_month (i + 1) d
unfolding day_in_month
earlier_next i d e low high e1 less d2 =
    let whole : e + (d - e) ≡ d = omega arith in
    later_day ((i + 1) / 12) ((i + 1) % 12 + 1) e (d - e) e1 ∙ ap (λ n. day_at ((i + 1) / 12) ((i + 1) % 12 + 1) n) whole

pub later_here : (i d n : ℕ) → 1 ≤ d → day_in_month i d + n ≡ day_in_month i (d + n)
unfolding day_in_month
later_here i d n d1 = later_day (i / 12) (i % 12 + 1) d n d1

distance_by : (i c : ℕ) (b : Bool) → nat_le c 4 ≡ b → 23_640 ≤ i → i ≤ 26_000 → 1 ≤ c → c ≤ 28 → (day_in_month i c + 24 ≤ day_in_month (i + cond b 0 1) (cond b (c + 24) (c - 4))) × (day_in_month (i + cond b 0 1) (cond b (c + 24) (c - 4)) ≤ day_in_month i c + 27)
distance_by i c true e low high c1 c2 =
    let none : i + 0 ≡ i = omega arith in
    let moved = later_here i c 24 c1 in
    rw none (omega (arith, moved), omega (arith, moved))
distance_by i c false e low high c1 c2 =
    let late : 4 < c = grind (arith, nat_tests) in
    let month = month_later i c low high c1 c2 in
    let back = earlier_next i c (c - 4) low high (omega arith) (omega arith) c2 in
    let long = length_bounds (i / 12) (i % 12 + 1) in
    (omega (arith, long.1), omega (arith, long.0))

-- within the calendar
pub month_small : (a : Anchor) → IsAnchor a → (k : ℕ) → due a (suc k) ≤ last_calendar_day → first_month a + k + due_shift a.close_day < 25_236
month_small a h k small = by (cases_lt (first_month a + k + due_shift a.close_day) 25_236)
  where
    by : (first_month a + k + due_shift a.close_day < 25_236) ⊎ (25_236 ≤ first_month a + k + due_shift a.close_day) → first_month a + k + due_shift a.close_day < 25_236
    by (inl l) = l
    by (inr late) = absurd (omega (arith, due_late a h k late))

pub due_distance : (a : Anchor) → IsAnchor a → (k : ℕ) → due a (suc k) ≤ last_calendar_day → (closing a (suc k) + 24 ≤ due a (suc k)) × (due a (suc k) ≤ closing a (suc k) + 27)
unfolding due_shift
due_distance a h k small =
    let l : first_month a + k < 25_236 = omega (arith, month_small a h k small) in
    let d = distance_by (first_month a + k) a.close_day (nat_le a.close_day 4) refl (omega (arith, first_month-bounds a h)) (omega arith) h.low h.high in
    (omega (arith, d.0, closing_is a h k (omega arith), due_is a h k (omega arith)), omega (arith, d.1, closing_is a h k (omega arith), due_is a h k (omega arith)))

pub due_before_next : (a : Anchor) → IsAnchor a → (k : ℕ) → due a (suc k) ≤ last_calendar_day → due a (suc k) < closing a (suc (suc k))
due_before_next a h k small =
    let l : first_month a + k < 25_236 = omega (arith, month_small a h k small) in
    let i : ℕ = first_month a + k in
    let on : first_month a + k + 1 ≡ first_month a + suc k = omega arith in
    omega (arith, due_distance a h k small, closing_is a h k (omega arith), closing_is a h (suc k) (omega arith), month_later i a.close_day (omega (arith, first_month-bounds a h)) (omega arith) h.low h.high, length_bounds (i / 12) (i % 12 + 1), ap (λ u. day_in_month u a.close_day) on)

pub due_same_day : (a : Anchor) → IsAnchor a → (k : ℕ) → due a (suc k) ≤ last_calendar_day → day_of_month (due a (suc k)) ≡ due_day_of_month a.close_day
due_same_day a h k small =
    let l : first_month a + k + due_shift a.close_day < 25_236 = month_small a h k small in
    let e = due_day-bounds a.close_day h.low h.high in
    ap day_of_month (due_is a h k (omega arith)) ∙ month_day _ _ (omega (arith, first_month-bounds a h)) (omega arith) e.0 e.1

month_date : (i d : ℕ) → 23_640 ≤ i → i ≤ 26_000 → 1 ≤ d → d ≤ 28 → date_of (day_in_month i d) ≡ record { year = i / 12; month = i % 12 + 1; day = d }
unfolding day_in_month
month_date i d low high d1 d2 =
    let h = month_civil i d low (omega arith) d1 d2 in
    date_of-day_at _ _ d h.year_low (omega (arith, h.year_high)) h.month_low h.month_high h.day_low h.day_high

-- the next due date is that of the next month
pub due_each_month : (a : Anchor) → IsAnchor a → (k : ℕ) → due a (suc k) ≤ last_calendar_day → ((date_of (due a (suc (suc k)))).year ≡ year_of_next_month (date_of (due a (suc k))).year (date_of (due a (suc k))).month) × ((date_of (due a (suc (suc k)))).month ≡ next_month (date_of (due a (suc k))).month)
due_each_month a h k small = (
  ap (λ c. c.year) there ∙ sym (ap (λ c. year_of_next_month c.year c.month) here ∙ next.0),
  ap (λ c. c.month) there ∙ sym (ap (λ c. next_month c.month) here ∙ next.1),
)
  where
    i : ℕ
    i = first_month a + k + due_shift a.close_day

    l : first_month a + k + due_shift a.close_day < 25_236
    l = month_small a h k small

    low : 24_132 ≤ first_month a
    low = (first_month-bounds a h).0

    e : (1 ≤ due_day_of_month a.close_day) × (due_day_of_month a.close_day ≤ 28)
    e = due_day-bounds a.close_day h.low h.high

    next : (year_of_next_month (i / 12) (i % 12 + 1) ≡ (i + 1) / 12) × (next_month (i % 12 + 1) ≡ (i + 1) % 12 + 1)
    next = next_number i

    here : date_of (due a (suc k)) ≡ record { year = i / 12; month = i % 12 + 1; day = due_day_of_month a.close_day }
    here = ap date_of (due_is a h k (omega (arith, l))) ∙ month_date i _ (omega (arith, low)) (omega (arith, l)) e.0 e.1

    on : first_month a + suc k + due_shift a.close_day ≡ i + 1
    on = omega arith

    there : date_of (due a (suc (suc k))) ≡ record { year = (i + 1) / 12; month = (i + 1) % 12 + 1; day = due_day_of_month a.close_day }
    there = ap date_of (due_is a h (suc k) (omega (arith, l)) ∙ ap (λ u. day_in_month u (due_day_of_month a.close_day)) on) ∙ month_date (i + 1) _ (omega (arith, low)) (omega (arith, l)) e.0 e.1

-- ---- each due date is that of a cycle
pub record IsDueOf (a : Anchor) (x k : ℕ) : Type 0 where
  pub numbered : 1 ≤ k
  pub is : due a k ≡ x

closing_small : (a : Anchor) → IsAnchor a → (k x : ℕ) → closing a (suc k) < x → x ≤ last_calendar_day → first_month a + k < 25_236
closing_small a h k x after small = by (cases_lt (first_month a + k) 25_236)
  where
    by : (first_month a + k < 25_236) ⊎ (25_236 ≤ first_month a + k) → first_month a + k < 25_236
    by (inl l) = l
    by (inr late) = absurd (omega (arith, closing_late a h k late))

between_closings : (a : Anchor) → IsAnchor a → (x k : ℕ) → is_due a x ≡ true → x ≤ last_calendar_day → closing a (suc k) < x → x ≤ closing a (suc (suc k)) → due a (suc k) ≡ x
between_closings a h x k is small after within = by (cases_lt (due a (suc k)) x)
  where
    e : ℕ
    e = due_day_of_month a.close_day

    e' : (1 ≤ due_day_of_month a.close_day) × (due_day_of_month a.close_day ≤ 28)
    e' = due_day-bounds a.close_day h.low h.high

    l : first_month a + k < 25_236
    l = closing_small a h k x after small

    i : ℕ
    i = first_month a + k + due_shift a.close_day

    on : first_month a + suc k + due_shift a.close_day ≡ i + 1
    on = omega arith

    first : due a (suc k) ≤ x
    first = unfold due_after in first_day-at_most (λ d. eqb (day_of_month d) e) 31 (closing a (suc k) + 1) x (omega (arith, after)) (due_parts a x is).0

    next : next_on e (day_in_month i e + 1) ≡ day_in_month (i + 1) e
    next = next_month-next i e e (omega (arith, first_month-bounds a h)) (omega (arith, l, shift_small a.close_day)) e'.0 (omega arith) e'.1

    by : (due a (suc k) < x) ⊎ (x ≤ due a (suc k)) → due a (suc k) ≡ x
    by (inr le) = omega (arith, first)
    by (inl less) =
        let here = due_is a h k (omega (arith, l)) in
        let there = due_is a h (suc k) (omega (arith, l)) in
        let none = first_day-below (λ d. eqb (day_of_month d) e) 31 (day_in_month i e + 1) x (omega (arith, here)) (omega (arith, next, there, ap (λ u. day_in_month u e) on, due_grows a.close_day (closing a (suc (suc k))), within)) in
        absurd (false≢true (sym none ∙ (due_parts a x is).0))

numbered_by : (a : Anchor) → IsAnchor a → (x q : ℕ) → is_due a x ≡ true → x ≤ last_calendar_day → closing a 1 < x → (closing a (q - 1) < x) × (x ≤ closing a q) → 1 ≤ q → (k : ℕ) × IsDueOf a x k
numbered_by a h x zero is small after around low = absurd (omega arith)
numbered_by a h x (suc zero) is small after around low = absurd (omega (arith, around.1))
numbered_by a h x (suc (suc k)) is small after around low =
    let same : suc (suc k) - 1 ≡ suc k = omega arith in
    (suc k, record { numbered = omega arith; is = between_closings a h x k is small (rw same at around.0) around.1 })

pub numbered : (a : Anchor) → IsAnchor a → (x : ℕ) → is_due a x ≡ true → x ≤ last_calendar_day → (k : ℕ) × IsDueOf a x k
numbered a h x is small =
    let test = (due_parts a x is).1 in
    let after : closing a 1 < x = grind (arith, nat_tests) in
    let q = cycle_of a x in
    numbered_by a h x q is small after (cycle_around a h x q (due-opened a x (omega (arith, h.first)) is) small refl) (cycle_from_one a x)

closings_up : (a : Anchor) (k : ℕ) → closing a 1 ≤ closing a (suc k)
closings_up a zero = omega arith
closings_up a (suc k) = omega (arith, closings_up a k, closing_grows a (suc k))

-- and the due date of a cycle is one
pub is_due-due : (a : Anchor) → IsAnchor a → (k : ℕ) → due a (suc k) ≤ last_calendar_day → is_due a (due a (suc k)) ≡ true
unfolding is_due
is_due-due a h k small =
    let on_day = eq-eqb _ _ (due_same_day a h k small) in
    let after : closing a 1 < due a (suc k) = omega (arith, closings_up a k, due_grows a.close_day (closing a (suc k))) in
    let test : nat_lt (closing a 1) (due a (suc k)) ≡ true = grind (arith, nat_tests) in
    rw (on_day, test) refl

-- ---- mail
-- no day before the next business day is one
pub quiet : (xs : List ℕ) (d x : ℕ) → d < x → x < next_business xs d → is_business xs x ≡ false
unfolding next_business
quiet xs d x after less = first_day-below (is_business xs) (last_calendar_day - d) (d + 1) x (omega arith) less

pub quiet_day : (xs : List ℕ) (receipt d last : ℕ) → IsMet xs receipt d → d ≤ last → last < receipt → is_business xs last ≡ false
quiet_day xs receipt d last met low less = by (cases_lt d last)
  where
    by : (d < last) ⊎ (last ≤ d) → is_business xs last ≡ false
    by (inr same) = let is : last ≡ d = omega arith in rw is met.closed
    by (inl after) = quiet xs d last after (omega (arith, met.first))

pub unmet_by : (b c : Bool) (n receipt last : ℕ) → (cond (b && (not c && nat_eq n receipt)) last receipt ≡ receipt) ⊎ ((c ≡ false) × (n ≡ receipt))
unmet_by true true n receipt last = inl refl
unmet_by true false n receipt last = by (nat_eq n receipt) refl
  where
    by : (t : Bool) → nat_eq n receipt ≡ t → (cond t last receipt ≡ receipt) ⊎ ((false ≡ false) × (n ≡ receipt))
    by true e = inr (refl, eqb-true n receipt e)
    by false e = inl refl
unmet_by false c n receipt last = inl refl

pub met_by : (b c t : Bool) (last receipt : ℕ) → b ≡ true → c ≡ false → t ≡ true → cond (b && (not c && t)) last receipt ≡ last
met_by b c t last receipt p q r = rw (p, q, r) refl

-- ---- how far from the closings
due_early : (a : Anchor) → IsAnchor a → (k : ℕ) → due a (suc k) ≤ last_calendar_day → a.close_day ≤ 4 → due a (suc k) ≡ closing a (suc k) + 24
unfolding due_shift
due_early a h k small low =
    let l : first_month a + k < 25_236 = omega (arith, month_small a h k small) in
    let test : nat_le a.close_day 4 ≡ true = grind (arith, nat_tests) in
    let none : first_month a + k + 0 ≡ first_month a + k = omega arith in
    due_is a h k (omega arith)
    ∙ rw (test, none) (sym (later_here (first_month a + k) a.close_day 24 h.low))
    ∙ ap (λ n. n + 24) (sym (closing_is a h k (omega arith)))

due_late_in_month : (a : Anchor) → IsAnchor a → (k : ℕ) → due a (suc k) ≤ last_calendar_day → 4 < a.close_day → due a (suc k) + 4 ≡ closing a (suc (suc k))
unfolding due_shift
due_late_in_month a h k small high =
    let l : first_month a + k < 25_236 = omega (arith, month_small a h k small) in
    let test : nat_le a.close_day 4 ≡ false = grind (arith, nat_tests) in
    let four : a.close_day - (a.close_day - 4) ≡ 4 = omega arith in
    let on : first_month a + k + 1 ≡ first_month a + suc k = omega arith in
    let back = earlier_next (first_month a + k) a.close_day (a.close_day - 4) (omega (arith, first_month-bounds a h)) (omega arith) (omega arith) (omega arith) h.high in
    ap (λ n. n + 4) (due_is a h k (omega arith) ∙ rw test refl)
    ∙ rw four at back
    ∙ ap (λ u. day_in_month u a.close_day) on ∙ sym (closing_is a h (suc k) (omega arith))

-- ---- the closings
pub record ClosingLaw (a : Anchor) (k : ℕ) : Type 0 where
  pub on_its_day : day_of_month (closing a (suc k)) ≡ a.close_day
  pub none_between : (x : ℕ) → closing a k < x → x < closing a (suc k) → day_of_month x ≡ a.close_day → ⊥

closing_within : (a : Anchor) → IsAnchor a → (k : ℕ) → closing a (suc k) ≤ last_calendar_day → first_month a + k < 25_236
closing_within a h k small = by (cases_lt (first_month a + k) 25_236)
  where
    by : (first_month a + k < 25_236) ⊎ (25_236 ≤ first_month a + k) → first_month a + k < 25_236
    by (inl l) = l
    by (inr late) = absurd (omega (arith, closing_late a h k late))

pub closing_law : (a : Anchor) → IsAnchor a → (k : ℕ) → closing a (suc k) ≤ last_calendar_day → ClosingLaw a k
unfolding closing
closing_law a h k small = record {
  on_its_day = closing-day a h k (omega (arith, closing_within a h k small));
  none_between = λ x after before is. false≢true (sym (first_day-below (λ d. eqb (day_of_month d) a.close_day) 31 (closing a k + 1) x (omega arith) before) ∙ eq-eqb _ _ is);
}

-- the same for closing k, from 1 on
pub record ClosingLaws (a : Anchor) (k : ℕ) : Type 0 where
  pub first : closing a 0 + 1 ≡ a.opened
  pub on_its_day : day_of_month (closing a k) ≡ a.close_day
  pub later : closing a (k - 1) < closing a k
  pub none_between : (x : ℕ) → closing a (k - 1) < x → x < closing a k → day_of_month x ≡ a.close_day → ⊥

pub closing_laws : (a : Anchor) → IsAnchor a → (k : ℕ) → 1 ≤ k → closing a k ≤ last_calendar_day → ClosingLaws a k
closing_laws a h zero low small = absurd (omega arith)
closing_laws a h (suc k) low small =
    let back : suc k - 1 ≡ k = omega arith in
    let law = closing_law a h k small in
    record {
      first = unfold closing in omega (arith, h.first);
      on_its_day = law.on_its_day;
      later = rw back (omega (arith, closing_grows a k));
      none_between = rw back law.none_between;
    }

-- ---- for a cycle by its number
pub record DueLaw (a : Anchor) (k : ℕ) : Type 0 where
  pub same_day : day_of_month (due a k) ≡ due_day_of_month a.close_day
  pub year : (date_of (due a (k + 1))).year ≡ year_of_next_month (date_of (due a k)).year (date_of (due a k)).month
  pub month : (date_of (due a (k + 1))).month ≡ next_month (date_of (due a k)).month
  pub early : a.close_day ≤ 4 → due a k ≡ closing a k + 24
  pub late : 4 < a.close_day → due a k + 4 ≡ closing a (k + 1)
  pub at_least : closing a k + 24 ≤ due a k
  pub at_most : due a k ≤ closing a k + 27
  pub before_next : due a k < closing a (k + 1)

pub due_law : (a : Anchor) → IsAnchor a → (k : ℕ) → 1 ≤ k → due a k ≤ last_calendar_day → DueLaw a k
due_law a h zero low small = absurd (omega arith)
due_law a h (suc k) low small =
    let on : suc (suc k) ≡ suc k + 1 = omega arith in
    let each = due_each_month a h k small in
    record {
      same_day = due_same_day a h k small;
      year = rw (← on) each.0;
      month = rw (← on) each.1;
      early = due_early a h k small;
      late = λ l. rw (← on) (due_late_in_month a h k small l);
      at_least = (due_distance a h k small).0;
      at_most = (due_distance a h k small).1;
      before_next = rw (← on) (due_before_next a h k small);
    }

pub prompt_is_timely : (a : Anchor) (k issued : ℕ) → DueLaw a k → issued ≤ closing a k + 3 → nat_le (issued + 21) (due a k) ≡ true
prompt_is_timely a k issued h l =
    let enough : issued + 21 ≤ due a k = omega (arith, h.at_least) in
    grind (arith, nat_tests)
