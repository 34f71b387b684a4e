-- From one closing to the next.
use Rattle.std.proofs.Common.{◌≡◌, ℕ, zero, suc, ◌+◌, ◌-◌, ◌<◌, ◌≤◌, ◌⊎◌, inl, inr, List, [], ◌∷◌, ◌++◌, length, take, refl, sym, ap, ◌∙◌, arith, Option, Some, None}
use Rattle.std.specs.Prelude.{slice_get, vec_len}
use Rattle.std.proofs.lemmas.Bool.{cases_lt}
use Rattle.std.proofs.lemmas.List.{take_all}
use Rattle.card_events.specs.Billing.{closing}
use Rattle.card_events.specs.Civil.{day_of_month}
use Rattle.card_events.specs.Months.{first_month}
use Rattle.card_events.specs.Range.{last_request_day}
use Rattle.card_events.specs.declared.anchor.Anchor.{Anchor}
use Rattle.card_events.proofs.Cycles.{closing-day, closing_grows, closing_late}
use Rattle.card_events.specs.History.{anchor_of}
use Rattle.card_fees.proofs.Days.{opened-before}
use Rattle.card_model.specs.CycleDays.{IsOpening}
use Rattle.card_model.specs.Cycles.{Cycle}
use Rattle.card_model.specs.Folds.{cycle_at}
use Rattle.card_model.proofs.Calendar.{cycles_are_of_the_calendar, is-anchor}
use Rattle.card_daily.proofs.ClosingDay.{grows-to}
use Rattle.card_daily.specs.Given.{Given, IsSound, book_on, opened_in}
use Rattle.card_daily.specs.Stands.{Begins}
use Rattle.card_daily.specs.declared.track.Track.{Track}
use Rattle.card_book.proofs.Closings.{AreUpTo, closed-up-to}
use Rattle.card_book.proofs.Days.{book_is_the_fold}
use Rattle.card_book.specs.Stands.{StandsFor, Summary, book_through, day_to_fold}
use Rattle.card_past.specs.Foldings.{ClosesLast, HasMarks, IsFoldedBefore}
use Rattle.card_past.specs.declared.past.Past.{Past}

-- ---- closings as days
pub closing-none : (a : Anchor) → closing a 0 ≡ a.opened - 1
unfolding closing
closing-none a = refl

-- the next one comes after the opening
closing-opened : (a : Anchor) (n : ℕ) → a.opened ≤ closing a (n + 1)
closing-opened a n =
    let low = opened-before a n in
    let up = closing_grows a n in
    let next : n + 1 ≡ suc n = omega arith in
    let same = ap (closing a) next in
    omega (arith, low, up, same)

-- it lies on the closing day of the month
pub closing-dated : (a : Anchor) (n : ℕ) → IsOpening a → closing a (n + 1) ≤ last_request_day → day_of_month (closing a (n + 1)) ≡ a.close_day
closing-dated a n open' l = by (cases_lt (first_month a + n) 25_236)
  where
    next : closing a (n + 1) ≡ closing a (suc n)
    next = let e : n + 1 ≡ suc n = omega arith in ap (closing a) e

    by : (first_month a + n < 25_236) ⊎ (25_236 ≤ first_month a + n) → day_of_month (closing a (n + 1)) ≡ a.close_day
    by (inl less) = ap day_of_month next ∙ closing-day a (is-anchor a open') n (omega (arith, less))
    by (inr late) = let far = closing_late a (is-anchor a open') n late in absurd (omega (arith, far, l, next))

-- ---- how many cycles are closed
-- the last of them closed before the first day that isn't folded, and the next one didn't
pub record AreClosed (g : Given) (b : Summary) (t : Track) : Type 0 where
  pub last : closing (anchor_of g.history) (length t.cycles.items) < day_to_fold g b.day
  pub next : day_to_fold g b.day ≤ closing (anchor_of g.history) (length t.cycles.items + 1)

closed-by : (g : Given) (b : Summary) (t : Track) (o : Option ℕ) → b.day ≡ o → IsSound g → StandsFor g b t → day_to_fold g b.day ≤ last_request_day + 1 → AreClosed g b t
closed-by g b t None e sound h l =
    let a = anchor_of g.history in
    let none : t.cycles.items ≡ [] = (book_is_the_fold g b t h).cycles ∙ ap (λ d. (book_through g d).cycles) e in
    let count : length t.cycles.items ≡ 0 = ap (λ (cs : List Cycle). length cs) none in
    let here : day_to_fold g b.day ≡ opened_in g = ap (day_to_fold g) e in
    let first = sound.opening.first in
    let before : closing a (length t.cycles.items) ≡ opened_in g - 1 = ap (closing a) count ∙ closing-none a in
    let low = closing-opened a (length t.cycles.items) in
    record { last = omega (arith, before, here, first); next = omega (arith, low, here) }
closed-by g b t (Some day) e sound h l =
    let a = anchor_of g.history in
    let same : t.cycles.items ≡ (book_on g day).cycles = (book_is_the_fold g b t h).cycles ∙ ap (λ d. (book_through g d).cycles) e in
    let count : length t.cycles.items ≡ length (book_on g day).cycles = ap (λ (cs : List Cycle). length cs) same in
    let here : day_to_fold g b.day ≡ day + 1 = ap (day_to_fold g) e in
    let up : AreUpTo a (length (book_on g day).cycles) day = closed-up-to g day sound (h.opened day e) (omega (arith, here, l)) in
    let last = up.last in
    let next = up.next in
    let before = ap (closing a) count in
    let after = ap (λ n. closing a (n + 1)) count in
    record { last = omega (arith, before, here, last); next = omega (arith, after, here, next) }

pub closed-through : (g : Given) (b : Summary) (t : Track) → IsSound g → StandsFor g b t → day_to_fold g b.day ≤ last_request_day + 1 → AreClosed g b t
closed-through g b t sound h l = closed-by g b t b.day refl sound h l

-- they are no more than there were days
pub few-closed : (g : Given) (b : Summary) (t : Track) → IsSound g → StandsFor g b t → day_to_fold g b.day ≤ last_request_day + 1 → length t.cycles.items ≤ last_request_day
few-closed g b t sound h l =
    let closed = closed-through g b t sound h l in
    let last = closed.last in
    let many = grown (anchor_of g.history) (length t.cycles.items) in
    omega (arith, last, many, l)
  where
    grown : (a : Anchor) (k : ℕ) → k ≤ closing a k
    grown a zero = omega arith
    grown a (suc k) = let up = closing_grows a k in let rest = grown a k in omega (arith, up, rest)

-- ---- a day that closes a cycle
same-count : (a : Anchor) (m n day : ℕ) → closing a m ≤ day → day < closing a (m + 1) → day ≡ closing a (n + 1) → m ≡ n + 1
same-count a m n day low high e = by (cases_lt m (n + 1)) (cases_lt (n + 1) m)
  where
    by : (m < n + 1) ⊎ (n + 1 ≤ m) → (n + 1 < m) ⊎ (m ≤ n + 1) → m ≡ n + 1
    by (inl l) x = let up = grows-to a (m + 1) (n + 1) (omega (arith, l)) in absurd (omega (arith, up, high, e))
    by (inr l) (inl k) =
        let up = grows-to a (suc (n + 1)) m (omega (arith, k)) in
        let next = closing_grows a (n + 1) in
        absurd (omega (arith, up, next, low, e))
    by (inr l) (inr k) = omega (arith, l, k)

-- after it one cycle more is closed
pub count-more : (g : Given) (b : Summary) (t : Track) (day n : ℕ) → IsSound g → StandsFor g b t → b.day ≡ Some day → day ≤ last_request_day → day ≡ closing (anchor_of g.history) (n + 1) → length t.cycles.items ≡ n + 1
count-more g b t day n sound h dated l e =
    let a = anchor_of g.history in
    let here : day_to_fold g b.day ≡ day + 1 = ap (day_to_fold g) dated in
    let closed = closed-through g b t sound h (omega (arith, here, l)) in
    let last = closed.last in
    let next = closed.next in
    same-count a (length t.cycles.items) n day (omega (arith, last, here)) (omega (arith, next, here)) e

last-of : {A : Type 0} (xs : List A) (n : ℕ) → length xs ≡ n + 1 → (x : A) × (xs ≡ take n xs ++ x ∷ []) × (slice_get xs n ≡ Some x)
last-of [] n e = absurd (omega (arith, e))
last-of (x ∷ []) zero e = (x, refl, refl)
last-of (x ∷ y ∷ ys) zero e = absurd (omega (arith, e))
last-of (x ∷ xs) (suc n) e = let r = last-of xs n (omega (arith, e)) in (r.0, ap (λ l. x ∷ l) r.1, r.2)

-- and it is the last one
pub closes-last : (g : Given) (b : Summary) (p : Past) (t : Track) (day : ℕ) → IsSound g → StandsFor g b t → b.day ≡ Some day → day ≤ last_request_day → Begins p.track t → HasMarks g p
    → day ≡ closing (anchor_of g.history) (length p.track.cycles.items + 1) → ClosesLast g b (record { track = t; since = p.since; accrued = p.accrued })
closes-last g b p t day sound h dated l begins marks e =
    let a = anchor_of g.history in
    let n = length p.track.cycles.items in
    let last = last-of t.cycles.items n (count-more g b t day n sound h dated l e) in
    let cycles : t.cycles.items ≡ (book_on g day).cycles = (book_is_the_fold g b t h).cycles ∙ ap (λ d. (book_through g d).cycles) dated in
    let there : cycle_at (suc n) (book_on g day).cycles ≡ Some last.0 = ap (cycle_at (suc n)) (sym cycles) ∙ last.2 in
    let days = cycles_are_of_the_calendar.days g.history g.issued g.shared day (suc n) last.0 sound.opening (omega (arith, l)) there in
    let next : n + 1 ≡ suc n = omega arith in
    let same : day ≡ last.0.closing = e ∙ (ap (closing a) next ∙ sym days.closing) in
    record {
      before = p.track.cycles.items;
      last = last.0;
      cycles = last.1 ∙ ap (λ (cs : List Cycle). cs ++ last.0 ∷ []) begins.cycles;
      day = dated ∙ ap Some same;
      dated = omega (arith, l, same);
      marks = marks;
    }

-- ---- the first closing that isn't folded
-- by a count of the closed cycles
pub first-closing : (g : Given) (t : Track) {a : Anchor} {n : ℕ} → a ≡ anchor_of g.history → n ≡ vec_len t.cycles → closing a (n + 1) ≡ closing (anchor_of g.history) (length t.cycles.items + 1)
first-closing g t {n = n} anchor count =
    let ok = t.cycles.ok.0 in
    let same : n ≡ length t.cycles.items = omega (arith, count, ok) in
    ap (λ (x : Anchor). closing x (n + 1)) anchor ∙ ap (λ m. closing (anchor_of g.history) (m + 1)) same

-- where it isn't after a day
pub record IsNext (g : Given) (b : Summary) (p : Past) (day to : ℕ) : Type 0 where
  pub counted : day ≡ closing (anchor_of g.history) (length p.track.cycles.items + 1)
  pub opened : opened_in g ≤ day
  pub upto : day_to_fold g b.day ≤ day
  pub dated : day_of_month day ≡ (anchor_of g.history).close_day
  pub within : day ≤ to
  pub last : to ≤ last_request_day

pub next-is : {g : Given} {b : Summary} {p : Past} {a : Anchor} {n day to : ℕ} → IsSound g → IsFoldedBefore g b p to → a ≡ anchor_of g.history → n ≡ vec_len p.track.cycles → (day ≡ closing a (n + 1)) × (day ≤ to)
    → IsNext g b p day to
next-is {g = g} {b = b} {p = p} {day = day} {to = to} sound h anchor count found =
    let m = length p.track.cycles.items in
    let later = h.later in
    let last = h.last in
    let within = found.1 in
    let is : day ≡ closing (anchor_of g.history) (m + 1) = found.0 ∙ first-closing g p.track anchor count in
    let closed = closed-through g b p.track sound h.stands (omega (arith, later, last)) in
    let next = closed.next in
    let low = closing-opened (anchor_of g.history) m in
    let early : closing (anchor_of g.history) (m + 1) ≤ last_request_day = omega (arith, is, within, last) in
    record {
      counted = is;
      opened = omega (arith, low, is);
      upto = omega (arith, next, is);
      dated = ap day_of_month is ∙ closing-dated (anchor_of g.history) m sound.opening early;
      within = within;
      last = last;
    }

-- up to a day before the next closing no cycle more closes
pub same-cycles : (g : Given) (b : Summary) (old t : Track) (day : ℕ) → IsSound g → StandsFor g b t → b.day ≡ Some day → day ≤ last_request_day → Begins old t → day < closing (anchor_of g.history) (length old.cycles.items + 1)
    → t.cycles.items ≡ old.cycles.items
same-cycles g b old t day sound h dated l begins before = by (cases_lt (length old.cycles.items) (length t.cycles.items))
  where
    by : (length old.cycles.items < length t.cycles.items) ⊎ (length t.cycles.items ≤ length old.cycles.items) → t.cycles.items ≡ old.cycles.items
    by (inl more) =
        let a = anchor_of g.history in
        let here : day_to_fold g b.day ≡ day + 1 = ap (day_to_fold g) dated in
        let closed = closed-through g b t sound h (omega (arith, here, l)) in
        let last = closed.last in
        let up = grows-to a (length old.cycles.items + 1) (length t.cycles.items) (omega (arith, more)) in
        absurd (omega (arith, up, last, here, before))
    by (inr few) = sym (take_all (length old.cycles.items) t.cycles.items few) ∙ begins.cycles
