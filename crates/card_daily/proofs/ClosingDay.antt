-- The day on which a cycle closes, against the calendar.
use Rattle.std.proofs.Common.{◌≡◌, ℕ, zero, suc, ◌+◌, ◌-◌, ◌<◌, ◌≤◌, List, [], ◌∷◌, length, refl, sym, ap, ◌∙◌, subst, arith, Option, None, Some, SomeIff, ◌⊎◌, inl, inr}
use Rattle.std.specs.Option.{IsSome}
use Rattle.std.proofs.lemmas.Bool.{cases_lt}
use Rattle.card_events.specs.Billing.{closing, cycle_of, due, due_after, due_day_of_month, next_on}
use Rattle.card_events.specs.Civil.{day_of_month}
use Rattle.card_events.specs.Range.{last_request_day, last_calendar_day, first_calendar_day}
use Rattle.card_events.specs.declared.anchor.Anchor.{Anchor}
use Rattle.card_events.proofs.Cycles.{IsAnchor, closing_grows, cycle_around, cycle_from_one, due_day-bounds}
use Rattle.card_events.proofs.DueLaws.{closing_laws, due_before_next}
use Rattle.card_fees.proofs.Cases.{by-places, due-at}
use Rattle.card_fees.proofs.PastPosts.{past-posts}
use Rattle.card_fees.specs.DueLaws.{AreDueBy, AreOfTheCalendar, due_cycle_at}
use Rattle.card_model.specs.declared.due_cycle.DueCycle.{DueCycle}
use Rattle.card_events.specs.History.{CorrectedPost, anchor_of, corrected}
use Rattle.card_fees.proofs.Days.{closing-from, due-later}
use Rattle.card_model.proofs.Calendar.{cycles_are_of_the_calendar, is-anchor}
use Rattle.card_model.specs.Books.{Book, present_cycle}
use Rattle.card_model.specs.Closing.{purchase_case_in}
use Rattle.card_model.specs.CycleDays.{HasItsDays}
use Rattle.card_model.specs.Cycles.{Cycle, last_cycle}
use Rattle.card_model.specs.Folds.{cycle_at}
use Rattle.card_model.specs.Interest.{case_after, purchase_case}
use Rattle.card_model.specs.Payments.{due_cycle_of, left_by, past_due}
use Rattle.card_daily.specs.Closing.{IsClosing, IsClosingOf}
use Rattle.card_daily.specs.Given.{Given, IsSound, opened_in, seen_in}
use Rattle.card_daily.specs.Stands.{before, posted, posts_of}
use Rattle.card_daily.proofs.Books.{before-is}
use Rattle.card_daily.proofs.Cycles.{closing-within, cycles-amid, next-closing, next-within}
use Rattle.card_daily.proofs.Lasts.{last-is}

-- ---- closings
-- a day of the cycle's closing day of the month is its closing
closes-at : (a : Anchor) → IsAnchor a → (k day : ℕ) → 1 ≤ k → closing a (k - 1) < day → day ≤ closing a k → day ≤ last_request_day → day_of_month day ≡ a.close_day → closing a k ≡ day
closes-at a h k day one after upto small on = by (cases_lt day (closing a k))
  where
    by : (day < closing a k) ⊎ (closing a k ≤ day) → closing a k ≡ day
    by (inl l) =
        let back : suc (k - 1) ≡ k = omega arith in
        let within = closing-within a h (k - 1) day after (omega arith) in
        let same = ap (closing a) back in
        let laws = closing_laws a h k one (omega (arith, within, same)) in
        absurd (laws.none_between day after l on)
    by (inr l) = omega arith

pub closes-on : (g : Given) (day : ℕ) → IsSound g → opened_in g ≤ day → day ≤ last_request_day → day_of_month day ≡ (anchor_of g.history).close_day → IsClosing (anchor_of g.history) (cycle_of (anchor_of g.history) day) day
closes-on g day s o l e =
    let a = anchor_of g.history in
    let k = cycle_of a day in
    let h = is-anchor a s.opening in
    let around = cycle_around a h day k o (omega arith) refl in
    let on = closes-at a h k day (cycle_from_one a day) around.0 around.1 l e in
    let low = closing-from a k in
    record { close_day = s.opening.close_day; first = cycle_from_one a day; on = on; low = (let f = s.opening.first in omega arith); small = omega (arith, on, low) }

-- the cycle that the day lies in
pub present-is : (g : Given) (day : ℕ) → IsSound g → opened_in g ≤ day → present_cycle (posted g day) ≡ cycle_of (anchor_of g.history) day
present-is g day s o =
    let f = s.opening.first in
    let next : day - 1 + 1 ≡ day = omega arith in
    ap (λ (cs : List Cycle). length cs + 1) (cycles-amid g day (posts_of g day))
    ∙ (ap (λ (b : Book). length b.cycles + 1) (before-is g day (omega arith))
    ∙ (cycles_are_of_the_calendar.count g.history g.issued g.shared (day - 1) ∙ ap (cycle_of (anchor_of g.history)) next))

pub closes-of : (g : Given) (day : ℕ) → IsSound g → opened_in g ≤ day → day ≤ last_request_day → day_of_month day ≡ (anchor_of g.history).close_day → IsClosingOf g (cycle_of (anchor_of g.history) day) day
closes-of g day s o l e = record { closing = closes-on g day s o l e; present = present-is g day s o }

-- ---- the days after it
pub anchored : (a : Anchor) (k day : ℕ) → IsClosing a k day → closing a (k + 1) ≡ next_on a.close_day (day + 1)
anchored a k day h =
    let next : k + 1 ≡ suc k = omega arith in
    ap (closing a) next ∙ (next-closing a k ∙ ap (λ d. next_on a.close_day (d + 1)) h.on)

pub next-small : (a : Anchor) (k day : ℕ) → IsClosing a k day → day ≤ last_request_day → closing a (k + 1) ≤ last_calendar_day
next-small a k day h l =
    let low = h.low in
    let same = anchored a k day h in
    let within = next-within (day + 1) a.close_day (omega arith) (omega arith) h.close_day.0 h.close_day.1 in
    omega (arith, same, within)

pub due-is : (a : Anchor) (k day : ℕ) → IsClosing a k day → due a k ≡ due_after a.close_day day
due-is a k day h = ap (due_after a.close_day) h.on

-- a due date comes within 31 days
due-within : (c day : ℕ) → 1 ≤ c → c ≤ 28 → first_calendar_day ≤ day + 1 → day + 1 ≤ last_calendar_day → due_after c day ≤ day + 31
unfolding due_after
due-within c day l h low high =
    let bounds = due_day-bounds c l h in
    let within = next-within (day + 1) (due_day_of_month c) low high bounds.0 bounds.1 in
    omega (arith, within)

pub due-small : (a : Anchor) (k day : ℕ) → IsClosing a k day → day ≤ last_request_day → due a k ≤ last_calendar_day
due-small a k day h l =
    let low = h.low in
    let within = due-within a.close_day day h.close_day.0 h.close_day.1 (omega arith) (omega arith) in
    let same = due-is a k day h in
    omega (arith, within, same)

-- ---- the closed cycles
pub their-days : (g : Given) (day : ℕ) → IsSound g → opened_in g ≤ day → day ≤ last_request_day → AreOfTheCalendar (anchor_of g.history) (posted g day).cycles
their-days g day s o l k c e =
    let f = s.opening.first in
    let same : (posted g day).cycles ≡ (before g day).cycles = cycles-amid g day (posts_of g day) in
    cycles_are_of_the_calendar.days g.history g.issued g.shared (day - 1) k c s.opening (omega arith)
    (ap (λ (b : Book). cycle_at k b.cycles) (sym (before-is g day (omega arith))) ∙ (ap (cycle_at k) (sym same) ∙ e))

grows-by : (a : Anchor) (k n : ℕ) → closing a k ≤ closing a (n + k)
grows-by a k zero = let same : 0 + k ≡ k = omega arith in subst (λ n. closing a k ≤ closing a n) (sym same) (omega arith)
grows-by a k (suc n) =
    let more = closing_grows a (n + k) in
    let rest = grows-by a k n in
    let same : suc n + k ≡ suc (n + k) = omega arith in
    let on = ap (closing a) same in
    omega (arith, more, rest, on)

pub grows-to : (a : Anchor) (k m : ℕ) → k ≤ m → closing a k ≤ closing a m
grows-to a k m l = let whole : m - k + k ≡ m = omega arith in subst (λ n. closing a k ≤ closing a n) whole (grows-by a k (m - k))

opening-low : (a : Anchor) → IsAnchor a → first_calendar_day ≤ closing a 0 + 1
unfolding closing
opening-low a h = let f = h.first in omega arith

first-low : (a : Anchor) → IsAnchor a → (k : ℕ) → first_calendar_day ≤ closing a k + 1
first-low a h k = let from = grows-to a 0 k (omega arith) in let open' = opening-low a h in omega (arith, from, open')

-- a number from 1 to their count
pub at-count : (k : ℕ) (cs : List Cycle) (c : Cycle) → cycle_at k cs ≡ Some c → (1 ≤ k) × (k ≤ length cs)
at-count zero cs c e = cc
at-count (suc n) cs c e = (omega arith, get-count n cs c e)
  where
    get-count : (n : ℕ) (cs : List Cycle) (c : Cycle) → cycle_at (suc n) cs ≡ Some c → suc n ≤ length cs
    get-count n [] c e = cc
    get-count zero (x ∷ xs) c e = omega arith
    get-count (suc n) (x ∷ xs) c e = let rest = get-count n xs c e in omega (arith, rest)

-- their due dates lie before it
pub due-before : (a : Anchor) → IsAnchor a → (k m day : ℕ) → 1 ≤ k → k + 1 ≤ m → closing a m ≡ day → day ≤ last_request_day → due a k ≤ day
due-before a h k m day one less on l =
    let next = grows-to a (k + 1) m less in
    let on-next : k + 1 ≡ suc k = omega arith in
    let grow = closing_grows a k in
    let same = ap (closing a) on-next in
    let low = first-low a h k in
    let within = due-within a.close_day (closing a k) h.low h.high (omega (arith, low)) (omega (arith, next, grow, same)) in
    let small : due a k ≤ last_calendar_day = omega (arith, within, next, grow, same) in
    let back : suc (k - 1) ≡ k = omega arith in
    let law = subst (λ n. due a n ≤ last_calendar_day → due a n < closing a (suc n)) back (due_before_next a h (k - 1)) small in
    omega (arith, law, next, same)

pub due-by : (g : Given) (day number : ℕ) → IsSound g → opened_in g ≤ day → day ≤ last_request_day → IsClosingOf g number day → AreDueBy day (posted g day).cycles
due-by g day number s o l h k c e =
    let a = anchor_of g.history in
    let days = their-days g day s o l k c e in
    let count = at-count k (posted g day).cycles c e in
    let present = h.present in
    let by = due-before a (is-anchor a s.opening) k number day count.0 (omega (arith, count.1, present)) h.closing.on l in
    let own = days.due in
    omega (arith, own, by)

-- ---- answers
-- an answer that comes where P holds is there
pub is-there : {T : Type 0} (r : Option T) (P : Type 0) (v : T) → SomeIff r P v → P → IsSome r
is-there None P v h p = absurd (h p)
is-there (Some x) P v h p = refl

pub value-is : {T : Type 0} (r : Option T) (P : Type 0) (x v : T) → SomeIff r P v → r ≡ Some x → x ≡ v
value-is r P x v h e = (subst (λ o. SomeIff o P v) e h).1

-- ---- the last cycle
pub record IsLastAt (g : Given) (day number : ℕ) (c : Cycle) : Type 0 where
  pub days : HasItsDays (anchor_of g.history) c.number c
  pub first : 1 ≤ c.number
  pub next : number ≡ c.number + 1
  pub due : c.due ≤ day
  pub closed : c.closing < last_calendar_day

pub last-at : (g : Given) (day number : ℕ) (c : Cycle) → IsSound g → opened_in g ≤ day → day ≤ last_request_day → IsClosingOf g number day → last_cycle (posted g day).cycles ≡ Some c → IsLastAt g day number c
last-at g day number c s o l h e =
    let a = anchor_of g.history in
    let f = s.opening.first in
    let same : (posted g day).cycles ≡ (before g day).cycles = cycles-amid g day (posts_of g day) in
    let is = last-is g day c s (omega arith) l (ap last_cycle (sym same) ∙ e) in
    let present = h.present in
    let now = is.present in
    let count = ap (λ (cs : List Cycle). length cs + 1) same in
    let next : number ≡ c.number + 1 = omega (arith, present, now, count) in
    let by = due-before a (is-anchor a s.opening) c.number number day is.first (omega (arith, next)) h.closing.on l in
    let own = is.days.due in
    let grow = due-later a c.number in
    let at = is.days.closing in
    record { days = is.days; first = is.first; next = next; due = omega (arith, own, by); closed = omega (arith, at, grow, by) }

-- what is left of its minimum payment
pub left-is : (g : Given) (day : ℕ) (c : Cycle) (posts : List CorrectedPost) (d : DueCycle) → posts ≡ corrected (anchor_of g.history) g.shared.holidays g.history
    → d ≡ due_cycle_of (seen_in g day).issued c → left_by posts day d ≡ past_due (seen_in g day) day (Some c)
left-is g day c posts d ep ed = rw (ep, ed) (sym (past-posts.left day (corrected (anchor_of g.history) g.shared.holidays g.history) (due_cycle_of (seen_in g day).issued c)))

-- ---- purchases
pub cases-are : (g : Given) (day : ℕ) (cycles : List Cycle) (posts : List CorrectedPost) (count : ℕ) (x y : Option DueCycle)
    → AreOfTheCalendar (anchor_of g.history) cycles → AreDueBy day cycles → cycles ≡ (posted g day).cycles
    → posts ≡ corrected (anchor_of g.history) g.shared.holidays g.history → count ≡ length cycles - 1
    → x ≡ due_cycle_at (seen_in g day) count cycles → y ≡ due_cycle_at (seen_in g day) (length cycles) cycles
    → case_after posts x y ≡ purchase_case_in (seen_in g day) (posted g day)
cases-are g day cycles posts count x y days dues same post counted before last =
    let seen = seen_in g day in
    let all = corrected (anchor_of g.history) g.shared.holidays g.history in
    rw (post, before ∙ ap (λ n. due_cycle_at seen n cycles) counted, last)
    (sym (past-posts.case day all (due_cycle_at seen (length cycles - 1) cycles) (due_cycle_at seen (length cycles) cycles) (due-at seen day (length cycles - 1) cycles dues) (due-at seen day (length cycles) cycles dues))
    ∙ (sym (by-places (anchor_of g.history) seen cycles days) ∙ ap (λ cs. purchase_case seen cs (last_cycle cs)) same))
