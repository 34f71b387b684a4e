-- The books of a day: the cycle that the day lies in, the days of their entries, and the posts that they hold.
use Rattle.std.proofs.Common.{◌≡◌, ℕ, zero, suc, ◌+◌, ◌-◌, ◌<◌, ◌≤◌, List, [], ◌++◌, refl, sym, ap, ◌∙◌, subst, arith, ◌⊎◌, inl, inr}
use Rattle.std.specs.List.{All}
use Rattle.std.proofs.lemmas.Bool.{cases_lt}
use Rattle.std.proofs.lemmas.List.{append-nil}
use Rattle.card_bounds.specs.Bounds.{AreSmall}
use Rattle.card_bounds.proofs.Dated.{Added, Before, IsPlain, added-then, due-added, posted_after, posts-added}
use Rattle.card_bounds.proofs.OnDays.{cycles_begin_in_turn, entries_have_days}
use Rattle.card_events.specs.Billing.{closing, cycle_of, next_on}
use Rattle.card_events.specs.Civil.{date_of, day_at, month_length}
use Rattle.card_events.specs.Range.{last_request_day, last_calendar_day, first_calendar_day}
use Rattle.card_events.specs.declared.anchor.Anchor.{Anchor}
use Rattle.card_events.proofs.Cycles.{IsAnchor, closing_grows, cycle_around, cycle_from_one, date_civil}
use Rattle.card_events.proofs.DateFacts.{day_at-date_of, date_of-in_calendar}
use Rattle.card_events.proofs.Months.{IsCivil, later_day, length_bounds, next_on-here, next_on-over, over}
use Rattle.card_events.specs.History.{CorrectedPost, anchor_of}
use Rattle.card_model.specs.Books.{Book}
use Rattle.card_model.specs.Closing.{first_day_of, first_of}
use Rattle.card_model.specs.Cycles.{Cycle, last_cycle, posts_on}
use Rattle.card_model.specs.DueDates.{on_due}
use Rattle.card_model.specs.Effects.{after_posts}
use Rattle.card_model.proofs.Calendar.{is-anchor}
use Rattle.card_rates.proofs.Turns.{of_a_day}
use Rattle.card_daily.specs.Given.{Given, IsSound, account_in, opened_in, row_in, seen_in}
use Rattle.card_daily.specs.Stands.{amid, before, first_in, posted, posts_of}
use Rattle.card_daily.proofs.Books.{amid-small, day-is}

-- ---- a day of the month comes within 31 days
-- from a day of the calendar on
within-by : (y m d c : ℕ) → IsCivil y m d → y ≤ 2298 → 1 ≤ c → c ≤ 28 → next_on c (day_at y m d) ≤ day_at y m d + 30
within-by y m d c h far low high = by (cases_lt c d)
  where
    by : (c < d) ⊎ (d ≤ c) → next_on c (day_at y m d) ≤ day_at y m d + 30
    by (inr l) =
        let whole : d + (c - d) ≡ c = omega arith in
        let next = next_on-here y m d c h l high in
        let later = later_day y m d (c - d) h.day_low ∙ ap (day_at y m) whole in
        omega (arith, next, later, h.day_low)
    by (inl l) =
        let most = length_bounds y m in
        let i = month_length y m + c - d in
        let whole : d + i ≡ month_length y m + c = omega (arith, h.day_high) in
        let next = next_on-over y m d c h far low l high in
        let later = over y m d i c h low whole in
        omega (arith, next, later, most.0)

pub next-within : (n c : ℕ) → first_calendar_day ≤ n → n ≤ last_calendar_day → 1 ≤ c → c ≤ 28 → next_on c n ≤ n + 30
next-within n c low high c1 c2 =
    let h = date_of-in_calendar n low high in
    subst (λ x. next_on c x ≤ x + 30) (day_at-date_of n (omega arith))
    (within-by (date_of n).year (date_of n).month (date_of n).day c (date_civil n low high) (omega (arith, h.high_year)) c1 c2)

-- ---- the first day of the cycle
closing-low : (a : Anchor) (k : ℕ) → a.opened ≤ closing a k + 1
unfolding closing
closing-low a zero = omega arith
closing-low a (suc k) = let more = closing_grows a k in let rest = closing-low a k in omega (arith, more, rest)

pub next-closing : (a : Anchor) (k : ℕ) → closing a (suc k) ≡ next_on a.close_day (closing a k + 1)
unfolding closing
next-closing a k = refl

-- a cycle has at most 31 days
pub closing-within : (a : Anchor) → IsAnchor a → (k day : ℕ) → closing a k < day → day ≤ last_calendar_day → closing a (suc k) ≤ closing a k + 31
closing-within a h k day l m =
    let low = closing-low a k in
    let most = next-within (closing a k + 1) a.close_day (omega (arith, low, h.first)) (omega arith) h.low h.high in
    omega (arith, next-closing a k, most)

pub first-is : (g : Given) (day : ℕ) → IsSound g → opened_in g ≤ day → day ≤ last_calendar_day → first_in g day ≡ closing (anchor_of g.history) (cycle_of (anchor_of g.history) day - 1) + 1
first-is g day s o l =
    let e = day-is (opened_in g) day o in
    cycles_begin_in_turn.before g.history g.issued g.shared (day - opened_in g) s.opening (omega arith)
    ∙ ap (λ d. closing (anchor_of g.history) (cycle_of (anchor_of g.history) d - 1) + 1) e

-- it isn't before the opening day
pub first-opened : (g : Given) (day : ℕ) → IsSound g → opened_in g ≤ day → day ≤ last_calendar_day → opened_in g ≤ first_in g day
first-opened g day s o l =
    let first = first-is g day s o l in
    let low = closing-low (anchor_of g.history) (cycle_of (anchor_of g.history) day - 1) in
    omega (arith, first, low)

-- nor after the day
pub first-by : (g : Given) (day : ℕ) → IsSound g → opened_in g ≤ day → day ≤ last_calendar_day → first_in g day ≤ day
first-by g day s o l =
    let around = cycle_around (anchor_of g.history) (is-anchor (anchor_of g.history) s.opening) day (cycle_of (anchor_of g.history) day) o l refl in
    let first = first-is g day s o l in
    omega (arith, first, around.0)

-- and at most 30 days before it
pub first-within : (g : Given) (day : ℕ) → IsSound g → opened_in g ≤ day → day ≤ last_calendar_day → day ≤ first_in g day + 30
first-within g day s o l =
    let a = anchor_of g.history in
    let k = cycle_of a day in
    let anchor = is-anchor a s.opening in
    let around = cycle_around a anchor day k o l refl in
    let one = cycle_from_one a day in
    let back : suc (k - 1) ≡ k = omega arith in
    let most = closing-within a anchor (k - 1) day around.0 l in
    let same = ap (closing a) back in
    let first = first-is g day s o l in
    omega (arith, first, around.1, most, same)

-- ---- amid a day
-- due dates and posts close no cycle
pub cycles-amid : (g : Given) (day : ℕ) (done : List CorrectedPost) → (amid g day done).cycles ≡ (before g day).cycles
cycles-amid g day done = cycles_begin_in_turn.posts g.history g.issued g.shared (day - opened_in g) done

-- so they leave the first day of the cycle as it is
pub first-amid : (g : Given) (day : ℕ) (done : List CorrectedPost) → first_day_of (account_in g) (amid g day done) ≡ first_in g day
first-amid g day done = ap (λ (cs : List Cycle). first_of (account_in g) (last_cycle cs)) (cycles-amid g day done)

-- entries before a day are of earlier days
pub before-dated : (g : Given) (day : ℕ) → opened_in g ≤ day → All (Before day) (before g day).entries
before-dated g day o =
    subst (λ d. All (Before d) (before g day).entries) (day-is (opened_in g) day o) (entries_have_days.before g.history g.issued g.shared (day - opened_in g))

-- and those that the day adds are its own, and no interest
pub amid-added : (g : Given) (day : ℕ) (done : List CorrectedPost) → opened_in g ≤ day → Added (IsPlain day) (before g day).entries (amid g day done).entries
amid-added g day done o =
    let n = day - opened_in g in
    let seen = seen_in g (opened_in g + n) in
    let b = before g day in
    let due = on_due (row_in g n) (account_in g) seen b (last_cycle b.cycles) in
    subst (λ d. Added (IsPlain d) b.entries (amid g day done).entries) (day-is (opened_in g) day o)
    (added-then (IsPlain seen.day) b.entries due.entries (amid g day done).entries (due-added (row_in g n) (account_in g) seen b (last_cycle b.cycles)) (posts-added (row_in g n) (account_in g) seen done due))

-- ---- all posts of a day
-- those that aren't folded change nothing
pub posted-folded : (g : Given) (day : ℕ) → opened_in g ≤ day → posted g day ≡ posted_after g.issued (account_in g) (seen_in g) (day - opened_in g)
posted-folded g day o =
    let n = day - opened_in g in
    let seen = seen_in g (opened_in g + n) in
    let b = before g day in
    let due = on_due (row_in g n) (account_in g) seen b (last_cycle b.cycles) in
    let e = day-is (opened_in g) day o in
    ap (λ d. after_posts (row_in g n) (account_in g) seen (posts_of g d) due) (sym e)
    ∙ sym (of_a_day.same (row_in g n) (account_in g) seen due g.history g.issued g.shared (opened_in g + n))

-- after them all balances are below 10^15 cents in size
pub posted-small : (g : Given) (day : ℕ) → IsSound g → opened_in g ≤ day → day ≤ last_request_day → AreSmall (posted g day).entries
posted-small g day s o l =
    let n = day - opened_in g in
    let e = day-is (opened_in g) day o in
    let done = posts_on (seen_in g (opened_in g + n)) in
    let parts : posts_on (seen_in g day) ≡ done ++ [] = ap (λ d. posts_on (seen_in g d)) (sym e) ∙ sym (append-nil done) in
    subst (λ (b : Book). AreSmall b.entries) (sym (posted-folded g day o)) (amid-small g day done [] s o l parts)
