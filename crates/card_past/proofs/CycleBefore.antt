-- The cycle before the one that a day lies in.
use Rattle.std.proofs.Common.{◌≡◌, ℕ, zero, suc, ◌+◌, ◌-◌, ◌<◌, ◌≤◌, ◌⊎◌, inl, inr, cond, List, [], ◌∷◌, length, get_or, refl, sym, ap, ◌∙◌, subst, arith, Option, Some, None}
use Rattle.std.specs.Prelude.{◌==◌, slice_get}
use Rattle.std.proofs.lemmas.Bool.{cases_lt}
use Rattle.std.proofs.lemmas.Option.{get_or_from_slice_get}
use Rattle.card_events.specs.Billing.{closing, closings_among, cycle_of}
use Rattle.card_events.specs.Civil.{day_of_month}
use Rattle.card_events.specs.Range.{last_request_day}
use Rattle.card_events.specs.declared.anchor.Anchor.{Anchor}
use Rattle.card_events.proofs.Cycles.{cycle_around}
use Rattle.card_events.specs.History.{anchor_of}
use Rattle.card_model.specs.CycleDays.{IsOpening}
use Rattle.card_model.specs.Cycles.{Cycle}
use Rattle.card_model.specs.Folds.{cycle_at}
use Rattle.card_model.proofs.Calendar.{cycles_are_of_the_calendar, is-anchor}
use Rattle.card_daily.specs.Given.{Given}
use Rattle.card_book.specs.Stands.{Summary, day_to_fold}
use Rattle.card_daily.specs.declared.track.Track.{Track}
use Rattle.card_past.proofs.Through.{cycles-through}
use Rattle.card_past.specs.Foldings.{Stands, day_of}

-- ---- its number
pub none-before : (a : Anchor) (day : ℕ) → day < a.opened → cycle_of a day - 1 ≡ 0
unfolding cycle_of closings_among
none-before a day l =
    let none : day - a.opened ≡ 0 = omega (arith, l) in
    ap (λ n. closings_among a.close_day a.opened n + 1 - 1) none

no-less : (x y z : ℕ) → x ≤ y → x ≤ y + z
no-less x y z l = omega (arith, l)

among-more : (c first n d : ℕ) → closings_among c first n ≤ closings_among c first (d + n)
unfolding closings_among
among-more c first n zero = let same : 0 + n ≡ n = omega arith in subst (λ m. closings_among c first n ≤ closings_among c first m) (sym same) (omega arith)
among-more c first n (suc d) =
    let same : suc d + n ≡ suc (d + n) = omega arith in
    subst (λ m. closings_among c first n ≤ closings_among c first m) (sym same)
    (no-less (closings_among c first n) (closings_among c first (d + n)) (cond (day_of_month (first + (d + n)) == c) 1 0) (among-more c first n d))

pub later-cycle : (a : Anchor) (x y : ℕ) → x ≤ y → cycle_of a x ≤ cycle_of a y
unfolding cycle_of
later-cycle a x y l =
    let n = x - a.opened in
    let m = y - a.opened in
    let whole : m - n + n ≡ m = omega (arith, l) in
    let more = subst (λ k. closings_among a.close_day a.opened n ≤ closings_among a.close_day a.opened k) whole (among-more a.close_day a.opened n (m - n)) in
    omega (arith, more)

-- where it is one, it closed before the day
pub closed-before : (a : Anchor) (day : ℕ) → IsOpening a → day ≤ last_request_day → 1 ≤ cycle_of a day - 1 → closing a (cycle_of a day - 1) < day
closed-before a day open' l some = by (cases_lt day a.opened)
  where
    by : (day < a.opened) ⊎ (a.opened ≤ day) → closing a (cycle_of a day - 1) < day
    by (inl early) = let none = none-before a day early in absurd (omega (arith, some, none))
    by (inr low) = (cycle_around a (is-anchor a open') day (cycle_of a day) low (omega (arith, l)) refl).0

-- so by a later day it is closed
pub closed-then : (g : Given) (b : Option Summary) (t : Track) (day today : ℕ) → Stands g b t → day_to_fold g (day_of b) ≡ today + 1 → day ≤ today → cycle_of (anchor_of g.history) day - 1 ≤ length t.cycles.items
closed-then g b t day today h dated l =
    let a = anchor_of g.history in
    let long = ap (λ (cs : List Cycle). length cs) (cycles-through g b t today h dated) in
    let count = cycles_are_of_the_calendar.count g.history g.issued g.shared today in
    let up = later-cycle a day (today + 1) (omega (arith, l)) in
    omega (arith, long, count, up)

-- ---- its place
get-there : {A : Type 0} (xs : List A) (i : ℕ) → i < length xs → (x : A) × (slice_get xs i ≡ Some x)
get-there [] i l = absurd (omega (arith, l))
get-there (x ∷ xs) zero l = (x, refl)
get-there (x ∷ xs) (suc i) l = get-there xs i (omega (arith, l))

-- there is none, or it is there
pub cycle-there : (cycles : List Cycle) (k : ℕ) → k ≤ length cycles → (k ≡ 0) ⊎ ((c : Cycle) × (cycle_at k cycles ≡ Some c))
cycle-there cycles zero l = inl refl
cycle-there cycles (suc i) l = inr (get-there cycles i (omega (arith, l)))

pub cycle-read : (cycles : List Cycle) (k : ℕ) (c : Cycle) → cycle_at k cycles ≡ Some c → (1 ≤ k) × (get_or cycles (k - 1) c ≡ c)
cycle-read cycles zero c e = let none : None ≡ Some c = e in absurd (cc)
cycle-read cycles (suc i) c e =
    let back : suc i - 1 ≡ i = omega arith in
    (omega arith, ap (λ n. get_or cycles n c) back ∙ get_or_from_slice_get cycles i c c e)

pub there-is : (cycles : List Cycle) (k : ℕ) → 1 ≤ k → k ≤ length cycles → (c : Cycle) × (cycle_at k cycles ≡ Some c)
there-is cycles zero one l = absurd (omega (arith, one))
there-is cycles (suc i) one l = get-there cycles i (omega (arith, l))
