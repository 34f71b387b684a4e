-- The end of a plan, and the count of the posts that add a segment.
use Rattle.std.proofs.Common.{◌≡◌, ℕ, zero, suc, ◌+◌, ◌-◌, ◌<◌, ◌≤◌, Bool, true, false, cond, eqb, List, [], ◌∷◌, length, drop, Option, Some, None, refl, subst, ap, sym, ◌∙◌, arith}
use Rattle.std.specs.Prelude.{IsSome, SomeIff, slice_get, not, nat_le, nat_lt, ◌==◌}
use Rattle.std.specs.List.{count_by}
use Rattle.std.proofs.lemmas.List.Sums.{sum_by-cons}
use Rattle.card_events.specs.Range.{last_request_day, first_calendar_day}
use Rattle.card_reasons.specs.Reasons.{end_reason}
use Rattle.card_events.proofs.Cycles.{IsAnchor, closing_is, cycle_from_one, cycle_is, month_from-bounds, next_on-number}
use Rattle.card_events.specs.Billing.{IsCloseDay, closing, cycle_of, next_on}
use Rattle.card_events.specs.Civil.{date_of, day_of_month, first_day}
use Rattle.card_events.specs.Later.{six_months_after}
use Rattle.card_events.specs.Months.{day_in_month, first_month, month_from}
use Rattle.card_events.specs.declared.anchor.Anchor.{Anchor}
use Rattle.card_events.specs.History.{adds_segment, at_number}
use Rattle.card_events.specs.declared.kept.Kept.{Kept}
use Rattle.card_events.specs.declared.post.PlanKind.{PlanKind}
use Rattle.card_events.specs.declared.post.Post.TheVariants as post
use Rattle.card_events.specs.declared.reply.Refusal.TheVariants as refusal
use Rattle.card_model.specs.Refusals.{Present, closing_on, first_reason, holds_of, plan_end_not_closing, plan_too_short, where_true}

-- ---- the first closing on or after a day
pub closing-at : (a : Anchor) → first_calendar_day ≤ a.opened → a.opened ≤ last_request_day → IsCloseDay a.close_day → (day : ℕ) → a.opened ≤ day → day ≤ last_request_day → closing a (cycle_of a day) ≡ next_on a.close_day day
closing-at a first last close day low high =
    let h : IsAnchor a = record { first = first; last = omega (arith, last); low = close.0; high = close.1 } in
    let one = cycle_from_one a day in
    let back : cycle_of a day ≡ suc (cycle_of a day - 1) = omega (arith, one) in
    let count = cycle_is a h day low (omega (arith, high)) in
    let bounds = month_from-bounds day a.close_day (omega (arith, first, low)) (omega (arith, high)) in
    let most = bounds.1 in
    let month : first_month a + (cycle_of a day - 1) ≡ month_from a.close_day (date_of day) = omega (arith, count, one) in
    ap (closing a) back
    ∙ (closing_is a h (cycle_of a day - 1) (omega (arith, month, most)) ∙ ap (λ i. day_in_month i a.close_day) month ∙ sym (next_on-number day a.close_day (omega (arith, first, low)) (omega (arith, high)) h.low h.high))

-- ---- posts that pass, post by post
-- the post in this place passes
abbrev pub stands : (Kept → Bool) → Option Kept → Bool
stands p o = holds_of p o

count-at : (p : Kept → Bool) (i : ℕ) (ks : List Kept) → i < length ks → count_by p (drop i ks) ≡ cond (stands p (slice_get ks i)) 1 0 + count_by p (drop (suc i) ks)
count-at p i [] low = absurd (omega (arith, low))
count-at p zero (k ∷ ks) low = sum_by-cons (λ (x : Kept). cond (p x) 1 0) k ks
count-at p (suc i) (k ∷ ks) low = count-at p i ks (omega (arith, low))

at-place : (p : Kept → Bool) (i : ℕ) (ks : List Kept) → stands p (at_number (i + 1) ks) ≡ stands p (slice_get ks i)
at-place p i ks = let one : i + 1 ≡ suc i = omega arith in ap (λ n. stands p (at_number n ks)) one

pub count_yes : (p : Kept → Bool) (i : ℕ) (ks : List Kept) → i < length ks → stands p (at_number (i + 1) ks) ≡ true → count_by p (drop i ks) ≡ 1 + count_by p (drop (i + 1) ks)
count_yes p i ks low is =
    let one : suc i ≡ i + 1 = omega arith in
    count-at p i ks low ∙ ap (λ b. cond b 1 0 + count_by p (drop (suc i) ks)) (sym (at-place p i ks) ∙ is) ∙ ap (λ m. 1 + count_by p (drop m ks)) one

pub count_no : (p : Kept → Bool) (i : ℕ) (ks : List Kept) → i < length ks → stands p (at_number (i + 1) ks) ≡ false → count_by p (drop i ks) ≡ count_by p (drop (i + 1) ks)
count_no p i ks low is =
    let one : suc i ≡ i + 1 = omega arith in
    let at = count-at p i ks low in
    let none : cond {A = ℕ} (stands p (slice_get ks i)) 1 0 ≡ 0 = ap (λ b. cond {A = ℕ} b 1 0) (sym (at-place p i ks) ∙ is) in
    let next : count_by p (drop (suc i) ks) ≡ count_by p (drop (i + 1) ks) = ap (λ m. count_by p (drop m ks)) one in
    omega (arith, at, none, next)

-- ---- a Plan's end
pub ended : (now : Present) (day rate end after : ℕ) (kind : PlanKind) (closing least : ℕ) (full : Bool) → closing ≡ closing_on now end → least ≡ six_months_after day → full ≡ nat_le 64 (5 + count_by (λ (k : Kept). adds_segment k.post) now.lists.posts)
    → first_reason (where_true (not (closing == end)) (refusal.PlanEndNotClosing closing) ∷ where_true (nat_lt end least) refusal.PlanTooShort ∷ where_true full refusal.SegmentsFull ∷ []) ≡ end_reason now (post.Plan day kind rate end after)
unfolding end_reason plan_end_not_closing plan_too_short
ended now day rate end after kind closing least full c l f =
    ap (λ (x : ℕ). first_reason (where_true (not (x == end)) (refusal.PlanEndNotClosing x) ∷ where_true (nat_lt end least) refusal.PlanTooShort ∷ where_true full refusal.SegmentsFull ∷ [])) c
    ∙ ap (λ (x : ℕ). first_reason (where_true (not (closing_on now end == end)) (refusal.PlanEndNotClosing (closing_on now end)) ∷ where_true (nat_lt end x) refusal.PlanTooShort ∷ where_true full refusal.SegmentsFull ∷ [])) l
    ∙ ap (λ (x : Bool). first_reason (where_true (not (closing_on now end == end)) (refusal.PlanEndNotClosing (closing_on now end)) ∷ where_true (nat_lt end (six_months_after day)) refusal.PlanTooShort ∷ where_true x refusal.SegmentsFull ∷ [])) f

-- ---- a closing that is there
first_test : (t : Bool) (more day later : ℕ) → later ≤ day + 1 + more → cond t day later ≤ day + suc more
first_test true more day later l = omega arith
first_test false more day later l = omega (arith, l)

first-most : (p : ℕ → Bool) (more day : ℕ) → first_day p more day ≤ day + more
unfolding first_day
first-most p zero day = omega arith
first-most p (suc more) day = first_test (p day) more day (first_day p more (day + 1)) (first-most p more (day + 1))

pub next-most : (c day : ℕ) → next_on c day ≤ day + 31
next-most c day = first-most (λ d. eqb (day_of_month d) c) 31 day

pub some-of : (o : Option ℕ) (P : Type 0) (v : ℕ) → SomeIff o P v → P → IsSome o
some-of None P v h p = absurd (h p)
some-of (Some x) P v h p = refl

pub value-of : (o : Option ℕ) (P : Type 0) (v x : ℕ) → SomeIff o P v → o ≡ Some x → x ≡ v
value-of o P v x h e = (subst (λ (u : Option ℕ). SomeIff u P v) e h).1
