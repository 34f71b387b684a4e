-- The first post that passes, post by post.
use Rattle.std.proofs.Common.{◌≡◌, ℕ, zero, suc, ◌+◌, ◌≤◌, ◌<◌, drop, get_or, length, Bool, true, false, List, [], ◌∷◌, refl, sym, ap, ◌∙◌, Option, Some, None, ◌⊎◌, inl, inr, arith}
use Rattle.std.specs.List.{All}
use Rattle.std.specs.List.Sorted.{IsNonDecreasingBy}
use Rattle.std.specs.Prelude.{nat_le, slice_get}
use Rattle.std.proofs.lemmas.Bool.{cases_lt, leb-true}
use Rattle.std.proofs.lemmas.List.{at_drop_all}
use Rattle.std.proofs.lemmas.List.Elements.{All-get_or}
use Rattle.card_events.specs.History.{at_number}
use Rattle.card_events.specs.declared.kept.Kept.{Kept}
use Rattle.card_events.specs.declared.post.Post.{Post}
use Rattle.card_model.specs.Refusals.{bills, holds_of, number_from}

-- the post in this place passes
abbrev pub passes : (Post → Bool) → Option Kept → Bool
passes p o = holds_of (λ k. p k.post) o

at_place : (p : Post → Bool) (i : ℕ) (ks : List Kept) → passes p (at_number (i + 1) ks) ≡ passes p (slice_get ks i)
at_place p i ks = let one : i + 1 ≡ suc i = omega arith in ap (λ n. passes p (at_number n ks)) one

hit_at : (p : Post → Bool) (n i : ℕ) (ks : List Kept) → passes p (slice_get ks i) ≡ true → number_from p n (drop i ks) ≡ Some n
unfolding number_from
hit_at p n i [] e = cc
hit_at p n zero (k ∷ ks) e = rw e refl
hit_at p n (suc i) (k ∷ ks) e = hit_at p n i ks e

pub hit : (p : Post → Bool) (i : ℕ) (ks : List Kept) → passes p (at_number (i + 1) ks) ≡ true → number_from p (i + 1) (drop i ks) ≡ Some (i + 1)
hit p i ks e = hit_at p (i + 1) i ks (sym (at_place p i ks) ∙ e)

skip_at : (p : Post → Bool) (n i : ℕ) (ks : List Kept) → i < length ks → passes p (slice_get ks i) ≡ false → number_from p n (drop i ks) ≡ number_from p (suc n) (drop (suc i) ks)
unfolding number_from
skip_at p n i [] l e = absurd (omega arith)
skip_at p n zero (k ∷ ks) l e = rw e refl
skip_at p n (suc i) (k ∷ ks) l e = skip_at p n i ks (omega arith) e

pub skip : (p : Post → Bool) (i : ℕ) (ks : List Kept) → i < length ks → passes p (at_number (i + 1) ks) ≡ false → number_from p (i + 1) (drop i ks) ≡ number_from p (i + 1 + 1) (drop (i + 1) ks)
skip p i ks l e =
    let one : suc i ≡ i + 1 = omega arith in
    let next : suc (i + 1) ≡ i + 1 + 1 = omega arith in
    skip_at p (i + 1) i ks l (sym (at_place p i ks) ∙ e) ∙ ap (λ m. number_from p m (drop (suc i) ks)) next ∙ ap (λ m. number_from p (i + 1 + 1) (drop m ks)) one

none : (p : Post → Bool) (n : ℕ) → number_from p n [] ≡ None
unfolding number_from
none p n = refl

pub ends : (p : Post → Bool) (n i : ℕ) (ks : List Kept) → length ks ≤ i → number_from p n (drop i ks) ≡ None
ends p n i ks l = at_drop_all (number_from p n) ks i l ∙ none p n

-- none passes among so many first ones
skipped : (p : Post → Bool) (n i : ℕ) (ks : List Kept) → ((k : ℕ) (d : Kept) → k < i → k < length ks → p (get_or ks k d).post ≡ false) → number_from p n ks ≡ number_from p (n + i) (drop i ks)
unfolding number_from
skipped p n zero ks h = let same : n ≡ n + zero = omega arith in ap (λ m. number_from p m ks) same
skipped p n (suc i) [] h = refl
skipped p n (suc i) (x ∷ ks) h =
    let next : suc n + i ≡ n + suc i = omega arith in
    let rest = skipped p (suc n) i ks (λ k d l m. h (suc k) d (omega (arith, l)) (omega (arith, m))) in
    rw (h 0 x (omega arith) (omega arith)) (rest ∙ ap (λ m. number_from p m (drop i ks)) next)

pub behind : (p : Post → Bool) (i : ℕ) (ks : List Kept) → ((k : ℕ) (d : Kept) → k < i → k < length ks → p (get_or ks k d).post ≡ false) → number_from p 1 ks ≡ number_from p (i + 1) (drop i ks)
behind p i ks h = let same : 1 + i ≡ i + 1 = omega arith in skipped p 1 i ks h ∙ ap (λ m. number_from p m (drop i ks)) same

-- ---- days of acceptance
by-day : (day i : ℕ) (ks : List Kept) (d : Kept) → holds_of (λ k. nat_le k.accepted day) (slice_get ks i) ≡ true → i < length ks → (get_or ks i d).accepted ≤ day
by-day day i [] d e l = absurd (omega (arith, l))
by-day day zero (k ∷ ks) d e l = leb-true k.accepted day e
by-day day (suc i) (k ∷ ks) d e l = by-day day i ks d e (omega (arith, l))

-- where the post in a place was accepted by a day, so were those in front of it
pub accepted-front : (day i : ℕ) (ks : List Kept) → IsNonDecreasingBy (λ (k : Kept). k.accepted) ks → holds_of (λ k. nat_le k.accepted day) (at_number (i + 1) ks) ≡ true
    → (k : ℕ) (d : Kept) → k ≤ i → k < length ks → (get_or ks k d).accepted ≤ day
accepted-front day i ks order e k d l m = by (cases_lt i (length ks))
  where
    one : i + 1 ≡ suc i
    one = omega arith

    here : holds_of (λ k. nat_le k.accepted day) (slice_get ks i) ≡ true
    here = sym (ap (λ n. holds_of (λ k. nat_le k.accepted day) (at_number n ks)) one) ∙ e

    by : (i < length ks) ⊎ (length ks ≤ i) → (get_or ks k d).accepted ≤ day
    by (inl n) = let up = order k i d l n in let last = by-day day i ks d here n in omega (arith, up, last)
    by (inr n) = absurd (past i ks here n)
      where
        past : (i : ℕ) (ks : List Kept) → holds_of (λ k. nat_le k.accepted day) (slice_get ks i) ≡ true → length ks ≤ i → ⊥
        past i [] e n = cc
        past zero (x ∷ ks) e n = omega (arith, n)
        past (suc i) (x ∷ ks) e n = past i ks e (omega (arith, n))

-- a post that was accepted by the closing of a cycle is no Bill of it
pub unbilled : (cycle closing k : ℕ) (d : Kept) (ks : List Kept) → k < length ks → All (λ (x : Kept). bills cycle x.post ≡ true → closing < x.accepted) ks → (get_or ks k d).accepted ≤ closing → bills cycle (get_or ks k d).post ≡ false
unbilled cycle closing k d ks l h early = by (bills cycle (get_or ks k d).post) refl
  where
    by : (t : Bool) → bills cycle (get_or ks k d).post ≡ t → t ≡ false
    by true e = let late = All-get_or (λ (x : Kept). bills cycle x.post ≡ true → closing < x.accepted) ks k d l h e in absurd (omega (arith, late, early))
    by false e = refl
