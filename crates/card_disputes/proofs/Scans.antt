-- Posts looked at one after the other.
use Rattle.std.proofs.Common.{◌≡◌, ℕ, zero, suc, ◌+◌, ◌≤◌, ◌<◌, drop, length, Bool, true, false, List, [], ◌∷◌, refl, sym, ap, ◌∙◌, Some, None, arith}
use Rattle.std.specs.Prelude.{slice_get}
use Rattle.std.specs.List.{find, list_any}
use Rattle.std.proofs.lemmas.List.{at_drop_all}
use Rattle.card_events.specs.History.{at_number}
use Rattle.card_events.specs.declared.kept.Kept.{Kept}
use Rattle.card_model.specs.Refusals.{holds_of}

-- ---- post i + 1 is the one in place i
pub at_place : (i : ℕ) (ks : List Kept) → at_number (i + 1) ks ≡ slice_get ks i
at_place i ks = let one : i + 1 ≡ suc i = omega arith in ap (λ n. at_number n ks) one

pub place-there : (i : ℕ) (ks : List Kept) → i < length ks → (k : Kept) × (slice_get ks i ≡ Some k)
place-there i [] l = absurd (omega arith)
place-there zero (k ∷ ks) l = (k, refl)
place-there (suc i) (k ∷ ks) l = place-there i ks (omega arith)

-- ---- whether some post from a place on passes
any-hit_at : (q : Kept → Bool) (i : ℕ) (ks : List Kept) → holds_of q (slice_get ks i) ≡ true → list_any q (drop i ks) ≡ true
any-hit_at q i [] e = cc
any-hit_at q zero (k ∷ ks) e = rw e refl
any-hit_at q (suc i) (k ∷ ks) e = any-hit_at q i ks e

pub any-hit : (q : Kept → Bool) (i : ℕ) (ks : List Kept) → holds_of q (at_number (i + 1) ks) ≡ true → list_any q (drop i ks) ≡ true
any-hit q i ks e = any-hit_at q i ks (sym (ap (holds_of q) (at_place i ks)) ∙ e)

any-skip_at : (q : Kept → Bool) (i : ℕ) (ks : List Kept) → i < length ks → holds_of q (slice_get ks i) ≡ false → list_any q (drop i ks) ≡ list_any q (drop (suc i) ks)
any-skip_at q i [] l e = absurd (omega arith)
any-skip_at q zero (k ∷ ks) l e = rw e refl
any-skip_at q (suc i) (k ∷ ks) l e = any-skip_at q i ks (omega arith) e

pub any-skip : (q : Kept → Bool) (i : ℕ) (ks : List Kept) → i < length ks → holds_of q (at_number (i + 1) ks) ≡ false → list_any q (drop i ks) ≡ list_any q (drop (i + 1) ks)
any-skip q i ks l e =
    let one : suc i ≡ i + 1 = omega arith in
    any-skip_at q i ks l (sym (ap (holds_of q) (at_place i ks)) ∙ e) ∙ ap (λ m. list_any q (drop m ks)) one

pub any-ends : (q : Kept → Bool) (i : ℕ) (ks : List Kept) → length ks ≤ i → list_any q (drop i ks) ≡ false
any-ends q i ks l = at_drop_all (list_any q) ks i l

-- ---- the first post from a place on that passes
find-hit_at : (q : Kept → Bool) (i : ℕ) (ks : List Kept) → holds_of q (slice_get ks i) ≡ true → find q (drop i ks) ≡ slice_get ks i
find-hit_at q i [] e = cc
find-hit_at q zero (k ∷ ks) e = rw e refl
find-hit_at q (suc i) (k ∷ ks) e = find-hit_at q i ks e

pub find-hit : (q : Kept → Bool) (i : ℕ) (ks : List Kept) → holds_of q (at_number (i + 1) ks) ≡ true → find q (drop i ks) ≡ at_number (i + 1) ks
find-hit q i ks e = find-hit_at q i ks (sym (ap (holds_of q) (at_place i ks)) ∙ e) ∙ sym (at_place i ks)

find-skip_at : (q : Kept → Bool) (i : ℕ) (ks : List Kept) → i < length ks → holds_of q (slice_get ks i) ≡ false → find q (drop i ks) ≡ find q (drop (suc i) ks)
find-skip_at q i [] l e = absurd (omega arith)
find-skip_at q zero (k ∷ ks) l e = rw e refl
find-skip_at q (suc i) (k ∷ ks) l e = find-skip_at q i ks (omega arith) e

pub find-skip : (q : Kept → Bool) (i : ℕ) (ks : List Kept) → i < length ks → holds_of q (at_number (i + 1) ks) ≡ false → find q (drop i ks) ≡ find q (drop (i + 1) ks)
find-skip q i ks l e =
    let one : suc i ≡ i + 1 = omega arith in
    find-skip_at q i ks l (sym (ap (holds_of q) (at_place i ks)) ∙ e) ∙ ap (λ m. find q (drop m ks)) one

pub find-ends : (q : Kept → Bool) (i : ℕ) (ks : List Kept) → length ks ≤ i → find q (drop i ks) ≡ None
find-ends q i ks l = at_drop_all (find q) ks i l
