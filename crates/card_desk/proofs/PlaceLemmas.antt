-- The account with a name, and its place.
use Rattle.std.proofs.Common.{◌≡◌, ℕ, zero, suc, ◌+◌, ◌<◌, Bool, true, false, cond, List, [], ◌∷◌, ◌++◌, length, get_or, set, Some, None, refl, ap, sym, ◌∙◌, subst, arith}
use Rattle.std.proofs.lemmas.Bool.{false≢true}
use Rattle.std.specs.Str.{bytes_eq}
use Rattle.card_desk.proofs.MapLemmas.{cond_swap, same_bytes, own_bytes}
use Rattle.card_model.specs.Machine.{NamedAccount, lists_of, with_lists}
use Rattle.card_model.specs.Refusals.{Lists}
use Rattle.card_desk.specs.Places.{place_from, IsPlace}

-- the place n + k of an account k places on
record Stands (name : List ℕ) (accounts : List NamedAccount) (k : ℕ) : Type 0 where
  bound : k < length accounts
  there : (d : NamedAccount) → lists_of name accounts ≡ Some (get_or accounts k d).lists
  change : (l : Lists) (d : NamedAccount) → with_lists name l accounts ≡ set accounts k (record { name = (get_or accounts k d).name; lists = l })

stands_first : (name : List ℕ) (a : NamedAccount) (others : List NamedAccount) → bytes_eq a.name name ≡ true → Stands name (a ∷ others) 0
unfolding lists_of with_lists
stands_first name a others same = record { bound = omega arith; there = λ d. rw same refl; change = λ l d. rw same refl }

stands_later : (name : List ℕ) (a : NamedAccount) (others : List NamedAccount) (k : ℕ) → bytes_eq a.name name ≡ false → Stands name others k → Stands name (a ∷ others) (suc k)
unfolding lists_of with_lists
stands_later name a others k other rest =
    record { bound = omega (arith, rest.bound); there = λ d. rw other (rest.there d); change = λ l d. rw other (ap (λ m. a ∷ m) (rest.change l d)) }

abbrev Found : List ℕ → ℕ → List NamedAccount → ℕ → Type 0
Found name n accounts i = (k : ℕ) × (i ≡ n + k) × Stands name accounts k

found_at : (name : List ℕ) (n : ℕ) (a : NamedAccount) (others : List NamedAccount) (i : ℕ) (b : Bool) → bytes_eq a.name name ≡ b
    → (place_from name (n + 1) others ≡ Some i → Found name (n + 1) others i) → cond b (Some n) (place_from name (n + 1) others) ≡ Some i → Found name n (a ∷ others) i
found_at name n a others i true same rest is = let e : n ≡ i = cc in (0, omega (arith, e), stands_first name a others same)
found_at name n a others i false other rest is = let more = rest is in (suc more.0, omega (arith, more.1), stands_later name a others more.0 other more.2)

-- where the first account has place n, what is found stands that many places on
found : (name : List ℕ) (n : ℕ) (accounts : List NamedAccount) (i : ℕ) → place_from name n accounts ≡ Some i → Found name n accounts i
unfolding place_from
found name n [] i is = absurd (cc)
found name n (a ∷ others) i is = found_at name n a others i (bytes_eq a.name name) refl (found name (n + 1) others i) is

-- the account with this name stands at the place that is found
pub is_place : (name : List ℕ) (accounts : List NamedAccount) (i : ℕ) → place_from name 0 accounts ≡ Some i → IsPlace name accounts i
is_place name accounts i is =
    let all = found name 0 accounts i is in
    let same : all.0 ≡ i = omega (arith, all.1) in
    let stands = subst (Stands name accounts) same all.2 in
    record { bound = stands.bound; there = stands.there; change = stands.change }

abbrev Lacks : List ℕ → List NamedAccount → Type 0
Lacks name accounts = (lists_of name accounts ≡ None) × ((l : Lists) → with_lists name l accounts ≡ accounts ++ record { name = name; lists = l } ∷ [])

lacks_at : (name : List ℕ) (n : ℕ) (a : NamedAccount) (others : List NamedAccount) (b : Bool) → (place_from name (n + 1) others ≡ None → Lacks name others)
    → cond b (Some n) (place_from name (n + 1) others) ≡ None
    → (cond b (Some a.lists) (lists_of name others) ≡ None) × ((l : Lists) → cond b (record { name = a.name; lists = l } ∷ others) (a ∷ with_lists name l others) ≡ a ∷ (others ++ record { name = name; lists = l } ∷ []))
lacks_at name n a others true rest is = absurd (cc)
lacks_at name n a others false rest is = let more = rest is in (more.0, λ l. ap (λ m. a ∷ m) (more.1 l))

-- a name that has no place has no lists, and would stand at the end
pub no_place : (name : List ℕ) (n : ℕ) (accounts : List NamedAccount) → place_from name n accounts ≡ None → Lacks name accounts
unfolding place_from lists_of with_lists
no_place name n [] is = (refl, λ l. refl)
no_place name n (a ∷ others) is = lacks_at name n a others (bytes_eq a.name name) (no_place name (n + 1) others) is

pushed_at : (q : List ℕ) (n : ℕ) (b a : NamedAccount) (others : List NamedAccount) (t : Bool) → bytes_eq b.name a.name ≡ t
    → (place_from a.name (n + 1) others ≡ None → place_from q (n + 1) (others ++ a ∷ []) ≡ cond (bytes_eq a.name q) (Some (n + 1 + length others)) (place_from q (n + 1) others))
    → cond t (Some n) (place_from a.name (n + 1) others) ≡ None
    → cond (bytes_eq b.name q) (Some n) (place_from q (n + 1) (others ++ a ∷ [])) ≡ cond (bytes_eq a.name q) (Some (n + length (b ∷ others))) (cond (bytes_eq b.name q) (Some n) (place_from q (n + 1) others))
pushed_at q n b a others true same rest is = absurd (cc)
pushed_at q n b a others false apart rest is =
    let count : n + 1 + length others ≡ n + length (b ∷ others) = omega arith in
    ap (λ o. cond (bytes_eq b.name q) (Some n) o) (rest is ∙ ap (λ (m : ℕ). cond (bytes_eq a.name q) (Some m) (place_from q (n + 1) others)) count)
    ∙ cond_swap (bytes_eq b.name q) (bytes_eq a.name q) (Some n) (Some (n + length (b ∷ others))) (place_from q (n + 1) others) (λ t u.
    let same : b.name ≡ a.name = same_bytes b.name q t ∙ sym (same_bytes a.name q u) in
    false≢true (sym apart ∙ subst (λ (l : List ℕ). bytes_eq b.name l ≡ true) same (own_bytes b.name)))

-- one more account at the end
pub place_pushed : (q : List ℕ) (n : ℕ) (accounts : List NamedAccount) (a : NamedAccount) → place_from a.name n accounts ≡ None
    → place_from q n (accounts ++ a ∷ []) ≡ cond (bytes_eq a.name q) (Some (n + length accounts)) (place_from q n accounts)
unfolding place_from
place_pushed q n [] a none = ap (λ (m : ℕ). cond (bytes_eq a.name q) (Some m) None) (omega arith)
place_pushed q n (b ∷ others) a none = pushed_at q n b a others (bytes_eq b.name a.name) refl (place_pushed q (n + 1) others a) none

-- other lists for one of the accounts
pub place_set : (q : List ℕ) (n : ℕ) (accounts : List NamedAccount) (i : ℕ) (a d : NamedAccount) → a.name ≡ (get_or accounts i d).name → place_from q n (set accounts i a) ≡ place_from q n accounts
unfolding place_from
place_set q n [] i a d same = refl
place_set q n (b ∷ others) zero a d same = ap (λ (m : List ℕ). cond (bytes_eq m q) (Some n) (place_from q (n + 1) others)) same
place_set q n (b ∷ others) (suc i) a d same = ap (λ o. cond (bytes_eq b.name q) (Some n) o) (place_set q (n + 1) others i a d same)
