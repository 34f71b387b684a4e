-- The index of accounts, as accounts come and change.
use Rattle.std.proofs.Common.{◌≡◌, ℕ, ◌+◌, Bool, true, false, cond, refl, List, [], ◌∷◌, ◌++◌, length, get_or, set, Option, Some, None, ap, sym, ◌∙◌, arith}
use Rattle.std.specs.Str.{bytes_eq}
use Rattle.std.specs.Cmp.Lexicographic.{nat_list_eq_equiv}
use Rattle.card_desk.specs.IndexPlaces.{place_of, Places}
use Rattle.card_desk.proofs.MapLemmas.{same_bytes}
use Rattle.card_model.specs.Machine.{NamedAccount}
use Rattle.card_desk.specs.Places.{place_from, IsIndex}
use Rattle.card_desk.proofs.PlaceLemmas.{place_pushed, place_set}

-- an account at the end, whose name was given its place
pub index_pushed : (index new : List (List ℕ × ℕ)) (accounts : List NamedAccount) (a : NamedAccount) (name : List ℕ) (place : ℕ)
    → IsIndex index accounts → Places index new name (Some place) → place ≡ length accounts → name ≡ a.name → place_from a.name 0 accounts ≡ None → IsIndex new (accounts ++ a ∷ [])
index_pushed index new accounts a name place is given here named absent q =
    let symm : bytes_eq q a.name ≡ bytes_eq a.name q = nat_list_eq_equiv.symm q a.name in
    let count : place ≡ 0 + length accounts = omega (arith, here) in
    given q ∙ ap (λ (n : List ℕ). cond (bytes_eq q n) (Some place) (place_of q index)) named
    ∙ ap (λ (b : Bool). cond b (Some place) (place_of q index)) symm ∙ ap (λ (o : Option ℕ). cond (bytes_eq a.name q) (Some place) o) (is q)
    ∙ ap (λ (n : ℕ). cond (bytes_eq a.name q) (Some n) (place_from q 0 accounts)) count ∙ sym (place_pushed q 0 accounts a absent)

-- other lists for one of the accounts
pub index_set : (index : List (List ℕ × ℕ)) (accounts : List NamedAccount) (i : ℕ) (a d : NamedAccount) → IsIndex index accounts → a.name ≡ (get_or accounts i d).name → IsIndex index (set accounts i a)
index_set index accounts i a d is same q = is q ∙ sym (place_set q 0 accounts i a d same)

-- a name that was given a place and lost it again
pub index_back : (index more less : List (List ℕ × ℕ)) (accounts : List NamedAccount) (name : List ℕ) (place : ℕ)
    → IsIndex index accounts → Places index more name (Some place) → Places more less name None → place_from name 0 accounts ≡ None → IsIndex less accounts
index_back index more less accounts name place is given lost absent q = lost q ∙ ap (λ (o : Option ℕ). cond (bytes_eq q name) None o) (given q) ∙ by (bytes_eq q name) refl
  where
    by : (b : Bool) → bytes_eq q name ≡ b → cond b None (cond b (Some place) (place_of q index)) ≡ place_from q 0 accounts
    by true e = sym (ap (λ (n : List ℕ). place_from n 0 accounts) (same_bytes q name e) ∙ absent)
    by false e = is q
