-- What a map of names says of each name.
use Rattle.std.proofs.Common.{◌≡◌, ℕ, Bool, true, false, cond, List, [], ◌∷◌, Option, Some, refl, sym, ap, ◌∙◌, subst, ◌⊎◌, inl, inr}
use Rattle.std.specs.Cmp.Lexicographic.{bytes_decides, nat_list_eq_equiv}
use Rattle.std.specs.Str.{bytes_eq}
use Rattle.std.specs.Map.{lookup, AreApart, IsKeyTest, KeepsOthers}
use Rattle.std.proofs.lemmas.Bool.{false≢true}
use Rattle.card_desk.specs.IndexPlaces.{place_of, Places}

pub same_bytes : (xs ys : List ℕ) → bytes_eq xs ys ≡ true → xs ≡ ys
same_bytes xs ys e = (bytes_decides xs ys).0 e

pub own_bytes : (xs : List ℕ) → bytes_eq xs xs ≡ true
own_bytes xs = (bytes_decides xs xs).1 refl

pub by_test : (b : Bool) → (b ≡ true) ⊎ (b ≡ false)
by_test true = inl refl
by_test false = inr refl

pub found : (name : List ℕ) (es : List (List ℕ × ℕ)) → lookup (bytes_eq name) es ≡ place_of name es
unfolding place_of
found name [] = refl
found name (e ∷ es) = ap (λ o. cond (bytes_eq name e.0) (Some e.1) o) (found name es)

pub cond_swap : {X : Type 0} (a b : Bool) (x y r : X) → (a ≡ true → b ≡ true → ⊥) → cond a x (cond b y r) ≡ cond b y (cond a x r)
cond_swap true true x y r apart = absurd (apart refl refl)
cond_swap true false x y r apart = refl
cond_swap false true x y r apart = refl
cond_swap false false x y r apart = refl

cond_false : {X : Type 0} (b : Bool) (x r : X) → b ≡ false → cond b x r ≡ r
cond_false b x r f = rw f refl

cond_true : {X : Type 0} (b : Bool) (x r : X) → b ≡ true → cond b x r ≡ x
cond_true b x r t = rw t refl

-- a name's test holds of the keys with its bytes and of no other
key_test : (name : List ℕ) → IsKeyTest bytes_eq (bytes_eq name)
key_test name x y h = nat_list_eq_equiv.congr name x y h

-- no key is found by two names
apart_names : (name q : List ℕ) → bytes_eq q name ≡ false → AreApart (bytes_eq name) (bytes_eq q)
apart_names name q f k h = elim (by_test (bytes_eq q k)) [
  | inl t ↦
      let same : q ≡ name = same_bytes q k t ∙ sym (same_bytes name k h) in
      absurd (false≢true (sym f ∙ subst (λ (l : List ℕ). bytes_eq q l ≡ true) same (own_bytes q)))
  | inr e ↦ e
]

-- a name that has this number now, or none, where every other name has what it had
pub updated : (name : List ℕ) (old new : List (List ℕ × ℕ)) (place : Option ℕ)
    → KeepsOthers bytes_eq (bytes_eq name) old new → lookup (bytes_eq name) new ≡ place → Places old new name place
unfolding KeepsOthers
updated name old new place keeps here q = elim (by_test (bytes_eq q name)) [
  | inl t ↦
      let same : name ≡ q = sym (same_bytes q name t) in
      sym (found q new) ∙ subst (λ (l : List ℕ). lookup (bytes_eq l) new ≡ place) same here
      ∙ sym (cond_true (bytes_eq q name) place (place_of q old) t)
  | inr f ↦
      sym (found q new) ∙ keeps (bytes_eq q) (key_test q) (apart_names name q f) ∙ found q old
      ∙ sym (cond_false (bytes_eq q name) place (place_of q old) f)
]
