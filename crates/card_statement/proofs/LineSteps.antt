-- The steps of going over segments.
use Rattle.std.proofs.Common.{◌≡◌, ℕ, ◌+◌, ◌<◌, List, [], ◌∷◌, ◌++◌, length, take, get_or, sym, ap, ◌∙◌, Option}
use Rattle.std.specs.List.{cons_option, filter_map}
use Rattle.std.proofs.lemmas.List.{take_more}
use Rattle.std.proofs.lemmas.List.Elements.{filter_map-append}

-- ---- one element more
pub line-next : {A B : Type 0} (f : A → Option B) (xs : List A) (i : ℕ) (x : A) → i < length xs
    → filter_map f (take (i + 1) xs) ≡ filter_map f (take i xs) ++ cons_option (f (get_or xs i x)) []
line-next f xs i x l = ap (filter_map f) (take_more xs i x l) ∙ filter_map-append f (take i xs) (get_or xs i x ∷ [])

-- lines with that of the next element
pub line-pushed : {A B : Type 0} (f : A → Option B) (xs : List A) (i : ℕ) (x : A) (lines new : List B) → i < length xs → x ≡ get_or xs i x
    → lines ≡ filter_map f (take i xs) → new ≡ lines ++ cons_option (f x) [] → new ≡ filter_map f (take (i + 1) xs)
line-pushed f xs i x lines new l e h k =
    k ∙ (ap (λ ys. ys ++ cons_option (f x) []) h ∙ (ap (λ y. filter_map f (take i xs) ++ cons_option (f y) []) e ∙ sym (line-next f xs i x l)))
