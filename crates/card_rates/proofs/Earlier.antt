-- The penalties as they stood at the end of a day, one after the other.
use Rattle.std.proofs.Common.{◌≡◌, ℕ, ◌+◌, ◌<◌, nat_le, true, false, List, [], ◌∷◌, ◌++◌, length, map, take, get_or, refl, sym, ap, ◌∙◌}
use Rattle.std.proofs.lemmas.List.{map-append, take_more}
use Rattle.std.proofs.lemmas.List.Elements.{filter-append}
use Rattle.std.specs.List.{filter}
use Rattle.card_model.specs.Cuts.{as_of, penalties_at}
use Rattle.card_model.specs.declared.segment.Interval.{Interval}

pub earlier-none : (day : ℕ) → penalties_at day [] ≡ []
unfolding penalties_at
earlier-none day = refl

-- one that was known, and one that wasn't
pub earlier-known : (day : ℕ) (x : Interval) → nat_le x.begins (day + 45) ≡ true → penalties_at day (x ∷ []) ≡ as_of day x ∷ []
unfolding penalties_at
earlier-known day x e = rw e refl

pub earlier-unknown : (day : ℕ) (x : Interval) → nat_le x.begins (day + 45) ≡ false → penalties_at day (x ∷ []) ≡ []
unfolding penalties_at
earlier-unknown day x e = rw e refl

earlier-append : (day : ℕ) (xs ys : List Interval) → penalties_at day (xs ++ ys) ≡ penalties_at day xs ++ penalties_at day ys
unfolding penalties_at
earlier-append day xs ys =
    let early : List Interval → List Interval = λ l. filter (λ (i : Interval). nat_le i.begins (day + 45)) l in
    ap (map (as_of day)) (filter-append (λ (i : Interval). nat_le i.begins (day + 45)) xs ys) ∙ map-append (as_of day) (early xs) (early ys)

pub earlier-more : (day : ℕ) (xs : List Interval) (i : ℕ) (old new : List Interval) (x : Interval) → i < length xs → x ≡ get_or xs i x
    → old ≡ penalties_at day (take i xs) → new ≡ old ++ penalties_at day (x ∷ []) → new ≡ penalties_at day (take (i + 1) xs)
earlier-more day xs i old new x l is e f =
    f ∙ (ap (λ (u : List Interval). u ++ penalties_at day (x ∷ [])) e
    ∙ (sym (earlier-append day (take i xs) (x ∷ [])) ∙ ap (penalties_at day) (ap (λ (u : Interval). take i xs ++ u ∷ []) is ∙ sym (take_more xs i x l))))
