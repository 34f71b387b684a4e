-- The values of the fields of a name, field by field.
use Rattle.std.proofs.Common.{◌≡◌, ℕ, ◌+◌, ◌<◌, Bool, true, false, List, [], ◌∷◌, ◌++◌, length, take, drop, get_or, map, Some, refl, ap, sym, ◌∙◌, arith, take-append-drop}
use Rattle.std.specs.List.{filter, slice_get}
use Rattle.std.proofs.Math.ListN.{get_or-map}
use Rattle.std.specs.Char.{to_ascii_lowercase}
use Rattle.std.specs.Str.{bytes_eq}
use Rattle.std.proofs.lemmas.List.{map-append, take_more, length-append}
use Rattle.httparse.specs.Spans.{header_bytes, span_bytes}
use Rattle.httparse.specs.declared.spans.HeaderSpan.{HeaderSpan}
use Rattle.std.proofs.lemmas.List.Elements.{filter-append}
use Rattle.card_wire.specs.Framing.{is_named, values_named}

abbrev Pair : Type 0
Pair = List ℕ × List ℕ

-- of fields behind others
values_append : (name : List ℕ) (xs ys : List Pair) → values_named name (xs ++ ys) ≡ values_named name xs ++ values_named name ys
values_append name xs ys = ap (map (λ (field : Pair). field.1)) (filter-append (is_named name) xs ys) ∙ map-append (λ (field : Pair). field.1) (filter (is_named name) xs) (filter (is_named name) ys)

-- of one more field
values_more : (name : List ℕ) (ps : List Pair) (i : ℕ) (d : Pair) → i < length ps → values_named name (take (i + 1) ps) ≡ values_named name (take i ps) ++ values_named name (get_or ps i d ∷ [])
values_more name ps i d low = ap (values_named name) (take_more ps i d low) ∙ values_append name (take i ps) (get_or ps i d ∷ [])

one_named : (name : List ℕ) (p : Pair) → is_named name p ≡ true → values_named name (p ∷ []) ≡ p.1 ∷ []
one_named name p is = rw is refl

none_named : (name : List ℕ) (p : Pair) → is_named name p ≡ false → values_named name (p ∷ []) ≡ []
none_named name p is = rw is refl

-- one more is counted
pub count_more : (name : List ℕ) (ps : List Pair) (i n : ℕ) (d : Pair) → i < length ps → n ≡ length (values_named name (take i ps)) → is_named name (get_or ps i d) ≡ true
    → n + 1 ≡ length (values_named name (take (i + 1) ps))
count_more name ps i n d low counted is =
    let longer = ap length (values_more name ps i d low) in
    let one = ap length (one_named name (get_or ps i d) is) in
    let sum = length-append (values_named name (take i ps)) (values_named name (get_or ps i d ∷ [])) in
    omega (arith, longer, one, sum, counted)

-- it is of another name
pub values_same : (name : List ℕ) (ps : List Pair) (i : ℕ) (d : Pair) (vs : List (List ℕ)) → i < length ps → values_named name (take i ps) ≡ vs → is_named name (get_or ps i d) ≡ false
    → values_named name (take (i + 1) ps) ≡ vs ++ []
values_same name ps i d vs low before is = values_more name ps i d low ∙ rw (none_named name (get_or ps i d) is, before) refl

pub count_same : (name : List ℕ) (ps : List Pair) (i n : ℕ) (d : Pair) → i < length ps → n ≡ length (values_named name (take i ps)) → is_named name (get_or ps i d) ≡ false
    → n ≡ length (values_named name (take (i + 1) ps))
count_same name ps i n d low counted is =
    let longer = ap length (values_more name ps i d low) in
    let none = ap length (none_named name (get_or ps i d) is) in
    let sum = length-append (values_named name (take i ps)) (values_named name (get_or ps i d ∷ [])) in
    omega (arith, longer, none, sum, counted)

-- the first
pub first_is : (name : List ℕ) (ps : List Pair) (i : ℕ) (d : Pair) → i < length ps → values_named name (take i ps) ≡ [] → is_named name (get_or ps i d) ≡ true
    → slice_get (values_named name ps) 0 ≡ Some (get_or ps i d).1
first_is name ps i d low before is =
    let front : values_named name (take (i + 1) ps) ≡ (get_or ps i d).1 ∷ [] = values_more name ps i d low ∙ rw (before, one_named name (get_or ps i d) is) refl in
    let all : values_named name ps ≡ (get_or ps i d).1 ∷ values_named name (drop (i + 1) ps) =
    ap (values_named name) (sym (take-append-drop (i + 1) ps)) ∙ values_append name (take (i + 1) ps) (drop (i + 1) ps) ∙ ap (λ l. l ++ values_named name (drop (i + 1) ps)) front in
    ap (λ l. slice_get l 0) all

-- the field of a span has the name that was compared
pub same_named : (name bytes given : List ℕ) (spans : List HeaderSpan) (i : ℕ) (d : HeaderSpan) (answer : Bool) → given ≡ span_bytes bytes (get_or spans i d).name
    → answer ≡ bytes_eq (map to_ascii_lowercase given) (map to_ascii_lowercase name) → is_named name (get_or (map (header_bytes bytes) spans) i (header_bytes bytes d)) ≡ answer
same_named name bytes given spans i d answer given_is answer_is =
    ap (is_named name) (get_or-map (header_bytes bytes) spans i d) ∙ ap (λ (g : List ℕ). bytes_eq (map to_ascii_lowercase g) (map to_ascii_lowercase name)) (sym given_is) ∙ sym answer_is
