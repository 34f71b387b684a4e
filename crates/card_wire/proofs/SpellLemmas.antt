-- The line that has the fields of an object.
use Rattle.std.proofs.Common.{◌≡◌, ℕ, ◌+◌, ◌*◌, ◌<◌, ◌≤◌, Bool, true, false, not, ◌&&◌, ◌||◌, cond, eqb, nat_le, nat_lt, List, [], ◌∷◌, ◌++◌, length, drop, get_or, Option, Some, None, IfSome, refl, ap, sym, ◌∙◌, arith, append-nil, append_assoc, drop-cons, add-one}
use Rattle.std.specs.List.{list_any, slice_split}
use Rattle.std.specs.Option.{option_and_then}
use Rattle.std.proofs.lemmas.Bool.Decides.{nat_tests}
use Rattle.std.proofs.lemmas.List.{drop_all, length-append}
use Rattle.card_lines.specs.Fields.{fields_of}
use Rattle.card_lines.specs.Lines.{line_of, line_of_fields}
use Rattle.card_wire.specs.Bodies.{fields_told, is_one_word, one_word, told, told_before}
use Rattle.card_wire.specs.Fields.{field_name}
use Rattle.card_wire.specs.Joined.{joined}
use Rattle.card_wire.specs.declared.field.Field.{Field}
use Rattle.serde_json.specs.Data.{Data}
use Rattle.serde_json.specs.Find.{get}

abbrev is_space : ℕ → Bool
is_space b = eqb b 32

abbrev AreWords : List (List ℕ) → Type 0
AreWords [] = Unit {0}
AreWords (t ∷ ts) = (is_one_word t ≡ true) × AreWords ts

abbrev IsWord : List ℕ → Type 0
IsWord t = is_one_word t ≡ true

-- ---- each field is one word
if_word : (t : List ℕ) (b : Bool) → is_one_word t ≡ b → IfSome (cond b (Some t) None) IsWord
if_word t true is = is
if_word t false is = tt

one_word_is : (o : Option (List ℕ)) → IfSome (one_word o) IsWord
one_word_is None = tt
one_word_is (Some t) = if_word t (is_one_word t) refl

told_is : (f : Field) (o : Option Data) → IfSome (option_and_then (told f) o) IsWord
unfolding told
told_is f None = tt
told_is f (Some d) = one_word_is _

before_words : (o : Option (List ℕ)) (rest : List (List ℕ)) → IfSome o IsWord → AreWords rest → AreWords (told_before o rest)
before_words None rest is others = tt
before_words (Some t) rest is others = (is, others)

told_words : (d : Data) (fs : List Field) → AreWords (fields_told d fs)
unfolding fields_told
told_words d [] = tt
told_words d (f ∷ fs) = before_words (option_and_then (told f) (get (field_name f) d)) (fields_told d fs) (told_is f (get (field_name f) d)) (told_words d fs)

before_few : (o : Option (List ℕ)) (rest : List (List ℕ)) (n : ℕ) → length rest ≤ n → length (told_before o rest) ≤ n + 1
before_few None rest n few = omega arith
before_few (Some t) rest n few = omega (arith, few)

told_few : (d : Data) (fs : List Field) → length (fields_told d fs) ≤ length fs
unfolding fields_told
told_few d [] = omega arith
told_few d (f ∷ fs) = let most = before_few (option_and_then (told f) (get (field_name f) d)) (fields_told d fs) (length fs) (told_few d fs) in omega (arith, most)

-- ---- a word has no space, and is short
both_parts : (a b : Bool) → (a && b) ≡ true → (a ≡ true) × (b ≡ true)
both_parts true b is = (refl, is)
both_parts false b is = absurd (cc)

not_true : (b : Bool) → not b ≡ true → b ≡ false
not_true true is = absurd (cc)
not_true false is = refl

or_false : (a b : Bool) → (a || b) ≡ false → (a ≡ false) × (b ≡ false)
or_false true b is = absurd (cc)
or_false false b is = (refl, is)

no_space : (t : List ℕ) → IsWord t → list_any is_space t ≡ false
unfolding is_one_word
no_space t is = not_true (list_any is_space t) (both_parts (nat_le (length t) 32) (not (list_any is_space t)) is).1

short : (t : List ℕ) → IsWord t → length t ≤ 32
unfolding is_one_word
short t is = let parts = both_parts (nat_le (length t) 32) (not (list_any is_space t)) is in grind (arith, nat_tests, parts.0)

joined_short : (ts : List (List ℕ)) → AreWords ts → length (joined ts) ≤ 33 * length ts
unfolding joined
joined_short [] words = omega arith
joined_short (t ∷ ts) words =
    let here = short t words.0 in
    let rest = joined_short ts words.1 in
    let sum = length-append t (joined ts) in
    omega (arith, here, rest, sum)

-- ---- the fields of the line are the words
split_word : (t ys : List ℕ) → list_any is_space t ≡ false → slice_split is_space (t ++ 32 ∷ ys) ≡ t ∷ slice_split is_space ys
split_word [] ys none = refl
split_word (b ∷ t) ys none =
    let parts = or_false (eqb b 32) (list_any is_space t) none in
    rw (parts.0, split_word t ys parts.1) refl

split_alone : (t : List ℕ) → list_any is_space t ≡ false → slice_split is_space t ≡ t ∷ []
split_alone [] none = refl
split_alone (b ∷ t) none =
    let parts = or_false (eqb b 32) (list_any is_space t) none in
    rw (parts.0, split_alone t parts.1) refl

split_joined : (t : List ℕ) (ts : List (List ℕ)) → IsWord t → AreWords ts → fields_of (t ++ joined ts) ≡ t ∷ ts
unfolding joined
split_joined t [] is words = ap fields_of (append-nil t) ∙ split_alone t (no_space t is)
split_joined t (u ∷ us) is words = split_word t (u ++ joined us) (no_space t is) ∙ ap (λ (l : List (List ℕ)). t ∷ l) (split_joined u us words.0 words.1)

fits : (n : ℕ) → n ≤ 512 → nat_lt 512 n ≡ false
fits n few = grind (arith, nat_tests, few)

line_is : (bs : List ℕ) → length bs ≤ 512 → line_of bs ≡ line_of_fields (fields_of bs)
unfolding line_of
line_is bs few = rw (fits (length bs) few) refl

-- what the line says that has a kind and the fields of an object
pub spelled_line : (kind line : List ℕ) (d : Data) (fs : List Field) → is_one_word kind ≡ true → length fs ≤ 10 → line ≡ kind ++ joined (fields_told d fs)
    → line_of line ≡ line_of_fields (kind ∷ fields_told d fs)
spelled_line kind line d fs is few spelled =
    let ts = fields_told d fs in
    let here = short kind is in
    let rest = joined_short ts (told_words d fs) in
    let count = told_few d fs in
    let sum = length-append kind (joined ts) in
    let whole : length (kind ++ joined ts) ≤ 512 = omega (arith, here, rest, count, few, sum) in
    ap line_of spelled ∙ line_is (kind ++ joined ts) whole ∙ ap line_of_fields (split_joined kind ts is (told_words d fs))

-- ---- field by field
here_told : (o : Option (List ℕ)) (t : List ℕ) (rest : List (List ℕ)) → o ≡ Some t → joined (told_before o rest) ≡ 32 ∷ t ++ joined rest
unfolding joined
here_told o t rest is = rw is refl

here_none : (o : Option (List ℕ)) (rest : List (List ℕ)) → o ≡ None → joined (told_before o rest) ≡ []
unfolding joined
here_none o rest is = rw is refl

at_field : (d : Data) (fs : List Field) (i : ℕ) (e : Field) → i < length fs
    → fields_told d (drop i fs) ≡ told_before (option_and_then (told (get_or fs i e)) (get (field_name (get_or fs i e)) d)) (fields_told d (drop (i + 1) fs))
unfolding fields_told
at_field d fs i e low = rw (add-one, drop-cons fs i e) refl

-- one more field is in the line
pub line_more : (line kind t : List ℕ) (d : Data) (fs : List Field) (i : ℕ) (e : Field) → i < length fs → line ++ joined (fields_told d (drop i fs)) ≡ kind
    → option_and_then (told (get_or fs i e)) (get (field_name (get_or fs i e)) d) ≡ Some t → (line ++ 32 ∷ t) ++ joined (fields_told d (drop (i + 1) fs)) ≡ kind
line_more line kind t d fs i e low before is =
    append_assoc line (32 ∷ t) (joined (fields_told d (drop (i + 1) fs)))
    ∙ ap (λ (l : List ℕ). line ++ l) (sym (ap joined (at_field d fs i e low) ∙ here_told _ t _ is)) ∙ before

-- no field is left
pub line_ends : (line kind : List ℕ) (d : Data) (fs : List Field) (i : ℕ) (e : Field) → i < length fs → line ++ joined (fields_told d (drop i fs)) ≡ kind
    → option_and_then (told (get_or fs i e)) (get (field_name (get_or fs i e)) d) ≡ None → line ≡ kind
line_ends line kind d fs i e low before is =
    sym (append-nil line) ∙ ap (λ (l : List ℕ). line ++ l) (sym (ap joined (at_field d fs i e low) ∙ here_none _ _ is)) ∙ before

told_none : (d : Data) → joined (fields_told d []) ≡ []
unfolding fields_told joined
told_none d = refl

-- all fields are in the line
pub line_whole : (line kind : List ℕ) (d : Data) (fs : List Field) (i : ℕ) → length fs ≤ i → line ++ joined (fields_told d (drop i fs)) ≡ kind → line ≡ kind
line_whole line kind d fs i high before =
    sym (append-nil line) ∙ ap (λ (l : List ℕ). line ++ l) (sym (ap (λ (gs : List Field). joined (fields_told d gs)) (drop_all i fs high) ∙ told_none d)) ∙ before
