-- A record of CSV whose fields are text is text.
use Rattle.std.proofs.Common.{◌≡◌, ◌==◌, ℕ, suc, ◌<◌, ◌≤◌, true, false, List, [], ◌∷◌, ◌++◌, length, get_or, IsUtf8, inl, inr, refl, sym, ap, ◌∙◌, subst, arith, append-nil}
use Rattle.std.proofs.lemmas.Bool.{and_parts, cases_Bool, cases_lt, ne_eqb}
use Rattle.std.proofs.lemmas.Str.{IsUtf8-append, IsUtf8-nil, IsUtf8-encode, encode_ascii, inside_one}
use lib.Utf8.{scalar, scalars, encode, encodes, low_scalar}
use Rattle.csv.specs.Writing.{default_writer, escaped, field_text, fields_text, is_blank, needs_quotes, quoted, row_text}

ascii_is_text : (x : ℕ) → x < 128 → IsUtf8 (x ∷ [])
ascii_is_text x small = subst IsUtf8 (encode_ascii x small) (IsUtf8-encode x (low_scalar x (omega arith)))

ascii_then : (x : ℕ) (xs : List ℕ) → x < 128 → IsUtf8 xs → IsUtf8 (x ∷ xs)
ascii_then x xs small u = IsUtf8-append (x ∷ []) xs (ascii_is_text x small) u

-- a byte that is no quote stands for itself
other_byte : (b : ℕ) (rest : List ℕ) → (b == 34) ≡ false → escaped default_writer (b ∷ rest) ≡ b ∷ escaped default_writer rest
unfolding escaped
other_byte b rest other = rw other refl

quote_byte : (b : ℕ) (rest : List ℕ) → (b == 34) ≡ true → escaped default_writer (b ∷ rest) ≡ 34 ∷ b ∷ escaped default_writer rest
unfolding escaped
quote_byte b rest mark = rw mark refl

no_bytes : escaped default_writer [] ≡ []
unfolding escaped
no_bytes = refl

escaped-append : (xs ys : List ℕ) → escaped default_writer (xs ++ ys) ≡ escaped default_writer xs ++ escaped default_writer ys
escaped-append [] ys = rw no_bytes refl
escaped-append (x ∷ xs) ys = elim (cases_Bool (x == 34)) [
  | inl mark ↦ rw (quote_byte x (xs ++ ys) mark, quote_byte x xs mark, escaped-append xs ys) refl
  | inr other ↦ rw (other_byte x (xs ++ ys) other, other_byte x xs other, escaped-append xs ys) refl
]

escaped_high : (xs : List ℕ) → ((k : ℕ) → k < length xs → 128 ≤ get_or xs k 0) → escaped default_writer xs ≡ xs
escaped_high [] high = no_bytes
escaped_high (x ∷ xs) high =
    let first : 128 ≤ x = high 0 (omega arith) in
    other_byte x xs (ne_eqb x 34 (λ e. omega (arith, first, e))) ∙ ap (λ (l : List ℕ). x ∷ l) (escaped_high xs (λ k below. high (suc k) (omega (arith, below))))

-- one character between quotes
low_char : (c : ℕ) → c < 128 → IsUtf8 (escaped default_writer (c ∷ []))
low_char c small = elim (cases_Bool (c == 34)) [
  | inl mark ↦ rw (quote_byte c [] mark, no_bytes) (ascii_then 34 (c ∷ []) (omega arith) (ascii_is_text c small))
  | inr other ↦ rw (other_byte c [] other, no_bytes) (ascii_is_text c small)
]

one_char : (c : ℕ) → scalar c ≡ true → IsUtf8 (escaped default_writer (encode c))
one_char c ok = elim (cases_lt c 128) [
  | inl small ↦ rw (encode_ascii c small) (low_char c small)
  | inr big ↦
      let high : (k : ℕ) → k < length (encode c) → 128 ≤ get_or (encode c) k 0 = λ k below. elim (cases_lt (get_or (encode c) k 0) 128) [
        | inl low ↦ absurd (omega (arith, inside_one c [] (encode c) k (sym (append-nil _)) below low))
        | inr h ↦ h
      ] in
      subst IsUtf8 (sym (escaped_high (encode c) high)) (IsUtf8-encode c ok)
]

all_chars : (cs : List ℕ) → scalars cs ≡ true → IsUtf8 (escaped default_writer (encodes cs))
all_chars [] e = subst IsUtf8 (sym no_bytes) IsUtf8-nil
all_chars (c ∷ cs) e =
    let each = and_parts _ _ e in
    subst IsUtf8 (sym (escaped-append (encode c) (encodes cs))) (IsUtf8-append _ _ (one_char c each.0) (all_chars cs each.1))

quoted_is_text : (f : List ℕ) → IsUtf8 f → IsUtf8 (quoted default_writer f)
quoted_is_text f u =
    ascii_then 34 _ (omega arith) (IsUtf8-append _ _ (subst (λ l. IsUtf8 (escaped default_writer l)) u.1.1 (all_chars u.0 u.1.0)) (ascii_is_text 34 (omega arith)))

field_is_text : (f : List ℕ) → IsUtf8 f → IsUtf8 (field_text default_writer f)
field_is_text f u = elim (cases_Bool (needs_quotes default_writer f)) [ inl mark ↦ rw mark (quoted_is_text f u) | inr other ↦ rw other u ]

more_is_text : (f : List ℕ) (fields : List (List ℕ)) → IsUtf8 f → IsUtf8 (fields_text default_writer fields) → IsUtf8 (fields_text default_writer (f ∷ fields))
unfolding fields_text
more_is_text f fields u more = ascii_then 44 _ (omega arith) (IsUtf8-append _ _ (field_is_text f u) more)

none_is_text : IsUtf8 (fields_text default_writer [])
unfolding fields_text
none_is_text = IsUtf8-nil

-- a record of five fields
pub row_is_text : (a b c d e : List ℕ) → IsUtf8 a → IsUtf8 b → IsUtf8 c → IsUtf8 d → IsUtf8 e → IsUtf8 (row_text default_writer (a ∷ b ∷ c ∷ d ∷ e ∷ []))
unfolding is_blank
row_is_text a b c d e first second third fourth fifth =
    let more = more_is_text b _ second (more_is_text c _ third (more_is_text d _ fourth (more_is_text e _ fifth none_is_text))) in
    IsUtf8-append _ _ (IsUtf8-append _ _ (field_is_text a first) more) (ascii_is_text 10 (omega arith))
