-- Texts that are names.
use Rattle.std.proofs.Common.{◌≡◌, ℕ, ◌+◌, ◌<◌, ◌≤◌, ◌^◌, ◌%◌, Bool, true, ◌&&◌, ◌||◌, List, [], ◌∷◌, ◌++◌, length, refl, ap, ◌∙◌, arith, length-append}
use Rattle.std.specs.Fmt.{decimal}
use Rattle.std.specs.List.{list_all}
use Rattle.std.specs.Prelude.{nat_le}
use Rattle.std.proofs.lemmas.Bool.{and_from, le-leb}
use Rattle.std.proofs.lemmas.Fmt.{decimal_by_steps, length-decimal-le}
use Rattle.std.proofs.lemmas.List.Folds.{list_all-append}
use Rattle.card_events.specs.Names.{is_letter_or_digit, is_name, is_name_byte}
use mathlib.Core.List.{append_assoc}

pub ruleset texts = append_assoc

or_first : (a b : Bool) → a ≡ true → (a || b) ≡ true
or_first a b is = ap (λ (t : Bool). t || b) is

digit_byte : (n : ℕ) → n < 10 → is_name_byte (48 + n) ≡ true
digit_byte n low = or_first _ _ (or_first _ _ (and_from (nat_le 48 (48 + n)) (nat_le (48 + n) 57) (le-leb 48 (48 + n) (omega arith)) (le-leb (48 + n) 57 (omega (arith, low)))))

digit_bytes : (n : ℕ) → n < 2 ^ 64 → list_all is_name_byte (decimal n) ≡ true
digit_bytes n small = decimal_by_steps (λ m ds. list_all is_name_byte ds ≡ true) first more n small
  where
    first : (n : ℕ) → n < 10 → list_all is_name_byte ((48 + n) ∷ []) ≡ true
    first n low = and_from (is_name_byte (48 + n)) true (digit_byte n low) refl

    more : (n : ℕ) (ds : List ℕ) → 10 ≤ n → list_all is_name_byte ds ≡ true → list_all is_name_byte (ds ++ ((48 + n % 10) ∷ [])) ≡ true
    more n ds high is =
        list_all-append is_name_byte ds ((48 + n % 10) ∷ [])
        ∙ and_from (list_all is_name_byte ds) (list_all is_name_byte ((48 + n % 10) ∷ [])) is (and_from (is_name_byte (48 + n % 10)) true (digit_byte (n % 10) (omega arith)) refl)

-- a letter and a number
pub lettered : (c n : ℕ) → is_letter_or_digit c ≡ true → n < 2 ^ 32 → is_name (c ∷ decimal n) ≡ true
lettered c n letter small =
    let digits = length-decimal-le 10 n (omega arith) (omega (arith, small)) (omega (arith, small)) in
    and_from (nat_le (length (c ∷ decimal n)) 32) (is_letter_or_digit c && list_all is_name_byte (decimal n)) (le-leb (length (c ∷ decimal n)) 32 (omega (arith, digits)))
    (and_from (is_letter_or_digit c) (list_all is_name_byte (decimal n)) letter (digit_bytes n (omega (arith, small))))

-- a letter, a number, a dash and a number
right : (c t j : ℕ) → is_letter_or_digit c ≡ true → t < 2 ^ 32 → j < 2 ^ 32 → is_name (c ∷ decimal t ++ 45 ∷ decimal j) ≡ true
right c t j letter small low =
    let first = length-decimal-le 10 t (omega arith) (omega (arith, small)) (omega (arith, small)) in
    let second = length-decimal-le 10 j (omega arith) (omega (arith, low)) (omega (arith, low)) in
    let whole = length-append (decimal t) (45 ∷ decimal j) in
    and_from (nat_le (length (c ∷ decimal t ++ 45 ∷ decimal j)) 32) (is_letter_or_digit c && list_all is_name_byte (decimal t ++ 45 ∷ decimal j))
    (le-leb (length (c ∷ decimal t ++ 45 ∷ decimal j)) 32 (omega (arith, first, second, whole)))
    (and_from (is_letter_or_digit c) (list_all is_name_byte (decimal t ++ 45 ∷ decimal j)) letter
    (list_all-append is_name_byte (decimal t) (45 ∷ decimal j)
    ∙ and_from (list_all is_name_byte (decimal t)) (list_all is_name_byte (45 ∷ decimal j)) (digit_bytes t (omega (arith, small))) (digit_bytes j (omega (arith, low)))))

-- however they are joined
pub dashed : (c t j : ℕ) → is_letter_or_digit c ≡ true → t < 2 ^ 32 → j < 2 ^ 32 → is_name (c ∷ (decimal t ++ 45 ∷ []) ++ decimal j) ≡ true
dashed c t j letter small low = ap (λ (l : List ℕ). is_name (c ∷ l)) (append_assoc (decimal t) (45 ∷ []) (decimal j)) ∙ right c t j letter small low
