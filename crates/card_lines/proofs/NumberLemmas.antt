-- The value of digits.
use Rattle.std.proofs.Common.{◌≡◌, Option, Some, None, ℕ, zero, suc, ◌+◌, ◌-◌, ◌*◌, ◌^◌, ◌<◌, ◌≤◌, true, List, [], ◌∷◌, length, drop, get_or, refl, ap, arith, drop-cons, add-one}
use Rattle.std.specs.Char.{is_ascii_digit}
use Rattle.std.specs.List.{list_all}
use Rattle.std.specs.Option.{SomeIff}
use Rattle.std.proofs.Math.Nat.{mul-le-mul_right, pow-le-pow_right, pow-succ'}
use Rattle.std.proofs.lemmas.Bool.Decides.{nat_tests}
use Rattle.card_lines.specs.Forms.{value_after, number_of, is_decimal}

digit_parts : (b : ℕ) (bs : List ℕ) → list_all is_ascii_digit (b ∷ bs) ≡ true → (48 ≤ b) × (b ≤ 57) × (list_all is_ascii_digit bs ≡ true)
digit_parts b bs digits = grind (arith, nat_tests)

scaled : (n x v p q : ℕ) → v + 1 ≤ (10 * n + x + 1) * p → x ≤ 9 → q ≡ 10 * p → v + 1 ≤ (n + 1) * q
scaled n x v p q below small is =
    let most : (10 * n + x + 1) * p ≤ (10 * n + 10) * p = mul-le-mul_right p (omega arith) in
    let same : (10 * n + 10) * p ≡ (n + 1) * (10 * p) = omega arith in
    rw is (omega (arith, below, most, same))

pub value_bound : (n : ℕ) (bs : List ℕ) → list_all is_ascii_digit bs ≡ true → value_after n bs + 1 ≤ (n + 1) * 10 ^ length bs
value_bound n [] digits = omega arith
value_bound n (b ∷ bs) digits =
    let parts = digit_parts b bs digits in
    scaled n (b - 48) (value_after (10 * n + (b - 48)) bs) (10 ^ length bs) _ (value_bound (10 * n + (b - 48)) bs parts.2) (omega (arith, parts.1)) (pow-succ' 10 (length bs))

-- further digits don't lower a number
pub value_grows : (n : ℕ) (bs : List ℕ) → n ≤ value_after n bs
value_grows n [] = omega arith
value_grows n (b ∷ bs) = let more = value_grows (10 * n + (b - 48)) bs in omega (arith, more)

pub value_step : (v : ℕ) (text : List ℕ) (i : ℕ) → i < length text → value_after v (drop i text) ≡ value_after (10 * v + (get_or text i 0 - 48)) (drop (i + 1) text)
value_step v text i h = rw (add-one, drop-cons text i 0) refl

pub digit_at : (text : List ℕ) (i : ℕ) → list_all is_ascii_digit text ≡ true → i < length text → (48 ≤ get_or text i 0) × (get_or text i 0 ≤ 57)
digit_at [] i digits h = absurd (omega arith)
digit_at (b ∷ bs) zero digits h = let parts = digit_parts b bs digits in (parts.0, parts.1)
digit_at (b ∷ bs) (suc i) digits h = let parts = digit_parts b bs digits in digit_at bs i parts.2 (omega arith)

-- twelve digits are below a million million
pub value_small : (text : List ℕ) → list_all is_ascii_digit text ≡ true → length text ≤ 12 → (value_after 0 text < 10 ^ length text) × (value_after 0 text < 10 ^ 12)
value_small text digits few =
    let bound = value_bound 0 text digits in
    let most : 10 ^ length text ≤ 10 ^ 12 = pow-le-pow_right (omega arith) few in
    (omega (arith, bound), omega (arith, bound, most))

pub twelve : (text : List ℕ) (v : ℕ) → v < 10 ^ length text → length text ≤ 12 → v ≤ 999_999_999_999
twelve text v below few =
    let most : 10 ^ length text ≤ 10 ^ 12 = pow-le-pow_right (omega arith) few in
    omega (arith, below, most)

pub some_of : (o : Option ℕ) (P : Type 0) (v : ℕ) → SomeIff o P v → P → o ≡ Some v
some_of None P v h p = absurd (h p)
some_of (Some x) P v h p = ap Some h.1

pub number_is : (text : List ℕ) → is_decimal text ≡ true → number_of text ≡ Some (value_after 0 text)
unfolding number_of
number_is text t = rw t refl
