-- A name is text.
use Rattle.std.proofs.Common.{◌≡◌, ℕ, ◌<◌, Bool, true, false, ◌&&◌, nat_le, List, [], ◌∷◌, length, refl, arith}
use Rattle.std.specs.List.{list_all}
use Rattle.std.specs.Str.{IsAscii, IsUtf8}
use Rattle.std.proofs.lemmas.Bool.Decides.{nat_tests}
use Rattle.std.proofs.lemmas.Str.Ascii.{IsAscii-nil, IsAscii-cons}
use Rattle.std.proofs.lemmas.Str.{IsUtf8-from_ascii}
use Rattle.card_events.specs.Names.{is_letter_or_digit, is_name_byte, is_name}

letter_is_ascii : (b : ℕ) → is_letter_or_digit b ≡ true → b < 128
letter_is_ascii b is = grind (arith, nat_tests)

byte_is_ascii : (b : ℕ) → is_name_byte b ≡ true → b < 128
byte_is_ascii b is = grind (arith, nat_tests)

pub both_parts : (a b : Bool) → (a && b) ≡ true → (a ≡ true) × (b ≡ true)
both_parts true b is = (refl, is)
both_parts false b is = absurd (cc)

bytes_are_ascii : (bs : List ℕ) → list_all is_name_byte bs ≡ true → IsAscii bs
bytes_are_ascii [] is = IsAscii-nil
bytes_are_ascii (b ∷ bs) is =
    let here = both_parts (is_name_byte b) (list_all is_name_byte bs) is in
    IsAscii-cons b bs (byte_is_ascii b here.0) (bytes_are_ascii bs here.1)

pub name_is_utf8 : (bs : List ℕ) → is_name bs ≡ true → IsUtf8 bs
name_is_utf8 [] is = IsUtf8-from_ascii [] IsAscii-nil
name_is_utf8 (b ∷ bs) is =
    let most = both_parts (nat_le (length (b ∷ bs)) 32) (is_letter_or_digit b && list_all is_name_byte bs) is in
    let bytes = both_parts (is_letter_or_digit b) (list_all is_name_byte bs) most.1 in
    IsUtf8-from_ascii (b ∷ bs) (IsAscii-cons b bs (letter_is_ascii b bytes.0) (bytes_are_ascii bs bytes.1))
