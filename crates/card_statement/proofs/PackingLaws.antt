-- Lines are read from their words again, and so are lists of lines.
use Rattle.std.proofs.Common.{◌≡◌, ℕ, ℤ, suc, ◌+◌, ◌*◌, ◌/◌, ◌%◌, ◌^◌, ◌<◌, ◌≤◌, List, [], ◌∷◌, ◌++◌, length, drop, refl, sym, ap, ◌∙◌, arith, append_assoc}
use Rattle.std.proofs.lemmas.List.{append-nil}
use Rattle.std.specs.Prelude.{FitsSigned, flat_map}
use Rattle.std.specs.List.{All}
use Rattle.std.specs.Int.{w64, cast_signed, cast_unsigned}
use Rattle.std.proofs.Math.Nat.{mod-eq_of_lt}
use Rattle.std.proofs.Math.Seq.{drop-append_seam}
use Rattle.std.proofs.lemmas.Int.{to_z-of_z}
use Rattle.std.proofs.lemmas.List.Elements.{All-head, All-tail}
use Rattle.std.proofs.lemmas.Nat.{div-add-mod', div-mul-add, mod-mul-add}
use Rattle.card_events.specs.Range.{first_calendar_day, last_calendar_day}
use Rattle.card_events.specs.Money.{rate_limit}
use Rattle.card_model.specs.Cycles.{Amounts}
use Rattle.card_model.specs.declared.entry.EntryKind.{EntryKind}
use Rattle.card_model.specs.declared.entry.EntryKind.TheVariants as kind
use Rattle.card_model.specs.declared.lines.DeferredLine.{DeferredLine}
use Rattle.card_model.specs.declared.lines.Move.{Move}
use Rattle.card_model.specs.declared.lines.RateLine.{RateLine}
use Rattle.card_model.specs.declared.segment.Sort.{Sort}
use Rattle.card_model.specs.declared.segment.Sort.TheVariants as sort
use Rattle.card_statement.specs.Packing.{IsAmount, IsDeferred, IsMove, IsRate, amount_in, amount_words, behind, day_of, deferred_in, deferred_words, from_closing, from_deferred, from_rates, kind_code, kind_of, lines_in, lists_words, moves_in, rates_in, deferreds_in, closing_in, move_in, move_words, rate_in, rate_of, rate_words, sort_code, sort_of, wide_words}

-- ---- the parts of a word

kind_small : (k : EntryKind) → kind_code k < 8
kind_small kind.Charge = omega arith
kind_small kind.Credit = omega arith
kind_small kind.Payment = omega arith
kind_small kind.Return = omega arith
kind_small kind.Refund = omega arith
kind_small kind.Fee = omega arith
kind_small kind.Interest = omega arith
kind_small kind.Hold = omega arith

kind_back : (k : EntryKind) → kind_of (kind_code k) ≡ k
kind_back kind.Charge = refl
kind_back kind.Credit = refl
kind_back kind.Payment = refl
kind_back kind.Return = refl
kind_back kind.Refund = refl
kind_back kind.Fee = refl
kind_back kind.Interest = refl
kind_back kind.Hold = refl

sort_small : (s : Sort) → sort_code s < 8
sort_small sort.Credit = omega arith
sort_small sort.Held = omega arith
sort_small sort.Purchase = omega arith
sort_small sort.Cash = omega arith
sort_small sort.Transfer = omega arith
sort_small sort.Promo = omega arith
sort_small sort.Deferred = omega arith

sort_back : (s : Sort) → sort_of (sort_code s) ≡ s
sort_back sort.Credit = refl
sort_back sort.Held = refl
sort_back sort.Purchase = refl
sort_back sort.Cash = refl
sort_back sort.Transfer = refl
sort_back sort.Promo = refl
sort_back sort.Deferred = refl

day_back : (d : ℕ) → first_calendar_day ≤ d → d ≤ last_calendar_day → day_of d ≡ d
day_back d low high = omega (arith, low, high)

rate_back : (r : ℕ) → r ≤ rate_limit → rate_of r ≡ r
rate_back r high = omega (arith, high)

cents_back : (z : ℤ) → FitsSigned w64 z → cast_signed w64 (cast_unsigned w64 z) ≡ z
cents_back z fits = to_z-of_z w64 z fits

wide_back : (n : ℕ) → n / 2 ^ 64 * 2 ^ 64 + n % 2 ^ 64 ≡ n
wide_back n = div-add-mod' n (2 ^ 64)

-- three parts of a word
low_part : (a b c m n : ℕ) → c < n → ((a * m + b) * n + c) % n ≡ c
low_part a b c m n small = mod-mul-add (a * m + b) n c small

rest_part : (a b c m n : ℕ) → c < n → ((a * m + b) * n + c) / n ≡ a * m + b
rest_part a b c m n small = div-mul-add (a * m + b) n c small

middle_part : (a b c m n : ℕ) → b < m → c < n → ((a * m + b) * n + c) / n % m ≡ b
middle_part a b c m n mid small = ap (λ x. x % m) (rest_part a b c m n small) ∙ mod-mul-add a m b mid

high_part : (a b c m n : ℕ) → b < m → c < n → ((a * m + b) * n + c) / n / m ≡ a
high_part a b c m n mid small = ap (λ x. x / m) (rest_part a b c m n small) ∙ div-mul-add a m b mid

-- ---- a line

pub move_back : (m : Move) (more : List ℕ) → IsMove m → move_in (move_words m ++ more) ≡ m
unfolding move_in move_words
move_back m more h =
    let code = kind_code m.kind in
    let small = kind_small m.kind in
    let high = h.day_high in
    let short : m.day < 65_536 = omega (arith, high) in
    let day : day_of (((m.post * 65_536 + m.day) * 8 + code) / 8 % 65_536) ≡ m.day = ap day_of (middle_part m.post m.day code 65_536 8 short small) ∙ day_back m.day h.day_low h.day_high in
    let kind : kind_of (((m.post * 65_536 + m.day) * 8 + code) % 8) ≡ m.kind = ap kind_of (low_part m.post m.day code 65_536 8 small) ∙ kind_back m.kind in
    let post : ((m.post * 65_536 + m.day) * 8 + code) / 8 / 65_536 % 2 ^ 32 ≡ m.post = ap (λ x. x % 2 ^ 32) (high_part m.post m.day code 65_536 8 short small) ∙ mod-eq_of_lt h.post in
    rw (day, kind, post, cents_back m.cents h.cents) refl

pub rate_line_back : (l : RateLine) (more : List ℕ) → IsRate l → rate_in (rate_words l ++ more) ≡ l
unfolding rate_in rate_words wide_words
rate_line_back l more h =
    let code = sort_code l.sort in
    let small = sort_small l.sort in
    let segment : ((l.rate * 8 + code) * 256 + l.segment) % 256 ≡ l.segment = low_part l.rate code l.segment 8 256 h.segment in
    let sort : sort_of (((l.rate * 8 + code) * 256 + l.segment) / 256 % 8) ≡ l.sort = ap sort_of (middle_part l.rate code l.segment 8 256 small h.segment) ∙ sort_back l.sort in
    let rate : rate_of (((l.rate * 8 + code) * 256 + l.segment) / 256 / 8) ≡ l.rate = ap rate_of (high_part l.rate code l.segment 8 256 small h.segment) ∙ rate_back l.rate h.rate in
    rw (segment, sort, rate, wide_back l.average, wide_back l.interest) refl

pub deferred_back : (l : DeferredLine) (more : List ℕ) → IsDeferred l → deferred_in (deferred_words l ++ more) ≡ l
unfolding deferred_in deferred_words
deferred_back l more h =
    let segment : (l.ends * 256 + l.segment) % 256 ≡ l.segment = mod-mul-add l.ends 256 l.segment h.segment in
    let ends : day_of ((l.ends * 256 + l.segment) / 256) ≡ l.ends = ap day_of (div-mul-add l.ends 256 l.segment h.segment) ∙ day_back l.ends h.ends_low h.ends_high in
    rw (segment, ends, cents_back l.balance h.balance, cents_back l.accrued h.accrued) refl

pub amount_back : (x : ℕ × ℕ) (more : List ℕ) → IsAmount x → amount_in (amount_words x ++ more) ≡ x
unfolding amount_in amount_words
amount_back x more h = rw (mod-eq_of_lt h.segment) refl

pub move_long : (m : Move) → length (move_words m) ≡ 2
unfolding move_words
move_long m = refl

pub rate_long : (l : RateLine) → length (rate_words l) ≡ 5
unfolding rate_words wide_words
rate_long l = refl

pub deferred_long : (l : DeferredLine) → length (deferred_words l) ≡ 3
unfolding deferred_words
deferred_long l = refl

pub amount_long : (x : ℕ × ℕ) → length (amount_words x) ≡ 2
unfolding amount_words
amount_long x = refl

-- ---- a list of lines

-- a form of line: it is read from its words, which are so many
pub record IsForm {A : Type 0} (Held : A → Type 0) (line : List ℕ → A) (words : A → List ℕ) (size : ℕ) : Type 0 where
  pub long : (x : A) → length (words x) ≡ size
  pub back : (x : A) (more : List ℕ) → Held x → line (words x ++ more) ≡ x

next : (size : ℕ) (front more : List ℕ) → length front ≡ size → drop size (front ++ more) ≡ more
next size front more is = ap (λ n. drop n (front ++ more)) (sym is) ∙ drop-append_seam front more

module _ {A : Type 0} (Held : A → Type 0) (line : List ℕ → A) (words : A → List ℕ) (size : ℕ) (form : IsForm Held line words size) where
  pub lines_back : (xs : List A) (more : List ℕ) → All Held xs → lines_in line size (length xs) (flat_map words xs ++ more) ≡ xs
  unfolding lines_in
  lines_back [] more held = refl
  lines_back (x ∷ xs) more held =
      let rest = flat_map words xs ++ more in
      let split : flat_map words (x ∷ xs) ++ more ≡ words x ++ rest = append_assoc (words x) (flat_map words xs) more in
      ap (λ ws. lines_in line size (suc (length xs)) ws) split
      ∙ ap (λ y. y ∷ lines_in line size (length xs) (drop size (words x ++ rest))) (form.back x rest (All-head Held x xs held))
      ∙ ap (λ ws. x ∷ lines_in line size (length xs) ws) (next size (words x) rest (form.long x))
      ∙ ap (λ ys. x ∷ ys) (lines_back xs more (All-tail Held x xs held))

  pub behind_back : (xs : List A) (more : List ℕ) → behind size (length xs) (flat_map words xs ++ more) ≡ more
  unfolding behind
  behind_back [] more = refl
  behind_back (x ∷ xs) more =
      let rest = flat_map words xs ++ more in
      let split : flat_map words (x ∷ xs) ++ more ≡ words x ++ rest = append_assoc (words x) (flat_map words xs) more in
      ap (λ ws. behind size (suc (length xs)) ws) split
      ∙ ap (λ ws. behind size (length xs) ws) (next size (words x) rest (form.long x))
      ∙ behind_back xs more

pub moves_form : IsForm IsMove move_in move_words 2
moves_form = record { long = move_long; back = move_back }

pub rates_form : IsForm IsRate rate_in rate_words 5
rates_form = record { long = rate_long; back = rate_line_back }

pub deferred_form : IsForm IsDeferred deferred_in deferred_words 3
deferred_form = record { long = deferred_long; back = deferred_back }

pub amounts_form : IsForm IsAmount amount_in amount_words 2
amounts_form = record { long = amount_long; back = amount_back }

-- ---- the lists of a sheet

from_rates_is : (moves : List Move) (rates : List RateLine) (deferred : List DeferredLine) (closing : Amounts)
    → from_rates (lists_words moves rates deferred closing) ≡ flat_map rate_words rates ++ (flat_map deferred_words deferred ++ flat_map amount_words closing)
unfolding lists_words
from_rates_is moves rates deferred closing = behind_back IsMove move_in move_words 2 moves_form moves (flat_map rate_words rates ++ (flat_map deferred_words deferred ++ flat_map amount_words closing))

from_deferred_is : (moves : List Move) (rates : List RateLine) (deferred : List DeferredLine) (closing : Amounts)
    → from_deferred (lists_words moves rates deferred closing) ≡ flat_map deferred_words deferred ++ flat_map amount_words closing
unfolding lists_words
from_deferred_is moves rates deferred closing =
    ap (λ ws. behind 5 (length rates) ws) (from_rates_is moves rates deferred closing) ∙ behind_back IsRate rate_in rate_words 5 rates_form rates (flat_map deferred_words deferred ++ flat_map amount_words closing)

from_closing_is : (moves : List Move) (rates : List RateLine) (deferred : List DeferredLine) (closing : Amounts)
    → from_closing (lists_words moves rates deferred closing) ≡ flat_map amount_words closing ++ []
unfolding lists_words
from_closing_is moves rates deferred closing =
    ap (λ ws. behind 3 (length deferred) ws) (from_deferred_is moves rates deferred closing)
    ∙ behind_back IsDeferred deferred_in deferred_words 3 deferred_form deferred (flat_map amount_words closing)
    ∙ sym (append-nil (flat_map amount_words closing))

pub moves_are : (moves : List Move) (rates : List RateLine) (deferred : List DeferredLine) (closing : Amounts) → All IsMove moves → moves_in (lists_words moves rates deferred closing) ≡ moves
unfolding lists_words moves_in
moves_are moves rates deferred closing held = lines_back IsMove move_in move_words 2 moves_form moves (flat_map rate_words rates ++ (flat_map deferred_words deferred ++ flat_map amount_words closing)) held

pub rates_are : (moves : List Move) (rates : List RateLine) (deferred : List DeferredLine) (closing : Amounts) → All IsRate rates → rates_in (lists_words moves rates deferred closing) ≡ rates
unfolding lists_words rates_in
rates_are moves rates deferred closing held =
    ap (λ ws. lines_in rate_in 5 (length rates) ws) (from_rates_is moves rates deferred closing)
    ∙ lines_back IsRate rate_in rate_words 5 rates_form rates (flat_map deferred_words deferred ++ flat_map amount_words closing) held

pub deferreds_are : (moves : List Move) (rates : List RateLine) (deferred : List DeferredLine) (closing : Amounts) → All IsDeferred deferred → deferreds_in (lists_words moves rates deferred closing) ≡ deferred
unfolding lists_words deferreds_in
deferreds_are moves rates deferred closing held =
    ap (λ ws. lines_in deferred_in 3 (length deferred) ws) (from_deferred_is moves rates deferred closing)
    ∙ lines_back IsDeferred deferred_in deferred_words 3 deferred_form deferred (flat_map amount_words closing) held

pub closing_is : (moves : List Move) (rates : List RateLine) (deferred : List DeferredLine) (closing : Amounts) → All IsAmount closing → closing_in (lists_words moves rates deferred closing) ≡ closing
unfolding lists_words closing_in
closing_is moves rates deferred closing held =
    ap (λ ws. lines_in amount_in 2 (length closing) ws) (from_closing_is moves rates deferred closing)
    ∙ lines_back IsAmount amount_in amount_words 2 amounts_form closing [] held
