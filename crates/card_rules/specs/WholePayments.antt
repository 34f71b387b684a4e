-- Each cent of a payment and of a merchant's credit is entered once (12 CFR 1026.10(a), .53), for all lists of posts. Amounts are
-- cents.
use Rattle.std.specs.Prelude.{ℕ, ◌≡◌, List}
use Rattle.std.specs.List.{sum_by}
use Rattle.card_events.specs.History.{CorrectedPost}
use Rattle.card_events.specs.SharedRows.{SharedRows}
use Rattle.card_events.specs.declared.kept.Kept.{Kept}
use Rattle.card_events.specs.declared.post.Place.{Place}
use Rattle.card_model.specs.Books.{Account, Book, account_of}
use Rattle.card_model.specs.Cycles.{IssuedRow, Seen}
use Rattle.card_model.specs.Effects.{credit_parts, payment_parts}
use Rattle.card_rates.specs.Laws.{seen_in}

-- the sum of parts
abbrev pub all_parts : List (ℕ × ℕ) → ℕ
all_parts xs = sum_by (λ (x : ℕ × ℕ). x.1) xs

-- on every day, whatever the book before it: the parts add up to the cents of the post
pub record IsEnteredWhole (a : Account) (seen : Seen) (p : CorrectedPost) (b : Book) : Type 0 where
  pub payment : all_parts (payment_parts a seen p b) ≡ p.cents
  pub credit : (place : Place) → all_parts (credit_parts a seen p place b) ≡ p.cents

abbrev pub PaymentsAreEnteredWhole : Type 0
PaymentsAreEnteredWhole =
    (history : List Kept) (issued : List IssuedRow) (shared : SharedRows) (day : ℕ) (p : CorrectedPost) (b : Book)
    → IsEnteredWhole (account_of history) (seen_in history issued shared day) p b
