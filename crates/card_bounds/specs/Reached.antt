-- What a book's entries of payments and merchants' credits are like.
use Rattle.std.specs.Prelude.{ℕ, ◌+◌, ◌≡◌, ◌≤◌, true, List, [], ◌∷◌, ◌++◌}
use Rattle.std.specs.List.{All, filter}
use Rattle.card_bounds.specs.Bounds.{book_amid}
use Rattle.card_events.specs.History.{CorrectedPost, anchor_of, corrected}
use Rattle.card_events.specs.SharedRows.{SharedRows}
use Rattle.card_events.specs.declared.kept.Kept.{Kept}
use Rattle.card_model.specs.Accepted.{HasFewCents, HasFewFees}
use Rattle.card_model.specs.Cycles.{IssuedRow, posts_on, seen_on}
use Rattle.card_model.specs.Effects.{is_part_of, size}
use Rattle.card_model.specs.Entries.{is_kind}
use Rattle.card_model.specs.Payments.{is_credit}
use Rattle.card_model.specs.declared.entry.Entry.{Entry}
use Rattle.card_model.specs.declared.entry.EntryKind.TheVariants as kind

-- each segment once, ascending from a number on
abbrev pub Rise : ℕ → List Entry → Type 0
Rise low [] = Unit {0}
Rise low (e ∷ es) = (low ≤ e.segment) × Rise (e.segment + 1) es

-- how far entries lie below 0 together
abbrev pub sizes : List Entry → ℕ
sizes [] = 0
sizes (e ∷ es) = size e.cents + sizes es

-- an entry of a payment isn't on Held; one of kind credit is of no post but a merchant's credit
pub record IsOfItsPost (posts : List CorrectedPost) (e : Entry) : Type 0 where
  pub not_held : is_kind kind.Payment e.kind ≡ true → e.segment ≡ 1 → ⊥
  pub below : is_kind kind.Payment e.kind ≡ true → 1 ≤ size e.cents
  pub credit : is_kind kind.Credit e.kind ≡ true → All (λ p. p.number ≡ e.post → is_credit p.post ≡ true) posts

-- Each entry is of its post; and those of each payment ascend by segment, and are together at most 10^9 cents
pub record AreReached (posts : List CorrectedPost) (entries : List Entry) : Type 0 where
  pub each : All (IsOfItsPost posts) entries
  pub rise : (n : ℕ) → Rise 0 (filter (is_part_of n) entries)
  pub few : (n : ℕ) → sizes (filter (is_part_of n) entries) ≤ 1000000000

-- after each front of the posts of a day
abbrev pub PaymentsReach : Type 0
PaymentsReach =
    (history : List Kept) (issued : List IssuedRow) (shared : SharedRows) (n : ℕ) → All HasFewCents history → All HasFewFees shared.fees
    → (done rest : List CorrectedPost) → posts_on (seen_on (anchor_of history) shared history issued ((anchor_of history).opened + n)) ≡ done ++ rest
    → AreReached (corrected (anchor_of history) shared.holidays history) (book_amid history issued shared n done).entries
