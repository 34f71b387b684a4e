-- How many entries a book has.
use Rattle.std.specs.Prelude.{ℕ, ◌+◌, ◌-◌, ◌*◌, ◌≡◌, ◌≤◌, nat_lt, length, List, ◌++◌}
use Rattle.std.specs.List.{filter}
use Rattle.card_bounds.specs.Bounds.{book_amid}
use Rattle.card_bounds.specs.Places.{book_before}
use Rattle.card_events.specs.History.{CorrectedPost, anchor_of, folded}
use Rattle.card_events.specs.SharedRows.{SharedRows}
use Rattle.card_events.specs.declared.kept.Kept.{Kept}
use Rattle.card_model.specs.Accepted.{HasFewSegments}
use Rattle.card_model.specs.Cycles.{Cycle, IssuedRow, posts_on, seen_on}
use Rattle.card_model.specs.Folds.{book}

-- the posts that are folded on the days before one
abbrev pub posts_before : List Kept → SharedRows → ℕ → List CorrectedPost
posts_before history shared day = filter (λ p. nat_lt p.day day) (folded (anchor_of history) shared.holidays history)

-- 64 for each post and for each closed cycle. The late fee for a cycle's due date is counted with its closing
abbrev pub most_entries : ℕ → List Cycle → ℕ
most_entries posts cycles = 64 * (posts + length cycles)

-- An account of at most 64 segments has at most 64 entries for each post that was folded and for each closed cycle: in the
-- book of every day, before a day, and after its due date and a front of its posts. So it has at most 64 for each of its
-- posts and for each day since the opening. A payment reaches Credit and 62 segments; what it brought is put back by a
-- debit each, and a debit has two entries only where it uses up a credit balance, which no debit makes
pub record EntriesAreFew : Type 0 where
  pub days :
      (history : List Kept) (issued : List IssuedRow) (shared : SharedRows) (day : ℕ) → HasFewSegments history
      → length (book history issued shared day).entries ≤ most_entries (length (posts_before history shared (day + 1))) (book history issued shared day).cycles
  pub before :
      (history : List Kept) (issued : List IssuedRow) (shared : SharedRows) (n : ℕ) → HasFewSegments history
      → length (book_before history issued shared n).entries ≤ most_entries (length (posts_before history shared ((anchor_of history).opened + n))) (book_before history issued shared n).cycles
  pub posts :
      (history : List Kept) (issued : List IssuedRow) (shared : SharedRows) (n : ℕ) → HasFewSegments history
      → (done rest : List CorrectedPost) → posts_on (seen_on (anchor_of history) shared history issued ((anchor_of history).opened + n)) ≡ done ++ rest
      → length (book_amid history issued shared n done).entries
      ≤ most_entries (length (posts_before history shared ((anchor_of history).opened + n)) + length done) (book_before history issued shared n).cycles
  pub lists :
      (history : List Kept) (issued : List IssuedRow) (shared : SharedRows) (day : ℕ) → HasFewSegments history
      → length (book history issued shared day).entries ≤ 64 * (length history + (day + 1 - (anchor_of history).opened))
