-- A law on what is held, for the lists that a desk accepts.
use Rattle.std.specs.Prelude.{ℕ, ◌+◌, ◌≡◌, true, List, ◌∷◌, ◌++◌, pos, ◌≤ℤ◌}
use Rattle.card_bounds.specs.Bounds.{IsOrderly, book_amid}
use Rattle.card_events.specs.History.{CorrectedPost, anchor_of}
use Rattle.card_events.specs.SharedRows.{SharedRows}
use Rattle.card_events.specs.declared.kept.Kept.{Kept}
use Rattle.card_model.specs.Cycles.{IssuedRow, posts_on, seen_on}
use Rattle.card_model.specs.Deadlines.{resolves}
use Rattle.card_model.specs.Effects.{moved_by}
use Rattle.card_model.specs.Entries.{balance}

-- before each Resolve of a day Held has at least what the Dispute that it names moved
abbrev pub HeldCoversReleases : Type 0
HeldCoversReleases =
    (history : List Kept) (issued : List IssuedRow) (shared : SharedRows) (n : ℕ) → IsOrderly history shared
    → (done rest : List CorrectedPost) (p : CorrectedPost) (dispute : ℕ) → posts_on (seen_on (anchor_of history) shared history issued ((anchor_of history).opened + n)) ≡ done ++ p ∷ rest
    → resolves dispute p.post ≡ true
    → pos (moved_by dispute (book_amid history issued shared n done).entries) ≤ℤ balance 1 (book_amid history issued shared n done).entries
