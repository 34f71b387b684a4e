-- What the parts of payments and merchants' credits bring to the rows of the cycle (12 CFR 1026.54(a)(1)).
use Rattle.std.specs.Prelude.{ℕ, ◌≡◌, ◌≤◌, Bool, true, ◌&&◌, ◌||◌, not, map, List, ◌++◌}
use Rattle.card_closing.specs.BookRows.{brought}
use Rattle.card_closing.specs.Growth.{with_repaid}
use Rattle.card_closing.specs.Rows.{Rows}
use Rattle.card_model.specs.Effects.{parts_entries}
use Rattle.card_model.specs.Entries.{is_kind}
use Rattle.card_model.specs.Interest.{repays}
use Rattle.card_model.specs.Segments.{SegmentTerms}
use Rattle.card_model.specs.declared.entry.Entry.{Entry}
use Rattle.card_model.specs.declared.entry.EntryKind.{EntryKind}
use Rattle.card_model.specs.declared.entry.EntryKind.TheVariants as kind
use Rattle.card_model.specs.declared.entry.Note.{Note}
use Rattle.card_rates.specs.RateBooks.{AreByNumber}

-- the rows of segments, with what entries have brought to each from a day on
abbrev pub repaid_rows : (ℕ → Bool) → ℕ → (SegmentTerms → Rows) → List SegmentTerms → List Entry → List Rows
repaid_rows returned first rows gs entries = map (λ g. with_repaid (brought returned g.id first entries) (rows g)) gs

-- rows that held what some entries brought to the segments from number 2 on, and hold what the parts' entries bring besides
abbrev pub AreRepaid : ℕ → ℕ → List (ℕ × ℕ) → List Rows → List Rows → Type 0
AreRepaid day post parts old new =
    (k : EntryKind) (returned : ℕ → Bool) (gs : List SegmentTerms) (rows : SegmentTerms → Rows) (first : ℕ) (entries : List Entry) → AreByNumber 2 gs → first ≤ day
    → repays returned k post ≡ true
    → old ≡ repaid_rows returned first rows gs entries
    → new ≡ repaid_rows returned first rows gs (entries ++ parts_entries (record { day = day; kind = k; post = post }) parts)
