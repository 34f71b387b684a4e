-- The rows and repayments that the book of a day gives a segment in the cycle that the day lies in.
use Rattle.std.specs.Prelude.{ℕ, ◌≡◌, ◌≤◌, true, ◌&&◌, ◌||◌, nat_le, ◌==◌, Bool, map, List, pos, ◌≤ℤ◌, ◌⊎◌, if◌then◌else◌}
use Rattle.std.specs.List.{All, filter}
use Rattle.card_closing.specs.Rows.{DayRow, Rows, row_of}
use Rattle.card_closing.specs.declared.rows.Repayment.{Repayment}
use Rattle.card_model.specs.Books.{Account, Book, rate_in}
use Rattle.card_model.specs.Cycles.{Seen}
use Rattle.card_model.specs.Effects.{size}
use Rattle.card_model.specs.Entries.{is_kind}
use Rattle.card_model.specs.Interest.{case_of, days_from, repays, row}
use Rattle.card_model.specs.Payments.{is_returned}
use Rattle.card_model.specs.Segments.{SegmentTerms}
use Rattle.card_model.specs.declared.entry.Entry.{Entry}
use Rattle.card_model.specs.declared.entry.EntryKind.TheVariants as kind
use Rattle.card_model.specs.declared.grace.GraceCase.{GraceCase}

-- the rate of a day without a balance doesn't matter, and is kept as 0
abbrev pub rate_of : ℕ → ℕ → ℕ
rate_of balance rate = if balance == 0 then 0 else rate

-- a segment's row of a day
abbrev pub day_row : Account → Seen → Book → SegmentTerms → ℕ → DayRow
day_row a seen b g day = row_of (row b.entries g.id day) (rate_of (row b.entries g.id day) (rate_in a seen b day g)) day

-- an entry that repaid a segment, from a day on
abbrev pub is_brought : (ℕ → Bool) → ℕ → ℕ → Entry → Bool
is_brought returned s first e = (e.segment == s) && repays returned e.kind e.post && nat_le first e.day

-- what it brought
abbrev pub repayment_of : Entry → Repayment
repayment_of e = record { day = e.day; cents = size e.cents; post = e.post }

-- what was repaid from a day on
unfoldable pub brought : (ℕ → Bool) → ℕ → ℕ → List Entry → List Repayment
brought returned s first entries = map repayment_of (filter (is_brought returned s first) entries)

-- what was repaid, without payments returned by today
abbrev pub repayments : Seen → ℕ → ℕ → List Entry → List Repayment
repayments seen s first entries = brought (is_returned seen.posts seen.day) s first entries

-- the rows of a segment in the cycle that began on a day, up to today
unfoldable pub rows_of : Account → Seen → Book → ℕ → SegmentTerms → Rows
rows_of a seen b first g =
    record { first = first; days = map (day_row a seen b g) (days_from seen first); repaid = repayments seen g.id first b.entries }

-- ---- what a book's entries are like
-- payments and credits lower what is owed
abbrev pub AreLowering : List Entry → Type 0
AreLowering entries = All (λ e. (is_kind kind.Credit e.kind || is_kind kind.Payment e.kind) ≡ true → e.cents ≤ℤ pos 0) entries

-- on each day of the cycle a segment bears interest as it does today, or has no balance
abbrev pub HasOneCase : Seen → Book → GraceCase → ℕ → SegmentTerms → Type 0
HasOneCase seen b purchase first g =
    (day : ℕ) → first ≤ day → day ≤ seen.day → (case_of purchase day g ≡ case_of purchase seen.day g) ⊎ (row b.entries g.id day ≡ 0)
