-- What the regulation asks of fees, rate increases and disputed amounts, as laws on the book of every day, for all lists of
-- posts. Days are day numbers, amounts cents.
use Rattle.std.specs.Prelude.{ℕ, ◌+◌, ◌≡◌, ◌≤◌, ◌<◌, ◌==◌, not, true, List}
use Rattle.std.specs.List.{All, Contains, count_by, filter}
use Rattle.card_events.specs.History.{CorrectedPost, anchor_of, corrected}
use Rattle.card_events.specs.SharedRows.{SharedRows}
use Rattle.card_events.specs.declared.kept.Kept.{Kept}
use Rattle.card_events.specs.declared.post.Category.{Category}
use Rattle.card_events.specs.declared.post.Place.{Place}
use Rattle.card_events.specs.declared.post.Post.TheVariants as post
use Rattle.card_bounds.specs.Places.{segments_by}
use Rattle.card_model.specs.Books.{Book, account_of}
use Rattle.card_model.specs.Cycles.{IssuedRow, seen_on}
use Rattle.card_model.specs.Entries.{is_kind}
use Rattle.card_model.specs.Fees.{fee_cents, fees_sum, last_due}
use Rattle.card_model.specs.Folds.{book}
use Rattle.card_model.specs.Laws.{total}
use Rattle.card_model.specs.Payments.{asked}
use Rattle.card_model.specs.Rates.{index_for, lowerings, rate_on, starts}
use Rattle.card_model.specs.Segments.{SegmentTerms, segment_at}
use Rattle.card_model.specs.declared.entry.Entry.{Entry}
use Rattle.card_model.specs.declared.entry.EntryKind.TheVariants as kind

-- ---- penalty fees (12 CFR 1026.52(b)(2))
-- the minimum payment that was due immediately before a day: that of the last due date before it, 0 where there is none
abbrev pub minimum_due_before : List IssuedRow → Book → ℕ → ℕ
minimum_due_before issued b day = asked issued (last_due day b.cycles)

-- No penalty fee exceeds the minimum payment due immediately before it was charged; no due date has two; and the entries
-- of fees sum up to these fees and no more
pub record FeesAreReasonable (issued : List IssuedRow) (b : Book) : Type 0 where
  pub amount : All (λ f. fee_cents f ≤ minimum_due_before issued b f.day) b.fees
  pub single : (due_cycle : ℕ) → count_by (λ f. f.due_cycle == due_cycle) b.fees ≤ 1
  pub entered : total kind.Fee b.entries ≡ fees_sum b.fees

-- in the book of every day
abbrev pub PenaltyFeesAreReasonable : Type 0
PenaltyFeesAreReasonable =
    (history : List Kept) (issued : List IssuedRow) (shared : SharedRows) (day : ℕ) → FeesAreReasonable issued (book history issued shared day)

-- ---- rate increases (12 CFR 1026.55(b)(3))
-- the segments without the one of a number
abbrev pub without : ℕ → List SegmentTerms → List SegmentTerms
without id all = filter (λ g. not (g.id == id)) all

-- the rate of one of these segments on a day, where penalties are those of a book
abbrev pub rate_among : List SegmentTerms → List Kept → List IssuedRow → SharedRows → ℕ → Book → ℕ → SegmentTerms → ℕ
rate_among segments history issued shared on b day g =
    let index = index_for (account_of history).variable (seen_on (anchor_of history) shared history issued on).index day in
    rate_on index (lowerings (seen_on (anchor_of history) shared history issued on).posts) (account_of history).terms.penalty (starts day b.penalties) segments day g

-- What a notice given on a day leaves alone. No charge of the first 14 days after it is owed on the vintage that it adds,
-- which bears the increased rate; such a charge goes where it would go without the notice; and every older vintage bears on
-- every day the rate that it would bear without the notice
pub record KeepsEarlierRates (history : List Kept) (issued : List IssuedRow) (shared : SharedRows) (vintage given : ℕ) : Type 0 where
  pub charges :
      (day : ℕ) → All (λ e. is_kind kind.Charge e.kind ≡ true → e.segment ≡ vintage → given + 15 ≤ e.day) (book history issued shared day).entries
  pub places :
      (on day : ℕ) (place : Place) → day ≤ given + 14
      → segment_at place day (segments_by history issued shared on) ≡ segment_at place day (without vintage (segments_by history issued shared on))
  pub rates :
      (on day : ℕ) (b : Book) (g : SegmentTerms) → g.id < vintage
      → rate_among (segments_by history issued shared on) history issued shared on b day g
      ≡ rate_among (without vintage (segments_by history issued shared on)) history issued shared on b day g

-- so does every notice of an account
abbrev pub NoticesKeepEarlierRates : Type 0
NoticesKeepEarlierRates =
    (history : List Kept) (issued : List IssuedRow) (shared : SharedRows) (p : CorrectedPost) (given rate effective : ℕ) (c : Category)
    → Contains (corrected (anchor_of history) shared.holidays history) p → p.post ≡ post.Notice given c rate effective
    → KeepsEarlierRates history issued shared p.segment given

-- ---- disputed amounts: not collected (12 CFR 1026.13(d)(1)), and no payment goes to them (commentary to 12 CFR 1026.53)
-- an entry on Held only sets an amount aside or brings it back: no payment, no credit, no fee and no interest is on it
abbrev pub LeavesHeldAlone : Entry → Type 0
LeavesHeldAlone e = e.segment ≡ 1 → is_kind kind.Hold e.kind ≡ true

-- in the book of every day
abbrev pub DisputedAmountsAreLeftAlone : Type 0
DisputedAmountsAreLeftAlone =
    (history : List Kept) (issued : List IssuedRow) (shared : SharedRows) (day : ℕ) → All LeavesHeldAlone (book history issued shared day).entries
