-- Laws on penalty fees and payments (12 CFR 1026.5(b)(2)(ii), .52(b)).
use Rattle.std.specs.Prelude.{ℕ, ◌+◌, ◌==◌, ◌≡◌, ◌≤◌, false, List, [], ◌∷◌, ◌++◌, Option, Some}
use Rattle.std.specs.List.{count_by}
use Rattle.card_events.specs.History.{CorrectedPost}
use Rattle.card_events.specs.SharedRows.{FeeRow, SharedRows}
use Rattle.card_events.specs.declared.kept.Kept.{Kept}
use Rattle.card_model.specs.Cycles.{Cycle, IssuedRow, Seen}
use Rattle.card_model.specs.Fees.{fee_by, fee_cents, last_due}
use Rattle.card_model.specs.Folds.{book}
use Rattle.card_model.specs.Payments.{asked, counted, met}
use Rattle.card_model.specs.declared.fee.Cause.{Cause}
use Rattle.card_model.specs.declared.fee.Fee.{Fee}
use Rattle.card_fees.specs.Due.{seen_of}

-- a fee is at most the minimum payment of its due date, and at most that of the last due date before its day
abbrev pub FeesAreWithin : Type 0
FeesAreWithin =
    (row : Option FeeRow) (fees : List Fee) (c : Cause) (minimum last : ℕ) (f : Fee) → fee_by row fees c minimum last ≡ Some f
    → (fee_cents f ≤ minimum) × (fee_cents f ≤ last)

-- no due date has two fees
abbrev pub AreOneEach : List Fee → Type 0
AreOneEach fees = (due_cycle : ℕ) → count_by (λ f. f.due_cycle == due_cycle) fees ≤ 1

-- where no due date has two fees, none has two with one more
abbrev pub FeesStayOneEach : Type 0
FeesStayOneEach =
    (row : Option FeeRow) (fees : List Fee) (c : Cause) (minimum last : ℕ) (f : Fee) → AreOneEach fees → fee_by row fees c minimum last ≡ Some f
    → AreOneEach (fees ++ f ∷ [])

-- in the book of every day no due date has two fees
abbrev pub DueDatesHaveOneFee : Type 0
DueDatesHaveOneFee = (history : List Kept) (issued : List IssuedRow) (shared : SharedRows) (day : ℕ) → AreOneEach (book history issued shared day).fees

-- the last due date before the day after a missed due date is that one, so its late fee needs no other minimum payment
abbrev pub MissedAsksLast : Type 0
MissedAsksLast =
    (seen : Seen) (before : List Cycle) (c : Cycle) → seen.day ≡ c.due + 1 → met seen c ≡ false → asked seen.issued (last_due seen.day (before ++ c ∷ [])) ≡ c.minimum

-- payments up to a day are counted alike in the whole corrected list and in what the fold of the day sees of it
abbrev pub CountedInThePast : Type 0
CountedInThePast = (day : ℕ) (posts : List CorrectedPost) (from to : ℕ) → to ≤ day → counted (seen_of day posts) from to ≡ counted posts from to
