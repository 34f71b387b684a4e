-- The parts of a payment, each a segment and its cents, and what takes them and puts them back.
use Rattle.std.specs.Prelude.{ℕ, ◌+◌, ◌≤◌, ◌<◌, ◌≡◌, ◌==◌, if◌then◌else◌, List, [], ◌∷◌, ◌++◌, length, ℤ, pos, ◌≤ℤ◌, slice_index_or}
use Rattle.std.specs.List.{All}
use Rattle.card_model.specs.Effects.{size}
use Rattle.card_model.specs.Entries.{credit_in, debit, posted}
use Rattle.card_model.specs.declared.entry.Entry.{Entry}
use Rattle.card_model.specs.declared.entry.Note.{Note}

-- the cents of parts
abbrev pub parts_sum : List (ℕ × ℕ) → ℕ
parts_sum [] = 0
parts_sum (p ∷ ps) = p.1 + parts_sum ps

-- a part of so many cents, none where they are 0
abbrev pub part : ℕ → ℕ → List (ℕ × ℕ)
part id cents = if cents == 0 then [] else (id, cents) ∷ []

-- the parts that entries tell
abbrev pub parts_in : List Entry → List (ℕ × ℕ)
parts_in [] = []
parts_in (e ∷ es) = (e.segment, size e.cents) ∷ parts_in es

-- each segment once, ascending from a number on
abbrev pub Ascend : ℕ → List (ℕ × ℕ) → Type 0
Ascend low [] = Unit {0}
Ascend low (p ∷ ps) = (low ≤ p.0) × Ascend (p.0 + 1) ps

-- a part of one of the first n segments, and not of Held
abbrev pub IsOnSegment : ℕ → ℕ × ℕ → Type 0
IsOnSegment n p = (p.0 ≡ 1 → ⊥) × (p.0 < n)

-- each part is of such a segment
abbrev pub AreOnSegments : ℕ → List (ℕ × ℕ) → Type 0
AreOnSegments n parts = All (IsOnSegment n) parts

-- each part of a segment other than Credit is at most its balance
abbrev pub AreCovered : List ℤ → List (ℕ × ℕ) → Type 0
AreCovered balances parts = All (λ p. 1 ≤ p.0 → pos p.1 ≤ℤ slice_index_or balances p.0 (pos 0)) parts

-- Parts of so many cents: each segment once, ascending; none of Held; and none above its segment's balance, Credit's apart
pub record AreParts (balances : List ℤ) (cents : ℕ) (parts : List (ℕ × ℕ)) : Type 0 where
  pub ascending : Ascend 0 parts
  pub sum : parts_sum parts ≡ cents
  pub covered : AreCovered balances parts
  pub on_segments : AreOnSegments (length balances) parts

-- the segment that a part is put back on: its own, and for Credit's the newest Purchase vintage
abbrev pub segment_back : ℕ → ℕ → ℕ
segment_back newest s = if s == 0 then newest else s

-- the entries that put parts back on balances: each part is debited in turn
unfoldable pub back_entries : Note → ℕ → List (ℕ × ℕ) → List ℤ → List Entry
back_entries note newest [] balances = []
back_entries note newest (p ∷ ps) balances =
    let entries = debit note (segment_back newest p.0) p.1 (credit_in balances) in
    entries ++ back_entries note newest ps (posted entries balances)

-- where Credit isn't 0, no segment but Held is above 0
abbrev pub AreSettled : List ℤ → Type 0
AreSettled balances = (1 ≤ credit_in balances) → (s : ℕ) → 2 ≤ s → slice_index_or balances s (pos 0) ≤ℤ pos 0
