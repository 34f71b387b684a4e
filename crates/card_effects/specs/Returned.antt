-- The parts of a payment that was returned, as its entries tell them.
use Rattle.std.specs.Prelude.{ℕ, ◌==◌, ◌≡◌, ◌≤◌, false, List, Option, Some, pos, ◌≤ℤ◌}
use Rattle.std.specs.List.{All, Contains, filter}
use Rattle.card_segments.specs.Parts.{Ascend, AreOnSegments, parts_in, parts_sum}
use Rattle.card_model.specs.Effects.{is_part_of}
use Rattle.card_model.specs.Limits.{balance_limit}
use Rattle.card_model.specs.Segments.{SegmentTerms}
use Rattle.card_model.specs.declared.entry.Entry.{Entry}
use Rattle.card_model.specs.declared.fee.Fee.{Fee}
use Rattle.card_rates.specs.RateBooks.{Rates}
use Rattle.card_effects.specs.Standing.{is_added}

-- the parts of a payment among entries
abbrev pub parts_of : ℕ → List Entry → List (ℕ × ℕ)
parts_of payment entries = parts_in (filter (is_part_of payment) entries)

-- They can be put back on n segments: each segment once, ascending; none of Held; and together at most 10^15 cents
pub record AreReturnable (n : ℕ) (parts : List (ℕ × ℕ)) : Type 0 where
  pub ascending : Ascend 0 parts
  pub on_segments : AreOnSegments n parts
  pub limit : parts_sum parts ≤ balance_limit

-- no entry is of a segment that is still to come on a day
abbrev pub AreOfThose : ℕ → Rates → List Entry → Type 0
AreOfThose day rated entries = (g : SegmentTerms) → Contains rated.segments g → is_added day g ≡ false → All (λ e. (e.segment == g.id) ≡ false) entries

-- a fee of 0 to 10^15 cents, where there is one
abbrev pub IsChargeable : Option Fee → Type 0
IsChargeable charged = (f : Fee) → charged ≡ Some f → (pos 0 ≤ℤ f.cents) × (f.cents ≤ℤ pos balance_limit)
