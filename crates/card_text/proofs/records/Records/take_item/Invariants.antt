use Rattle.std.proofs.Common.{◌≡◌, ◌+◌, ◌<◌, ◌^◌, length}
use Rattle.card_text.specs.Import.{items_of}
use Rattle.card_text.proofs.records.Records.take_item.Given as goal

-- what is left stays; only a good header is taken
abbrev pub invariant-loop-fields : goal.invariant-loop-fields
invariant-loop-fields l = (items_of (l.self-inside.number + 1) l.self-inside.records ≡ l.fn.self) × (l.self-inside.number + length l.self-inside.records < 2 ^ 64)

abbrev pub decreases-loop-fields : goal.decreases-loop-fields
decreases-loop-fields l = length l.self-inside.records
