use Rattle.std.proofs.Common.{◌≡◌, take}
use Rattle.card_model.specs.Effects.{is_held_by}
use Rattle.card_model.specs.Entries.{sum_of}
use Rattle.card_effects.proofs.resolves.held_sum.Given as goal

abbrev pub invariant-loop-entry : goal.invariant-loop-entry
invariant-loop-entry l = l.sum ≡ sum_of (is_held_by l.post) (take l.entry-index l.entries)
