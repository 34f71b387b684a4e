use Rattle.std.proofs.Common.{◌≡◌, length, take}
use Rattle.std.specs.Option.{option_or}
use Rattle.card_events.specs.Keys.{with_key}
use Rattle.card_keys.specs.Buckets.{IsWalked, bucket}
use Rattle.card_keys.proofs.index.find.Given as goal

abbrev pub invariant-loop-number : goal.invariant-loop-number
invariant-loop-number l = IsWalked (bucket (length l.index.heads)) l.history l.key l.number × (option_or (with_key l.key (take l.number l.history)) l.found ≡ with_key l.key l.history)

abbrev pub decreases-loop-number : goal.decreases-loop-number
decreases-loop-number l = l.number
