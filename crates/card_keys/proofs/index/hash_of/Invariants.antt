use Rattle.std.proofs.Common.{◌≡◌, ◌<◌, take}
use Rattle.std.specs.List.{fold}
use Rattle.card_keys.specs.Buckets.{hash_step}
use Rattle.card_keys.proofs.index.hash_of.Given as goal

abbrev pub invariant-loop-byte : goal.invariant-loop-byte
invariant-loop-byte l = (l.hash ≡ fold hash_step 0 (take l.byte-index l.key)) × (l.hash < 4_294_967_296)
