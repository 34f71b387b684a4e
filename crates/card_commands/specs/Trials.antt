-- A run with a trial balance behind it.
use Rattle.std.specs.Prelude.{Bool, true, false}
use Rattle.card_commands.specs.declared.ended.Ended.{Ended}
use Rattle.card_commands.specs.declared.ended.Ended.TheVariants as ended

-- the input was read to its end, and all of its items were handled
abbrev pub is_at_end : Ended → Bool
is_at_end ended.Done = true
is_at_end ended.Refused = true
is_at_end _ = false
