-- Where no reason is the first, none stands.
use Rattle.std.proofs.Common.{◌≡◌, Bool, true, false, List, [], ◌∷◌, refl, Option, Some, None}
use Rattle.std.specs.Option.{option_or}
use Rattle.card_events.specs.declared.reply.Refusal.{Refusal}
use Rattle.card_model.proofs.Accepting.{AllNone, all-none, first-none, where-false}
use Rattle.card_model.specs.Refusals.{first_reason, where_true}

-- what comes first is none where nothing comes
pub none-first : (r o : Option Refusal) → option_or r o ≡ None → r ≡ None
none-first None o h = refl
none-first (Some x) o h = cc
