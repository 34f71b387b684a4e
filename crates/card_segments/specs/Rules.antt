-- How the code names the tests and orders of the rules, and the rules.
use Rattle.std.specs.Prelude.{◌≡◌, ℕ, ◌<◌, Bool, List, Option, Some, None, length, slice_index_or}
use Rattle.card_model.specs.Allocation.{all_pass, best, excess_rule, higher_rate, is_last_two, lower_rate, minimum_rule, never, place_rule, sooner_end}
use Rattle.card_model.specs.declared.holding.Holding.{Holding}
use Rattle.card_segments.specs.declared.choice.Choice.{Choice}
use Rattle.card_segments.specs.declared.choice.Choice.TheVariants as choice
use Rattle.card_segments.specs.declared.rule.Rule.{Rule}
use Rattle.card_segments.specs.declared.rule.Rule.TheVariants as rule

-- which holdings a choice is among
abbrev pub passes : Choice → Holding → Bool
passes choice.LowerRate h = all_pass h
passes choice.HigherRate h = all_pass h
passes choice.SoonerEnd h = is_last_two h
passes choice.OfPlace h = h.of_place

-- which of two it prefers
abbrev pub is_before : Choice → Holding → Holding → Bool
is_before choice.LowerRate g h = lower_rate g h
is_before choice.HigherRate g h = higher_rate g h
is_before choice.SoonerEnd g h = sooner_end g h
is_before choice.OfPlace g h = never g h

-- the holding chosen
abbrev pub chosen : Choice → List Holding → Option Holding
chosen c hs = best (passes c) (is_before c) hs

-- the rule of the next cent
abbrev pub rule_of : Rule → List Holding → Option Holding
rule_of rule.Minimum hs = minimum_rule hs
rule_of rule.Excess hs = excess_rule hs
rule_of rule.Place hs = place_rule hs

-- the place answered is that of a holding
abbrev pub IsPlaceOf : List Holding → Option Holding → Option ℕ → Type 0
IsPlaceOf hs holding None = holding ≡ None
IsPlaceOf hs holding (Some i) = (i < length hs) × ((d : Holding) → holding ≡ Some (slice_index_or hs i d))
