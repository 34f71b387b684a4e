use Rattle.std.proofs.Common.{◌≡◌, drop}
use Rattle.std.specs.List.{list_all}
use Rattle.card_model.specs.DueDates.{due_after_day}
use Rattle.card_model.specs.Payments.{met}
use Rattle.card_daily.specs.Given.{seen_in}
use Rattle.card_daily.proofs.penalties.are_met.Given as goal

abbrev pub invariant-loop-cycle : goal.invariant-loop-cycle
invariant-loop-cycle l =
    list_all (met (seen_in l.inputs l.day)) (due_after_day l.begins l.cycles) ≡ list_all (met (seen_in l.inputs l.day)) (due_after_day l.begins (drop l.cycle-index l.cycles))
