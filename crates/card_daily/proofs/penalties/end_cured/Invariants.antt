use Rattle.std.proofs.Common.{◌≡◌}
use Rattle.card_model.specs.DueDates.{cured_by}
use Rattle.card_rates.specs.RateBooks.{with_penalties}
use Rattle.card_daily.proofs.Penalized.{done-to}
use Rattle.card_daily.specs.Given.{seen_in}
use Rattle.card_daily.proofs.penalties.end_cured.Given as goal

abbrev pub invariant-loop-which : goal.invariant-loop-which
invariant-loop-which l = l.rates ≡ with_penalties (done-to (cured_by (seen_in l.inputs l.day) l.cycles l.due) l.which l.fn.rates.penalties) l.fn.rates
