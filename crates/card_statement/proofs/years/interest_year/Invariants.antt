use Rattle.std.proofs.Common.{◌≡◌, ◌≤◌, ◌*◌, ◌^◌, take}
use Rattle.card_model.specs.Cycles.{amounts_sum}
use Rattle.card_model.specs.Sheets.{year_sum}
use Rattle.card_statement.proofs.years.interest_year.Given as goal

abbrev pub invariant-loop-i : goal.invariant-loop-i
invariant-loop-i l = (l.sum ≡ year_sum (λ d. amounts_sum d.interest) l.closing (take l.i l.cycles)) × (l.sum ≤ l.i * 10 ^ 17)
