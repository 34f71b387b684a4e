use Rattle.std.proofs.Common.{refl}
use Rattle.card_events.specs.Civil.{day_at, days_before_year, days_of_months}
use Rattle.card_demo.specs.Generator.{drawn, stepped}
use Rattle.card_demo.specs.Requests.{account_cycle, accounts_cycle, all_pieces, amend, beginning, bill, charge, charges, cycle, cycles, opening, openings, payment, twentieth}
use Rattle.card_demo.proofs.laws.worked_requests.Goals as goal

pub returns : goal.returns
unfolding all_pieces beginning openings opening cycles cycle accounts_cycle account_cycle bill charges charge payment amend twentieth stepped drawn day_at days_before_year days_of_months
returns c = refl
