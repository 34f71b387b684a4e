use Rattle.card_model.proofs.Posted.{are_balances-posted}
use Rattle.card_segments.proofs.Sums.{sums-start, sums-segment}
use Rattle.card_segments.proofs.laws.balances_are_sums.Goals as goal

pub returns-clause-start : goal.returns-clause-start
returns-clause-start c = sums-start

pub returns-clause-after_entries : goal.returns-clause-after_entries
returns-clause-after_entries c entries more balances a h = are_balances-posted entries more balances h a

pub returns-clause-after_segment : goal.returns-clause-after_segment
returns-clause-after_segment c = sums-segment
