use Rattle.card_rates.proofs.Dates as dates
use Rattle.card_rates.proofs.slot_laws.runs_keep_dates.Goals as goal

pub returns : goal.returns
returns c = dates.runs_keep_dates
