use Rattle.std.proofs.Common.{refl}
use Rattle.card_model.specs.Everything.{everything}
use Rattle.card_model.specs.Sheets.{deferred_lines, gathered, had_balance, moves_of, rate_lines, sheet_in, sheet_of, year_sum}
use Rattle.card_examples.proofs.sheets.Goals as goal

pub returns : goal.returns
unfolding everything sheet_of sheet_in gathered moves_of year_sum had_balance rate_lines deferred_lines
returns c = record { issued = refl; corrected = refl; plans = refl }
