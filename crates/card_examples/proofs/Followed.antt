-- Rates that follow the index, computed.
use Rattle.std.proofs.Common.{refl}
use Rattle.card_model.specs.Everything.{everything}
use Rattle.card_examples.specs.Variable.{IndexRefusalsAreWorked, VariableRatesAreWorked}

pub rates : VariableRatesAreWorked
unfolding everything
rates =
    record {
      cash = refl;
      purchase = refl;
      owed = refl;
      in_order = refl;
      owed_in_order = refl;
      capped = refl;
      just_capped = refl;
      lowered = refl;
      notice = refl;
      protected = refl;
      penalty = refl;
      plan = refl;
      breaks = refl;
    }

pub refusals : IndexRefusalsAreWorked
unfolding everything
refusals =
    record {
      rate = refl;
      rate_first = refl;
      past = refl;
      terms = refl;
      margin = refl;
      ahead = refl;
      no_index = refl;
      index_first = refl;
      account_exists = refl;
      key_reused = refl;
      fixed = refl;
      variable = refl;
    }
