use Rattle.std.proofs.Common.{refl}
use Rattle.card_model.specs.Everything.{everything}
use Rattle.card_examples.proofs.statements.Goals as goal

pub returns : goal.returns
unfolding everything
returns c =
    record {
      in_time = refl;
      in_time_interest = refl;
      too_late = refl;
      too_late_interest = refl;
      closed = refl;
      limit = refl;
      at_limit = refl;
      above_limit = refl;
      breaks = refl;
      steps = refl;
    }
