use Rattle.std.proofs.Common.{refl}
use Rattle.card_model.specs.Everything.{everything}
use Rattle.card_examples.proofs.allocation.Goals as goal

pub returns : goal.returns
unfolding everything
returns c =
    record {
      payment = refl;
      deferred = refl;
      deferred_before = refl;
      soonest = refl;
      above = refl;
      merchant = refl;
      after_issue = refl;
      on_issue = refl;
      third_last = refl;
      second_last = refl;
    }
