use Rattle.std.proofs.Common.{refl}
use Rattle.card_model.specs.Everything.{everything}
use Rattle.card_examples.proofs.caps.Goals as goal

pub returns : goal.returns
unfolding everything
returns c =
    record {
      at_issue = refl;
      interest_stays = refl;
      raised_owed = refl;
      minimum_stays = refl;
      grace_stays = refl;
      interest_falls = refl;
      lowered_owed = refl;
      back = refl;
      minimum_back = refl;
      no_late_fee = refl;
      interest_of_both = refl;
      never_paid_owed = refl;
    }
