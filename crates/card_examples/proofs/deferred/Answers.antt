use Rattle.std.proofs.Common.{refl}
use Rattle.card_model.specs.Everything.{everything}
use Rattle.card_examples.proofs.deferred.Goals as goal

pub returns : goal.returns
unfolding everything
returns c =
    record {
      accrued = refl;
      one_cent = refl;
      one_cent_owed = refl;
      dropped = refl;
      dropped_owed = refl;
      unpaid_interest = refl;
      unpaid_grace = refl;
    }
