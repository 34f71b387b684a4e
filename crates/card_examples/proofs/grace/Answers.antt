use Rattle.std.proofs.Common.{refl}
use Rattle.card_model.specs.Everything.{everything}
use Rattle.card_examples.proofs.grace.Goals as goal

pub returns : goal.returns
unfolding everything
returns c =
    record {
      amount = refl;
      first_cycle = refl;
      kept = refl;
      one_cent = refl;
      half = refl;
      half_owed = refl;
      lost = refl;
      again = refl;
    }
