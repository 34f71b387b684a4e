use Rattle.std.proofs.Common.{refl}
use Rattle.card_model.specs.Everything.{everything}
use Rattle.card_examples.proofs.interest.Goals as goal

pub returns : goal.returns
unfolding everything
returns c =
    record {
      purchase_rate = refl;
      cash_rate = refl;
      hundredth = refl;
      greatest = refl;
      month = refl;
      half = refl;
      less = refl;
      days27 = refl;
      advance = refl;
      advance_owed = refl;
    }
