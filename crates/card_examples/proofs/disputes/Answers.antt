use Rattle.std.proofs.Common.{refl}
use Rattle.card_model.specs.Everything.{everything}
use Rattle.card_examples.proofs.disputes.Goals as goal

pub returns : goal.returns
unfolding everything
returns c =
    record {
      held = refl;
      held_owed = refl;
      claimed = refl;
      apart = refl;
      all_confirmed = refl;
      moved = refl;
      back = refl;
      nothing_held = refl;
      interest = refl;
      some_confirmed = refl;
    }
