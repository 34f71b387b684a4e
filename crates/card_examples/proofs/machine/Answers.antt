use Rattle.std.proofs.Common.{refl}
use Rattle.card_model.specs.Everything.{everything}
use Rattle.card_examples.proofs.machine.Goals as goal

pub returns : goal.returns
unfolding everything
returns c =
    record {
      replies_of_first = refl;
      owed_of_first = refl;
      repeated = refl;
      reused = refl;
      kept = refl;
      import = refl;
      import_again = refl;
      import_changed = refl;
      import_entries = refl;
      credit = refl;
      credit_used = refl;
      credit_refunded = refl;
      after_17 = refl;
      next_day = refl;
    }
