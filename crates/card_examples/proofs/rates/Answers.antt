use Rattle.std.proofs.Common.{refl}
use Rattle.card_model.specs.Everything.{everything}
use Rattle.card_examples.proofs.rates.Goals as goal

pub returns : goal.returns
unfolding everything
returns c =
    record {
      day14 = refl;
      day15 = refl;
      notice = refl;
      protected = refl;
      lowered_old = refl;
      lowered_new = refl;
      plan = refl;
      plan_lowered = refl;
      penalty = refl;
      undone = refl;
      penalty_capped = refl;
      second_penalty = refl;
      plan_penalty = refl;
      cash_penalty = refl;
      cured = refl;
      interval = refl;
      not_cured = refl;
      stays = refl;
    }
