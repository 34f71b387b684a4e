use Rattle.std.proofs.Common.{refl}
use Rattle.card_model.specs.Everything.{everything}
use Rattle.card_examples.proofs.deadlines.Goals as goal

pub returns : goal.returns
unfolding everything
returns c =
    record {
      dispute = refl;
      dispute_later = refl;
      dispute_moved = refl;
      dispute_unbilled = refl;
      ack = refl;
      two_cycles = refl;
      days90 = refl;
      disputes = refl;
      two_accounts = refl;
      acknowledged = refl;
      resolved = refl;
      refund = refl;
      refund_holiday = refl;
      asked = refl;
      dollar = refl;
      above_dollar = refl;
      review = refl;
      reviewed_again = refl;
      penalty_review = refl;
      lower = refl;
      reduce = refl;
      reduced = refl;
    }
