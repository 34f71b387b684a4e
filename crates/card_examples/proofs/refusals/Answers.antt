use Rattle.std.proofs.Common.{refl}
use Rattle.card_model.specs.Everything.{everything}
use Rattle.card_examples.proofs.Refused.{amounts, terms}
use Rattle.card_examples.proofs.refusals.Goals as goal

pub returns : goal.returns
unfolding everything
returns c =
    record {
      unknown_account = refl;
      account_exists = refl;
      key_reused = refl;
      terms = terms;
      amounts = amounts;
      amount_first = refl;
      day_ahead = refl;
      day_before_open = refl;
      unknown_plan = refl;
      outside_plan = refl;
      plan_end = refl;
      plan_too_short = refl;
      segments_full = refl;
      wrong_entry = refl;
      billed_twice = refl;
      already_returned = refl;
      notice_too_short = refl;
      first_year = refl;
      notice_pending = refl;
      not_delinquent = refl;
      dispute_late = refl;
      dispute_known = refl;
      no_open_dispute = refl;
      not_closed = refl;
      refund_too_large = refl;
      nothing_to_review = refl;
      account_full = refl;
      ledger_full = refl;
      roll_back = refl;
      roll_too_far = refl;
      past_row = refl;
    }
