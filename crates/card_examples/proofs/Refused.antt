-- Refusals, computed.
use Rattle.std.proofs.Common.{refl}
use Rattle.card_model.specs.Everything.{everything}
use Rattle.card_examples.specs.Refusals.{AmountsAreRefused, TermsAreRefused}

pub terms : TermsAreRefused
unfolding everything
terms =
    record {
      close29 = refl;
      close0 = refl;
      purchase = refl;
      cash = refl;
      transfer = refl;
      penalty = refl;
      floor = refl;
      pct = refl;
      first = refl;
    }

pub amounts : AmountsAreRefused
unfolding everything
amounts =
    record {
      nothing = refl;
      above = refl;
      no_payment = refl;
      no_refund = refl;
      no_claim = refl;
      amended = refl;
      above_claim = refl;
      minute = refl;
      rate = refl;
      after = refl;
      cycle0 = refl;
      cycle912 = refl;
      fee = refl;
      fees_order = refl;
    }
