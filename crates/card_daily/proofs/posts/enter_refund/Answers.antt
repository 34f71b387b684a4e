use Rattle.std.proofs.Common.{refl}
use Rattle.card_daily.proofs.Posting.{on-ok, refund-stand}
use Rattle.card_daily.proofs.posts.enter_refund.Goals as goal

pub returns-clause-stands : goal.returns-clause-stands
returns-clause-stands c =
    on-ok c.refund.result _ _ c.refund.ensures.stands
    (λ did a seen cents issued first returned rows_by p b is h.
    refund-stand issued a seen first returned rows_by p b cents c.args.state.now _ c.args.track.now _ h (did cents a seen issued p b h.at is) refl refl refl)
