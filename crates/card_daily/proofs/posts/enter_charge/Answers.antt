use Rattle.std.proofs.Common.{refl}
use Rattle.card_daily.proofs.Posting.{charge-stand, on-ok}
use Rattle.card_daily.proofs.posts.enter_charge.Goals as goal

pub returns-clause-stands : goal.returns-clause-stands
returns-clause-stands c =
    on-ok c.charge.result _ _ c.charge.ensures.stands
    (λ did a seen on cents issued first returned rows_by p b is h.
    charge-stand issued a seen first returned rows_by p b on cents c.args.place.now c.args.state.now _ c.args.track.now _ h (did on cents a seen issued p b h.at is) refl refl refl)
