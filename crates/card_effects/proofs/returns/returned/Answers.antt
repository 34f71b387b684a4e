use Rattle.card_model.specs.Effects.{returned}
use Rattle.card_effects.proofs.Back.{both-ok, return-stands}
use Rattle.card_effects.proofs.Standing.{slot-day}
use Rattle.card_effects.proofs.returns.returned.Goals as goal

pub returns-clause-stands : goal.returns-clause-stands
returns-clause-stands c =
    both-ok c.charge_if_any.result _ _ _ c.charge_if_any.ensures.stands c.charge_if_any.ensures.stands
    (λ did again day issued a seen p b s is paid.
    return-stands issued a seen p b day c.args.payment c.args.rates.now c.charge_if_any.new.segments.balances c.charge_if_any.new.out.items c.args.charged.now c.args.slot.now is paid.fee
    (did a seen (returned a seen p.number c.args.payment b) (c.in_ok-put_parts_back.ensures.stands a seen p b s paid.those is) (slot-day seen p c.args.slot.now is)))
