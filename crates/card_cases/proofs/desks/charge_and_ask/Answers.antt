use Rattle.std.proofs.Common.{◌∙◌}
use Rattle.card_cases.proofs.Aged.{first-rolled, fits-first, next-is}
use Rattle.card_cases.proofs.desks.charge_and_ask.Goals as goal

pub roll-requires-clause-fits : goal.roll-requires-clause-fits
roll-requires-clause-fits g c = fits-first c.new-keeper.result c.new-desk.result.state c.new-keeper.ensures c.new-desk.ensures.state

pub open_account-requires-clause-state : goal.open_account-requires-clause-state
open_account-requires-clause-state g c = c.in_ok-roll.ensures.state ∙ first-rolled c.new-desk.result.state c.day.result c.new-desk.ensures.state c.day.ensures

pub charge-requires-clause-state : goal.charge-requires-clause-state
charge-requires-clause-state g c = c.in_ok-roll-2.ensures.state ∙ next-is c.ask.new.desk.state c.day-2.result (c.ask.ensures.state ∙ c.in_ok-age.ensures.state) c.day-2.ensures
