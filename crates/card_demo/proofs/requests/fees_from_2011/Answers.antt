use Rattle.std.proofs.Common.{ap, ◌∙◌}
use Rattle.card_events.specs.Dated.{is_dated, is_dated_shared, is_request_day}
use Rattle.card_demo.proofs.DayLemmas.{fees_day}
use Rattle.card_demo.proofs.requests.fees_from_2011.Goals as goal

pub returns-clause-dated : goal.returns-clause-dated
unfolding is_dated is_dated_shared
returns-clause-dated c = ap is_request_day c.date.ensures ∙ fees_day
