use Rattle.std.proofs.Common.{ap, ◌∙◌}
use Rattle.card_events.specs.Dated.{is_dated, is_dated_post, is_request_day}
use Rattle.card_demo.proofs.DayLemmas.{first_opening}
use Rattle.card_demo.proofs.requests.opening.Goals as goal

pub returns-clause-dated : goal.returns-clause-dated
unfolding is_dated is_dated_post
returns-clause-dated c = ap is_request_day c.date-day.ensures ∙ first_opening
