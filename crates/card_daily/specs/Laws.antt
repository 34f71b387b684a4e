-- Laws on what the fold of a day is given, for all lists of requests.
use Rattle.std.specs.Prelude.{List}
use Rattle.std.specs.List.{All}
use Rattle.card_events.specs.declared.request.Request.{Request}
use Rattle.card_model.specs.Machine.{NamedAccount, run}
use Rattle.card_daily.specs.Given.{AreInTurn, ArePlanned}

-- after every list of requests, the plans of each account end with closings of it
abbrev pub RunsKeepPlans : Type 0
RunsKeepPlans = (requests : List Request) → All (λ (x : NamedAccount). ArePlanned x.lists.posts) (run requests).accounts

-- after every list of requests, the posts and the statements of each account are in the order of their days
abbrev pub RunsKeepTurns : Type 0
RunsKeepTurns = (requests : List Request) → All (λ (x : NamedAccount). AreInTurn x.lists) (run requests).accounts
