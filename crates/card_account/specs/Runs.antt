-- What every run leaves in an account.
use Rattle.std.specs.Prelude.{◌≡◌, ◌≤◌, true, List}
use Rattle.std.specs.List.{All}
use Rattle.card_replay.specs.Replays.{given_of}
use Rattle.card_daily.specs.Given.{IsSound}
use Rattle.card_events.specs.Range.{first_calendar_day}
use Rattle.card_events.specs.Dated.{is_dated}
use Rattle.card_events.specs.History.{anchor_of, is_open, opening_in}
use Rattle.card_events.specs.SharedRows.{shared_rows}
use Rattle.card_events.specs.declared.post.Post.{Post}
use Rattle.card_events.specs.declared.request.Request.{Request}
use Rattle.card_events.specs.declared.request.Request.TheVariants as request
use Rattle.card_model.specs.Machine.{NamedAccount, State, run}
use Rattle.card_model.specs.Refusals.{Lists}
use Rattle.card_posts.specs.Posted.{last_accepted}
use Rattle.card_posts.specs.Stored.{AreTimely}

-- an account is opened from 2011-01-01 on
abbrev pub IsTakenPost : Post → Type 0
IsTakenPost p = is_open p ≡ true → first_calendar_day ≤ opening_in p

-- a request with such a post, or that all accounts share
abbrev pub IsOfPost : Request → Type 0
IsOfPost (request.Shared r) = Unit {0}
IsOfPost (request.Post name key p) = IsTakenPost p

-- a request with days from 2011-01-01 to 2099-12-31
abbrev pub IsTaken : Request → Type 0
IsTaken r = (is_dated r ≡ true) × IsOfPost r

-- the lists of an account, in a state: what its fold asks for, and days up to today
pub record AreRunning (s : State) (l : Lists) : Type 0 where
  pub sound : IsSound (given_of l (shared_rows s.shared))
  pub timely : AreTimely (anchor_of l.posts).opened l.posts
  pub last : last_accepted l.posts ≤ s.today
  pub opened : (anchor_of l.posts).opened ≤ s.today

-- after every list of such requests, in every account
abbrev pub RunsMayBeFolded : Type 0
RunsMayBeFolded = (requests : List Request) → All IsTaken requests → All (λ (x : NamedAccount). AreRunning (run requests) x.lists) (run requests).accounts
