-- The answers to requests, over the machine of accounts.
use Rattle.std.specs.Prelude.{◌≡◌, ◌⊎◌, ℕ, ◌≤◌, List, [], Option, None, Some, codes, Result, Ok, Err, option_and_then, string_bytes, ⊤}
use Rattle.card_desk.specs.Kept.{Fits, new_rows}
use Rattle.card_desk.specs.declared.view.Ask.{Ask}
use Rattle.card_desk.specs.declared.view.Ask.TheVariants as ask
use Rattle.card_events.specs.declared.request.Request.{Request}
use Rattle.card_wire.specs.Answers.{member_text}
use Rattle.card_wire.specs.Bodies.{IsNoJson, Said, Says, request, bad}
use Rattle.card_wire.specs.declared.json_body.BodyFault.{BodyFault}
use Rattle.card_wire.specs.declared.json_body.BodyFault.TheVariants as body_fault
use Rattle.card_ports.specs.Rows.{AddsRows}
use Rattle.card_ports.specs.declared.row.Row.{Row}
use Rattle.card_model.specs.Machine.{State, step}
use Rattle.card_ports.specs.Counts.{Rose}
use Rattle.card_http.specs.Told.{told}
use Rattle.card_wire.specs.Heads.{HeadParts}
use Rattle.card_wire.specs.Wants.{wanted}
use Rattle.card_wire.specs.declared.route.Route.{Route}
use Rattle.card_wire.specs.declared.route.Route.TheVariants as route
use Rattle.card_wire.specs.declared.wanted.Early.{Early}
use Rattle.card_wire.specs.declared.wanted.Early.TheVariants as early
use Rattle.card_wire.specs.declared.wanted.Wanted.{Wanted}
use Rattle.card_http.specs.Answers.{early_status, early_text, reply_json, reply_status}
use Rattle.card_http.specs.Heard.{Heard, BadHead, LongHead, Whole}
use Rattle.card_http.specs.declared.outcome.Outcome.{Outcome}
use Rattle.card_http.specs.declared.outcome.Outcome.TheVariants as outcome
use Rattle.card_http.specs.declared.status.Status.{Status}
use Rattle.card_http.specs.declared.status.Status.TheVariants as status

-- ---- answers

-- an answer: its status, its body, and the request that was carried out for it, where one was
pub record Answer : Type 0 where
  pub status : Status
  pub body : List ℕ
  pub acted : Option Request

-- an answer for which nothing was carried out
abbrev pub idle : Status → List ℕ → Answer
idle s body = record { status = s; body = body; acted = None }

-- bytes that aren't a request
abbrev pub bad_request : Answer
bad_request = idle status.BadRequest (early_text early.BadRequest)

-- a head that is longer than 8,192 bytes
unfoldable pub long_text : List ℕ
long_text = codes "head too large\n"

-- ---- the body of a POST

-- a request is carried out, and its reply told; or the member is named that makes a body none
abbrev pub posted : State → Said → Answer
posted s (request r) = record { status = reply_status (step s r).1; body = reply_json (step s r).1; acted = Some r }
posted s (bad name) = idle status.NoRequest (member_text name)

-- the answer to a body that is no JSON, or to what it says
abbrev pub IsPosted : State → List ℕ → Answer → Type 0
IsPosted s body a = (IsNoJson body × (a ≡ bad_request)) ⊎ ((said : Said) × Says body said × (a ≡ posted s said))

-- ---- what a GET asks

-- what a route asks
unfoldable pub asked : Route → Option Ask
asked route.Posts = None
asked (route.Account account) = Some (ask.Show account)
asked (route.Statement account cycle) = Some (ask.Issued account cycle)
asked (route.Cycle account cycle) = Some (ask.Restated account cycle)
asked (route.Entries account) = Some (ask.Entries account)
asked route.Work = Some ask.Work

-- the text of what is asked of a ledger, where it is there
abbrev pub told_asked : State → Option Ask → Option (List ℕ)
told_asked s a = option_and_then (told s) a

-- a text, or that it isn't there
abbrev pub looked_up : Option (List ℕ) → Answer
looked_up None = idle status.NotFound (early_text early.NotFound)
looked_up (Some text) = idle status.Done text

-- ---- by route, and by what was heard

-- the answer to a request of this route that was read whole
abbrev pub IsRouted : State → Route → List ℕ → Answer → Type 0
IsRouted s route.Posts body a = IsPosted s body a
IsRouted s r body a = a ≡ looked_up (told_asked s (asked r))

-- the answer to a head, and to the body that it wants
abbrev pub IsJudged : State → HeadParts → List ℕ → Result Wanted Early → Answer → Type 0
IsJudged s parts body (Err e) a = a ≡ idle (early_status e) (early_text e)
IsJudged s parts body (Ok w) a = IsRouted s w.route body a

-- the answer to what was heard
abbrev pub IsAnswer : State → Heard → Answer → Type 0
IsAnswer s BadHead a = a ≡ bad_request
IsAnswer s LongHead a = a ≡ idle status.LongHead long_text
IsAnswer s (Whole parts body) a = IsJudged s parts body (wanted parts) a

-- ---- where the keeper failed, or memory was wanted

unfoldable pub keeper_text : List ℕ
keeper_text = codes "{\"fault\":\"keeper\"}"

unfoldable pub memory_text : List ℕ
memory_text = codes "{\"fault\":\"memory\"}"

abbrev pub keeper_failed : Answer
keeper_failed = idle status.Unavailable keeper_text

abbrev pub memory_wanted : Answer
memory_wanted = idle status.NoStorage memory_text

-- a request that was read whole may want memory, and a POST alone has the keeper
abbrev pub IsFaultOf : Route → Answer → Type 0
IsFaultOf r a = (a ≡ memory_wanted) ⊎ ((r ≡ route.Posts) × (a ≡ keeper_failed))

abbrev pub IsFaultJudged : Result Wanted Early → Answer → Type 0
IsFaultJudged (Err e) a = ⊥
IsFaultJudged (Ok w) a = IsFaultOf w.route a

abbrev pub IsFault : Heard → Answer → Type 0
IsFault BadHead a = ⊥
IsFault LongHead a = ⊥
IsFault (Whole parts body) a = IsFaultJudged (wanted parts) a

-- ---- what the code comes to

-- the status of an outcome
unfoldable pub outcome_status : Outcome → Status
outcome_status (outcome.Replied r) = reply_status r
outcome_status outcome.NoJson = status.BadRequest
outcome_status (outcome.NoRequest name) = status.NoRequest
outcome_status (outcome.Told text) = status.Done
outcome_status outcome.Missing = status.NotFound
outcome_status outcome.KeeperFailed = status.Unavailable
outcome_status outcome.MemoryWanted = status.NoStorage

-- and its body
unfoldable pub outcome_body : Outcome → List ℕ
outcome_body (outcome.Replied r) = reply_json r
outcome_body outcome.NoJson = early_text early.BadRequest
outcome_body (outcome.NoRequest name) = member_text (string_bytes name)
outcome_body (outcome.Told text) = string_bytes text
outcome_body outcome.Missing = early_text early.NotFound
outcome_body outcome.KeeperFailed = keeper_text
outcome_body outcome.MemoryWanted = memory_text

-- what a body comes to that gives no request
abbrev pub unread : BodyFault → Outcome
unread body_fault.NotJson = outcome.NoJson
unread (body_fault.Member name) = outcome.NoRequest name
unread body_fault.Memory = outcome.MemoryWanted

-- what a lookup comes to: this text, or that it isn't there; or memory was wanted
abbrev pub IsLookedUp : Option (List ℕ) → Outcome → Type 0
IsLookedUp text (outcome.Told body) = text ≡ Some (string_bytes body)
IsLookedUp text outcome.Missing = text ≡ None
IsLookedUp text outcome.MemoryWanted = ⊤
IsLookedUp text _ = ⊥

-- ---- the ledger and its keeper

-- a ledger, the rows that its keeper holds, and how often that failed
pub record Ledger : Type 0 where
  pub state : State
  pub rows : Option (List Row)
  pub faults : ℕ

-- what a keeper tells of itself, beside a ledger
abbrev pub ledger : {K : Type 0} → (K → Option (List Row)) → (K → ℕ) → State → K → Ledger
ledger rows faults state keeper = record { state = state; rows = rows keeper; faults = faults keeper }

-- the ledger after the request that was carried out, and the rows that are kept of it
abbrev pub after : State → Option Request → State
after s None = s
after s (Some r) = (step s r).0

abbrev pub rows_kept : State → Option Request → List Row
rows_kept s None = []
rows_kept s (Some r) = new_rows s r

-- the request was carried out, and its row kept where it was newly accepted; or nothing was done
pub record Acted (old new : Ledger) (r : Option Request) : Type 0 where
  pub state_is : new.state ≡ after old.state r
  pub kept : AddsRows old.rows new.rows (rows_kept old.state r)
  pub fits : Fits new.rows new.state

-- the keeper failed where the status says so, and else it didn't
abbrev pub KeeperTold : ℕ → ℕ → Status → Type 0
KeeperTold old new status.Unavailable = Rose old new
KeeperTold old new _ = new ≡ old

-- how often the keeper failed, before and after an answer of this status
pub record KeeperCount (old new : ℕ) (s : Status) : Type 0 where
  pub count : old ≤ new
  pub told : KeeperTold old new s

-- a request came to one of these answers, and the ledger did what that says
pub record Comes (Is : Answer → Type 0) (old new : Ledger) (o : Outcome) : Type 0 where
  pub answer : Answer
  pub stands : Is answer
  pub status_is : outcome_status o ≡ answer.status
  pub body_is : outcome_body o ≡ answer.body
  pub did : Acted old new answer.acted
  pub counts : KeeperCount old.faults new.faults answer.status
