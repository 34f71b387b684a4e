-- What is done for one connection: its bytes are read, a request is carried out, and an answer is written.
use Rattle.std.specs.Prelude.{◌≡◌, ◌⊎◌, ℕ, ◌<◌, ◌≤◌, List, length, Option, None, ⊤}
use Rattle.std.specs.Io.KnownBytes.{Appends, Consumes, IsAtEnd}
use Rattle.card_events.specs.declared.request.Request.{Request}
use Rattle.card_ports.specs.declared.row.Row.{Row}
use Rattle.card_model.specs.Machine.{State}
use Rattle.card_ports.specs.Counts.{Rose}
use Rattle.card_ports.specs.Visits.{Wire, wire}
use Rattle.card_ports.specs.Written.{TookFront}
use Rattle.card_ports.specs.declared.source.SinkFault.TheVariants as fault
use Rattle.card_wire.specs.Heads.{HeadParts}
use Rattle.card_wire.specs.Links.{Sent, SentFront}
use Rattle.card_wire.specs.Wants.{length_wanted, wanted}
use Rattle.card_http.specs.Answers.{answer_text}
use Rattle.card_http.specs.Heard.{EndsInside, Heard, Hears, is_json, is_json_head}
use Rattle.card_http.specs.Outcomes.{Acted, Answer, IsAnswer, IsFault, IsFaultJudged, IsJudged, KeeperTold, Ledger, ledger}
use Rattle.card_http.specs.declared.served.Served.{Served}
use Rattle.card_http.specs.declared.served.Served.TheVariants as served
use Rattle.card_http.specs.declared.status.Status.{Status}

-- ---- an exchange

-- a connection as it was before and after it was served, the request that was carried out, where one was, and how it ended
pub record Exchange : Type 0 where
  pub opened : Wire
  pub closed : Wire
  pub acted : Option Request
  pub finish : Served

-- In what follows M says of which bytes that were read which answer is made with which text, and P which bytes end inside

-- bytes were read, of which this answer is made; its request was carried out
pub record Answering (M : List ℕ → Answer → List ℕ → Type 0) (x : Exchange) : Type 0 where
  pub got : List ℕ
  pub answer : Answer
  pub text : List ℕ
  pub read : Consumes x.opened.left x.closed.left got
  pub makes : M got answer text
  pub carried : x.acted ≡ answer.acted

-- the whole answer was taken
pub record Told (M : List ℕ → Answer → List ℕ → Type 0) (x : Exchange) (s : Status) : Type 0 where
  pub made : Answering M x
  pub status_is : s ≡ made.answer.status
  pub taken : Appends x.opened.taken x.closed.taken made.text
  pub faults : x.closed.faults ≡ x.opened.faults

-- a front of it was taken
pub record ToldFront (M : List ℕ → Answer → List ℕ → Type 0) (x : Exchange) : Type 0 where
  pub made : Answering M x
  pub took : TookFront x.opened.taken x.closed.taken made.text

-- the input ended, or the connection failed
abbrev pub Stops : Exchange → Type 0
Stops x = (IsAtEnd x.closed.left × (x.closed.faults ≡ x.opened.faults)) ⊎ Rose x.opened.faults x.closed.faults

-- bytes were read that end inside a request: nothing was carried out, and nothing written
pub record Unheard (P : List ℕ → Type 0) (x : Exchange) : Type 0 where
  pub got : List ℕ
  pub read : Consumes x.opened.left x.closed.left got
  pub inside : P got
  pub taken : x.closed.taken ≡ x.opened.taken
  pub idle : x.acted ≡ None
  pub stops : Stops x

-- how an exchange ends
abbrev pub EndsAs : (List ℕ → Answer → List ℕ → Type 0) → (List ℕ → Type 0) → Exchange → Served → Type 0
EndsAs M P x (served.Answered s) = Told M x s
EndsAs M P x served.Cut = Unheard P x ⊎ (ToldFront M x × Rose x.opened.faults x.closed.faults)
EndsAs M P x served.Memory = ToldFront M x × (x.closed.faults ≡ x.opened.faults)

-- ---- which answers are made of which bytes

-- what is heard of these bytes has this answer, or the keeper failed or memory was wanted for it; the text is the answer's
pub record Makes (s : State) (got : List ℕ) (a : Answer) (text : List ℕ) : Type 0 where
  pub heard : Heard
  pub hears : Hears got heard
  pub answers : IsAnswer s heard a ⊎ IsFault heard a
  pub text_is : text ≡ answer_text a.status (is_json heard) a.body

-- the same behind a head with these parts, where the bytes are those of the body
pub record MakesBehind (parts : HeadParts) (s : State) (body : List ℕ) (a : Answer) (text : List ℕ) : Type 0 where
  pub whole : length body ≡ length_wanted (wanted parts)
  pub answers : IsJudged s parts body (wanted parts) a ⊎ IsFaultJudged (wanted parts) a
  pub text_is : text ≡ answer_text a.status (is_json_head parts) a.body

-- the body isn't whole
abbrev pub EndsBehind : HeadParts → List ℕ → Type 0
EndsBehind parts body = length body < length_wanted (wanted parts)

-- ---- what a connection that is served does to it, to a ledger and to its keeper

-- a connection, and a ledger with its keeper
pub record Moment : Type 0 where
  pub link : Wire
  pub desk : Ledger

abbrev pub moment : {C K : Type 0} → (C → Option (List ℕ)) → (C → Option (List ℕ)) → (C → ℕ) → (K → Option (List Row)) → (K → ℕ) → C → State → K → Moment
moment left taken faults rows keeper_faults connection state keeper =
    record { link = wire left taken faults connection; desk = ledger rows keeper_faults state keeper }

-- the exchange from one moment to another
abbrev pub exchange : Moment → Moment → Option Request → Served → Exchange
exchange old new r e = record { opened = old.link; closed = new.link; acted = r; finish = e }

-- the keeper failed where that was answered, and it didn't where another answer was written whole
abbrev pub KeeperEnded : ℕ → ℕ → Served → Type 0
KeeperEnded old new (served.Answered s) = KeeperTold old new s
KeeperEnded old new _ = ⊤

pub record KeeperCounts (old new : ℕ) (e : Served) : Type 0 where
  pub count : old ≤ new
  pub told : KeeperEnded old new e

-- a connection was served: its answer was written, or a front of it, or nothing; the ledger did what the answer says
pub record ServesBy (M : State → List ℕ → Answer → List ℕ → Type 0) (P : List ℕ → Type 0) (old new : Moment) (e : Served) : Type 0 where
  pub acted : Option Request
  pub ends : EndsAs (M old.desk.state) P (exchange old new acted e) e
  pub did : Acted old.desk new.desk acted
  pub counts : KeeperCounts old.desk.faults new.desk.faults e

-- from its first byte on
abbrev pub Serves : Moment → Moment → Served → Type 0
Serves old new e = ServesBy Makes EndsInside old new e

-- behind a head with these parts
abbrev pub ServesHead : HeadParts → Moment → Moment → Served → Type 0
ServesHead parts old new e = ServesBy (MakesBehind parts) (EndsBehind parts) old new e

-- ---- writing

-- this text was written for an answer of this status, or a front of it
abbrev pub Sends : Wire → Wire → List ℕ → Status → Served → Type 0
Sends w v text s (served.Answered n) = Sent w v text × (n ≡ s)
Sends w v text s served.Cut = SentFront w v text fault.Failed
Sends w v text s served.Memory = SentFront w v text fault.Memory
