-- What a server did: connections that came one after the other, and the line of each.
use Rattle.std.specs.Prelude.{◌≡◌, ◌⊎◌, ℕ, ◌-◌, ◌≤◌, List, [], ◌∷◌, ◌++◌, length, map, take, Option, Some, None, codes, decimal, ⊤}
use Rattle.std.specs.Option.{option_map}
use Rattle.std.specs.Io.KnownBytes.{Appends}
use Rattle.card_desk.specs.Kept.{Fits}
use Rattle.card_http.specs.Answers.{status_code}
use Rattle.card_http.specs.Chains.{AreServed, RoseBy, after_all, all_kept, count_unavailable}
use Rattle.card_http.specs.Exchanges.{Exchange}
use Rattle.card_http.specs.declared.served.Served.{Served}
use Rattle.card_http.specs.declared.served.Served.TheVariants as served
use Rattle.card_http.specs.declared.status.Status.{Status}
use Rattle.card_ports.specs.Rows.{AddsRows}
use Rattle.card_ports.specs.declared.row.Row.{Row}
use Rattle.card_model.specs.Machine.{State}
use Rattle.card_ports.specs.Counts.{Rose}
use Rattle.card_ports.specs.Visits.{Visits, listening}
use Rattle.card_ports.specs.Written.{SinkSide, TookFront}
use Rattle.card_commands.specs.Written.{KeeperSide, Sides, TookBetween, sides}
use Rattle.card_commands.specs.declared.ended.Ended.{Ended}
use Rattle.card_commands.specs.declared.ended.Ended.TheVariants as ended

-- ---- lines

unfoldable pub status_line : Status → List ℕ
status_line s = decimal (status_code s) ++ 10 ∷ []

-- the line of a connection: the status of its answer, `cut` or `memory`
unfoldable pub line_of : Served → List ℕ
line_of (served.Answered s) = status_line s
line_of served.Cut = codes "cut" ++ 10 ∷ []
line_of served.Memory = codes "memory" ++ 10 ∷ []

abbrev pub lines_of : List Exchange → List ℕ
lines_of [] = []
lines_of (x ∷ xs) = line_of x.finish ++ lines_of xs

-- ---- a sink, a keeper and a door

-- a door: what it tells, and how often it failed
pub record DoorSide : Type 0 where
  pub visits : Option Visits
  pub faults : ℕ

-- with a sink and a keeper
pub record Parties : Type 0 where
  pub sides : Sides
  pub door : DoorSide

-- what they tell of themselves
abbrev pub parties : {O K D : Type 0} → (O → Option (List ℕ)) → (O → ℕ) → (K → Option (List Row)) → (K → ℕ) → (D → Option Visits) → (D → ℕ) → O → K → D → Parties
parties taken sink_faults rows keeper_faults visits door_faults output keeper door =
    record { sides = sides taken sink_faults rows keeper_faults output keeper; door = record { visits = visits door; faults = door_faults door } }

-- ---- connections

-- they were the first that were left, and stand behind those that were closed before
pub record Passed (old new : Visits) (xs : List Exchange) : Type 0 where
  pub left : old.left ≡ map (λ x. x.opened) xs ++ new.left
  pub closed : new.closed ≡ old.closed ++ map (λ x. x.closed) xs
  pub out : new.out ≡ old.out
  pub port : new.port ≡ old.port

-- the same, where the door tells its connections
abbrev pub HavePassed : Option Visits → Option Visits → List Exchange → Type 0
HavePassed None new xs = new ≡ None
HavePassed (Some v) None xs = ⊥
HavePassed (Some v) (Some w) xs = Passed v w xs

-- the door listened on the port, and then they came; or it failed at that, and none came
abbrev pub HaveCome : ℕ → Option Visits → Option Visits → List Exchange → Type 0
HaveCome port old new xs = HavePassed (option_map (listening port) old) new xs ⊎ ((new ≡ old) × (xs ≡ []))

-- none had counted a fault when it came
abbrev pub AreFresh : List Exchange → Type 0
AreFresh [] = ⊤
AreFresh (x ∷ xs) = (x.opened.faults ≡ 0) × AreFresh xs

-- each was served over the ledger that those before it left, and had counted no fault when it came. Their rows were kept. Each
-- answer that says that the keeper failed has a fault of its own among those that the keeper counted
pub record Attended (old new : KeeperSide) (s : State) (xs : List Exchange) : Type 0 where
  pub each : AreServed s xs
  pub fresh : AreFresh xs
  pub kept : AddsRows old.rows new.rows (all_kept s xs)
  pub fits : Fits new.rows (after_all s xs)
  pub count : old.faults ≤ new.faults
  pub unavailable : RoseBy (count_unavailable xs) old.faults new.faults

-- ---- a server

-- some connections came and were attended to, and P is so of them
pub record Tended (Came : List Exchange → Type 0) (old new : KeeperSide) (s : State) (P : List Exchange → Type 0) : Type 0 where
  pub connections : List Exchange
  pub came : Came connections
  pub attended : Attended old new s connections
  pub stands : P connections

-- their lines were written
abbrev pub WroteLines : SinkSide → SinkSide → List Exchange → Type 0
WroteLines old new xs = Appends old.taken new.taken (lines_of xs)

-- the same, but of the last line a front was written
abbrev pub WroteLinesFront : SinkSide → SinkSide → List Exchange → Type 0
WroteLinesFront old new xs = TookBetween old.taken new.taken (lines_of (take (length xs - 1) xs)) (lines_of xs)

-- How a server ends that was to attend to so many connections, where Came says which may have come
abbrev pub Attends : (List Exchange → Type 0) → ℕ → State → Parties → Parties → Ended → Type 0
Attends Came count s old new ended.Done =
    Tended Came old.sides.keeper new.sides.keeper s (λ xs. (length xs ≡ count) × WroteLines old.sides.sink new.sides.sink xs)
Attends Came count s old new ended.Door =
    Tended Came old.sides.keeper new.sides.keeper s (λ xs. (length xs ≤ count) × WroteLines old.sides.sink new.sides.sink xs)
Attends Came count s old new ended.Sink =
    Tended Came old.sides.keeper new.sides.keeper s (λ xs. (length xs ≤ count) × WroteLinesFront old.sides.sink new.sides.sink xs)
Attends Came count s old new ended.Memory =
    Tended Came old.sides.keeper new.sides.keeper s (λ xs. (length xs ≤ count) × WroteLinesFront old.sides.sink new.sides.sink xs)
Attends Came count s old new _ = ⊥

-- neither the sink nor the door failed
pub record KeptCounts (old new : Parties) : Type 0 where
  pub sink : new.sides.sink.faults ≡ old.sides.sink.faults
  pub door : new.door.faults ≡ old.door.faults

-- what failed is what an end names. The keeper may have failed, which was answered
abbrev pub ServerFailed : Parties → Parties → Ended → Type 0
ServerFailed old new ended.Sink = Rose old.sides.sink.faults new.sides.sink.faults
ServerFailed old new ended.Door = Rose old.door.faults new.door.faults
ServerFailed old new _ = KeptCounts old new

-- a server's end, and its cause
pub record Serves (Came : List Exchange → Type 0) (count : ℕ) (s : State) (old new : Parties) (e : Ended) : Type 0 where
  pub ends : Attends Came count s old new e
  pub cause : ServerFailed old new e

-- ---- one connection

-- it came and was attended to, and its line was written; the ledger is the one after it
pub record AttendedOne (old new : Parties) (s t : State) : Type 0 where
  pub connection : Exchange
  pub passed : HavePassed old.door.visits new.door.visits (connection ∷ [])
  pub attended : Attended old.sides.keeper new.sides.keeper s (connection ∷ [])
  pub ledger : t ≡ after_all s (connection ∷ [])
  pub written : Appends old.sides.sink.taken new.sides.sink.taken (line_of connection.finish)
  pub counts : KeptCounts old new

-- it was attended to, and a front of its line was written
pub record AttendedLast (old new : Parties) (s : State) : Type 0 where
  pub connection : Exchange
  pub passed : HavePassed old.door.visits new.door.visits (connection ∷ [])
  pub attended : Attended old.sides.keeper new.sides.keeper s (connection ∷ [])
  pub took : TookFront old.sides.sink.taken new.sides.sink.taken (line_of connection.finish)

-- none came, and nothing was done
pub record CameNone (old new : Parties) (s t : State) : Type 0 where
  pub sides : new.sides ≡ old.sides
  pub visits : new.door.visits ≡ old.door.visits
  pub ledger : t ≡ s

-- why no further connection is attended to
abbrev pub FellAttending : Parties → Parties → State → State → Ended → Type 0
FellAttending old new s t ended.Door = CameNone old new s t × Rose old.door.faults new.door.faults
FellAttending old new s t ended.Sink = AttendedLast old new s × Rose old.sides.sink.faults new.sides.sink.faults
FellAttending old new s t ended.Memory = AttendedLast old new s × KeptCounts old new
FellAttending old new s t _ = ⊥
