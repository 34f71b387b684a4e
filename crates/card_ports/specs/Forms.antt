-- What the forms in memory stand for.
use Rattle.std.specs.Prelude.{◌≡◌, ℕ, ◌+◌, ◌-◌, ◌^◌, Bool, nat_lt, ◌==◌, ◌||◌, if◌then◌else◌, List, [], length, map, Option, None, Some}
use Rattle.std.specs.List.{list_any}
use Rattle.card_ports.specs.Visits.{Wire, Visits}

-- which calls fail, how many were made, and how often one failed
pub record Calls : Type 0 where
  pub fails : List ℕ
  pub made : ℕ
  pub faults : ℕ

-- one more, where the count can rise
abbrev pub count_on : ℕ → ℕ
count_on n = if nat_lt n (2 ^ 64 - 1) then n + 1 else n

-- whether the next call is a listed one. Calls are counted from 1
abbrev pub fails_next : Calls → Bool
fails_next c = list_any (λ call. call == count_on c.made) c.fails

-- the next call is made, and counts as a fault where it is listed
abbrev pub after_call : Calls → Calls
after_call c = record { fails = c.fails; made = count_on c.made; faults = if fails_next c then count_on c.faults else c.faults }

-- a fault that isn't of a listed call is counted
abbrev pub after_fault : Calls → Calls
after_fault c = record { fails = c.fails; made = c.made; faults = count_on c.faults }

-- no call was made
abbrev pub no_calls : List ℕ → Calls
no_calls fails = record { fails = fails; made = 0; faults = 0 }

-- a source in memory: the bytes left, and the calls
pub record Supply : Type 0 where
  pub left : List ℕ
  pub calls : Calls

-- a sink in memory: the bytes taken, and the calls
pub record Store : Type 0 where
  pub taken : List ℕ
  pub calls : Calls

-- a connection in memory: the bytes left, the bytes taken, and the calls of both kinds
pub record Line : Type 0 where
  pub left : List ℕ
  pub taken : List ℕ
  pub calls : Calls

-- what it tells
abbrev pub wire_of : Line → Wire
wire_of l = record { left = Some l.left; taken = Some l.taken; faults = l.calls.faults }

-- no fault was counted
abbrev pub IsFresh : Line → Type 0
IsFresh l = l.calls.faults ≡ 0

-- a door in memory: the connections left and closed, how many are out, the port, and the calls
pub record Entrance : Type 0 where
  pub left : List Line
  pub closed : List Line
  pub out : ℕ
  pub port : Option ℕ
  pub calls : Calls

-- what it tells
abbrev pub visits_of : Entrance → Visits
visits_of e = record { left = map wire_of e.left; closed = map wire_of e.closed; out = e.out; port = e.port }

-- a door with these connections, which listens on no port yet
abbrev pub new_entrance : List Line → List ℕ → Entrance
new_entrance left fails = record { left = left; closed = []; out = 0; port = None; calls = no_calls fails }

-- whether the next accept fails: it is a listed call, or no connection is left
abbrev pub fails_to_accept : Entrance → Bool
fails_to_accept e = fails_next e.calls || (length e.left == 0)

-- the accept is made, and counts as a fault where it fails
abbrev pub after_accept : Entrance → Calls
after_accept e = record {
  fails = e.calls.fails;
  made = count_on e.calls.made;
  faults = if fails_to_accept e then count_on e.calls.faults else e.calls.faults;
}
