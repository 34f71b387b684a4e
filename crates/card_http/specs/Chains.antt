-- Connections that are served one after the other.
use Rattle.std.specs.Prelude.{◌⊎◌, ℕ, ◌+◌, ◌-◌, ◌^◌, ◌≤◌, List, [], ◌∷◌, ◌++◌, ⊤}
use Rattle.card_ports.specs.declared.row.Row.{Row}
use Rattle.card_model.specs.Machine.{State}
use Rattle.card_http.specs.Exchanges.{EndsAs, Exchange, Makes}
use Rattle.card_http.specs.Heard.{EndsInside}
use Rattle.card_http.specs.Outcomes.{after, rows_kept}
use Rattle.card_http.specs.declared.served.Served.{Served}
use Rattle.card_http.specs.declared.served.Served.TheVariants as served
use Rattle.card_http.specs.declared.status.Status.{Status}
use Rattle.card_http.specs.declared.status.Status.TheVariants as status

-- an exchange is that of a connection which was served over this ledger
abbrev pub IsServed : State → Exchange → Type 0
IsServed s x = EndsAs (Makes s) EndsInside x x.finish

-- each over the ledger that those before it left
abbrev pub AreServed : State → List Exchange → Type 0
AreServed s [] = ⊤
AreServed s (x ∷ xs) = IsServed s x × AreServed (after s x.acted) xs

-- the ledger after them
abbrev pub after_all : State → List Exchange → State
after_all s [] = s
after_all s (x ∷ xs) = after_all (after s x.acted) xs

-- the rows that are kept of them
abbrev pub all_kept : State → List Exchange → List Row
all_kept s [] = []
all_kept s (x ∷ xs) = rows_kept s x.acted ++ all_kept (after s x.acted) xs

-- 1 where an answer says that the keeper failed
abbrev pub unavailable_by : Status → ℕ
unavailable_by status.Unavailable = 1
unavailable_by _ = 0

abbrev pub unavailable : Served → ℕ
unavailable (served.Answered s) = unavailable_by s
unavailable _ = 0

-- how many answers say that
abbrev pub count_unavailable : List Exchange → ℕ
count_unavailable [] = 0
count_unavailable (x ∷ xs) = unavailable x.finish + count_unavailable xs

-- a count rose by so much or more, or has come to where it can't rise
abbrev pub RoseBy : ℕ → ℕ → ℕ → Type 0
RoseBy n old new = (old + n ≤ new) ⊎ (2 ^ 64 - 1 ≤ new)
