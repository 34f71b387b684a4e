-- The first connection of a door in memory.
use Rattle.std.proofs.Common.{◌≡◌, ℕ, suc, ◌+◌, ◌<◌, List, ◌∷◌, length, get_or, map, Option, Some, refl, ap, subst, arith}
use Rattle.card_ports.specs.Forms.{Calls, Entrance, IsFresh, Line, visits_of, wire_of}
use Rattle.card_ports.specs.Visits.{Accepts}

AreFresh : List Line → Type 0
AreFresh ls = (k : ℕ) → (d : Line) → k < length ls → IsFresh (get_or ls k d)

-- those behind the first have counted no fault either
pub tail_fresh : (l : Line) (ls all : List Line) → all ≡ l ∷ ls → ((k : ℕ) → (d : Line) → k < length all → IsFresh (get_or all k d)) → (k : ℕ) → (d : Line) → k < length ls → IsFresh (get_or ls k d)
unfolding AreFresh
tail_fresh l ls all is fresh k d low = let here : AreFresh (l ∷ ls) = subst AreFresh is fresh in here (suc k) d (omega (arith, low))

-- it is out, and what the door tells says so
pub accepts : (before : Entrance) (l : Line) (ls all closed : List Line) (out : ℕ) (port : Option ℕ) (old new : Calls) → all ≡ l ∷ ls
    → record { left = all; closed = closed; out = out; port = port; calls = old } ≡ before
    → Accepts (Some (visits_of before)) (Some (visits_of (record { left = ls; closed = closed; out = out + 1; port = port; calls = new }))) (wire_of l)
accepts before l ls all closed out port old new is view =
    subst (λ (e : Entrance). Accepts (Some (visits_of e)) (Some (visits_of (record { left = ls; closed = closed; out = out + 1; port = port; calls = new }))) (wire_of l)) view
    (map wire_of ls, ap (map wire_of) is, refl)
