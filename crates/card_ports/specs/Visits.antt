-- What a door and its connections tell.
use Rattle.std.specs.Prelude.{◌≡◌, ℕ, ◌+◌, ◌-◌, List, [], ◌∷◌, ◌++◌, Option, None, Some}

-- a connection: the bytes that are left, the bytes that it took, and how often it failed
pub record Wire : Type 0 where
  pub left : Option (List ℕ)
  pub taken : Option (List ℕ)
  pub faults : ℕ

-- a door: the connections that are left and those that were closed, how many were accepted and aren't closed yet, and the
-- port that it listens on
pub record Visits : Type 0 where
  pub left : List Wire
  pub closed : List Wire
  pub out : ℕ
  pub port : Option ℕ

-- what a connection tells of itself
abbrev pub wire : {C : Type 0} → (C → Option (List ℕ)) → (C → Option (List ℕ)) → (C → ℕ) → C → Wire
wire left taken faults c = record { left = left c; taken = taken c; faults = faults c }

-- it listens on the port
abbrev pub listening : ℕ → Visits → Visits
listening port v = record { left = v.left; closed = v.closed; out = v.out; port = Some port }

-- the first connection that was left is out
abbrev pub Accepts : Option Visits → Option Visits → Wire → Type 0
Accepts None new w = new ≡ None
Accepts (Some v) new w =
    (rest : List Wire) × (v.left ≡ w ∷ rest)
    × (new ≡ Some (record { left = rest; closed = v.closed; out = v.out + 1; port = v.port }))

-- the connection is back, behind those that were closed
abbrev pub closing : Wire → Visits → Visits
closing w v = record { left = v.left; closed = v.closed ++ w ∷ []; out = v.out - 1; port = v.port }
