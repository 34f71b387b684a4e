-- Bytes of a head, by where they end.
use Rattle.std.specs.Prelude.{◌≡◌, ℕ, Bool, true, false, List, [], ◌∷◌, ◌++◌, length, ⊤}
use Rattle.std.specs.List.{flat_map}
use Rattle.httparse.specs.Grammar.{AllPass, IsRequestHead, IsToken, LineEnd, RequestHead, is_uri_byte, is_value_byte, print_blank, print_end, print_field, print_version}
use Rattle.httparse.specs.declared.spans.HeaderSpan.{HeaderSpan}
use Rattle.card_wire.specs.Heads.{EndsHead, IsPendingBefore, Pending, field_limit}
use Rattle.card_wire.specs.declared.heading.Progress.{Progress}
use Rattle.card_wire.specs.declared.heading.Progress.TheVariants as progress
use Rattle.card_wire.specs.declared.place.Place.{Place}
use Rattle.card_wire.specs.declared.place.Place.TheVariants as place

-- a start line and header lines
abbrev pub front_bytes : RequestHead → List ℕ
front_bytes h = print_blank h.blank ++ (h.method ++ 32 ∷ (h.target ++ 32 ∷ (print_version h.minor ++ (print_end h.line_end ++ flat_map print_field h.fields))))

-- these bytes are so
pub record Front (got : List ℕ) : Type 0 where
  pub head : RequestHead
  pub form : IsRequestHead head
  pub whole : got ≡ front_bytes head

-- empty lines and a method
pub record Methods (got : List ℕ) : Type 0 where
  pub blank : List LineEnd
  pub method : List ℕ
  pub token : IsToken method
  pub whole : got ≡ print_blank blank ++ method

-- and a target
pub record Targets (got : List ℕ) : Type 0 where
  pub blank : List LineEnd
  pub method : List ℕ
  pub target : List ℕ
  pub token : IsToken method
  pub visible : AllPass is_uri_byte target
  pub whole : got ≡ print_blank blank ++ (method ++ 32 ∷ target)

-- a start line, header lines, and a name
pub record Names (got : List ℕ) : Type 0 where
  pub front : List ℕ
  pub name : List ℕ
  pub is : Front front
  pub token : IsToken name
  pub whole : got ≡ front ++ name

-- and a value
pub record Values (got : List ℕ) : Type 0 where
  pub front : List ℕ
  pub name : List ℕ
  pub raw : List ℕ
  pub is : Front front
  pub token : IsToken name
  pub value : AllPass is_value_byte raw
  pub whole : got ≡ front ++ (name ++ 58 ∷ raw)

-- the bytes end there
abbrev pub IsAt : Place → List ℕ → Type 0
IsAt place.Blank got = (blank : List LineEnd) × (got ≡ print_blank blank)
IsAt place.BlankEnd got = (blank : List LineEnd) × (got ≡ print_blank blank ++ 13 ∷ [])
IsAt place.Method got = Methods got
IsAt place.Target got = Targets got
IsAt place.Line got = Front got
IsAt place.Name got = Names got
IsAt place.Value got = Values got
IsAt place.Elsewhere got = ⊤

-- it is known where they end
abbrev pub is_followed : Place → Bool
is_followed place.Elsewhere = false
is_followed _ = true

-- bytes that end a line, with none wrong so far, and as many spans as a head may have header lines
pub record EndsLine (got : List ℕ) (spans : List HeaderSpan) : Type 0 where
  pub before : IsPendingBefore got
  pub pending : Pending got
  pub room : length spans ≡ field_limit
  pub line : (front : List ℕ) × (got ≡ front ++ 10 ∷ [])

-- how far a head is that these bytes begin: it ended so; or bytes are wanted, and it is known where they end
abbrev pub IsSoFar : List ℕ → List HeaderSpan → Progress → Type 0
IsSoFar got spans (progress.Ended end) = EndsHead got spans end
IsSoFar got spans (progress.Wanted place) = Pending got × IsAt place got
