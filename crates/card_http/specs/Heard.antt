-- What is heard of a request over a connection.
use Rattle.std.specs.Prelude.{◌≡◌, ◌⊎◌, ℕ, ◌<◌, ◌≤◌, Bool, false, ◌&&◌, List, ◌++◌, length, codes}
use Rattle.std.specs.Str.{bytes_eq}
use Rattle.httparse.specs.Grammar.{IsRequestHead, RequestHead, print_request}
use Rattle.httparse.specs.Spans.{RequestOverflows}
use Rattle.card_wire.specs.Heads.{Before, HeadParts, Pending, field_limit, head_limit, parts_of}
use Rattle.card_wire.specs.Routes.{path_of}
use Rattle.card_wire.specs.Wants.{length_wanted, wanted}

-- what is heard: bytes that no head with so few header lines can begin with; a head that doesn't end in time; or a whole head,
-- by its parts, with as much of a body as it wants
pub data Heard : Type 0 where
  BadHead : Heard
  LongHead : Heard
  Whole : (head : HeadParts) → (body : List ℕ) → Heard

-- these bytes are a head of the grammar with these parts; it is short, and has few header lines
pub record IsHeadOf (got : List ℕ) (parts : HeadParts) : Type 0 where
  pub head : RequestHead
  pub form : IsRequestHead head
  pub bytes : got ≡ print_request head
  pub short : length got ≤ head_limit
  pub few : length head.fields ≤ field_limit
  pub named : parts ≡ parts_of head

-- these bytes are a head with these parts, and the body that it wants: nothing, where it is answered without its body
pub record HearsWhole (got : List ℕ) (parts : HeadParts) (body : List ℕ) : Type 0 where
  pub first : List ℕ
  pub joined : got ≡ first ++ body
  pub head : IsHeadOf first parts
  pub whole : length body ≡ length_wanted (wanted parts)

-- what these bytes are heard as
abbrev pub Hears : List ℕ → Heard → Type 0
Hears got BadHead = Before got × RequestOverflows field_limit got
Hears got LongHead = Before got × Pending got × (length got ≡ head_limit)
Hears got (Whole parts body) = HearsWhole got parts body

-- these bytes are a head with these parts, and too little of the body that it wants
pub record EndsInBody (got : List ℕ) : Type 0 where
  pub first : List ℕ
  pub body : List ℕ
  pub parts : HeadParts
  pub joined : got ≡ first ++ body
  pub head : IsHeadOf first parts
  pub part : length body < length_wanted (wanted parts)

-- these bytes end inside a request: in its head, or in its body
abbrev pub EndsInside : List ℕ → Type 0
EndsInside got = (Before got × Pending got) ⊎ EndsInBody got

-- a head that posts, in JSON
unfoldable pub is_json_head : HeadParts → Bool
is_json_head parts = bytes_eq parts.method (codes "POST") && bytes_eq (path_of parts.target) (codes "/posts")

-- whether the answer is of the type of JSON
abbrev pub is_json : Heard → Bool
is_json BadHead = false
is_json LongHead = false
is_json (Whole parts body) = is_json_head parts
