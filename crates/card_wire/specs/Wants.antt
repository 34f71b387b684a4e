-- What a head asks for.
use Rattle.std.specs.Prelude.{ℕ, nat_lt, if◌then◌else◌, List, Option, Some, None, Result, Ok, Err}
use Rattle.std.specs.Str.{bytes_eq}
use Rattle.card_wire.specs.Framing.{body_length}
use Rattle.card_wire.specs.Heads.{HeadParts}
use Rattle.card_wire.specs.Routes.{route_of, path_of, method_of}
use Rattle.card_wire.specs.declared.route.Route.{Route}
use Rattle.card_wire.specs.declared.wanted.Early.{Early}
use Rattle.card_wire.specs.declared.wanted.Early.TheVariants as early
use Rattle.card_wire.specs.declared.wanted.Wanted.{Wanted}

-- a body has at most so many bytes
abbrev pub body_limit : ℕ
body_limit = 16384

-- the method is the route's, and then the body isn't too large
unfoldable pub with_route : List ℕ → ℕ → Option Route → Result Wanted Early
with_route method n None = Err early.NotFound
with_route method n (Some r) =
    if bytes_eq method (method_of r) then (if nat_lt body_limit n then Err early.TooLarge else Ok (record { route = r; length = n }))
    else Err early.BadMethod

-- the length of the body comes first
unfoldable pub with_length : HeadParts → Option ℕ → Result Wanted Early
with_length h None = Err early.BadRequest
with_length h (Some n) = with_route h.method n (route_of (path_of h.target))

-- the route and the length of the body, or why the request is answered without its body
abbrev pub wanted : HeadParts → Result Wanted Early
wanted h = with_length h (body_length h.fields)

-- how many bytes of the body are read
abbrev pub length_wanted : Result Wanted Early → ℕ
length_wanted (Ok w) = w.length
length_wanted (Err e) = 0
