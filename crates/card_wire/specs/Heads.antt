-- The head of a request, as its bytes come one after the other.
use Rattle.std.specs.Prelude.{◌≡◌, ℕ, ◌<◌, ◌≤◌, List, length, map, take, Option, None, Some}
use Rattle.httparse.specs.Grammar.{HasNoRequest, MayBecomeRequest, RequestHead, print_request}
use Rattle.httparse.specs.Spans.{IsRequestAt, IsRequestOf, IsRequestWithin, RequestOverflows, header_bytes, name_and_value, span_bytes}
use Rattle.httparse.specs.declared.spans.HeaderSpan.{HeaderSpan}
use Rattle.httparse.specs.declared.spans.RequestSpans.{RequestSpans}
use Rattle.card_wire.specs.declared.heading.HeadEnd.{HeadEnd}
use Rattle.card_wire.specs.declared.heading.HeadEnd.TheVariants as head_end

-- a head has at most so many bytes, and so many header lines
abbrev pub head_limit : ℕ
head_limit = 8192

abbrev pub field_limit : ℕ
field_limit = 64

-- no head stands at the front of the bytes, and bytes may follow that make one
pub record Pending (got : List ℕ) : Type 0 where
  pub none : HasNoRequest got
  pub more : MayBecomeRequest got

-- each shorter front of these bytes is pending
abbrev pub IsPendingBefore : List ℕ → Type 0
IsPendingBefore got = (n : ℕ) → n < length got → Pending (take n got)

-- as many bytes as may be read of a head, and no more than had to be
pub record Before (got : List ℕ) : Type 0 where
  pub few : length got ≤ head_limit
  pub pending : IsPendingBefore got

-- the bytes are the head h, whose parts the spans name
pub record IsHeadAt (got : List ℕ) (fields : List HeaderSpan) (spans : RequestSpans) (h : RequestHead) : Type 0 where
  pub at : IsRequestAt got fields spans h
  pub within : IsRequestWithin got fields spans
  pub whole : got ≡ print_request h
  pub few : length h.fields ≤ field_limit

-- how a head ends: it is whole; or no bytes can follow that make one with so few header lines; or it is too long
abbrev pub EndsHead : List ℕ → List HeaderSpan → HeadEnd → Type 0
EndsHead got fields (head_end.Whole spans) = (h : RequestHead) × IsHeadAt got fields spans h
EndsHead got fields head_end.Bad = RequestOverflows field_limit got
EndsHead got fields head_end.Long = Pending got × (length got ≡ head_limit)

-- what a parse of these bytes gives: a head at their front, or that none with so few header lines can be there; else they are
-- pending
abbrev pub Parses : List ℕ → List HeaderSpan → Option HeadEnd → Type 0
Parses got fields None = Pending got
Parses got fields (Some (head_end.Whole spans)) = IsRequestOf got fields spans × IsRequestWithin got fields spans
Parses got fields (Some head_end.Bad) = RequestOverflows field_limit got
Parses got fields (Some head_end.Long) = ⊥

-- a head by its parts: the names of its fields with their values, without the white space around these
pub record HeadParts : Type 0 where
  pub method : List ℕ
  pub target : List ℕ
  pub fields : List (List ℕ × List ℕ)

-- the parts of a head
abbrev pub parts_of : RequestHead → HeadParts
parts_of h = record { method = h.method; target = h.target; fields = map name_and_value h.fields }

-- the parts that spans name
abbrev pub parts_at : List ℕ → List HeaderSpan → RequestSpans → HeadParts
parts_at got fields spans = record { method = span_bytes got spans.method; target = span_bytes got spans.path; fields = map (header_bytes got) (take spans.headers fields) }
