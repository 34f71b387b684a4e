-- Heads, byte by byte.
use Rattle.std.proofs.Common.{◌≡◌, inl, inr, ℕ, ◌+◌, ◌≤◌, List, [], ◌∷◌, ◌++◌, length, take, drop, map, Some, refl, ap, sym, subst, ◌∙◌, arith, append-nil}
use Rattle.std.proofs.lemmas.Bool.{cases_lt}
use Rattle.std.proofs.lemmas.List.{take-append-le, take_all, take_at, drop_all, length-take, length-map, length-append}
use Rattle.httparse.specs.Grammar.{RequestHead, ReadsRequest, print_request}
use Rattle.httparse.specs.Spans.{IsRequestAt, IsRequestWithin, header_bytes, name_and_value}
use Rattle.httparse.specs.declared.spans.HeaderSpan.{HeaderSpan}
use Rattle.httparse.specs.declared.spans.RequestSpans.{RequestSpans}
use Rattle.card_wire.specs.Heads.{EndsHead, IsHeadAt, IsPendingBefore, Parses, Pending, field_limit, parts_at, parts_of}
use Rattle.card_wire.specs.declared.heading.HeadEnd.{HeadEnd}
use Rattle.card_wire.specs.declared.heading.HeadEnd.TheVariants as head_end

-- one more byte behind a pending front
pub pending_more : (got : List ℕ) (b : ℕ) → IsPendingBefore got → Pending got → IsPendingBefore (got ++ b ∷ [])
pending_more got b before here n low =
    let long : length (got ++ b ∷ []) ≡ length got + 1 = length-append got (b ∷ []) in
    let front : take n (got ++ b ∷ []) ≡ take n got = take-append-le n got (b ∷ []) (omega (arith, low, long)) in
    subst Pending (sym front) (elim (cases_lt n (length got)) [
      | inl less ↦ before n less
      | inr most ↦ subst Pending (sym (take_all n got most)) here
    ])

-- a head at the front of pending bytes is all of them
whole_head : (got : List ℕ) (len : ℕ) (h : RequestHead) → IsPendingBefore got → len ≤ length got → ReadsRequest got h (drop len got) → len ≡ length (print_request h) → got ≡ print_request h
whole_head got len h before fits reads len_is = elim (cases_lt len (length got)) [
  | inl less ↦
      let front : take len got ≡ print_request h = ap (take len) reads.1 ∙ take_at (print_request h) (drop len got) len (sym len_is) in
      absurd ((before len less).none h [] (reads.0, front ∙ sym (append-nil (print_request h))))
  | inr most ↦ reads.1 ∙ ap (λ l. print_request h ++ l) (drop_all len got most) ∙ append-nil (print_request h)
]

-- as many fields as spans
few_fields : (got : List ℕ) (spans : List HeaderSpan) (n : ℕ) (h : RequestHead) → map (header_bytes got) (take n spans) ≡ map name_and_value h.fields → length spans ≡ field_limit → length h.fields ≤ field_limit
few_fields got spans n h same room =
    let there : length (map (header_bytes got) (take n spans)) ≡ length (take n spans) = length-map (take n spans) (header_bytes got) in
    let here : length (map name_and_value h.fields) ≡ length h.fields = length-map h.fields name_and_value in
    let both : length (map (header_bytes got) (take n spans)) ≡ length (map name_and_value h.fields) = ap length same in
    let taken = length-take n spans in
    omega (arith, there, here, both, taken, room)

-- a parsed head is whole
pub head_at : (got : List ℕ) (fields : List HeaderSpan) (spans : RequestSpans) (h : RequestHead) → IsPendingBefore got → length fields ≡ field_limit → IsRequestWithin got fields spans → IsRequestAt got fields spans h → IsHeadAt got fields spans h
head_at got fields spans h before room within at = record {
  at = at;
  within = within;
  whole = whole_head got spans.len h before within.section.len_fits at.reads at.len;
  few = few_fields got fields spans.headers h at.fields room;
}

-- how a parse ends a head
pub ends_head : (got : List ℕ) (fields : List HeaderSpan) (end : HeadEnd) → IsPendingBefore got → length fields ≡ field_limit → Parses got fields (Some end) → EndsHead got fields end
ends_head got fields (head_end.Whole spans) before room parsed = (parsed.0.0, head_at got fields spans parsed.0.0 before room parsed.1 parsed.0.1)
ends_head got fields head_end.Bad before room parsed = parsed
ends_head got fields head_end.Long before room parsed = absurd parsed

-- the parts that its spans name are its own
pub parts_are : (got : List ℕ) (fields : List HeaderSpan) (spans : RequestSpans) (h : RequestHead) → IsHeadAt got fields spans h → parts_at got fields spans ≡ parts_of h
parts_are got fields spans h is = rw (is.at.method, is.at.path, is.at.fields) refl
