-- Rows whose bytes lie one behind the other.
use Rattle.std.proofs.Common.{◌≡◌, ℕ, zero, suc, ◌+◌, ◌-◌, ◌<◌, ◌≤◌, List, [], ◌∷◌, ◌++◌, length, take, drop, get_or, refl, ap, sym, subst, ◌∙◌, arith, append_assoc, length-append, append-nil}
use Rattle.std.proofs.Math.Seq.{take-append_seam, drop-append_seam}
use Rattle.std.proofs.lemmas.List.{get_or_default}
use Rattle.card_ports.specs.declared.row.Row.{Row}
use Rattle.card_ports.specs.declared.rows.Cut.{Cut}
use Rattle.card_ports.specs.Flat.{ArePacked, bytes_of, cuts_of, row_at, unpacked}

step_back : (a b : ℕ) → a + b - a ≡ b
step_back a b = omega arith

-- rows that are unpacked after they were packed are the same
pub unpack_pack : (from : ℕ) (rows : List Row) → unpacked from (cuts_of from rows) (bytes_of rows) ≡ rows
unfolding unpacked cuts_of bytes_of
unpack_pack from [] = refl
unpack_pack from (r ∷ rows) =
    let back = step_back from (length r.body) in
    let body : take (from + length r.body - from) (r.body ++ bytes_of rows) ≡ r.body = ap (λ (n : ℕ). take n (r.body ++ bytes_of rows)) back ∙ take-append_seam r.body (bytes_of rows) in
    let left : drop (from + length r.body - from) (r.body ++ bytes_of rows) ≡ bytes_of rows = ap (λ (n : ℕ). drop n (r.body ++ bytes_of rows)) back ∙ drop-append_seam r.body (bytes_of rows) in
    let head : record { seq = r.seq; body = take (from + length r.body - from) (r.body ++ bytes_of rows) } ≡ r = ap (λ (b : List ℕ). the_row r.seq b) body in
    let tail : unpacked (from + length r.body) (cuts_of (from + length r.body) rows) (drop (from + length r.body - from) (r.body ++ bytes_of rows)) ≡ rows =
    ap (λ (l : List ℕ). unpacked (from + length r.body) (cuts_of (from + length r.body) rows) l) left ∙ unpack_pack (from + length r.body) rows in
    ap (λ (x : Row). x ∷ unpacked (from + length r.body) (cuts_of (from + length r.body) rows) (drop (from + length r.body - from) (r.body ++ bytes_of rows))) head
    ∙ ap (λ (l : List Row). r ∷ l) tail
  where
    the_row : ℕ → List ℕ → Row
    the_row n b = record { seq = n; body = b }

-- what is packed so
pub packed_is : (rows : List Row) (cuts : List Cut) (bytes : List ℕ) → cuts ≡ cuts_of 0 rows → bytes ≡ bytes_of rows → unpacked 0 cuts bytes ≡ rows
packed_is rows cuts bytes c b = ap (λ (l : List Cut). unpacked 0 l bytes) c ∙ ap (λ (l : List ℕ). unpacked 0 (cuts_of 0 rows) l) b ∙ unpack_pack 0 rows

pub packed_so : (rows : List Row) (cuts : List Cut) (bytes : List ℕ) → cuts ≡ cuts_of 0 rows → bytes ≡ bytes_of rows → ArePacked cuts bytes
packed_so rows cuts bytes c b =
    let is = packed_is rows cuts bytes c b in
    record { cuts_are = c ∙ ap (cuts_of 0) (sym is); bytes_are = b ∙ ap bytes_of (sym is) }

-- no row
pub packed_none : ArePacked [] []
unfolding unpacked cuts_of bytes_of
packed_none = record { cuts_are = refl; bytes_are = refl }

pub packed_no_rows : unpacked 0 [] [] ≡ []
unfolding unpacked
packed_no_rows = refl

-- as many cuts as rows
pub count : (from : ℕ) (cuts : List Cut) (bytes : List ℕ) → length (unpacked from cuts bytes) ≡ length cuts
unfolding unpacked
count from [] bytes = refl
count from (c ∷ cuts) bytes = ap (λ (n : ℕ). suc n) (count c.end cuts (drop (c.end - from) bytes))

-- one row more
bytes_more : (rows : List Row) (r : Row) → bytes_of (rows ++ r ∷ []) ≡ bytes_of rows ++ r.body
unfolding bytes_of
bytes_more [] r = append-nil r.body
bytes_more (x ∷ rows) r = ap (λ (l : List ℕ). x.body ++ l) (bytes_more rows r) ∙ sym (append_assoc x.body (bytes_of rows) r.body)

cuts_more : (from : ℕ) (rows : List Row) (r : Row) → cuts_of from (rows ++ r ∷ []) ≡ cuts_of from rows ++ record { seq = r.seq; end = from + length (bytes_of rows) + length r.body } ∷ []
unfolding cuts_of bytes_of
cuts_more from [] r = ap (λ (n : ℕ). record { seq = r.seq; end = n } ∷ []) (omega arith)
cuts_more from (x ∷ rows) r =
    let here : Cut = record { seq = x.seq; end = from + length x.body } in
    let far : from + length x.body + length (bytes_of rows) + length r.body ≡ from + length (x.body ++ bytes_of rows) + length r.body = omega (arith, length-append x.body (bytes_of rows)) in
    ap (λ (l : List Cut). here ∷ l) (cuts_more (from + length x.body) rows r)
    ∙ ap (λ (n : ℕ). here ∷ (cuts_of (from + length x.body) rows ++ record { seq = r.seq; end = n } ∷ [])) far

pub pushed_cuts : (cuts : List Cut) (bytes body : List ℕ) (seq end : ℕ) → ArePacked cuts bytes → end ≡ length (bytes ++ body)
    → cuts ++ record { seq = seq; end = end } ∷ [] ≡ cuts_of 0 (unpacked 0 cuts bytes ++ record { seq = seq; body = body } ∷ [])
pushed_cuts cuts bytes body seq end packed is =
    let rows = unpacked 0 cuts bytes in
    let r : Row = record { seq = seq; body = body } in
    let far : end ≡ 0 + length (bytes_of rows) + length body = omega (arith, is, length-append bytes body, ap (λ (l : List ℕ). length l) packed.bytes_are) in
    ap (λ (n : ℕ). cuts ++ record { seq = seq; end = n } ∷ []) far
    ∙ ap (λ (l : List Cut). l ++ record { seq = seq; end = 0 + length (bytes_of rows) + length body } ∷ []) packed.cuts_are
    ∙ sym (cuts_more 0 rows r)

pub pushed_bytes : (cuts : List Cut) (bytes body : List ℕ) (seq : ℕ) → ArePacked cuts bytes → bytes ++ body ≡ bytes_of (unpacked 0 cuts bytes ++ record { seq = seq; body = body } ∷ [])
pushed_bytes cuts bytes body seq packed =
    ap (λ (l : List ℕ). l ++ body) packed.bytes_are ∙ sym (bytes_more (unpacked 0 cuts bytes) (record { seq = seq; body = body }))

-- ---- the row at a place
cut_at : (from : ℕ) (rows : List Row) (i : ℕ) (d : Cut) → i < length rows
    → get_or (cuts_of from rows) i d ≡ record { seq = (row_at rows i).seq; end = from + length (bytes_of (take i rows)) + length (row_at rows i).body }
unfolding cuts_of bytes_of
cut_at from [] i d low = absurd (omega (arith, low))
cut_at from (r ∷ rows) zero d low = ap (λ (n : ℕ). record { seq = r.seq; end = n }) (omega arith)
cut_at from (r ∷ rows) (suc i) d low =
    let far : from + length r.body + length (bytes_of (take i rows)) + length (row_at rows i).body ≡ from + length (r.body ++ bytes_of (take i rows)) + length (row_at rows i).body =
    omega (arith, length-append r.body (bytes_of (take i rows))) in
    cut_at (from + length r.body) rows i d (omega (arith, low)) ∙ ap (λ (n : ℕ). record { seq = (row_at rows i).seq; end = n }) far

-- where the bytes of the row at a place begin, and where they end
ends_at : (rows : List Row) (i : ℕ) → i < length rows → length (bytes_of (take i rows)) + length (row_at rows i).body ≡ length (bytes_of (take (suc i) rows))
unfolding bytes_of
ends_at [] i low = absurd (omega (arith, low))
ends_at (r ∷ rows) zero low = omega (arith, length-append r.body [])
ends_at (r ∷ rows) (suc i) low = omega (arith, length-append r.body (bytes_of (take i rows)), length-append r.body (bytes_of (take (suc i) rows)), ends_at rows i (omega (arith, low)))

parts : (rows : List Row) (i : ℕ) → i < length rows → bytes_of rows ≡ bytes_of (take i rows) ++ ((row_at rows i).body ++ bytes_of (drop (suc i) rows))
unfolding bytes_of
parts [] i low = absurd (omega (arith, low))
parts (r ∷ rows) zero low = refl
parts (r ∷ rows) (suc i) low =
    ap (λ (l : List ℕ). r.body ++ l) (parts rows i (omega (arith, low)))
    ∙ sym (append_assoc r.body (bytes_of (take i rows)) ((row_at rows i).body ++ bytes_of (drop (suc i) rows)))

next : (i : ℕ) → i + 1 ≡ suc i
next i = omega arith

end_next : (rows : List Row) (i n : ℕ) → n ≡ suc i → i < length rows → length (bytes_of (take i rows)) + length (row_at rows i).body ≡ length (bytes_of (take n rows))
end_next rows i n is low = ends_at rows i low ∙ ap (λ (m : ℕ). length (bytes_of (take m rows))) (sym is)

-- a piece out of three
pub piece : (a b c : List ℕ) → take (length b) (drop (length a) (a ++ (b ++ c))) ≡ b
piece a b c = ap (λ (l : List ℕ). take (length b) l) (drop-append_seam a (b ++ c)) ∙ take-append_seam b c

-- the row at a place, out of the bytes of all
pub body_is : (cuts : List Cut) (bytes : List ℕ) (rows : List Row) (i from end : ℕ) → unpacked 0 cuts bytes ≡ rows → ArePacked cuts bytes → i < length rows
    → from ≡ length (bytes_of (take i rows)) → end ≡ length (bytes_of (take (i + 1) rows)) → take (end - from) (drop from bytes) ≡ (row_at rows i).body
body_is cuts bytes rows i from end view packed low begins ends =
    let row = row_at rows i in
    let long : end - from ≡ length row.body = omega (arith, begins, ends, end_next rows i (i + 1) (next i) low) in
    let all : bytes ≡ bytes_of (take i rows) ++ (row.body ++ bytes_of (drop (suc i) rows)) = packed.bytes_are ∙ ap bytes_of view ∙ parts rows i low in
    ap (λ (n : ℕ). take n (drop from bytes)) long ∙ ap (λ (n : ℕ). take (length row.body) (drop n bytes)) begins
    ∙ ap (λ (l : List ℕ). take (length row.body) (drop (length (bytes_of (take i rows))) l)) all ∙ piece (bytes_of (take i rows)) row.body (bytes_of (drop (suc i) rows))

-- it lies within them
pub within : (cuts : List Cut) (bytes : List ℕ) (rows : List Row) (i from end : ℕ) → unpacked 0 cuts bytes ≡ rows → ArePacked cuts bytes → i < length rows
    → from ≡ length (bytes_of (take i rows)) → end ≡ length (bytes_of (take (i + 1) rows)) → (from ≤ end) × (end ≤ length bytes)
within cuts bytes rows i from end view packed low begins ends =
    let row = row_at rows i in
    let all : bytes ≡ bytes_of (take i rows) ++ (row.body ++ bytes_of (drop (suc i) rows)) = packed.bytes_are ∙ ap bytes_of view ∙ parts rows i low in
    let long = ap (λ (l : List ℕ). length l) all in
    let first = length-append (bytes_of (take i rows)) (row.body ++ bytes_of (drop (suc i) rows)) in
    let second = length-append row.body (bytes_of (drop (suc i) rows)) in
    let there = end_next rows i (i + 1) (next i) low in
    (omega (arith, begins, ends, there), omega (arith, begins, ends, there, long, first, second))

-- the cut at a place
pub seq_is : (cuts : List Cut) (bytes : List ℕ) (rows : List Row) (i : ℕ) (c : Cut) → unpacked 0 cuts bytes ≡ rows → ArePacked cuts bytes → i < length rows → c ≡ get_or cuts i c → c.seq ≡ (row_at rows i).seq
seq_is cuts bytes rows i c view packed low is =
    let same : cuts ≡ cuts_of 0 rows = packed.cuts_are ∙ ap (cuts_of 0) view in
    ap (λ (x : Cut). x.seq) (is ∙ ap (λ (l : List Cut). get_or l i c) same ∙ cut_at 0 rows i c low)

pub end_is : (cuts : List Cut) (bytes : List ℕ) (rows : List Row) (i : ℕ) (c : Cut) → unpacked 0 cuts bytes ≡ rows → ArePacked cuts bytes → 1 ≤ i → i ≤ length rows → c ≡ get_or cuts (i - 1) c → c.end ≡ length (bytes_of (take i rows))
end_is cuts bytes rows i c view packed low high is =
    let same : cuts ≡ cuts_of 0 rows = packed.cuts_are ∙ ap (cuts_of 0) view in
    let there : i - 1 < length rows = omega (arith, low, high) in
    let at : i ≡ suc (i - 1) = omega (arith, low) in
    let back : 0 + length (bytes_of (take (i - 1) rows)) + length (row_at rows (i - 1)).body ≡ length (bytes_of (take (i - 1) rows)) + length (row_at rows (i - 1)).body = omega arith in
    ap (λ (x : Cut). x.end) (is ∙ ap (λ (l : List Cut). get_or l (i - 1) c) same ∙ cut_at 0 rows (i - 1) c there)
    ∙ back ∙ end_next rows (i - 1) i at there

-- no bytes stand in front of the first row
pub none_before : (rows : List Row) → length (bytes_of (take 0 rows)) ≡ 0
unfolding bytes_of
none_before rows = refl

-- as many cuts as rows
pub count_of : (cuts : List Cut) (bytes : List ℕ) (rows : List Row) → unpacked 0 cuts bytes ≡ rows → length cuts ≡ length rows
count_of cuts bytes rows view = sym (count 0 cuts bytes) ∙ ap (λ (l : List Row). length l) view

-- the rows with one more
pub pushed_is : (cuts : List Cut) (bytes body : List ℕ) (rows : List Row) (seq end : ℕ) (more : List Cut) (all : List ℕ) → unpacked 0 cuts bytes ≡ rows → ArePacked cuts bytes
    → all ≡ bytes ++ body → end ≡ length all → more ≡ cuts ++ record { seq = seq; end = end } ∷ [] → unpacked 0 more all ≡ rows ++ record { seq = seq; body = body } ∷ []
pushed_is cuts bytes body rows seq end more all view packed longer long has =
    let far = long ∙ ap (λ (l : List ℕ). length l) longer in
    packed_is (unpacked 0 cuts bytes ++ record { seq = seq; body = body } ∷ []) more all (has ∙ pushed_cuts cuts bytes body seq end packed far) (longer ∙ pushed_bytes cuts bytes body seq packed)
    ∙ ap (λ (l : List Row). l ++ record { seq = seq; body = body } ∷ []) view

pub pushed_so : (cuts : List Cut) (bytes body : List ℕ) (seq end : ℕ) (more : List Cut) (all : List ℕ) → ArePacked cuts bytes
    → all ≡ bytes ++ body → end ≡ length all → more ≡ cuts ++ record { seq = seq; end = end } ∷ [] → ArePacked more all
pushed_so cuts bytes body seq end more all packed longer long has =
    let far = long ∙ ap (λ (l : List ℕ). length l) longer in
    packed_so (unpacked 0 cuts bytes ++ record { seq = seq; body = body } ∷ []) more all (has ∙ pushed_cuts cuts bytes body seq end packed far) (longer ∙ pushed_bytes cuts bytes body seq packed)
