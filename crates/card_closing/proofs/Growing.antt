-- Rows grow day by day, and repayments entry by entry.
use Rattle.std.proofs.Common.{◌≡◌, ℕ, zero, suc, ◌+◌, ◌-◌, ◌<◌, ◌≤◌, Bool, true, false, cond, ◌&&◌, ◌||◌, not, List, [], ◌∷◌, ◌++◌, map, refl, ap, ◌∙◌, arith, eqb, leb}
use Rattle.std.specs.List.{All, filter, range_with_len}
use Rattle.std.proofs.lemmas.Bool.Decides.{nat_tests}
use Rattle.std.proofs.lemmas.List.{map-append}
use Rattle.std.proofs.lemmas.List.Elements.{All-head, All-tail, All-weaker, filter-append}
use Rattle.std.proofs.lemmas.List.FromFn.{length-map-range_with_len}
use Rattle.card_closing.specs.BookRows.{brought, day_row, is_brought, repayment_of, repayments, rows_of}
use Rattle.card_closing.specs.Growth.{GoesOn, IsOfNoCredit, RowsGrow, or_post, with_repaid}
use Rattle.card_closing.specs.Rows.{DayRow, no_rows, others, row_of, with_days}
use Rattle.card_model.specs.Books.{Account, Book}
use Rattle.card_model.specs.Cycles.{Seen}
use Rattle.card_model.specs.Entries.{is_kind}
use Rattle.card_model.specs.Interest.{repays}
use Rattle.card_model.specs.Payments.{is_returned}
use Rattle.card_model.specs.Segments.{SegmentTerms}
use Rattle.card_model.specs.declared.entry.Entry.{Entry}
use Rattle.card_model.specs.declared.entry.EntryKind.TheVariants as kind
use Rattle.card_closing.proofs.Cases.{without_entries}
use Rattle.card_closing.proofs.Spreads.{range-append}

entries : (returned : ℕ → Bool) (s first : ℕ) (xs ys : List Entry) → brought returned s first (xs ++ ys) ≡ brought returned s first xs ++ brought returned s first ys
unfolding brought
entries returned s first xs ys =
    let p = is_brought returned s first in
    ap (map repayment_of) (filter-append p xs ys) ∙ map-append repayment_of (filter p xs) (filter p ys)

-- an entry that isn't of the cycle
none_before : (returned : ℕ → Bool) (s first : ℕ) (es : List Entry) → All (λ e. e.day < first) es → brought returned s first es ≡ []
unfolding brought
none_before returned s first [] h = refl
none_before returned s first (e ∷ es) h =
    let early : leb first e.day ≡ false = let l = All-head (λ e. e.day < first) e es h in grind (arith, nat_tests) in
    rw (early, never (eqb e.segment s) (repays returned e.kind e.post)) (none_before returned s first es (All-tail (λ e. e.day < first) e es h))
  where
    never : (a r : Bool) → (a && r && false) ≡ false
    never true true = refl
    never true false = refl
    never false r = refl

-- ---- a return
split : (c y n p : Bool) → (c ≡ true → p ≡ false) → (c || (y && not (n || p))) ≡ ((c || (y && not n)) && not p)
split true y n p h = rw (h refl) refl
split false false n p h = refl
split false true true true h = refl
split false true true false h = refl
split false true false true h = refl
split false true false false h = refl

regroup : (a r q f : Bool) → (a && (r && q) && f) ≡ ((a && r && f) && q)
regroup false r q f = refl
regroup true false q f = refl
regroup true true true true = refl
regroup true true true false = refl
regroup true true false true = refl
regroup true true false false = refl

taken : (returned : ℕ → Bool) (post s first : ℕ) (es : List Entry) → IsOfNoCredit post es → brought (or_post returned post) s first es ≡ others post (brought returned s first es)
unfolding brought
taken returned post s first [] h = refl
taken returned post s first (e ∷ es) h =
    let P : Entry → Type 0 = λ e. is_kind kind.Credit e.kind ≡ true → eqb e.post post ≡ false in
    let kept = split (is_kind kind.Credit e.kind) (is_kind kind.Payment e.kind) (returned e.post) (eqb e.post post) (All-head P e es h) in
    let test : is_brought (or_post returned post) s first e ≡ (is_brought returned s first e && not (eqb e.post post)) =
    ap (λ r. eqb e.segment s && r && leb first e.day) kept ∙ regroup (eqb e.segment s) (repays returned e.kind e.post) (not (eqb e.post post)) (leb first e.day) in
    rw test (one (is_brought returned s first e) (eqb e.post post) refl (taken returned post s first es (All-tail P e es h)))
  where
    one : (k q : Bool) → eqb e.post post ≡ q → map repayment_of (filter (is_brought (or_post returned post) s first) es) ≡ others post (map repayment_of (filter (is_brought returned s first) es))
        → map repayment_of (cond (k && not q) (e ∷ filter (is_brought (or_post returned post) s first) es) (filter (is_brought (or_post returned post) s first) es))
        ≡ others post (map repayment_of (cond k (e ∷ filter (is_brought returned s first) es) (filter (is_brought returned s first) es)))
    one false q e0 ih = ih
    one true true e0 ih = rw e0 ih
    one true false e0 ih = rw e0 (ap (λ l. repayment_of e ∷ l) ih)

-- ---- days
begins : (a : Account) (seen : Seen) (b : Book) (g : SegmentTerms) → All (λ e. e.day ≤ seen.day) b.entries → rows_of a seen b (seen.day + 1) g ≡ no_rows (seen.day + 1)
unfolding rows_of
begins a seen b g h =
    let none : seen.day + 1 - (seen.day + 1) ≡ 0 = omega arith in
    rw (none, none_before (is_returned seen.posts seen.day) g.id (seen.day + 1) b.entries (earlier b.entries h)) refl
  where
    earlier : (es : List Entry) → All (λ e. e.day ≤ seen.day) es → All (λ e. e.day < seen.day + 1) es
    earlier es h = All-weaker (λ e. e.day ≤ seen.day) (λ e. e.day < seen.day + 1) (λ e l. omega arith) es h

same_map : (f h : ℕ → DayRow) (from n : ℕ) → ((x : ℕ) → from ≤ x → x < from + n → f x ≡ h x) → map f (range_with_len from n) ≡ map h (range_with_len from n)
same_map f h from zero e = refl
same_map f h from (suc n) e =
    let rest = same_map f h (from + 1) n (λ x l m. e x (omega arith) (omega arith)) in
    rw (e from (omega arith) (omega arith), rest) refl

days : (n balance rate first : ℕ) (a : Account) (g : SegmentTerms) (seen later : Seen) (b c : Book) → GoesOn n balance rate first a g seen later b c
    → rows_of a later c first g ≡ with_days n balance rate (with_repaid (repayments later g.id first c.entries) (rows_of a seen b first g))
unfolding rows_of
days n balance rate first a g seen later b c h =
    let old = seen.day + 1 - first in
    let long : later.day + 1 - first ≡ old + n = omega (arith, h.day, h.begun) in
    let before = same_map (day_row a later c g) (day_row a seen b g) first old (λ x l m. h.before x l (omega (arith, h.begun))) in
    let since = same_map (day_row a later c g) (row_of balance rate) (first + old) n (λ x l m. h.since x (omega (arith, h.begun)) (omega (arith, h.begun, h.day))) in
    let whole = ap (map (day_row a later c g)) (range-append first old n) ∙ map-append (day_row a later c g) (range_with_len first old) (range_with_len (first + old) n) in
    rw (long, whole, before, since, length-map-range_with_len (day_row a seen b g) first old) refl

-- a segment without entries
none_of : (returned : ℕ → Bool) (s first : ℕ) (es : List Entry) → All (λ e. eqb e.segment s ≡ false) es → brought returned s first es ≡ []
unfolding brought
none_of returned s first [] h = refl
none_of returned s first (e ∷ es) h = rw (All-head (λ e. eqb e.segment s ≡ false) e es h) (none_of returned s first es (All-tail (λ e. eqb e.segment s ≡ false) e es h))

added : (a : Account) (seen : Seen) (b : Book) (first : ℕ) (g : SegmentTerms) → All (λ e. eqb e.segment g.id ≡ false) b.entries → rows_of a seen b first g ≡ with_days (seen.day + 1 - first) 0 0 (no_rows first)
unfolding rows_of
added a seen b first g h =
    let here : first + 0 ≡ first = omega arith in
    rw (here, none_of (is_returned seen.posts seen.day) g.id first b.entries h, same_map (day_row a seen b g) (row_of 0 0) first (seen.day + 1 - first) (λ x l m. rw (without_entries b.entries g.id x h) refl)) refl

pub rows_grow : RowsGrow
rows_grow = record { begins = begins; days = days; added = added; entries = entries; returned = taken }
