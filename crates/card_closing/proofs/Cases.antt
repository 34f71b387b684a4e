-- A segment bears interest in one way for a whole cycle.
use Rattle.std.proofs.Common.{◌≡◌, ℕ, ◌<◌, ◌≤◌, Bool, true, false, ◌&&◌, not, List, refl, ap, arith, eqb, ltb, leb, inl, inr, ◌⊎◌, Some}
use Rattle.std.specs.List.{All}
use Rattle.std.proofs.lemmas.Bool.{cases_lt}
use Rattle.std.proofs.lemmas.Bool.Decides.{nat_tests}
use Rattle.std.proofs.lemmas.List.Elements.{All-weaker}
use Rattle.card_closing.specs.BookRows.{HasOneCase}
use Rattle.card_closing.specs.GraceLaws.{OneCaseACycle}
use Rattle.card_model.specs.Books.{Book}
use Rattle.card_model.specs.Cycles.{Seen}
use Rattle.card_model.specs.Entries.{at_least_zero}
use Rattle.card_model.specs.Interest.{case_of, is_in_row, row}
use Rattle.card_model.specs.Segments.{SegmentTerms, is_sort}
use Rattle.card_model.specs.declared.entry.Entry.{Entry}
use Rattle.card_model.specs.declared.grace.GraceCase.{GraceCase}
use Rattle.card_model.specs.declared.segment.Sort.TheVariants as sort
use Rattle.card_closing.proofs.Turns.{sum_of-none}

others : (seen : Seen) (b : Book) (purchase : GraceCase) (first : ℕ) (g : SegmentTerms) → is_sort sort.Deferred g.sort ≡ false → HasOneCase seen b purchase first g
others seen b purchase first g e day l m = inl (rw e refl)

-- a day of the period counts as today does
as_today : (d : Bool) (begins end first day today : ℕ) → first ≤ day → day ≤ today → begins ≤ day → (today ≤ end) ⊎ (end < first) → (d && leb begins day && not (ltb end day)) ≡ (d && leb begins today && not (ltb end today))
as_today s begins end first day today l m n (inl k) =
    let a : leb begins day ≡ true = grind (arith, nat_tests) in
    let c : leb begins today ≡ true = let o : begins ≤ today = omega arith in grind (arith, nat_tests) in
    let d : ltb end day ≡ false = let o : day ≤ end = omega arith in grind (arith, nat_tests) in
    let e : ltb end today ≡ false = grind (arith, nat_tests) in
    rw (a, c, d, e) refl
as_today s begins end first day today l m n (inr k) =
    let a : leb begins day ≡ true = grind (arith, nat_tests) in
    let c : leb begins today ≡ true = let o : begins ≤ today = omega arith in grind (arith, nat_tests) in
    let d : ltb end day ≡ true = let o : end < day = omega arith in grind (arith, nat_tests) in
    let e : ltb end today ≡ true = let o : end < today = omega arith in grind (arith, nat_tests) in
    rw (a, c, d, e) refl

deferred : (seen : Seen) (b : Book) (purchase : GraceCase) (first end : ℕ) (g : SegmentTerms) → g.ends ≡ Some end → (seen.day ≤ end) ⊎ (end < first)
    → ((day : ℕ) → first ≤ day → day < g.begins → row b.entries g.id day ≡ 0) → HasOneCase seen b purchase first g
deferred seen b purchase first end g e k none day l m = by (cases_lt day g.begins)
  where
    by : (day < g.begins) ⊎ (g.begins ≤ day) → (case_of purchase day g ≡ case_of purchase seen.day g) ⊎ (row b.entries g.id day ≡ 0)
    by (inl early) = inr (none day l early)
    by (inr begun) = inl (rw (e, as_today (is_sort sort.Deferred g.sort) g.begins end first day seen.day l m begun k) refl)

pub without_entries : (entries : List Entry) (s day : ℕ) → All (λ e. eqb e.segment s ≡ false) entries → row entries s day ≡ 0
unfolding row
without_entries entries s day h =
    ap at_least_zero (sum_of-none (is_in_row s day) entries (All-weaker (λ e. eqb e.segment s ≡ false) (λ e. is_in_row s day e ≡ false) (λ e k. rw k refl) entries h))

pub one_case : OneCaseACycle
one_case = record { others = others; deferred = deferred; without_entries = without_entries }
