-- The marks of the closings up to one of them.
use Rattle.std.proofs.Common.{◌≡◌, ℕ, zero, suc, ◌+◌, ◌-◌, ◌<◌, ◌≤◌, ◌⊎◌, inl, inr, Bool, true, false, cond, nat_le, List, [], ◌∷◌, length, take, refl, sym, ap, ◌∙◌, subst, arith, Option, Some, None}
use Rattle.std.specs.Prelude.{◌==◌, ◌&&◌, slice_get}
use Rattle.std.specs.List.{All, find}
use Rattle.std.specs.Option.{option_map_or}
use Rattle.std.proofs.lemmas.Bool.{and_left, cases_lt, leb-false, leb-true, ne_eqb}
use Rattle.std.proofs.lemmas.List.{length-take-le, take-take, take_all}
use Rattle.std.proofs.lemmas.List.Elements.{All-filter, All-weaker, filter_passes}
use Rattle.card_book.proofs.MarksGrow.{all-pass}
use Rattle.card_closing.specs.Accruals.{nothing_accrued}
use Rattle.card_model.specs.Cycles.{Cycle}
use Rattle.card_model.specs.Folds.{cycle_at}
use Rattle.card_model.specs.Segments.{SegmentTerms}
use Rattle.card_daily.specs.Given.{Given, book_on}
use Rattle.card_daily.specs.Stands.{HaveAccrued}
use Rattle.card_dayend.proofs.Each.{same-map}
use Rattle.card_book.proofs.Marking.{is_kept_of}
use Rattle.card_book.proofs.Passing.{few-pass}
use Rattle.card_book.specs.Marks.{AreMarks, IsMark, accrued_at, accrued_to, rated_in}
use Rattle.card_book.specs.declared.marks.Accruing.{Accruing}
use Rattle.card_replay.proofs.LaterRows.{one-filter}

-- ---- the front of a list
get-front : {A : Type 0} (xs : List A) (n i : ℕ) (x : A) → slice_get (take n xs) i ≡ Some x → (i < n) × (slice_get xs i ≡ Some x)
get-front xs zero i x e = let none : None ≡ Some x = e in absurd (cc)
get-front [] (suc n) i x e = let none : None ≡ Some x = e in absurd (cc)
get-front (y ∷ ys) (suc n) zero x e = (omega arith, e)
get-front (y ∷ ys) (suc n) (suc i) x e = let r = get-front ys n i x e in (omega (arith, r.0), r.1)

-- a cycle of the front is the same in the whole
pub record IsAmong (cycles : List Cycle) (k j : ℕ) (c : Cycle) : Type 0 where
  pub first : 1 ≤ j
  pub last : j ≤ k
  pub there : cycle_at j cycles ≡ Some c

pub among-front : (cycles : List Cycle) (k j : ℕ) (c : Cycle) → cycle_at j (take k cycles) ≡ Some c → IsAmong cycles k j c
among-front cycles k zero c e = let none : None ≡ Some c = e in absurd (cc)
among-front cycles k (suc i) c e = let r = get-front cycles k i c e in record { first = omega arith; last = omega (arith, r.0); there = r.1 }

-- ---- what was kept up to a closing
find-early : (cycle segment k : ℕ) (kept : List Accruing) → cycle ≤ k → find (is_kept_of cycle segment) (accrued_to k kept) ≡ find (is_kept_of cycle segment) kept
find-early cycle segment k [] l = refl
find-early cycle segment k (a ∷ kept) l = by (nat_le a.cycle k) refl (find-early cycle segment k kept l)
  where
    by : (s : Bool) → nat_le a.cycle k ≡ s → find (is_kept_of cycle segment) (accrued_to k kept) ≡ find (is_kept_of cycle segment) kept
        → find (is_kept_of cycle segment) (cond s (a ∷ accrued_to k kept) (accrued_to k kept)) ≡ find (is_kept_of cycle segment) (a ∷ kept)
    by true e h = ap (λ r. cond ((a.cycle == cycle) && (a.segment == segment)) (Some a) r) h
    by false e h =
        let late = leb-false a.cycle k e in
        let other : (a.cycle == cycle) && (a.segment == segment) ≡ false = and_left (a.cycle == cycle) (a.segment == segment) (ne_eqb a.cycle cycle (λ same. omega (arith, same, late, l))) in
        subst (λ t. find (is_kept_of cycle segment) (accrued_to k kept) ≡ cond t (Some a) (find (is_kept_of cycle segment) kept)) (sym other) h

accrued-early : (cycle segment k : ℕ) (kept : List Accruing) → cycle ≤ k → accrued_at cycle (accrued_to k kept) segment ≡ accrued_at cycle kept segment
unfolding accrued_at
accrued-early cycle segment k kept l = ap (λ o. option_map_or (λ (a : Accruing). a.accrual) o nothing_accrued) (find-early cycle segment k kept l)

mark-early : (g : Given) (j k : ℕ) (c : Cycle) (s : Option ℕ) (kept : List Accruing) → j ≤ k → IsMark g j c s kept → IsMark g j c s (accrued_to k kept)
mark-early g j k c s kept l h = record {
  since = h.since;
  accrued = subst (HaveAccrued g c.closing (book_on g c.closing) (rated_in g))
      (sym (same-map (λ (t : SegmentTerms). accrued_at j (accrued_to k kept) t.id) (λ (t : SegmentTerms). accrued_at j kept t.id) (rated_in g) (λ t i. accrued-early j t.id k kept l)))
      h.accrued;
}

-- ---- its order
all-early : (k : ℕ) (kept : List Accruing) → All (λ (a : Accruing). a.cycle ≤ k) (accrued_to k kept)
all-early k kept =
    All-weaker (λ (a : Accruing). nat_le a.cycle k ≡ true) (λ (a : Accruing). a.cycle ≤ k) (λ a e. leb-true a.cycle k e) (accrued_to k kept) (filter_passes (λ (a : Accruing). nat_le a.cycle k) kept)

ordered-front : (k : ℕ) (kept : List Accruing) → ((j : ℕ) → take (length (accrued_to j kept)) kept ≡ accrued_to j kept)
    → (j : ℕ) → take (length (accrued_to j (accrued_to k kept))) (accrued_to k kept) ≡ accrued_to j (accrued_to k kept)
ordered-front k kept h j = by (cases_lt j k)
  where
    by : (j < k) ⊎ (k ≤ j) → take (length (accrued_to j (accrued_to k kept))) (accrued_to k kept) ≡ accrued_to j (accrued_to k kept)
    by (inl l) =
        let xs = accrued_to k kept in
        let twice : accrued_to j xs ≡ accrued_to j kept = one-filter (λ (a : Accruing). a.cycle) j k (omega (arith, l)) kept in
        let few = few-pass (λ (a : Accruing). nat_le a.cycle j) xs in
        ap (take (length (accrued_to j xs))) (sym (h k)) ∙ (take-take (length (accrued_to j xs)) (length xs) kept few ∙ (ap (λ (u : List Accruing). take (length u) kept) twice ∙ (h j ∙ sym twice)))
    by (inr l) =
        let xs = accrued_to k kept in
        let all = all-pass j xs (All-weaker (λ (a : Accruing). a.cycle ≤ k) (λ (a : Accruing). a.cycle ≤ j) (λ a m. omega (arith, m, l)) xs (all-early k kept)) in
        ap (λ (u : List Accruing). take (length u) xs) all ∙ (take_all (length xs) xs (omega arith) ∙ sym all)

-- ---- the marks
pub marks-front : (g : Given) (cycles : List Cycle) (since : List (Option ℕ)) (kept : List Accruing) (k : ℕ) → AreMarks g cycles since kept → k ≤ length cycles → AreMarks g (take k cycles) (take k since) (accrued_to k kept)
marks-front g cycles since kept k h l =
    let count = h.count in
    let long = length-take-le k cycles l in
    record {
      count = length-take-le k since (omega (arith, l, count)) ∙ sym long;
      each = λ j c s at got.
          let r = among-front cycles k j c at in
          let q = get-front since k (j - 1) s got in
          mark-early g j k c s kept r.last (h.each j c s r.there q.1);
      closed = subst (λ n. All (λ (a : Accruing). a.cycle ≤ n) (accrued_to k kept)) (sym long) (all-early k kept);
      ordered = ordered-front k kept h.ordered;
      there = All-filter (λ (a : Accruing). nat_le a.cycle k) (λ (a : Accruing). a.segment < length (rated_in g) + 2) kept h.there;
    }
