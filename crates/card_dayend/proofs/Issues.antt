-- The next day of an issue, where statements stand in the order of their days.
use Rattle.std.proofs.Common.{◌≡◌, ℕ, zero, suc, ◌-◌, ◌<◌, ◌≤◌, Bool, true, false, ◌||◌, eqb, nat_lt, ltb-true, ltb-false, List, [], ◌∷◌, length, get_or, refl, sym, ap, ◌∙◌, arith, ◌⊎◌, inl, inr}
use Rattle.std.specs.List.{list_any}
use Rattle.std.specs.List.Sorted.{IsNonDecreasingBy}
use Rattle.std.proofs.lemmas.Bool.{cases_lt, eq-eqb, eqb-true, ne_eqb}
use Rattle.std.proofs.lemmas.List.{get_or_default}
use Rattle.card_model.specs.Cycles.{IssuedRow}
use Rattle.card_rates.specs.Next.{IsNext}
use Rattle.card_rates.proofs.Nearest.{next-never, or-right}
use Rattle.card_dayend.proofs.BreakDays.{next-within}
use Rattle.card_dayend.specs.Spans.{IsIssueCut, has_issue}

none-at : {X : Type 0} (p : X → Bool) (xs : List X) → ((k : ℕ) (d : X) → k < length xs → p (get_or xs k d) ≡ false) → list_any p xs ≡ false
none-at p [] h = refl
none-at p (x ∷ xs) h = rw (h 0 x (omega arith), none-at p xs (λ k d l. h (suc k) d (omega (arith, l)))) refl

some-at : {X : Type 0} (p : X → Bool) (xs : List X) (k : ℕ) (d : X) → k < length xs → p (get_or xs k d) ≡ true → list_any p xs ≡ true
some-at p [] k d l e = absurd (omega (arith, l))
some-at p (x ∷ xs) zero d l e = rw e refl
some-at p (x ∷ xs) (suc k) d l e = or-right (p x) (list_any p xs) (some-at p xs k d (omega (arith, l)) e)

-- the place of the first statement of the day or later
abbrev pub AreBefore : ℕ → List IssuedRow → ℕ → Type 0
AreBefore day rows place = (k : ℕ) (d : IssuedRow) → k < place → k < length rows → (get_or rows k d).day < day

-- a place parts them, where the statement in front of it was issued before the day and its own wasn't
pub issue-cut : (rows : List IssuedRow) (day place : ℕ) → IsNonDecreasingBy (λ (x : IssuedRow). x.day) rows → 1 ≤ place → place < length rows
    → ((d : IssuedRow) → nat_lt (get_or rows (place - 1) d).day day ≡ true) → ((d : IssuedRow) → nat_lt (get_or rows place d).day day ≡ false) → IsIssueCut rows day place
issue-cut rows day place turn some within front back = record {
  front = λ k d l m.
      let up = turn k (place - 1) d (omega (arith, l)) (omega (arith, within)) in
      let early = ltb-true _ _ (front d) in
      omega (arith, up, early);
  back = λ k d l m.
      let up = turn place k d l m in
      let late = ltb-false _ _ (back d) in
      omega (arith, up, late);
}

-- the statement at that place is the next one
pub issue-next : (rows : List IssuedRow) (place : ℕ) (r : IssuedRow) (first end day : ℕ) → IsNonDecreasingBy (λ (x : IssuedRow). x.day) rows → AreBefore first rows place → first ≤ r.day
    → place < length rows → get_or rows place r ≡ r → IsNext (λ x. eqb r.day x) first end day → IsNext (has_issue rows) first end day
issue-next rows place r first end day turn front begun l is h = record {
  low = h.low;
  high = h.high;
  none = λ x low high. none-at (λ (y : IssuedRow). eqb y.day x) rows (λ k d m. ne_eqb (get_or rows k d).day x (other x low high k d m (cases_lt k place)));
  some = λ m. let same : r.day ≡ day = eqb-true r.day day (h.some m) in ap (has_issue rows) (sym same) ∙ there;
}
  where
    there : has_issue rows r.day ≡ true
    there = some-at (λ (y : IssuedRow). eqb y.day r.day) rows place r l (on (ap (λ (y : IssuedRow). y.day) is))
      where
        on : (get_or rows place r).day ≡ r.day → eqb (get_or rows place r).day r.day ≡ true
        on e = rw e (eq-eqb r.day r.day refl)

    other : (x : ℕ) → first ≤ x → x < day → (k : ℕ) (d : IssuedRow) → k < length rows → (k < place) ⊎ (place ≤ k) → (get_or rows k d).day ≡ x → ⊥
    other x low high k d m (inl n) e = let early = front k d n m in absurd (omega (arith, early, low, e))
    other x low high k d m (inr n) e =
        let upto = next-within r.day first end day begun h in
        let up = turn place k d n m in
        let here = ap (λ (y : IssuedRow). y.day) (get_or_default rows place d r l ∙ is) in
        absurd (omega (arith, upto, up, here, high, e))

-- where there is none, no day has an issue
pub issue-none : (rows : List IssuedRow) (place first end : ℕ) → first ≤ end → AreBefore first rows place → length rows ≤ place → IsNext (has_issue rows) first end end
issue-none rows place first end l front past =
    next-never (has_issue rows) first end l (λ x low high. none-at (λ (y : IssuedRow). eqb y.day x) rows (λ k d m. ne_eqb (get_or rows k d).day x (λ e. let early = front k d (omega (arith, m, past)) m in omega (arith, early, low, e))))
