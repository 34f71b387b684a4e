-- Segments in turn, as the definition takes them.
use Rattle.std.proofs.Common.{◌≡◌, ℕ, zero, suc, ◌+◌, ◌-◌, Bool, true, false, cond, List, [], ◌∷◌, ◌++◌, length, refl, sym, ap, ◌∙◌, subst, arith, eqb, Option, Some, None, min}
use Rattle.std.specs.List.{Contains, filter}
use Rattle.std.proofs.lemmas.Bool.{eqb-true}
use Rattle.std.proofs.lemmas.List.{append-nil}
use Rattle.std.proofs.lemmas.List.Sums.{sum_by_push}
use Rattle.card_model.specs.Books.{Book}
use Rattle.card_model.specs.Caps.{capped_by, issued_interest}
use Rattle.card_model.specs.Closing.{Posting, interest_note, post_interest, post_one, posted_for, within_limit}
use Rattle.card_model.specs.Cycles.{Amounts, Cycle, IssuedRow, Seen, amount_at, amounts_sum}
use Rattle.card_model.specs.Entries.{credit_balance, debit, owing}
use Rattle.card_model.specs.Segments.{SegmentTerms}
use Rattle.card_model.specs.declared.entry.Entry.{Entry}
use Rattle.card_model.specs.declared.entry.Note.{Note}
use Rattle.card_rates.specs.RateBooks.{AreByNumber}
use Rattle.card_closing.specs.Interest.{IsTurnOf, statement_of}
use Rattle.card_closing.specs.Turns.{Turn, charge_for, debited, in_turn, left_by, with_amount, with_charge}

-- ---- from the first segment on
-- one segment
abbrev step : Option Cycle → Note → (List Entry → ℕ → ℕ) → ℕ → Turn → Turn
step issued note asked s t = with_charge note s (charge_for issued t s (asked t.entries s)) t

run : Option Cycle → Note → (List Entry → ℕ → ℕ) → ℕ → ℕ → Turn → Turn
run issued note asked s zero t = t
run issued note asked s (suc n) t = run issued note asked (suc s) n (step issued note asked s t)

run-last : (issued : Option Cycle) (note : Note) (asked : List Entry → ℕ → ℕ) (s n : ℕ) (t : Turn) → run issued note asked s (suc n) t ≡ step issued note asked (s + n) (run issued note asked s n t)
unfolding run with_charge
run-last issued note asked s zero t = let same : s ≡ s + 0 = omega arith in ap (λ k. step issued note asked k t) same
run-last issued note asked s (suc n) t =
    let same : suc s + n ≡ s + suc n = omega arith in
    run-last issued note asked (suc s) n (step issued note asked s t) ∙ ap (λ k. step issued note asked k (run issued note asked s (suc n) t)) same

in_turn-run : (issued : Option Cycle) (note : Note) (asked : List Entry → ℕ → ℕ) (n : ℕ) (t : Turn) → in_turn issued note asked n t ≡ run issued note asked 2 n t
unfolding in_turn run
in_turn-run issued note asked zero t = refl
in_turn-run issued note asked (suc n) t =
    let same : n + 2 ≡ 2 + n = omega arith in
    ap (λ u. step issued note asked (n + 2) u) (in_turn-run issued note asked n t) ∙ (ap (λ k. step issued note asked k (run issued note asked 2 n t)) same ∙ sym (run-last issued note asked 2 n t))

-- ---- amounts
abbrev here : ℕ → ℕ × ℕ → ℕ
here k x = cond (eqb x.0 k) x.1 0

pub at-with : (k s x : ℕ) (xs : Amounts) → amount_at k (with_amount s x xs) ≡ amount_at k xs + cond (eqb s k) x 0
at-with k s x xs = by (eqb x 0) refl
  where
    none : (t : Bool) (n : ℕ) → n ≡ n + cond t 0 0
    none true n = omega arith
    none false n = omega arith

    by : (t : Bool) → eqb x 0 ≡ t → amount_at k (xs ++ cond t [] ((s, x) ∷ [])) ≡ amount_at k xs + cond (eqb s k) x 0
    by true e = let z = eqb-true x 0 e in rw (append-nil xs, z) (none (eqb s k) (amount_at k xs))
    by false e = sum_by_push (here k) xs (s, x)

at-more : (k s x : ℕ) (xs : Amounts) → amount_at k (xs ++ (s, x) ∷ []) ≡ amount_at k xs + cond (eqb s k) x 0
at-more k s x xs = sum_by_push (here k) xs (s, x)

second : ℕ × ℕ → ℕ
second x = x.1

sum-with : (s x : ℕ) (xs : Amounts) → amounts_sum (with_amount s x xs) ≡ amounts_sum xs + x
sum-with s x xs = by (eqb x 0) refl
  where
    by : (t : Bool) → eqb x 0 ≡ t → amounts_sum (xs ++ cond t [] ((s, x) ∷ [])) ≡ amounts_sum xs + x
    by true e = let z = eqb-true x 0 e in rw (append-nil xs, z) (omega arith)
    by false e = sum_by_push (λ (y : ℕ × ℕ). y.1) xs (s, x)

sum-more : (s x : ℕ) (xs : Amounts) → amounts_sum (xs ++ (s, x) ∷ []) ≡ amounts_sum xs + x
sum-more s x xs = sum_by_push (λ (y : ℕ × ℕ). y.1) xs (s, x)

-- ---- one segment
posts : (seen : Seen) (g : SegmentTerms) (x : ℕ) (t : Turn) (p : Posting) → IsTurnOf t p → IsTurnOf (with_charge (interest_note seen) g.id x t) (post_one seen g x p)
unfolding with_charge debited
posts seen g x t p h = record {
  each = λ k. at-with k g.id x t.amounts ∙ (ap (λ n. n + cond (eqb g.id k) x 0) (h.each k) ∙ sym (at-more k g.id x p.amounts));
  sum = sum-with g.id x t.amounts ∙ (ap (λ n. n + x) h.sum ∙ sym (sum-more g.id x p.amounts));
  entries = ap (λ es. es ++ debit (interest_note seen) g.id x (credit_balance es)) h.entries;
}

left-same : (row : Option IssuedRow) (xs ys : Amounts) (s n : ℕ) → amount_at s xs ≡ amount_at s ys → left_by (statement_of row) xs s n ≡ capped_by (issued_interest s ys) row n
unfolding left_by
left-same None xs ys s n e = refl
left-same (Some r) xs ys s n e = ap (λ m. min n (amount_at s r.statement.interest - m)) e

charge-same : (row : Option IssuedRow) (t : Turn) (p : Posting) (s n : ℕ) → IsTurnOf t p → charge_for (statement_of row) t s n ≡ capped_by (issued_interest s p.amounts) row (within_limit (owing s p.book.entries) n)
unfolding charge_for
charge-same row t p s n h =
    ap (λ es. left_by (statement_of row) t.amounts s (within_limit (owing s es) n)) h.entries ∙ left-same row t.amounts p.amounts s (within_limit (owing s p.book.entries) n) (h.each s)

-- nothing asked
left-none : (row : Option IssuedRow) (xs : Amounts) (s : ℕ) → left_by (statement_of row) xs s 0 ≡ 0
unfolding left_by
left-none None xs s = refl
left-none (Some r) xs s = none (amount_at s r.statement.interest - amount_at s xs)
  where
    none : (n : ℕ) → min 0 n ≡ 0
    none n = omega arith

pub charge-none : (row : Option IssuedRow) (t : Turn) (s n : ℕ) → n ≡ 0 → charge_for (statement_of row) t s n ≡ 0
unfolding charge_for
charge-none row t s n e =
    let none : min n (10000000000000 - owing s t.entries) ≡ 0 = omega (arith, e) in
    ap (λ m. left_by (statement_of row) t.amounts s m) none ∙ left-none row t.amounts s

posts-none : (note : Note) (s : ℕ) (t : Turn) (p : Posting) → IsTurnOf t p → IsTurnOf (with_charge note s 0 t) p
unfolding with_charge debited debit
posts-none note s t p h =
    let c = credit_balance t.entries in
    let a : min 0 c ≡ 0 = omega arith in
    let b : 0 - c ≡ 0 = omega arith in
    record {
      each = λ k. ap (λ xs. amount_at k xs) (append-nil t.amounts) ∙ h.each k;
      sum = ap (λ xs. amounts_sum xs) (append-nil t.amounts) ∙ h.sum;
      entries = rw (a, b) (append-nil t.entries ∙ h.entries);
    }

-- ---- all segments
-- What is asked is the amount of the definition, wherever it has come, and nothing of what the day doesn't see
pub record AsksAlike (row : Option IssuedRow) (seen : Seen) (amount : Book → SegmentTerms → ℕ) (asked : List Entry → ℕ → ℕ) (sees : SegmentTerms → Bool) (kept : Posting → Type 0) (gs : List SegmentTerms) : Type 0 where
  pub stays : (g : SegmentTerms) (p : Posting) → kept p → kept (post_one seen g (posted_for row amount g p) p)
  pub known : (g : SegmentTerms) → Contains gs g → sees g ≡ true → (p : Posting) → kept p → asked p.book.entries g.id ≡ amount p.book g
  pub unknown : (g : SegmentTerms) → Contains gs g → sees g ≡ false → (es : List Entry) → asked es g.id ≡ 0

first-in : (g : SegmentTerms) (gs : List SegmentTerms) → Contains (g ∷ gs) g
first-in g gs = (0, omega arith, refl)

pub later-in : (g k : SegmentTerms) (gs : List SegmentTerms) → Contains gs k → Contains (g ∷ gs) k
later-in g k gs (i, l, e) = (suc i, omega arith, e)

bridge : (row : Option IssuedRow) (seen : Seen) (amount : Book → SegmentTerms → ℕ) (asked : List Entry → ℕ → ℕ) (sees : SegmentTerms → Bool) (kept : Posting → Type 0)
    (s : ℕ) (gs : List SegmentTerms) (t : Turn) (p : Posting) → AreByNumber s gs → AsksAlike row seen amount asked sees kept gs → kept p → IsTurnOf t p
    → IsTurnOf (run (statement_of row) (interest_note seen) asked s (length gs) t) (post_interest row seen amount (filter sees gs) p)
unfolding AreByNumber post_interest run
bridge row seen amount asked sees kept s [] t p n h k e = e
bridge row seen amount asked sees kept s (g ∷ gs) t p (i, n) h k e = by (λ u q c f. bridge row seen amount asked sees kept (suc s) gs u q n rest c f) (sees g) refl
  where
    rest : AsksAlike row seen amount asked sees kept gs
    rest = record {
      stays = h.stays;
      known = λ x c. h.known x (later-in g x gs c);
      unknown = λ x c. h.unknown x (later-in g x gs c);
    }

    next : Turn
    next = step (statement_of row) (interest_note seen) asked s t

    by : ((u : Turn) (q : Posting) → kept q → IsTurnOf u q → IsTurnOf (run (statement_of row) (interest_note seen) asked (suc s) (length gs) u) (post_interest row seen amount (filter sees gs) q))
        → (q : Bool) → sees g ≡ q → IsTurnOf (run (statement_of row) (interest_note seen) asked (suc s) (length gs) next) (post_interest row seen amount (cond q (g ∷ filter sees gs) (filter sees gs)) p)
    by go true q =
        let x = posted_for row amount g p in
        let asks : asked t.entries g.id ≡ amount p.book g = ap (λ es. asked es g.id) e.entries ∙ h.known g (first-in g gs) q p k in
        let cents : charge_for (statement_of row) t g.id (asked t.entries g.id) ≡ x = ap (λ m. charge_for (statement_of row) t g.id m) asks ∙ charge-same row t p g.id (amount p.book g) e in
        let one : IsTurnOf (with_charge (interest_note seen) g.id (charge_for (statement_of row) t g.id (asked t.entries g.id)) t) (post_one seen g x p) = rw cents (posts seen g x t p e) in
        go next (post_one seen g x p) (h.stays g p k)
        (subst (λ (v : ℕ). IsTurnOf (with_charge (interest_note seen) v (charge_for (statement_of row) t v (asked t.entries v)) t) (post_one seen g x p)) i one)
    by go false q =
        let cents : charge_for (statement_of row) t g.id (asked t.entries g.id) ≡ 0 = charge-none row t g.id (asked t.entries g.id) (h.unknown g (first-in g gs) q t.entries) in
        let one : IsTurnOf (with_charge (interest_note seen) g.id (charge_for (statement_of row) t g.id (asked t.entries g.id)) t) p = rw cents (posts-none (interest_note seen) g.id t p e) in
        go next p k
        (subst (λ (v : ℕ). IsTurnOf (with_charge (interest_note seen) v (charge_for (statement_of row) t v (asked t.entries v)) t) p) i one)

pub turns-alike : (row : Option IssuedRow) (seen : Seen) (amount : Book → SegmentTerms → ℕ) (asked : List Entry → ℕ → ℕ) (sees : SegmentTerms → Bool) (kept : Posting → Type 0)
    (gs : List SegmentTerms) (t : Turn) (p : Posting) → AreByNumber 2 gs → AsksAlike row seen amount asked sees kept gs → kept p → IsTurnOf t p
    → IsTurnOf (in_turn (statement_of row) (interest_note seen) asked (length gs) t) (post_interest row seen amount (filter sees gs) p)
turns-alike row seen amount asked sees kept gs t p n h k e =
    subst (λ u. IsTurnOf u (post_interest row seen amount (filter sees gs) p)) (sym (in_turn-run (statement_of row) (interest_note seen) asked (length gs) t)) (bridge row seen amount asked sees kept 2 gs t p n h k e)
