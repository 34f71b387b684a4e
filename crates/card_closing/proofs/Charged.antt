-- Amounts in order of number are those by number themselves.
use Rattle.std.proofs.Common.{◌≡◌, ℕ, zero, suc, ◌+◌, ◌-◌, ◌<◌, ◌≤◌, cond, [], ◌∷◌, ◌++◌, refl, sym, ◌∙◌, arith, eqb, eq-eqb}
use Rattle.std.proofs.lemmas.Bool.{ne_eqb}
use Rattle.std.proofs.lemmas.List.{append-nil}
use Rattle.std.proofs.lemmas.List.Sums.{sum_by_push}
use Rattle.card_model.specs.Cycles.{Amounts, amount_at}
use Rattle.card_closing.specs.Record.{by_number}
use Rattle.card_closing.proofs.ByNumber.{by_number-last, by_number-none}

-- ---- amounts of the same segments
same-by : (f g : ℕ → ℕ) (n : ℕ) → ((s : ℕ) → s < 2 + n → f s ≡ g s) → by_number f n ≡ by_number g n
same-by f g zero same = sym (by_number-none f) ∙ by_number-none g
same-by f g (suc n) same =
    let rest = same-by f g n (λ s l. same s (omega (arith, l))) in
    let here = same (2 + n) (omega arith) in
    by_number-last f n ∙ rw (rest, here) (sym (by_number-last g n))

none-more : (f : ℕ → ℕ) (n k : ℕ) → ((s : ℕ) → 2 + n ≤ s → f s ≡ 0) → by_number f (n + k) ≡ by_number f n
none-more f n zero none = let e : n + 0 ≡ n = omega arith in rw e refl
none-more f n (suc k) none =
    let e : n + suc k ≡ suc (n + k) = omega arith in
    let here = none (2 + (n + k)) (omega arith) in
    rw e (by_number-last f (n + k) ∙ rw here (append-nil (by_number f (n + k)) ∙ none-more f n k none))

-- up to a segment that none of them reaches
pub record AreUpTo (next : ℕ) (xs : Amounts) : Type 0 where
  pub low : 2 ≤ next
  pub those : by_number (λ s. amount_at s xs) (next - 2) ≡ xs
  pub none : (s : ℕ) → next ≤ s → amount_at s xs ≡ 0

pub none-yet : AreUpTo 2 []
none-yet = record { low = omega arith; those = sym (by_number-none (λ s. amount_at s [])); none = λ s l. refl }

-- at a later segment, or the end
later : (next end : ℕ) (xs : Amounts) → AreUpTo next xs → next ≤ end → by_number (λ s. amount_at s xs) (end - 2) ≡ xs
later next end xs h l =
    let low = h.low in
    let e : end - 2 ≡ next - 2 + (end - next) = omega (arith, l, low) in
    rw e (none-more (λ s. amount_at s xs) (next - 2) (end - next) (λ s from. h.none s (omega (arith, from, low))) ∙ h.those)

pub are-all : (next end : ℕ) (xs : Amounts) → AreUpTo next xs → next ≤ end → by_number (λ s. amount_at s xs) (end - 2) ≡ xs
are-all next end xs h l = later next end xs h l

at-push : (s id x : ℕ) (xs : Amounts) → amount_at s (xs ++ (id, x) ∷ []) ≡ amount_at s xs + cond (eqb id s) x 0
at-push s id x xs = sum_by_push (λ y. cond (eqb y.0 s) y.1 0) xs (id, x)

other : (s id x : ℕ) (xs : Amounts) → (id ≡ s → ⊥) → amount_at s (xs ++ (id, x) ∷ []) ≡ amount_at s xs
other s id x xs apart = let e = ne_eqb id s apart in let z : amount_at s xs + 0 ≡ amount_at s xs = omega arith in at-push s id x xs ∙ rw e z

-- one amount more
pub one-more : (next id x : ℕ) (xs : Amounts) → AreUpTo next xs → next ≤ id → (x ≡ 0 → ⊥) → AreUpTo (id + 1) (xs ++ (id, x) ∷ [])
one-more next id x xs h l some =
    let low = h.low in
    let ys : Amounts = xs ++ (id, x) ∷ [] in
    let f : ℕ → ℕ = λ s. amount_at s xs in
    let g : ℕ → ℕ = λ s. amount_at s ys in
    let count : id + 1 - 2 ≡ suc (id - 2) = omega (arith, l, low) in
    let place : 2 + (id - 2) ≡ id = omega (arith, l, low) in
    let before = same-by g f (id - 2) (λ s u. other s id x xs (λ e. omega (arith, u, e, l, low))) ∙ later next id xs h l in
    let same = ne_eqb x 0 some in
    let at : g id ≡ x = at-here in
    record {
      low = omega (arith, l, low);
      those = rw count (by_number-last g (id - 2) ∙ rw (place, before, at, same) refl);
      none = λ s from. other s id x xs (λ e. omega (arith, e, from)) ∙ h.none s (omega (arith, from, l));
    }
  where
    at-here : amount_at id (xs ++ (id, x) ∷ []) ≡ x
    at-here = let e = eq-eqb id id refl in let z = h.none id l in at-push id id x xs ∙ rw (e, z) (omega arith)
