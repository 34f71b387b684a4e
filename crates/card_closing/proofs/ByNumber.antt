-- Amounts by number, and sums over the segments, as loops find them.
use Rattle.std.proofs.Common.{◌≡◌, ℕ, zero, suc, ◌+◌, ◌-◌, ◌*◌, ◌<◌, ◌≤◌, Bool, true, false, cond, List, [], ◌∷◌, ◌++◌, length, take, refl, sym, ap, ◌∙◌, subst, arith, w64, FitsSigned, ℤ, pos, ◌+ℤ◌, ◌-ℤ◌, eqb, get_or, Option, Some, None}
use Rattle.std.specs.List.{cons_option, filter_map, range_with_len, sum_by}
use Rattle.std.proofs.lemmas.Int.{ints}
use Rattle.std.proofs.lemmas.List.Elements.{filter_map-append}
use Rattle.std.proofs.lemmas.List.Sums.{sum_by_more}
use Rattle.card_model.specs.Cycles.{Amounts, Cycle, amount_at}
use Rattle.card_model.specs.Limits.{balance_limit}
use Rattle.card_model.specs.declared.entry.Entry.{Entry}
use Rattle.card_model.specs.declared.entry.Note.{Note}
use Rattle.card_model.specs.declared.segment.Segment.{Segment}
use Rattle.card_segments.specs.Balances.{AreWithin, IsWithin, total}
use Rattle.card_segments.proofs.Totals.{within-fits}
use Rattle.card_closing.specs.Interest.{amounts_of}
use Rattle.card_closing.specs.Record.{by_number, nonzero_of}
use Rattle.card_closing.specs.Turns.{Turn, charge_for, in_turn, left_by, with_amount, with_charge}
use Rattle.card_closing.proofs.Bridge.{at-with}

-- ---- amounts
range-last : (s n : ℕ) → range_with_len s (suc n) ≡ range_with_len s n ++ (s + n) ∷ []
range-last s zero = let same : s ≡ s + 0 = omega arith in ap (λ k. k ∷ []) same
range-last s (suc n) =
    let same : s + 1 + n ≡ s + suc n = omega arith in
    ap (λ us. s ∷ us) (range-last (s + 1) n ∙ ap (λ k. range_with_len (s + 1) n ++ k ∷ []) same)

of-one : (amount : ℕ → ℕ) (s : ℕ) → filter_map (nonzero_of amount) (s ∷ []) ≡ cond (eqb (amount s) 0) [] ((s, amount s) ∷ [])
of-one amount s = by (eqb (amount s) 0) (s, amount s)
  where
    by : (t : Bool) (x : ℕ × ℕ) → cons_option (cond t None (Some x)) [] ≡ cond t [] (x ∷ [])
    by true x = refl
    by false x = refl

pub by_number-none : (amount : ℕ → ℕ) → [] ≡ by_number amount 0
unfolding by_number
by_number-none amount = refl

-- the last of so many segments
pub by_number-last : (amount : ℕ → ℕ) (n : ℕ) → by_number amount (suc n) ≡ by_number amount n ++ cond (eqb (amount (2 + n)) 0) [] ((2 + n, amount (2 + n)) ∷ [])
unfolding by_number
by_number-last amount n =
    ap (filter_map (nonzero_of amount)) (range-last 2 n)
    ∙ (filter_map-append (nonzero_of amount) (range_with_len 2 n) ((2 + n) ∷ []) ∙ ap (λ us. filter_map (nonzero_of amount) (range_with_len 2 n) ++ us) (of-one amount (2 + n)))

pub by_number-next : (amount : ℕ → ℕ) (id x : ℕ) (xs ys : Amounts) → 2 ≤ id → xs ≡ by_number amount (id - 2) → x ≡ amount id → ys ≡ with_amount id x xs → ys ≡ by_number amount (id + 1 - 2)
unfolding by_number
by_number-next amount id x xs ys low h e k =
    let next : id + 1 - 2 ≡ suc (id - 2) = omega (arith, low) in
    let last : 2 + (id - 2) ≡ id = omega (arith, low) in
    let range : range_with_len 2 (id + 1 - 2) ≡ range_with_len 2 (id - 2) ++ id ∷ [] = ap (range_with_len 2) next ∙ (range-last 2 (id - 2) ∙ ap (λ j. range_with_len 2 (id - 2) ++ j ∷ []) last) in
    k ∙ (ap (λ m. with_amount id m xs) e ∙ (ap (λ us. with_amount id (amount id) us) h
    ∙ sym (ap (filter_map (nonzero_of amount)) range
    ∙ (filter_map-append (nonzero_of amount) (range_with_len 2 (id - 2)) (id ∷ [])
    ∙ ap (λ us. filter_map (nonzero_of amount) (range_with_len 2 (id - 2)) ++ us) (of-one amount id)))))

-- ---- what was charged is small
charge-small : (issued : Option Cycle) (t : Turn) (s asked : ℕ) → charge_for issued t s asked ≤ 10_000_000_000_000
unfolding charge_for left_by
charge-small None t s asked = omega arith
charge-small (Some c) t s asked = omega arith

some-le : (t : Bool) (x n : ℕ) → x ≤ n → cond t x 0 ≤ n
some-le true x n h = h
some-le false x n h = omega arith

pub charged-little : (issued : Option Cycle) (note : Note) (asked : List Entry → ℕ → ℕ) (s n : ℕ) (t : Turn) → amount_at s (in_turn issued note asked n t).amounts ≤ amount_at s t.amounts + n * 10_000_000_000_000
unfolding in_turn with_charge
charged-little issued note asked s zero t = omega arith
charged-little issued note asked s (suc n) t =
    let u = in_turn issued note asked n t in
    let x = charge_for issued u (n + 2) (asked u.entries (n + 2)) in
    let before = charged-little issued note asked s n t in
    let more = at-with s (n + 2) x u.amounts in
    let little = some-le (eqb (n + 2) s) x 10_000_000_000_000 (charge-small issued u (n + 2) (asked u.entries (n + 2))) in
    omega (arith, before, more, little)

-- ---- sums over the segments
pub length-amounts_of : {A : Type 0} (amount : Segment → A → ℕ) (gs : List Segment) (xs : List A) → length xs ≡ length gs → length (amounts_of amount gs xs) ≡ length gs
unfolding amounts_of
length-amounts_of amount [] xs e = refl
length-amounts_of amount (g ∷ gs) [] e = absurd (omega (arith, e))
length-amounts_of amount (g ∷ gs) (x ∷ xs) e = ap suc (length-amounts_of amount gs xs (omega (arith, e)))

pub sum-next : (xs : List ℕ) (id x sum new : ℕ) → 2 ≤ id → id - 2 < length xs → sum ≡ sum_by (λ n. n) (take (id - 2) xs) → x ≡ get_or xs (id - 2) 0 → new ≡ sum + x → new ≡ sum_by (λ n. n) (take (id + 1 - 2) xs)
sum-next xs id x sum new low high h e k =
    let next : id + 1 - 2 ≡ id - 2 + 1 = omega (arith, low) in
    let more = sum_by_more (λ n. n) xs (id - 2) 0 high in
    k ∙ (ap (λ m. m + x) h ∙ (ap (λ m. sum_by (λ n. n) (take (id - 2) xs) + m) e ∙ (sym more ∙ ap (λ i. sum_by (λ n. n) (take i xs)) (sym next))))

-- ---- sizes
pub total-within : (bs : List ℤ) → AreWithin balance_limit bs → IsWithin (length bs * balance_limit) (total bs)
total-within [] w = (omega (arith, ints), omega (arith, ints))
total-within (b ∷ bs) w = join (length bs) b (total bs) (w 0) (total-within bs (λ i. w (suc i)))
  where
    join : (n : ℕ) (b s : ℤ) → IsWithin balance_limit b → IsWithin (n * balance_limit) s → IsWithin (suc n * balance_limit) (b +ℤ s)
    join n b s h k = (omega (arith, ints, h.0, k.0), omega (arith, ints, h.1, k.1))

pub net-within : (n : ℕ) (t h : ℤ) → n ≤ 64 → IsWithin (n * balance_limit) t → IsWithin balance_limit h → IsWithin 100_000_000_000_000_000 (t -ℤ h)
net-within n t h few a b = (omega (arith, ints, few, a.0, a.1, b.0, b.1), omega (arith, ints, few, a.0, a.1, b.0, b.1))

-- what is owed, of at most 64 balances
pub owed-within : (bs : List ℤ) (t : ℤ) → length bs ≤ 64 → AreWithin balance_limit bs → t ≡ total bs → IsWithin 100_000_000_000_000_000 t
owed-within bs t few w e = wider (length bs) t few (subst (λ z. IsWithin (length bs * balance_limit) z) (sym e) (total-within bs w))
  where
    wider : (n : ℕ) (t : ℤ) → n ≤ 64 → IsWithin (n * balance_limit) t → IsWithin 100_000_000_000_000_000 t
    wider n t few a = (omega (arith, ints, few, a.0), omega (arith, ints, few, a.1))

-- what is owed and what is held, as numbers of 64 bits
pub record AreFit (bs : List ℤ) (t h : ℤ) : Type 0 where
  pub owed : FitsSigned w64 t
  pub held : FitsSigned w64 h
  pub within : IsWithin 100_000_000_000_000_000 (t -ℤ h)
  pub rest : FitsSigned w64 (t -ℤ h)

pub are-fit : (bs : List ℤ) (t h : ℤ) → length bs ≤ 64 → AreWithin balance_limit bs → t ≡ total bs → h ≡ get_or bs 1 (pos 0) → AreFit bs t h
are-fit bs t h few w e k =
    let a : IsWithin (length bs * balance_limit) t = subst (λ z. IsWithin (length bs * balance_limit) z) (sym e) (total-within bs w) in
    let b : IsWithin balance_limit h = subst (λ z. IsWithin balance_limit z) (sym k) (w 1) in
    record {
      owed = within-fits (length bs * balance_limit) t (omega (arith, few)) a;
      held = within-fits balance_limit h (omega arith) b;
      within = net-within (length bs) t h few a b;
      rest = within-fits 100_000_000_000_000_000 (t -ℤ h) (omega arith) (net-within (length bs) t h few a b);
    }

-- ---- the minimum payment of a balance up to 10^17 reads no more of any amount
-- ---- what a balance has beyond an amount
