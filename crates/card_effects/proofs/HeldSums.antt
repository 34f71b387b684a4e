-- What a post moved to Held lies within what all entries move.
use Rattle.std.proofs.Common.{◌≡◌, ℕ, ◌+◌, ◌<◌, ◌≤◌, Bool, true, false, cond, ◌&&◌, eqb, List, [], ◌∷◌, length, take, drop, get_or, refl, sym, ap, ◌∙◌, subst, arith, ℤ, pos, negsuc, ◌+ℤ◌, w64, FitsSigned}
use Rattle.std.specs.Prelude.{◌≤ℤ◌, nat_abs}
use Rattle.std.proofs.lemmas.Int.{ints}
use Rattle.std.proofs.lemmas.List.{take-append-drop, take_more}
use Rattle.std.proofs.lemmas.List.Sums.{sum_by-cons}
use Rattle.card_bounds.proofs.Bounded.{moved-append}
use Rattle.card_bounds.specs.Bounds.{moved, moves}
use Rattle.card_model.proofs.Posted.{sum_of-append}
use Rattle.card_model.specs.Effects.{is_held_by}
use Rattle.card_model.specs.Entries.{is_kind, sum_of}
use Rattle.card_model.specs.Limits.{balance_limit}
use Rattle.card_model.specs.declared.entry.Entry.{Entry}
use Rattle.card_model.specs.declared.entry.EntryKind.{EntryKind}
use Rattle.card_model.specs.declared.entry.EntryKind.TheVariants as kind
use Rattle.card_segments.proofs.Totals.{within-fits}
use Rattle.card_segments.specs.Balances.{IsWithin}

-- ---- one entry
within-size : (z : ℤ) → IsWithin (nat_abs z) z
within-size (pos n) = (omega (arith, ints), omega (arith, ints))
within-size (negsuc n) = (omega (arith, ints), omega (arith, ints))

within-none : (m : ℕ) → IsWithin m (pos 0)
within-none m = (omega (arith, ints), omega (arith, ints))

no-interest : (k : EntryKind) → is_kind kind.Hold k ≡ true → is_kind kind.Interest k ≡ false
no-interest kind.Hold e = refl
no-interest kind.Charge e = cc
no-interest kind.Credit e = cc
no-interest kind.Payment e = cc
no-interest kind.Return e = cc
no-interest kind.Refund e = cc
no-interest kind.Fee e = cc
no-interest kind.Interest e = cc

one-within : (n : ℕ) (e : Entry) → IsWithin (moves e) (cond (is_held_by n e) e.cents (pos 0))
one-within n e = by (eqb e.post n) (eqb e.segment 1) (is_kind kind.Hold e.kind) refl
  where
    by : (t u v : Bool) → is_kind kind.Hold e.kind ≡ v → IsWithin (moves e) (cond (t && u && v) e.cents (pos 0))
    by true true true q = rw (no-interest e.kind q) (within-size e.cents)
    by true true false q = within-none (moves e)
    by true false v q = within-none (moves e)
    by false u v q = within-none (moves e)

-- ---- all entries
sum-within : (m k : ℕ) (y z : ℤ) → IsWithin m y → IsWithin k z → IsWithin (m + k) (y +ℤ z)
sum-within m k y z h g = (let a = h.0 in let b = g.0 in omega (arith, ints), let a = h.1 in let b = g.1 in omega (arith, ints))

pub held-within : (n : ℕ) (es : List Entry) → IsWithin (moved es) (sum_of (is_held_by n) es)
unfolding moved
held-within n [] = within-none 0
held-within n (e ∷ es) =
    subst (λ (m : ℕ). IsWithin m (sum_of (is_held_by n) (e ∷ es))) (sym (sum_by-cons moves e es))
    (sum-within (moves e) _ (cond (is_held_by n e) e.cents (pos 0)) (sum_of (is_held_by n) es) (one-within n e) (held-within n es))

pub front-moves : (i : ℕ) (es : List Entry) → moved (take i es) ≤ moved es
front-moves i es = let e = ap moved (take-append-drop i es) in let s = moved-append (take i es) (drop i es) in omega (arith, e, s)

-- ---- one entry more
plus-zero : (z : ℤ) → z +ℤ pos 0 ≡ z
plus-zero z = omega (arith, ints)

pub next-sum : (n i : ℕ) (es : List Entry) (d : Entry) → i < length es
    → sum_of (is_held_by n) (take (i + 1) es) ≡ sum_of (is_held_by n) (take i es) +ℤ cond (is_held_by n (get_or es i d)) (get_or es i d).cents (pos 0)
next-sum n i es d l =
    let e = get_or es i d in
    ap (sum_of (is_held_by n)) (take_more es i d l)
    ∙ (sum_of-append (is_held_by n) (take i es) (e ∷ []) ∙ ap (λ z. sum_of (is_held_by n) (take i es) +ℤ z) (plus-zero (cond (is_held_by n e) e.cents (pos 0))))

pub front-within : (n i : ℕ) (es : List Entry) → moved es ≤ balance_limit → IsWithin balance_limit (sum_of (is_held_by n) (take i es))
front-within n i es l =
    let here = held-within n (take i es) in
    let front = front-moves i es in
    (let a = here.0 in omega (arith, ints, a, front, l), let b = here.1 in omega (arith, ints, b, front, l))

-- the sum after one entry more, and that it fits
pub record IsNext (n i : ℕ) (es : List Entry) (s h : ℤ) : Type 0 where
  pub sum : s +ℤ h ≡ sum_of (is_held_by n) (take (i + 1) es)
  pub fits : FitsSigned w64 (s +ℤ h)

pub next-is : (n i : ℕ) (es : List Entry) (e : Entry) (s h : ℤ) → i < length es → moved es ≤ balance_limit → e ≡ get_or es i e → s ≡ sum_of (is_held_by n) (take i es) → h ≡ cond (is_held_by n e) e.cents (pos 0) → IsNext n i es s h
next-is n i es e s h l few here so one =
    let whole : s +ℤ h ≡ sum_of (is_held_by n) (take (i + 1) es) =
    ap (λ z. z +ℤ h) so ∙ (ap (λ z. sum_of (is_held_by n) (take i es) +ℤ z) (one ∙ ap (λ (x : Entry). cond (is_held_by n x) x.cents (pos 0)) here) ∙ sym (next-sum n i es e l)) in
    record {
      sum = whole;
      fits = subst (λ z. FitsSigned w64 z) (sym whole) (within-fits balance_limit (sum_of (is_held_by n) (take (i + 1) es)) (omega arith) (front-within n (i + 1) es few));
    }

pub all-high : (n : ℕ) (es : List Entry) → moved es ≤ balance_limit → sum_of (is_held_by n) es ≤ℤ pos balance_limit
all-high n es few = let high = (held-within n es).1 in omega (arith, ints, high, few)
