-- Balances stay in step with entries when a segment is debited within the limit.
use Rattle.std.proofs.Common.{◌≡◌, ℕ, zero, suc, ◌-◌, ◌<◌, ◌≤◌, Bool, true, false, cond, List, ◌++◌, length, take, refl, sym, ap, ◌∙◌, subst, arith, ℤ, pos, negsuc, ◌+ℤ◌, neg_ℤ, eqb, get_or, Option, None, Some}
use Rattle.std.specs.Prelude.{min}
use Rattle.std.proofs.lemmas.Int.{ints}
use Rattle.std.proofs.lemmas.Bool.{eqb-true}
use Rattle.std.proofs.lemmas.List.{append-nil, length-take, take-append-le, take-take, take_all}
use Rattle.card_model.specs.Cycles.{Amounts, Cycle}
use Rattle.card_model.specs.Entries.{AreBalances, at_least_zero, balance, credit_balance, credit_in, debit}
use Rattle.card_model.specs.Limits.{balance_limit}
use Rattle.card_model.specs.declared.entry.Entry.{Entry}
use Rattle.card_model.specs.declared.entry.Note.{Note}
use Rattle.card_model.proofs.EntryFacts.{balance-debit}
use Rattle.card_model.proofs.Posted.{are_balances-posted, debit-known, get_or-posted}
use Rattle.card_segments.specs.Balances.{AreWithin, Balances, IsWithin, after_entries}
use Rattle.card_closing.specs.Turns.{AreInStep, BeginsWith, Turn, charge_for, charged, debited, left_by, with_amount, with_charge}

pub begins-more : (xs ys : List Entry) → BeginsWith xs (xs ++ ys)
begins-more xs ys = take-append-le (length xs) xs ys (omega arith) ∙ take_all (length xs) xs (omega arith)

-- the credit balance of balances that are sums
pub credit-same : (es : List Entry) (bs : List ℤ) → 0 < length bs → AreBalances es bs → credit_in bs ≡ credit_balance es
credit-same es bs l a = ap (λ z. at_least_zero (neg_ℤ z)) (a.each 0 l)

most : ℕ
most = balance_limit

-- a balance that is raised by what a credit bears
credit-within : (b : ℤ) (x : ℕ) → IsWithin balance_limit b → IsWithin balance_limit (b +ℤ pos (min x (at_least_zero (neg_ℤ b))))
credit-within (pos zero) x w = (omega (arith, ints), omega (arith, ints))
credit-within (pos (suc n)) x w = (omega (arith, ints), omega (arith, ints, w.1))
credit-within (negsuc n) x w = (omega (arith, ints, w.0), omega (arith, ints, w.1))

raised-within : (b : ℤ) (x y : ℕ) → IsWithin balance_limit b → x ≤ 10_000_000_000_000 - at_least_zero b → y ≤ x → IsWithin balance_limit (b +ℤ pos y)
raised-within (pos n) x y w h l = (omega (arith, ints), omega (arith, ints, w.1))
raised-within (negsuc n) x y w h l = (omega (arith, ints, w.0), omega (arith, ints, w.1))

plus-zero : (b m : ℤ) → m ≡ pos 0 → IsWithin balance_limit b → IsWithin balance_limit (b +ℤ m)
plus-zero b m e w = rw e (omega (arith, ints, w.0), omega (arith, ints, w.1))

-- each balance after a debit
debit-within : (note : Note) (bs : List ℤ) (g x s : ℕ) → 2 ≤ g → x ≤ 10_000_000_000_000 - at_least_zero (get_or bs g (pos 0)) → AreWithin balance_limit bs
    → IsWithin balance_limit (get_or bs s (pos 0) +ℤ balance s (debit note g x (credit_in bs)))
debit-within note bs g x s k h w = rw (balance-debit note g x (credit_in bs) s) (by (eqb 0 s) (eqb g s) refl refl)
  where
    by : (p q : Bool) → eqb 0 s ≡ p → eqb g s ≡ q → IsWithin balance_limit (get_or bs s (pos 0) +ℤ (cond p (pos (min x (credit_in bs))) (pos 0) +ℤ cond q (pos (x - credit_in bs)) (pos 0)))
    by true true e f =
        let a = eqb-true 0 s e in
        let b = eqb-true g s f in
        absurd (omega arith)
    by true false e f =
        subst (λ (s : ℕ). IsWithin balance_limit (get_or bs s (pos 0) +ℤ (pos (min x (credit_in bs)) +ℤ pos 0))) (eqb-true 0 s e)
        (first (get_or bs 0 (pos 0)) (pos (min x (credit_in bs))) (credit-within (get_or bs 0 (pos 0)) x (w 0)))
      where
        first : (b m : ℤ) → IsWithin balance_limit (b +ℤ m) → IsWithin balance_limit (b +ℤ (m +ℤ pos 0))
        first b m v = (omega (arith, ints, v.0), omega (arith, ints, v.1))
    by false true e f =
        subst (λ (s : ℕ). IsWithin balance_limit (get_or bs s (pos 0) +ℤ (pos 0 +ℤ pos (x - credit_in bs)))) (eqb-true g s f)
        (second (get_or bs g (pos 0)) (pos (x - credit_in bs)) (raised-within (get_or bs g (pos 0)) x (x - credit_in bs) (w g) h (omega arith)))
      where
        second : (b m : ℤ) → IsWithin balance_limit (b +ℤ m) → IsWithin balance_limit (b +ℤ (pos 0 +ℤ m))
        second b m v = (omega (arith, ints, v.0), omega (arith, ints, v.1))
    by false false e f = plus-zero (get_or bs s (pos 0)) _ (omega (arith, ints)) (w s)

-- in step after a debit
pub in-step : (note : Note) (b : Balances) (es : List Entry) (g x : ℕ) → 2 ≤ g → g < length b.balances → x ≤ 10_000_000_000_000 - at_least_zero (get_or b.balances g (pos 0)) → AreInStep b es
    → AreInStep (after_entries (debit note g x (credit_in b.balances)) b) (es ++ debit note g x (credit_in b.balances))
in-step note b es g x k l h s =
    let known = debit-known note g x (credit_in b.balances) (length b.balances) (omega arith) l in
    record {
      sums = are_balances-posted es (debit note g x (credit_in b.balances)) b.balances known s.sums;
      small = λ i. rw (get_or-posted (debit note g x (credit_in b.balances)) b.balances i known) (debit-within note b.balances g x i k h s.small);
    }

pub debited-same : (note : Note) (b : Balances) (es : List Entry) (g x : ℕ) → 0 < length b.balances → AreInStep b es → es ++ debit note g x (credit_in b.balances) ≡ debited note g x es
unfolding debited
debited-same note b es g x l s = ap (λ c. es ++ debit note g x c) (credit-same es b.balances l s.sums)

-- ---- one segment
pub charged-is : (issued : Option Cycle) (note : Note) (s asked x : ℕ) (t : Turn) (amounts : Amounts) (entries : List Entry) → x ≡ charge_for issued t s asked → amounts ≡ with_amount s x t.amounts → entries ≡ debited note s x t.entries
    → record { amounts = amounts; entries = entries } ≡ charged issued note s asked t
unfolding charged with_charge
charged-is issued note s asked x t amounts entries h k l = rw (k, l, h) refl

pub begins-trans : (xs ys zs : List Entry) → BeginsWith xs ys → BeginsWith ys zs → BeginsWith xs zs
begins-trans xs ys zs h k =
    let short : length xs ≤ length ys = omega (arith, ap length h, length-take (length xs) ys) in
    sym (take-take (length xs) (length ys) zs short) ∙ (ap (take (length xs)) k ∙ h)

-- ---- nothing asked
pub charge-none : (issued : Option Cycle) (t : Turn) (s asked : ℕ) → asked ≡ 0 → 0 ≡ charge_for issued t s asked
unfolding charge_for left_by
charge-none None t s asked none = omega (arith, none)
charge-none (Some c) t s asked none = omega (arith, none)

pub debited-none : (note : Note) (s : ℕ) (es : List Entry) → es ≡ debited note s 0 es
unfolding debited debit
debited-none note s es = sym (rw (least (credit_balance es), less (credit_balance es)) (append-nil es))
  where
    least : (c : ℕ) → min 0 c ≡ 0
    least c = omega arith

    less : (c : ℕ) → 0 - c ≡ 0
    less c = omega arith
