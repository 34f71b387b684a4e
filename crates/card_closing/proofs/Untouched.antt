-- A segment that is asked for nothing stays as it was.
use Rattle.std.proofs.Common.{◌≡◌, ℕ, zero, suc, ◌+◌, ◌-◌, ◌≤◌, Bool, true, false, cond, List, [], ◌∷◌, refl, ap, ◌∙◌, arith, ℤ, pos, ◌+ℤ◌, eqb, Option}
use Rattle.std.specs.Prelude.{min}
use Rattle.std.specs.List.{All}
use Rattle.std.proofs.lemmas.Bool.{eqb-true, ne_eqb}
use Rattle.std.proofs.lemmas.Int.{ints}
use Rattle.std.proofs.lemmas.List.Elements.{All-head, All-tail}
use Rattle.card_model.specs.Cycles.{IssuedRow, amount_at}
use Rattle.card_model.specs.Entries.{balance, credit_balance, debit}
use Rattle.card_model.specs.declared.entry.Entry.{Entry}
use Rattle.card_model.specs.declared.entry.Note.{Note}
use Rattle.card_model.proofs.EntryFacts.{balance-append, balance-debit}
use Rattle.card_closing.specs.Interest.{statement_of}
use Rattle.card_closing.specs.Turns.{Turn, charge_for, debited, in_turn, with_charge}
use Rattle.card_closing.proofs.Bridge.{at-with, charge-none}

-- its amounts and its balance are the same
pub record IsSameAt (s : ℕ) (t u : Turn) : Type 0 where
  pub charged : amount_at s u.amounts ≡ amount_at s t.amounts
  pub owes : balance s u.entries ≡ balance s t.entries

nothing : (t : Bool) (x : ℕ) → (t ≡ true → x ≡ 0) → cond t x 0 ≡ 0
nothing true x h = h refl
nothing false x h = refl

no-rest : (t : Bool) (x c : ℕ) → (t ≡ true → x ≡ 0) → cond t (pos (x - c)) (pos 0) ≡ pos 0
no-rest true x c h = let z = h refl in let none : x - c ≡ 0 = omega (arith, z) in ap (λ n. pos n) none
no-rest false x c h = refl

one : (note : Note) (k s x : ℕ) (t : Turn) → 2 ≤ s → (eqb k s ≡ true → x ≡ 0) → IsSameAt s t (with_charge note k x t)
unfolding with_charge debited
one note k s x t low h = record {
  charged = at-with s k x t.amounts ∙ (ap (λ n. amount_at s t.amounts + n) (nothing (eqb k s) x h) ∙ plus (amount_at s t.amounts));
  owes =
      balance-append s t.entries (debit note k x c)
      ∙ (ap (λ z. balance s t.entries +ℤ z) (balance-debit note k x c s ∙ (ap (λ q. cond q (pos (min x c)) (pos 0) +ℤ cond (eqb k s) (pos (x - c)) (pos 0)) other ∙ ap (λ z. pos 0 +ℤ z) (no-rest (eqb k s) x c h)))
      ∙ same (balance s t.entries));
}
  where
    c : ℕ
    c = credit_balance t.entries

    other : eqb 0 s ≡ false
    other = ne_eqb 0 s (λ e. omega (arith, low, e))

    plus : (n : ℕ) → n + 0 ≡ n
    plus n = omega arith

    same : (z : ℤ) → z +ℤ (pos 0 +ℤ pos 0) ≡ z
    same z = omega (arith, ints)

pub untouched : (row : Option IssuedRow) (note : Note) (asked : List Entry → ℕ → ℕ) (s n : ℕ) (t : Turn) → 2 ≤ s → ((es : List Entry) → asked es s ≡ 0) → IsSameAt s t (in_turn (statement_of row) note asked n t)
unfolding in_turn
untouched row note asked s zero t low h = record { charged = refl; owes = refl }
untouched row note asked s (suc n) t low h =
    let u = in_turn (statement_of row) note asked n t in
    let before = untouched row note asked s n t low h in
    let x = charge_for (statement_of row) u (n + 2) (asked u.entries (n + 2)) in
    let last = one note (n + 2) s x u low (λ e. charge-none row u (n + 2) (asked u.entries (n + 2)) (ap (λ i. asked u.entries i) (eqb-true (n + 2) s e) ∙ h u.entries)) in
    record { charged = last.charged ∙ before.charged; owes = last.owes ∙ before.owes }

pub same-then : (s : ℕ) (t u v : Turn) → IsSameAt s t u → IsSameAt s u v → IsSameAt s t v
same-then s t u v h k = record { charged = k.charged ∙ h.charged; owes = k.owes ∙ h.owes }

pub balance-none : (s : ℕ) (es : List Entry) → All (λ e. eqb e.segment s ≡ false) es → balance s es ≡ pos 0
balance-none s [] h = refl
balance-none s (e ∷ es) h = rw (All-head (λ (e : Entry). eqb e.segment s ≡ false) e es h) (omega (arith, ints, balance-none s es (All-tail (λ (e : Entry). eqb e.segment s ≡ false) e es h)))
