-- A statement that comes too late counts as paid.
use Rattle.std.proofs.Common.{◌≡◌, ℕ, ◌+◌, ◌≤◌, ◌<◌, Bool, true, false, ◌&&◌, ◌||◌, List, [], ◌∷◌, eqb, leb, refl, arith}
use Rattle.std.proofs.lemmas.Bool.{eqb-true}
use Rattle.std.proofs.lemmas.Bool.Decides.{nat_tests}
use Rattle.std.proofs.lemmas.List.Elements.{All-head, All-tail}
use Rattle.card_events.specs.History.{CorrectedPost}
use Rattle.card_model.specs.Cycles.{Cycle, IssuedRow}
use Rattle.card_model.specs.Payments.{has_due_payment, is_paid}
use Rattle.card_rules.proofs.Grace.{purchases_bear_no_more}
use Rattle.card_rules.specs.Grace.{was_paid}
use Rattle.card_rules.specs.LateStatements.{IsTooLate, LateStatementsCostNoGrace}

low-is : (n m : ℕ) → leb n m ≡ true → n ≤ m
low-is n m e = grind (arith, nat_tests)

not-due : (issued : List IssuedRow) (c : Cycle) → IsTooLate issued c → has_due_payment issued c ≡ false
not-due [] c h = refl
not-due (r ∷ rs) c h =
    by (eqb r.cycle c.number) refl (leb (r.day + 21) c.due) refl (All-head (λ (x : IssuedRow). x.cycle ≡ c.number → c.due < x.day + 21) r rs h)
    (not-due rs c (All-tail (λ (x : IssuedRow). x.cycle ≡ c.number → c.due < x.day + 21) r rs h))
  where
    by : (t : Bool) → eqb r.cycle c.number ≡ t → (u : Bool) → leb (r.day + 21) c.due ≡ u → (r.cycle ≡ c.number → c.due < r.day + 21) → has_due_payment rs c ≡ false
        → ((t && u) || has_due_payment rs c) ≡ false
    by false e u f late i = i
    by true e false f late i = i
    by true e true f late i = let l = late (eqb-true r.cycle c.number e) in let m = low-is (r.day + 21) c.due f in absurd (omega (arith, l, m))

as-paid : (issued : List IssuedRow) (posts : List CorrectedPost) (c : Cycle) → IsTooLate issued c → was_paid issued posts c ≡ true
unfolding is_paid
as-paid issued posts c h = rw (not-due issued c h) refl

pub late_statements_cost_no_grace : LateStatementsCostNoGrace
late_statements_cost_no_grace history issued shared day k c last g o l at there is e late before =
    (purchases_bear_no_more history issued shared day k c g o l at there is).paid last e (as-paid issued _ last late) before
