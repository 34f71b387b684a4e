-- A credit balance has stood since today or an earlier day.
use Rattle.std.proofs.Common.{ℕ, zero, suc, ◌-◌, ◌≤◌, ◌==◌, Bool, true, false, cond, List, Some, None, arith}
use Rattle.std.specs.Prelude.{IfSome}
use Rattle.card_model.specs.Deadlines.{credit_on, credit_run, credit_since}
use Rattle.card_model.specs.declared.entry.Entry.{Entry}

run-by : (entries : List Entry) (n day : ℕ) → credit_run entries n day ≤ day
unfolding credit_run
run-by entries zero day = omega arith
run-by entries (suc n) day = at (credit_on entries (day - 1) == 0) (run-by entries n (day - 1))
  where
    at : (b : Bool) → credit_run entries n (day - 1) ≤ day - 1 → cond b day (credit_run entries n (day - 1)) ≤ day
    at true l = omega arith
    at false l = omega (arith, l)

pub since-by : (entries : List Entry) (opened today last : ℕ) → today ≤ last → IfSome (credit_since entries opened today) (λ d. d ≤ last)
unfolding credit_since
since-by entries opened today last l = at (credit_on entries today == 0) (run-by entries (today - opened) today)
  where
    at : (b : Bool) → credit_run entries (today - opened) today ≤ today → IfSome (cond b None (Some (credit_run entries (today - opened) today))) (λ d. d ≤ last)
    at true m = tt
    at false m = omega (arith, m, l)
