-- The refund of a credit balance is a task, six months after its first day.
use Rattle.std.proofs.Common.{◌≡◌, ℕ, zero, suc, ◌+◌, ◌-◌, ◌≤◌, ◌<◌, ◌⊎◌, inl, inr, Bool, true, false, cond, List, ◌++◌, eqb, ltb, refl, sym, ap, subst, arith, Option, Some}
use Rattle.std.proofs.lemmas.Bool.{cases_lt, eqb-true, ne_eqb}
use Rattle.std.proofs.lemmas.Bool.Decides.{nat_tests}
use Rattle.std.proofs.lemmas.List.Elements.{Contains-append_left, Contains-append_right}
use Rattle.std.specs.List.{Contains}
use Rattle.std.specs.Option.{option_map, option_to_list}
use Rattle.card_events.specs.History.{CorrectedPost}
use Rattle.card_events.specs.Later.{six_months_after}
use Rattle.card_events.specs.declared.anchor.Anchor.{Anchor}
use Rattle.card_model.specs.Deadlines.{ack_due, credit_due, credit_on, credit_run, credit_since, lower_due, open_tasks, refund_due, resolve_due, review_by, task_of, task_without_post, tasks_of}
use Rattle.card_model.specs.declared.entry.Entry.{Entry}
use Rattle.card_model.specs.declared.task.TaskKind.TheVariants as task
use Rattle.card_rules.proofs.Months.{six-months}
use Rattle.card_rules.proofs.RefundTasks.{in-order}
use Rattle.card_rules.specs.CreditTasks.{CreditBalancesAreTasks, HasStoodSince}

-- ---- the run of days that end with a credit balance
stood : (entries : List Entry) (opened n day : ℕ) → day ≡ opened + n → 0 < credit_on entries day → HasStoodSince entries opened day (credit_run entries n day)
unfolding credit_run
stood entries opened zero day e some = record {
  low = omega arith;
  high = omega arith;
  each = λ x l m. let same : x ≡ day = omega arith in subst (λ d. 0 < credit_on entries d) (sym same) some;
  before = inl (omega arith);
}
stood entries opened (suc n) day e some = by (eqb (credit_on entries (day - 1)) 0) refl (λ left. stood entries opened n (day - 1) (omega (arith, e)) left)
  where
    on : (r : ℕ) → r ≤ day - 1 → ((x : ℕ) → r ≤ x → x ≤ day - 1 → 0 < credit_on entries x) → (x : ℕ) → r ≤ x → x ≤ day → 0 < credit_on entries x
    on r high each x l m = pick (cases_lt x day)
      where
        pick : (x < day) ⊎ (day ≤ x) → 0 < credit_on entries x
        pick (inl less) = each x l (omega (arith, less))
        pick (inr more) = let same : x ≡ day = omega (arith, m, more) in subst (λ d. 0 < credit_on entries d) (sym same) some

    goes-on : HasStoodSince entries opened (day - 1) (credit_run entries n (day - 1)) → HasStoodSince entries opened day (credit_run entries n (day - 1))
    goes-on h =
        let low = h.low in
        let high = h.high in
        record { low = low; high = omega (arith, high); each = on (credit_run entries n (day - 1)) high h.each; before = h.before }

    by : (t : Bool) → eqb (credit_on entries (day - 1)) 0 ≡ t → (0 < credit_on entries (day - 1) → HasStoodSince entries opened (day - 1) (credit_run entries n (day - 1)))
        → HasStoodSince entries opened day (cond t day (credit_run entries n (day - 1)))
    by true f r = record {
      low = omega (arith, e);
      high = omega arith;
      each = λ x l m. let same : x ≡ day = omega (arith, l, m) in subst (λ d. 0 < credit_on entries d) (sym same) some;
      before = inr (eqb-true (credit_on entries (day - 1)) 0 f);
    }
    by false f r = goes-on (r (grind (arith, nat_tests)))

since-is : (entries : List Entry) (opened today : ℕ) → 0 < credit_on entries today → credit_since entries opened today ≡ Some (credit_run entries (today - opened) today)
unfolding credit_since
since-is entries opened today some =
    let left : eqb (credit_on entries today) 0 ≡ false = ne_eqb (credit_on entries today) 0 (λ z. omega (arith, some, z)) in
    rw left refl

-- ---- the task
waiting : (account : List ℕ) (a : Anchor) (holidays : List ℕ) (posts : List CorrectedPost) (credit : ℕ) (o : Option ℕ) (since today : ℕ) → o ≡ Some since → 100 < credit
    → Contains (open_tasks account a holidays posts credit o today) (task_of account task.Credit 0 (six_months_after since))
unfolding open_tasks
waiting account a holidays posts credit o since today e above =
    let x = task_of account task.Credit 0 (six_months_after since) in
    let first = tasks_of account task.Ack (ack_due posts) posts in
    let second = tasks_of account task.Resolve (resolve_due a posts) posts in
    let third = tasks_of account task.Refund (refund_due holidays credit posts) posts in
    let fourth = task_without_post account task.Credit (credit_due credit o) in
    let fifth = task_without_post account task.Review (review_by posts today) in
    let sixth = tasks_of account task.Lower (lower_due posts) posts in
    let over : ltb 100 credit ≡ true = grind (arith, nat_tests) in
    let due : credit_due credit o ≡ Some (six_months_after since) = rw over (ap (option_map six_months_after) e) in
    let made : Contains fourth x = subst (λ by. Contains (option_to_list (option_map (task_of account task.Credit 0) by)) (task_of account task.Credit 0 (six_months_after since))) (sym due) (zero, omega arith, refl) in
    in-order x (first ++ second ++ third ++ fourth ++ fifth ++ sixth)
    (Contains-append_left (first ++ second ++ third ++ fourth ++ fifth) sixth x
    (Contains-append_left (first ++ second ++ third ++ fourth) fifth x (Contains-append_right (first ++ second ++ third) fourth x made)))

pub credit_balances_are_tasks : CreditBalancesAreTasks
credit_balances_are_tasks account a holidays posts entries credit today opened some above = record {
  since = since;
  stood = stood entries a.opened (today - a.opened) today (omega (arith, opened)) some;
  waits =
      subst (λ by. Contains (open_tasks account a holidays posts credit (credit_since entries a.opened today) today) (task_of account task.Credit 0 by)) (sym (six-months since))
      (waiting account a holidays posts credit (credit_since entries a.opened today) since today (since-is entries a.opened today some) above);
}
  where
    since : ℕ
    since = credit_run entries (today - a.opened) today
