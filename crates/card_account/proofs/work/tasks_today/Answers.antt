use Rattle.std.proofs.Common.{◌≤◌, ℕ, subst, sym, ◌∙◌, Option}
use Rattle.std.specs.Prelude.{IfSome}
use Rattle.card_account.proofs.CreditLemmas.{since-by}
use Rattle.card_account.proofs.work.tasks_today.Goals as goal
use Rattle.card_events.specs.Range.{last_request_day}

pub work_of-requires-clause-since : goal.work_of-requires-clause-since
work_of-requires-clause-since c =
    subst (λ (o : Option ℕ). IfSome o (λ d. d ≤ last_request_day)) (sym (c.credit_since.ensures ∙ c.requires.since)) (since-by _ _ _ last_request_day c.today.ensures.reached.dated)
