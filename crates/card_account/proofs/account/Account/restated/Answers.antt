use Rattle.std.proofs.Common.{◌≡◌, ◌+◌, ◌≤◌, Option, ap, subst}
use Rattle.std.specs.Prelude.{IfOk}
use Rattle.card_account.specs.Accounts.{HasTold, restated_statement, steps_of}
use Rattle.card_account.proofs.Told.{on-any}
use Rattle.card_daily.specs.declared.track.Statement.{Statement}
use Rattle.card_model.specs.Machine.{NamedAccount}
use Rattle.card_replay.specs.Replays.{present_of}
use Rattle.card_account.proofs.account.Account.restated.Goals as goal

pub restated_today-requires-clause-account : goal.restated_today-requires-clause-account
restated_today-requires-clause-account g c = c.to_day.ensures.told.account

pub restated_today-requires-clause-today : goal.restated_today-requires-clause-today
restated_today-requires-clause-today g c = c.in_ok-to_day.ensures.today.reached

pub returns-clause-today : goal.returns-clause-today
returns-clause-today g c = on-any c.restated_today.result (HasTold c.args.today c.args.shared.now c.args.self.now c.to_day.new.self) c.in_ok-to_day.ensures.today

pub returns-clause-value : goal.returns-clause-value
returns-clause-value g c =
    subst (λ (o : Option Statement). IfOk c.restated_today.result (λ s. s ≡ o))
    (ap (λ (a : NamedAccount). restated_statement (present_of c.args.today c.args.shared.now a.lists) c.args.cycle) c.to_day.ensures.told.named) c.restated_today.ensures

pub returns-clause-spent : goal.returns-clause-spent
returns-clause-spent g c =
    on-any c.restated_today.result
    (c.to_day.new.steps + steps_of c.args.today c.args.shared.now c.to_day.new.self ≤ c.args.steps.now + steps_of c.args.today c.args.shared.now c.args.self.now) c.in_ok-to_day.ensures.spent
