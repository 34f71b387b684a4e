use Rattle.std.proofs.Common.{◌≡◌, ◌+◌, ◌≤◌, List, ℕ, sym, ap, subst, ◌∙◌}
use Rattle.std.specs.Prelude.{IfOk}
use Rattle.card_account.specs.Accounts.{HasTold, OpenAccount, steps_of}
use Rattle.card_account.proofs.Told.{is-today, on-any}
use Rattle.card_events.specs.History.{anchor_of}
use Rattle.card_model.specs.Deadlines.{credit_since}
use Rattle.card_model.specs.Machine.{NamedAccount}
use Rattle.card_model.specs.Refusals.{Present, book_today}
use Rattle.card_model.specs.Work.{tasks_in}
use Rattle.card_replay.specs.Replays.{present_of}
use Rattle.card_account.proofs.account.Account.tasks.Goals as goal

pub folded-folded-requires : goal.folded-folded-requires
folded-folded-requires g c = is-today c.args.today c.args.shared.now c.args.self.now c.to_day.new.self c.in_ok-to_day.ensures.today

pub present-now-requires-clause-account : goal.present-now-requires-clause-account
present-now-requires-clause-account g c = c.to_day.ensures.told.account

pub present-now-requires-clause-today : goal.present-now-requires-clause-today
present-now-requires-clause-today g c = c.in_ok-to_day.ensures.today.reached

pub tasks_today-requires-clause-book : goal.tasks_today-requires-clause-book
tasks_today-requires-clause-book g c = c.folded-folded.ensures.book ∙ ap book_today (sym c.present-now.ensures)

pub tasks_today-requires-clause-since : goal.tasks_today-requires-clause-since
tasks_today-requires-clause-since g c =
    c.folded-folded.ensures.since ∙ ap (λ (now : Present). credit_since (book_today now).entries (anchor_of now.lists.posts).opened now.today) (sym c.present-now.ensures)

pub returns-clause-today : goal.returns-clause-today
returns-clause-today g c = on-any c.tasks_today.result (HasTold c.args.today c.args.shared.now c.args.self.now c.to_day.new.self) c.in_ok-to_day.ensures.today

pub returns-clause-value : goal.returns-clause-value
returns-clause-value g c =
    let today = c.args.today in
    let shared = c.args.shared.now in
    let name = ap (λ (a : OpenAccount). a.named.name) c.self.view_is in
    let named = subst (λ (n : List ℕ). IfOk c.tasks_today.result (λ tasks. tasks.items ≡ tasks_in n c.present-now.result (book_today c.present-now.result))) name c.tasks_today.ensures in
    let now = subst (λ (x : Present). IfOk c.tasks_today.result (λ tasks. tasks.items ≡ tasks_in c.to_day.new.self.named.name x (book_today x))) {y = present_of today shared c.to_day.new.self.named.lists} c.present-now.ensures named in
    subst (λ (a : NamedAccount). IfOk c.tasks_today.result (λ tasks. tasks.items ≡ tasks_in a.name (present_of today shared a.lists) (book_today (present_of today shared a.lists)))) {y = c.args.self.now.named} c.to_day.ensures.told.named now

pub returns-clause-spent : goal.returns-clause-spent
returns-clause-spent g c =
    on-any c.tasks_today.result
    (c.to_day.new.steps + steps_of c.args.today c.args.shared.now c.to_day.new.self ≤ c.args.steps.now + steps_of c.args.today c.args.shared.now c.args.self.now) c.in_ok-to_day.ensures.spent
