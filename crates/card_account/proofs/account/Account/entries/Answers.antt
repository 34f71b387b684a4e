use Rattle.std.proofs.Common.{◌≡◌, ◌+◌, ◌≤◌, sym, ap, subst, ◌∙◌}
use Rattle.std.specs.Prelude.{IfOk}
use Rattle.card_account.specs.Accounts.{HasTold, steps_of}
use Rattle.card_account.specs.Entries.{entries_today}
use Rattle.card_account.proofs.Told.{is-today, on-any}
use Rattle.card_model.specs.Machine.{NamedAccount}
use Rattle.card_model.specs.Refusals.{Present, book_today}
use Rattle.card_replay.specs.Replays.{present_of}
use Rattle.card_rates.specs.Segments.{account_segments}
use Rattle.card_account.proofs.account.Account.entries.Goals as goal

pub folded-folded-requires : goal.folded-folded-requires
folded-folded-requires g c = is-today c.args.today c.args.shared.now c.args.self.now c.to_day.new.self c.in_ok-to_day.ensures.today

pub present-requires-clause-account : goal.present-requires-clause-account
present-requires-clause-account g c = c.to_day.ensures.told.account

pub present-requires-clause-today : goal.present-requires-clause-today
present-requires-clause-today g c = c.in_ok-to_day.ensures.today.reached

pub entries_today-requires-clause-book : goal.entries_today-requires-clause-book
entries_today-requires-clause-book g c = c.folded-folded.ensures.book ∙ ap book_today (sym c.present.ensures)

pub entries_today-requires-clause-segments : goal.entries_today-requires-clause-segments
entries_today-requires-clause-segments g c = c.folded-folded.ensures.segments ∙ ap (λ (now : Present). account_segments now.shared.holidays now.lists.posts) (sym c.present.ensures)

pub returns-clause-today : goal.returns-clause-today
returns-clause-today g c = on-any c.entries_today.result (HasTold c.args.today c.args.shared.now c.args.self.now c.to_day.new.self) c.in_ok-to_day.ensures.today

pub returns-clause-value : goal.returns-clause-value
returns-clause-value g c =
    subst (λ (now : Present). IfOk c.entries_today.result (λ list. list ≡ entries_today now))
    (c.present.ensures ∙ ap (λ (a : NamedAccount). present_of c.args.today c.args.shared.now a.lists) c.to_day.ensures.told.named) c.entries_today.ensures

pub returns-clause-spent : goal.returns-clause-spent
returns-clause-spent g c =
    on-any c.entries_today.result
    (c.to_day.new.steps + steps_of c.args.today c.args.shared.now c.to_day.new.self ≤ c.args.steps.now + steps_of c.args.today c.args.shared.now c.args.self.now) c.in_ok-to_day.ensures.spent
