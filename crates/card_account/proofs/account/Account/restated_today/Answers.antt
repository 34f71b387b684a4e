use Rattle.std.proofs.Common.{◌≡◌, Option, None, sym, ap, subst, ◌∙◌}
use Rattle.std.specs.Option.{option_map}
use Rattle.std.specs.Prelude.{IfOk}
use Rattle.card_account.specs.Accounts.{IsIssueOf, IsRestatedOn, OpenAccount, replay_of, restated_statement}
use Rattle.card_book.specs.Statements.{statement_on}
use Rattle.card_daily.specs.declared.track.Statement.{Statement}
use Rattle.card_model.specs.Folds.{cycle_at}
use Rattle.card_model.specs.Refusals.{Lists, book_today}
use Rattle.card_replay.specs.Replays.{IsToday, given_of, present_of}
use Rattle.card_account.proofs.account.Account.restated_today.Goals as goal

pub statement-requires-clause-today : goal.statement-requires-clause-today
statement-requires-clause-today c =
    subst (λ (a : OpenAccount). IsToday c.args.today c.args.shared.now (replay_of a)) (sym c.self.view_is)
    (record { replay = c.requires.account.replay; reached = c.requires.today; opened = c.requires.account.reach.opened })

pub statement-requires-clause-small : goal.statement-requires-clause-small
statement-requires-clause-small c =
    let now = present_of c.args.today c.args.shared.now c.args.self.now.named.lists in
    let issue : IsRestatedOn now c.args.cycle c.in-Some.issue = subst (IsIssueOf now c.args.cycle) c.in-Some.is c.issue_today.ensures in
    issue.small

pub returns-in-Some : goal.returns-in-Some
returns-in-Some c =
    let today = c.args.today in
    let shared = c.args.shared.now in
    let cycle = c.args.cycle in
    let day = c.in-Some.issue in
    let now = present_of today shared c.args.self.now.named.lists in
    let issue : IsRestatedOn now cycle day = subst (IsIssueOf now cycle) c.in-Some.is c.issue_today.ensures in
    let lists = ap (λ (a : OpenAccount). a.named.lists) c.self.view_is in
    subst (λ (o : Option Statement). IfOk c.statement.result (λ s. s ≡ o))
    (ap (λ (l : Lists). option_map (statement_on (given_of l shared) day) (cycle_at cycle (book_today (present_of today shared l)).cycles)) lists ∙ sym issue.statement) c.statement.ensures

pub returns-in-None : goal.returns-in-None
returns-in-None c =
    let now = present_of c.args.today c.args.shared.now c.args.self.now.named.lists in
    let none : restated_statement now c.args.cycle ≡ None = subst (IsIssueOf now c.args.cycle) c.in-None.is c.issue_today.ensures in
    sym none
