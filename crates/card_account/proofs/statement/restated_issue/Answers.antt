use Rattle.std.proofs.Common.{◌≡◌, ℕ, true, false, None, Some, Option, sym, ap, ◌∙◌}
use Rattle.std.specs.Prelude.{Bool, if◌then◌else◌, option_copied}
use Rattle.std.specs.Option.{option_map}
use Rattle.card_account.specs.Accounts.{is_closed, issue_of, restated_as, restated_statement}
use Rattle.card_book.specs.Statements.{statement_on}
use Rattle.card_daily.specs.Given.{given_today}
use Rattle.card_model.specs.Books.{Book}
use Rattle.card_model.specs.Caps.{row_for}
use Rattle.card_model.specs.Cycles.{Cycle, IssuedRow}
use Rattle.card_model.specs.Folds.{cycle_at}
use Rattle.card_model.specs.Refusals.{Present, book_today}
use Rattle.card_account.proofs.statement.restated_issue.Goals as goal

by_closed : (now : Present) (cycle : ℕ) (b : Bool) → is_closed now.today now.lists cycle ≡ b
    → (if b then option_map (restated_as now (row_for cycle now.lists.issued)) (cycle_at cycle (book_today now).cycles) else None) ≡ restated_statement now cycle
unfolding restated_statement
by_closed now cycle b is =
    ap (λ (t : Bool). if t then option_map (restated_as now (row_for cycle now.lists.issued)) (cycle_at cycle (book_today now).cycles) else None) (sym is)

-- of a cycle that is there, by its row
on_issue : (now : Present) (cycle day : ℕ) (row : Option IssuedRow) (o : Option Cycle) (c : Cycle) → Some c ≡ o → day ≡ issue_of row c
    → option_map (restated_as now row) o ≡ option_map (statement_on (given_today now) day) o
on_issue now cycle day row o c there is =
    ap (option_map (restated_as now row)) (sym there)
    ∙ (ap (λ (d : ℕ). Some (statement_on (given_today now) d c)) (sym is) ∙ ap (option_map (statement_on (given_today now) day)) there)

pub returns-then-not-is_closed : goal.returns-then-not-is_closed
returns-then-not-is_closed c = sym (by_closed c.args.now.now c.args.cycle false (sym c.is_closed.ensures.value ∙ c.if-not-is_closed.true))

pub closed_cycle-requires : goal.closed_cycle-requires
closed_cycle-requires c = c.is_closed.ensures.small c.if-not-is_closed.false

pub returns-in-Some : goal.returns-in-Some
returns-in-Some c =
    let now = c.args.now.now in
    let cycle = c.args.cycle in
    let closed = c.in-Some.closed.now in
    let there = sym (ap option_copied c.in-Some.is) ∙ (c.closed_cycle.ensures ∙ ap (λ (b : Book). cycle_at cycle b.cycles) c.requires.book) in
    let row = c.issued_for.ensures ∙ ap (λ (n : ℕ). row_for n now.lists.issued) c.get.ensures.value in
    let day = c.issue_of.ensures ∙ ap (λ (r : Option IssuedRow). issue_of r closed) row in
    record {
      small = c.is_closed.ensures.small c.if-not-is_closed.false;
      statement = sym (by_closed now cycle true (sym c.is_closed.ensures.value ∙ c.if-not-is_closed.false))
          ∙ on_issue now cycle c.issue_of.result (row_for cycle now.lists.issued) (cycle_at cycle (book_today now).cycles) closed there day;
    }

pub returns-in-None : goal.returns-in-None
returns-in-None c =
    let now = c.args.now.now in
    let cycle = c.args.cycle in
    let none = sym (ap option_copied c.in-None.is) ∙ (c.closed_cycle.ensures ∙ ap (λ (b : Book). cycle_at cycle b.cycles) c.requires.book) in
    sym (by_closed now cycle true (sym c.is_closed.ensures.value ∙ c.if-not-is_closed.false)) ∙ ap (option_map (restated_as now (row_for cycle now.lists.issued))) (sym none)
