-- What can be asked of a ledger.
use Rattle.std.specs.Prelude.{ℕ, pos, Option, Some, None}
use Rattle.card_account.specs.Accounts.{issued_statement, restated_statement}
use Rattle.card_account.specs.Entries.{entries_today}
use Rattle.card_daily.specs.declared.track.Statement.{Statement}
use Rattle.card_desk.specs.declared.view.Ask.{Ask}
use Rattle.card_desk.specs.declared.view.Ask.TheVariants as ask
use Rattle.card_desk.specs.declared.view.View.{View}
use Rattle.card_desk.specs.declared.view.View.TheVariants as view
use Rattle.card_model.specs.Books.{Book}
use Rattle.card_model.specs.Entries.{credit_balance, owed, owing}
use Rattle.card_model.specs.Machine.{State, lists_of}
use Rattle.card_model.specs.Refusals.{Lists, book_today}
use Rattle.card_model.specs.Work.{present_in, work}

-- what is owed in a book, the credit balance and what is held in dispute
abbrev pub shown_of : ℕ → Book → View
shown_of today b = view.Show today (owed b.entries) (pos (credit_balance b.entries)) (pos (owing 1 b.entries))

-- what is shown of an account that has these lists, if it is there: its book of today
abbrev pub shown : State → Option Lists → View
shown s None = view.NoAccount
shown s (Some lists) = shown_of s.today (book_today (present_in s lists))

-- a statement, or that it isn't there
abbrev pub stated : Option Statement → View
stated None = view.NoStatement
stated (Some statement) = view.Statement statement

-- the statement of a cycle as it was issued, where the account is there
abbrev pub issued : ℕ → Option Lists → View
issued cycle None = view.NoAccount
issued cycle (Some lists) = stated (issued_statement cycle lists.issued)

-- the statement of a cycle as the book of today has it, where the account is there
abbrev pub restated : State → ℕ → Option Lists → View
restated s cycle None = view.NoAccount
restated s cycle (Some lists) = stated (restated_statement (present_in s lists) cycle)

-- the entries of an account by its book of today, with its segments, where it is there
abbrev pub listed : State → Option Lists → View
listed s None = view.NoAccount
listed s (Some lists) = view.Entries (entries_today (present_in s lists))

-- the answer to what is asked
unfoldable pub seen : State → Ask → View
seen s (ask.Show account) = shown s (lists_of account s.accounts)
seen s (ask.Issued account cycle) = issued cycle (lists_of account s.accounts)
seen s (ask.Restated account cycle) = restated s cycle (lists_of account s.accounts)
seen s (ask.Entries account) = listed s (lists_of account s.accounts)
seen s ask.Work = view.Work (work s)
