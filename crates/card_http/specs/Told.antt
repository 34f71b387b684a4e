-- The texts of what is asked of a ledger.
use Rattle.std.specs.Prelude.{ℕ, List, Option, Some, None}
use Rattle.card_daily.specs.declared.track.Statement.{Statement}
use Rattle.card_desk.specs.Views.{seen}
use Rattle.card_desk.specs.declared.view.Ask.{Ask}
use Rattle.card_desk.specs.declared.view.Ask.TheVariants as ask
use Rattle.card_desk.specs.declared.view.View.{View}
use Rattle.card_desk.specs.declared.view.View.TheVariants as view
use Rattle.card_lines.specs.Replies.{show_text}
use Rattle.card_model.specs.Machine.{State}
use Rattle.card_text.specs.Export.{export_text}
use Rattle.card_text.specs.Repayment.{repayment_text}
use Rattle.card_text.specs.Statements.{statement_text}
use Rattle.card_text.specs.Tasks.{tasks_text}

-- what is owed on an account, where the account is there
abbrev pub show_told : List ℕ → View → Option (List ℕ)
show_told account (view.Show day owed credit held) = Some (show_text account day owed credit held)
show_told account _ = None

-- a statement as text, of an account with this name
abbrev pub text_of_statement : List ℕ → Statement → List ℕ
text_of_statement account s = statement_text account s.cycle s.sheet

-- the statement of an account, where it is there
abbrev pub statement_told : List ℕ → View → Option (List ℕ)
statement_told account (view.Statement s) = Some (text_of_statement account s)
statement_told account _ = None

-- the entries of an account as CSV, where the account is there
abbrev pub entries_told : View → Option (List ℕ)
entries_told (view.Entries list) = Some (export_text list.entries list.segments)
entries_told _ = None

-- the open tasks
abbrev pub work_told : View → Option (List ℕ)
work_told (view.Work tasks) = Some (tasks_text tasks)
work_told _ = None

-- what the balances of a statement come to where they are repaid, where the statement is there
abbrev pub repayment_told : View → Option (List ℕ)
repayment_told (view.Statement s) = Some (repayment_text s.sheet)
repayment_told _ = None

-- the text of the answer to what is asked; None: it isn't there
abbrev pub view_told : Ask → View → Option (List ℕ)
view_told (ask.Show account) v = show_told account v
view_told (ask.Issued account cycle) v = statement_told account v
view_told (ask.Restated account cycle) v = statement_told account v
view_told (ask.Entries account) v = entries_told v
view_told ask.Work v = work_told v

-- the text of what is asked of this ledger
unfoldable pub told : State → Ask → Option (List ℕ)
told s a = view_told a (seen s a)

-- what the statement that is asked of this ledger comes to where it is repaid; None: it isn't there
unfoldable pub repaid : State → Ask → Option (List ℕ)
repaid s a = repayment_told (seen s a)
