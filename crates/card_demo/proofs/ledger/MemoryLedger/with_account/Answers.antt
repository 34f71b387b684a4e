use Rattle.std.proofs.Common.{◌≡◌, ℕ, List, IfOk, ap, ◌∙◌, subst}
use Rattle.card_demo.specs.Requests.{account}
use Rattle.card_demo.specs.Summary.{entries_in}
use Rattle.card_demo.specs.Sums.{entries_seen, with_entries}
use Rattle.card_demo.proofs.SumLemmas.{account_seen}
use Rattle.card_desk.specs.Views.{seen}
use Rattle.card_desk.specs.declared.view.Ask.TheVariants as ask
use Rattle.card_model.specs.Machine.{State, lists_of}
use Rattle.card_model.specs.declared.entry.Entry.{Entry}
use Rattle.card_demo.proofs.ledger.MemoryLedger.with_account.Goals as goal

pub returns-clause-same : goal.returns-clause-same
returns-clause-same c = c.with_answer.ensures.state ∙ c.self.view_is

pub returns-clause-sums : goal.returns-clause-sums
returns-clause-sums c =
    let s = c.args.self.now in
    let d = c.self.inside.desk.state in
    let name = c.in_ok-name.name in
    let listed : entries_seen (seen d (ask.Entries name)) ≡ entries_in s (lists_of (account c.args.i) s.accounts) =
    account_seen d name ∙ (ap (λ (n : List ℕ). entries_in d (lists_of n d.accounts)) c.in_ok-name.ensures ∙ ap (λ (x : State). entries_in x (lists_of (account c.args.i) x.accounts)) c.self.view_is) in
    subst (λ (l : List Entry). IfOk c.with_answer.result (λ t. t ≡ with_entries l c.args.sums.now)) listed c.with_answer.ensures.sums
