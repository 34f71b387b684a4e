use Rattle.std.proofs.Common.{◌≡◌, IfOk, ap, ◌∙◌, subst}
use Rattle.card_demo.proofs.PieceLemmas.{progress_of}
use Rattle.card_demo.specs.Progress.{Progress}
use Rattle.card_demo.specs.Summary.{all_entries}
use Rattle.card_demo.specs.Sums.{totals}
use Rattle.card_model.specs.Machine.{State}
use Rattle.card_demo.proofs.progress.Progress.totals.Goals as goal

pub returns-clause-same : goal.returns-clause-same
returns-clause-same c =
    let d = c.self.inside in
    ap (λ (s : State). progress_of s d.generator d.tally.count d.tally.refused) c.totals.ensures.same ∙ c.self.view_is

pub returns-clause-totals : goal.returns-clause-totals
returns-clause-totals c = subst (λ (p : Progress). IfOk c.totals.result (λ t. t ≡ totals (all_entries p.state c.args.accounts))) c.self.view_is c.totals.ensures.totals
