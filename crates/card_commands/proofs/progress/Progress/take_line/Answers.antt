use Rattle.std.proofs.Common.{ap, ◌∙◌}
use Rattle.card_commands.specs.Feed.{Progress}
use Rattle.card_commands.specs.Input.{ended_line}
use Rattle.card_commands.proofs.PieceLemmas.{kept_says}
use Rattle.card_commands.proofs.progress.Progress.take_line.Goals as goal

pub returns-clause-line : goal.returns-clause-line
returns-clause-line c =
    let kept = ap (λ (p : Progress). p.line) (c.self-2.view_is ∙ c.in_ok-keep.ensures) in
    c.read_ended-line.ensures.line ∙ ap ended_line (c.deref.ensures.value ∙ kept) ∙ kept_says c.args.self.now.line c.args.run.now
