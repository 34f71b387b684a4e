use Rattle.std.proofs.Common.{◌+◌, ◌++◌, [], ◌∷◌, ap, ◌∙◌}
use Rattle.card_lines.specs.declared.line.Line.{Line}
use Rattle.card_commands.specs.Items.{item_of}
use Rattle.card_commands.proofs.FeedLemmas.{fell_first}
use Rattle.card_commands.proofs.PieceLemmas.{fed_line_of, fell_line_of}
use Rattle.card_commands.proofs.progress.Progress.end_line.Goals as goal

pub returns-in-Err-clause-err : goal.returns-in-Err-clause-err
returns-in-Err-clause-err g c = fell_first _ c.args.self.now (c.args.run.now ++ 10 ∷ [])

pub returns-in-Ok-handle-clause-ok : goal.returns-in-Ok-handle-clause-ok
returns-in-Ok-handle-clause-ok g c =
    let item = c.item_of-item.ensures.item ∙ ap (λ (l : Line). item_of (c.self.inside.number + 1) l) c.in-Ok.ensures.line in
    fed_line_of _ _ c.args.self.now _ c.args.run.now _ c.handle.new.self c.requires.run c.requires.fits (c.self.view_is ∙ c.in-Ok.ensures.taken) item c.in-Ok-handle.ensures.ok

pub returns-in-Err-handle-clause-err : goal.returns-in-Err-handle-clause-err
returns-in-Err-handle-clause-err g c =
    let item = c.item_of-item.ensures.item ∙ ap (λ (l : Line). item_of (c.self.inside.number + 1) l) c.in-Ok.ensures.line in
    fell_line_of _ _ c.args.self.now _ c.args.run.now _ c.in-Err-handle.stop c.requires.run c.requires.fits (c.self.view_is ∙ c.in-Ok.ensures.taken) item c.in-Err-handle.ensures.err
