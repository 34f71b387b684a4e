use Rattle.std.proofs.Common.{◌++◌, [], ◌∷◌, ap, ◌∙◌}
use Rattle.card_closing.specs.Accruals.{Accrued}
use Rattle.card_book.proofs.StateParts.{accruals-first, accruals-more}
use Rattle.card_book.proofs.earlier.more_accruals.Goals as goal

pub loop-init : goal.loop-init
loop-init c = accruals-first c.args.accruals.now c.in_ok-more.more.items c.in_ok-more.ensures.items

pub loop-preserved : goal.loop-preserved
loop-preserved c =
    let more = c.loop.more.items in
    accruals-more c.args.accruals.now more c.push.new.self.items c.loop.counter c.loop.invariant (c.in_ok-push.ensures.items ∙ ap (λ (a : Accrued). more ++ a ∷ []) c.start.ensures)
