use Rattle.std.proofs.Common.{ℕ, ◌-◌, ap, ◌∙◌}
use Rattle.card_closing.specs.Interest.{statement_of}
use Rattle.card_model.specs.Caps.{row_for}
use Rattle.card_model.specs.Cycles.{Cycle}
use Rattle.card_book.proofs.sheet.issued_before.Goals as goal

pub returns : goal.returns
returns c =
    c.cycle_of.ensures
    ∙ (ap statement_of c.issued_for.ensures
    ∙ (ap (λ (n : ℕ). statement_of (row_for n c.args.inputs.now.issued)) c.saturating_sub.ensures
    ∙ ap (λ (x : Cycle). statement_of (row_for (x.number - 1) c.args.inputs.now.issued)) c.cycle.view_is))
