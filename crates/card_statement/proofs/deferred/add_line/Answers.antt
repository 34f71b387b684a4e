use Rattle.std.proofs.Common.{sym, ap, ◌∙◌}
use Rattle.card_model.specs.Segments.{SegmentTerms}
use Rattle.card_statement.proofs.SeenLines.{no-period}
use Rattle.card_statement.proofs.deferred.add_line.Goals as goal

pub returns-in-None : goal.returns-in-None
returns-in-None c =
    no-period c.args.day c.args.segments.now.balances c.args.accruals.now c.args.g.now c.args.lines.now.items (sym (ap (λ (g : SegmentTerms). g.ends) c.g.view_is) ∙ c.in-None.is)
