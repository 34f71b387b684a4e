use Rattle.std.proofs.Common.{ℕ, [], ◌++◌, ap, ◌∙◌}
use Rattle.std.specs.List.{cons_option}
use Rattle.card_model.specs.Closing.{nonzero}
use Rattle.card_model.specs.Segments.{SegmentTerms}
use Rattle.card_statement.specs.Lines.{kept_owing, owing_of}
use Rattle.card_statement.proofs.LineSteps.{line-pushed}
use Rattle.card_statement.proofs.deferred.amounts_of.Goals as goal

pub loop-g-preserved : goal.loop-g-preserved
loop-g-preserved c =
    let balances = c.args.segments.now.balances in
    let number = ap (λ (g : SegmentTerms). g.id) c.g.view_is in
    line-pushed (nonzero (λ (g : SegmentTerms). kept_owing balances g.id)) c.args.rated.now c.loop-g.g-index c.g-item.result c.loop-g.amounts c.add_owing.new.amounts
    c.loop-g-test.true c.g-item.is c.loop-g.invariant (c.in_ok-add_owing.ensures ∙ ap (λ (n : ℕ). c.loop-g.amounts ++ cons_option (owing_of balances n) []) number)
