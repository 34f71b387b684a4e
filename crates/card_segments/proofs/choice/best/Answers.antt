use Rattle.std.proofs.Common.{refl, arith, length}
use Rattle.std.proofs.lemmas.List.{drop_all}
use Rattle.card_model.specs.Allocation.{best}
use Rattle.card_segments.proofs.choice.best.Goals as goal

pub loop-i-init : goal.loop-i-init
unfolding best
loop-i-init c =
    let hs = c.args.holdings.now in
    rw (drop_all (length hs) hs (omega arith)) refl
