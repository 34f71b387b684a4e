use Rattle.std.proofs.Common.{◌≡◌, ◌+◌, ◌≤◌, ◌++◌, ◌∷◌, [], List, take, length, get_or, ap, sym, ◌∙◌, subst, arith}
use Rattle.std.proofs.lemmas.List.{length-take, take_more}
use Rattle.card_model.specs.declared.entry.Entry.{Entry}
use Rattle.card_trial.specs.Totals.{AreTotals}
use Rattle.card_trial.proofs.Changed.{entered-behind, nothing-entered, room-after}
use Rattle.card_trial.proofs.ledger.fill.Goals as goal

pub loop-place-init : goal.loop-place-init
loop-place-init c = nothing-entered c.args.totals.now c.requires

pub put_in-requires : goal.put_in-requires
put_in-requires c =
    let lists = c.args.desk.now.recorded in
    let i = c.loop-place.place in
    let front : length (take i lists) ≤ 1_000_000 = omega (arith, length-take i lists) in
    room-after (take i lists) c.loop-place.totals (length c.recorded.result.now) c.loop-place.invariant front c.recorded.ensures.few

pub loop-place-preserved : goal.loop-place-preserved
loop-place-preserved c =
    let lists = c.args.desk.now.recorded in
    let i = c.loop-place.place in
    let es = c.recorded.result.now in
    let more : take (i + 1) lists ≡ take i lists ++ (get_or lists i es ∷ []) = take_more lists i es (omega arith) in
    let same : take i lists ++ (es ∷ []) ≡ take (i + 1) lists = ap (λ (fs : List Entry). take i lists ++ (fs ∷ [])) (c.recorded.ensures.value es) ∙ sym more in
    subst (λ (ls : List (List Entry)). AreTotals ls c.put_in.new.self) same
    (entered-behind (take i lists) es c.loop-place.totals c.put_in.new.self c.loop-place.invariant c.put_in.ensures c.recorded.ensures.few)
