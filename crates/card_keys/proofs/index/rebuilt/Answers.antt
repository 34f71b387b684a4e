use Rattle.std.proofs.Common.{◌≡◌, ◌+◌, ◌-◌, [], ◌∷◌, ◌++◌, List, length, take, sym, ap, ◌∙◌, subst, arith}
use Rattle.std.proofs.lemmas.List.{take_more}
use Rattle.card_events.specs.declared.kept.Kept.{Kept}
use Rattle.card_keys.specs.Buckets.{HasRoom, IsIndex}
use Rattle.card_keys.proofs.index.rebuilt.Goals as goal

pub loop-at-preserved : goal.loop-at-preserved
loop-at-preserved c =
    let h = c.args.history.now in
    let at = c.loop-at.at in
    let k = c.index-history-at.result in
    let more : take at h ++ k ∷ [] ≡ take (at + 1) h = ap (λ (x : Kept). take at h ++ x ∷ []) c.index-history-at.is ∙ sym (take_more h at k c.loop-at-test.true) in
    let room : HasRoom (((length h - (at + 1)) + c.args.posts) + 1) c.loop-at.index = omega (arith, c.loop-at.invariant.2, c.loop-at-test.true) in
    (omega (arith, c.loop-at-test.true), subst (λ (u : List Kept). IsIndex u c.enter_key.new.index) more (c.enter_key.ensures.index k (ap (λ (x : Kept). x.key) c.index-history-at.is)), c.enter_key.ensures.room ((length h - (at + 1)) + c.args.posts) room)
