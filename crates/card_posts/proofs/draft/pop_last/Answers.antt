use Rattle.std.proofs.Common.{◌≡◌, ℕ, ◌+◌, ◌-◌, ◌≤◌, List, length, take, arith, ap, ◌∙◌}
use Rattle.card_posts.specs.Effect.{slots_from}
use Rattle.card_posts.specs.Order.{in_order, without}
use Rattle.card_posts.specs.declared.effect.Effect.{Effect}
use Rattle.card_posts.proofs.Fronts.{without-last}
use Rattle.card_posts.proofs.draft.pop_last.Goals as goal

last : (es there : List Effect) (n : ℕ) → there ≡ es → n ≡ length es → 1 ≤ length es → in_order (without (n - 1) (slots_from 1 there)) ≡ in_order (slots_from 1 (take (length es - 1) es))
last es there n same count some =
    let place : n - 1 ≡ length es - 1 = omega (arith, count) in
    let long : length es ≡ length es - 1 + 1 = omega (arith, some) in
    ap (λ u. in_order (without (n - 1) (slots_from 1 u))) same ∙ (ap (λ m. in_order (without m (slots_from 1 es))) place ∙ ap in_order (without-last (length es - 1) es long))

pub returns-clause-order : goal.returns-clause-order
returns-clause-order c = c.take_out.ensures.order ∙ last c.args.effects.now.items c.deref.result.now c.len.result c.deref.ensures.value (c.len.ensures ∙ c.args.effects.now.ok.0) c.requires.effects
