use Rattle.std.proofs.lemmas.Grind.{common_steps}
use Rattle.std.proofs.Common.{◌≡◌, ℕ, ◌+◌, ◌≤◌, min, List, [], ◌∷◌, ◌++◌, length, length-append, take, get_or, arith, sym, ◌∙◌, ap, subst}
use Rattle.card_events.specs.Range.{last_calendar_day}
use Rattle.card_posts.specs.Change.{IsFirstChange, first_change}
use Rattle.card_posts.specs.Effect.{corrected_with, effects, slot_by, slots_from}
use Rattle.card_posts.specs.Order.{in_order, placed}
use Rattle.card_posts.specs.declared.effect.Effect.{Effect}
use Rattle.card_posts.proofs.Ordered.{ascending-in_order}
use Rattle.card_posts.proofs.OneMore.{effects-length}
use Rattle.card_posts.proofs.SlotLists.{put-last}
use Rattle.card_posts.proofs.Following.{front-length, push-from, whole}
use Rattle.card_posts.proofs.enter.follow.Goals as goal

pub place-requires-clause-order : goal.place-requires-clause-order
place-requires-clause-order c = rw c.update-changed.ensures.ordered.order (ascending-in_order _)

-- what counts after the update, with the last post
all-is : (old front new pushed : List Effect) (n : ℕ) (e : Effect) → length new ≡ length old + 1 → n ≡ length old → front ≡ take (length old) new → e ≡ get_or new n e → pushed ≡ front ++ e ∷ [] → pushed ≡ new
all-is old front new pushed n e long count is there put =
    put ∙ (ap (λ u. u ++ e ∷ []) is ∙ (ap (λ x. take (length old) new ++ x ∷ []) (there ∙ ap (λ m. get_or new m e) count) ∙ whole (length old) new e long))

pub returns-clause-effects : goal.returns-clause-effects
returns-clause-effects c =
    let long = effects-length c.args.anchor.now c.args.calendar.now c.args.history.now 1 c.args.history.now in
    let count : c.len-count.result ≡ length c.args.effects.now.items = grind (arith, common_steps) in
    let front : c.update-changed.new.effects ≡ take (length c.args.effects.now.items) (effects c.args.anchor.now c.args.calendar.now c.args.history.now) = grind (arith, common_steps) in
    let pushed : c.push_reserved.new.self.items ≡ c.update-changed.new.effects ++ c.effect_now-effect.result ∷ [] = grind (arith, common_steps) in
    all-is c.args.effects.now.items c.update-changed.new.effects (effects c.args.anchor.now c.args.calendar.now c.args.history.now) c.push_reserved.new.self.items c.len-count.result c.effect_now-effect.result (long ∙ c.requires.length) count front (c.effect_now-effect.ensures c.effect_now-effect.result) pushed

pub returns-clause-order : goal.returns-clause-order
returns-clause-order c =
    let now : List Effect = effects c.args.anchor.now c.args.calendar.now c.args.history.now in
    let long = effects-length c.args.anchor.now c.args.calendar.now c.args.history.now 1 c.args.history.now in
    let count : c.len-count.result ≡ length c.args.effects.now.items = grind (arith, common_steps) in
    let front : c.update-changed.new.effects ≡ take (length c.args.effects.now.items) now = grind (arith, common_steps) in
    let enough : length c.args.effects.now.items ≤ length now = omega (arith, long, c.requires.length) in
    let many : c.len-count.result ≡ length c.update-changed.new.effects = count ∙ sym (ap length front ∙ front-length (length c.args.effects.now.items) now enough) in
    let pushed : c.push_reserved.new.self.items ≡ c.update-changed.new.effects ++ c.effect_now-effect.result ∷ [] = grind (arith, common_steps) in
    c.place.ensures.order
    ∙ (ap (λ s. placed s c.update-changed.new.order.items) (c.slot.ensures.value ∙ ap (λ n. slot_by (n + 1) c.effect_now-effect.result) many)
    ∙ (ap (placed (slot_by (length c.update-changed.new.effects + 1) c.effect_now-effect.result)) c.update-changed.ensures.ordered.order
    ∙ (put-last c.update-changed.new.effects c.effect_now-effect.result ∙ ap (λ u. in_order (slots_from 1 u)) (sym pushed))))

pub returns-clause-from : goal.returns-clause-from
returns-clause-from c h k is =
    let now : List Effect = effects c.args.anchor.now c.args.calendar.now c.args.history.now in
    let long = effects-length c.args.anchor.now c.args.calendar.now c.args.history.now 1 c.args.history.now in
    let front : c.update-changed.new.effects ≡ take (length c.args.effects.now.items) now = grind (arith, common_steps) in
    let enough : length c.args.effects.now.items ≤ length now = omega (arith, long, c.requires.length) in
    let many : length c.args.effects.now.items ≡ length c.update-changed.new.effects = sym (ap length front ∙ front-length (length c.args.effects.now.items) now enough) in
    let pushed : c.push_reserved.new.self.items ≡ c.update-changed.new.effects ++ c.effect_now-effect.result ∷ [] = grind (arith, common_steps) in
    let longer : length (h ++ k ∷ []) ≡ length h + 1 = length-append h (k ∷ []) in
    let whole_length : length c.args.history.now ≡ length (h ++ k ∷ []) = ap length is in
    let before : length h ≡ length c.args.effects.now.items = omega (arith, longer, whole_length, c.requires.length) in
    let first : c.update-changed.result ≡ first_change last_calendar_day c.args.effects.now.items c.update-changed.new.effects = c.update-changed.ensures.first ∙ ap (λ u. first_change last_calendar_day u c.update-changed.new.effects) c.deref_mut.ensures.value in
    let day : c.sooner-from.result ≡ min c.effect_now-effect.result.day (first_change last_calendar_day c.args.effects.now.items c.update-changed.new.effects) = c.sooner-from.ensures.value ∙ ap (min c.effect_now-effect.result.day) first in
    let exact = push-from h k c.args.effects.now.items c.update-changed.new.effects c.effect_now-effect.result c.sooner-from.result before many c.sooner-from.ensures.bound day in
    subst (λ u. IsFirstChange c.sooner-from.result (corrected_with 1 5 h c.args.effects.now.items) (corrected_with 1 5 c.args.history.now u)) (sym pushed)
    (subst (λ u. IsFirstChange c.sooner-from.result (corrected_with 1 5 h c.args.effects.now.items) (corrected_with 1 5 u (c.update-changed.new.effects ++ c.effect_now-effect.result ∷ []))) (sym is) exact)
