use Rattle.std.proofs.Common.{◌-◌, length, take, sym, ap, arith, ◌∙◌}
use Rattle.std.proofs.lemmas.List.{take-take}
use Rattle.card_events.specs.Range.{last_calendar_day}
use Rattle.card_posts.specs.Change.{after_one}
use Rattle.card_posts.specs.Effect.{effects}
use Rattle.card_posts.proofs.Changed.{change-same}
use Rattle.card_posts.proofs.Left.{left-first, left-length, left-with}
use Rattle.card_posts.proofs.refresh.update.Goals as goal

pub returns-then-number-eq0-clause-effects : goal.returns-then-number-eq0-clause-effects
returns-then-number-eq0-clause-effects c = sym (c.requires.moved.none (omega (arith, c.if-number-eq0.true)))

pub returns-then-number-eq0-clause-first : goal.returns-then-number-eq0-clause-first
returns-then-number-eq0-clause-first c = c.last-last.ensures ∙ sym (change-same last_calendar_day c.args.effects.now)

pub effect_now-now-requires-clause-front : goal.effect_now-now-requires-clause-front
effect_now-now-requires-clause-front c =
    c.requires.moved.front (omega (arith, c.if-number-eq0.false))
    ∙ take-take (c.args.number - 1) (length c.args.effects.now) (effects c.args.anchor.now c.args.calendar.now c.args.history.now) (omega (arith, c.requires.moved.within))

pub refresh-requires-clause-others : goal.refresh-requires-clause-others
refresh-requires-clause-others c =
    left-with c.args.effects.now (effects c.args.anchor.now c.args.calendar.now c.args.history.now) c.refresh_one.new.effects c.args.number c.args.waiting.now c.following-numbers.result.now c.index-effects-i.result c.effect_now-now.result
    c.requires.moved (omega (arith, c.if-number-eq0.false)) c.index-effects-i.is c.effect_now-now.ensures c.refresh_one.ensures.effects c.following-numbers.ensures

pub refresh-requires-clause-length : goal.refresh-requires-clause-length
refresh-requires-clause-length c =
    let long = left-length c.args.effects.now c.refresh_one.new.effects (c.args.number - 1) c.effect_now-now.result c.refresh_one.ensures.effects in
    omega (arith, long, c.requires.length)

pub returns-clause-effects : goal.returns-clause-effects
returns-clause-effects c =
    let long = left-length c.args.effects.now c.refresh_one.new.effects (c.args.number - 1) c.effect_now-now.result c.refresh_one.ensures.effects in
    c.refresh.ensures.effects ∙ ap (λ n. take n (effects c.args.anchor.now c.args.calendar.now c.args.history.now)) long

pub returns-clause-first : goal.returns-clause-first
returns-clause-first c =
    let long = left-length c.args.effects.now c.refresh_one.new.effects (c.args.number - 1) c.effect_now-now.result c.refresh_one.ensures.effects in
    left-first last_calendar_day c.after_one.result c.args.effects.now (effects c.args.anchor.now c.args.calendar.now c.args.history.now) c.refresh.new.effects c.args.number c.args.waiting.now c.index-effects-i.result c.effect_now-now.result
    c.requires.moved (omega (arith, c.if-number-eq0.false)) c.index-effects-i.is c.effect_now-now.ensures
    (c.refresh.ensures.effects ∙ ap (λ n. take n (effects c.args.anchor.now c.args.calendar.now c.args.history.now)) long)
    (c.after_one.ensures ∙ ap (λ m. after_one m c.index-effects-i.result c.effect_now-now.result) c.last-last.ensures)
