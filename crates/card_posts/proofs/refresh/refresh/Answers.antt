use Rattle.std.proofs.Common.{ℕ, ◌+◌, ◌-◌, ◌<◌, ◌≤◌, List, ◌∷◌, length, take, drop, get_or, arith, ◌∙◌, subst}
use Rattle.std.proofs.lemmas.List.{drop_all, drop_more, take-take}
use Rattle.std.proofs.lemmas.List.Elements.{All-head}
use Rattle.card_posts.specs.Change.{AgreeBut}
use Rattle.card_posts.specs.Effect.{effects}
use Rattle.card_posts.specs.declared.effect.Effect.{Effect}
use Rattle.card_posts.proofs.Left.{left-front, left-length, left-none, left-on}
use Rattle.card_posts.proofs.refresh.refresh.Goals as goal

-- the next number is the first of those that are left
next : (i : ℕ) (ws : List ℕ) (es fs : List Effect) → i < length ws → AgreeBut (drop i ws) es fs → AgreeBut (get_or ws i 0 ∷ drop (i + 1) ws) es fs
next i ws es fs l h = subst (λ u. AgreeBut u es fs) (drop_more ws i 0 l) h

pub overflow_sub-i : goal.overflow_sub-i
overflow_sub-i c =
    let all : List Effect = effects c.args.anchor.now c.args.calendar.now c.args.history.now in
    let h = next c.loop-j.j c.args.numbers.now c.loop-j.effects (take (length c.args.effects.now) all) c.loop-j-test.true c.loop-j.invariant.left in
    let low : get_or c.args.numbers.now c.loop-j.j 0 ≤ length c.loop-j.effects = All-head (λ n. n ≤ length c.loop-j.effects) (get_or c.args.numbers.now c.loop-j.j 0) (drop (c.loop-j.j + 1) c.args.numbers.now) h.within in
    omega (arith, h.from.0)

pub effect_now-now-requires-clause-known : goal.effect_now-now-requires-clause-known
effect_now-now-requires-clause-known c =
    let all : List Effect = effects c.args.anchor.now c.args.calendar.now c.args.history.now in
    let h = next c.loop-j.j c.args.numbers.now c.loop-j.effects (take (length c.args.effects.now) all) c.loop-j-test.true c.loop-j.invariant.left in
    let low : get_or c.args.numbers.now c.loop-j.j 0 ≤ length c.loop-j.effects = All-head (λ n. n ≤ length c.loop-j.effects) (get_or c.args.numbers.now c.loop-j.j 0) (drop (c.loop-j.j + 1) c.args.numbers.now) h.within in
    omega (arith, h.from.0, low, c.loop-j.invariant.long, c.requires.length)

pub effect_now-now-requires-clause-length : goal.effect_now-now-requires-clause-length
effect_now-now-requires-clause-length c =
    let all : List Effect = effects c.args.anchor.now c.args.calendar.now c.args.history.now in
    let h = next c.loop-j.j c.args.numbers.now c.loop-j.effects (take (length c.args.effects.now) all) c.loop-j-test.true c.loop-j.invariant.left in
    let low : get_or c.args.numbers.now c.loop-j.j 0 ≤ length c.loop-j.effects = All-head (λ n. n ≤ length c.loop-j.effects) (get_or c.args.numbers.now c.loop-j.j 0) (drop (c.loop-j.j + 1) c.args.numbers.now) h.within in
    omega (arith, low)

pub effect_now-now-requires-clause-front : goal.effect_now-now-requires-clause-front
effect_now-now-requires-clause-front c =
    let all : List Effect = effects c.args.anchor.now c.args.calendar.now c.args.history.now in
    let h = next c.loop-j.j c.args.numbers.now c.loop-j.effects (take (length c.args.effects.now) all) c.loop-j-test.true c.loop-j.invariant.left in
    let low : get_or c.args.numbers.now c.loop-j.j 0 ≤ length c.loop-j.effects = All-head (λ n. n ≤ length c.loop-j.effects) (get_or c.args.numbers.now c.loop-j.j 0) (drop (c.loop-j.j + 1) c.args.numbers.now) h.within in
    left-front (get_or c.args.numbers.now c.loop-j.j 0) (drop (c.loop-j.j + 1) c.args.numbers.now) c.loop-j.effects (take (length c.args.effects.now) all) (record { day = 0; cents = 0 }) h
    ∙ take-take (get_or c.args.numbers.now c.loop-j.j 0 - 1) (length c.args.effects.now) all (omega (arith, low, c.loop-j.invariant.long))

pub refresh_one-requires-clause-known : goal.refresh_one-requires-clause-known
refresh_one-requires-clause-known c =
    let all : List Effect = effects c.args.anchor.now c.args.calendar.now c.args.history.now in
    let h = next c.loop-j.j c.args.numbers.now c.loop-j.effects (take (length c.args.effects.now) all) c.loop-j-test.true c.loop-j.invariant.left in
    let low : get_or c.args.numbers.now c.loop-j.j 0 ≤ length c.loop-j.effects = All-head (λ n. n ≤ length c.loop-j.effects) (get_or c.args.numbers.now c.loop-j.j 0) (drop (c.loop-j.j + 1) c.args.numbers.now) h.within in
    omega (arith, h.from.0, low)

pub loop-j-preserved : goal.loop-j-preserved
loop-j-preserved c =
    let all : List Effect = effects c.args.anchor.now c.args.calendar.now c.args.history.now in
    let h = next c.loop-j.j c.args.numbers.now c.loop-j.effects (take (length c.args.effects.now) all) c.loop-j-test.true c.loop-j.invariant.left in
    let low : get_or c.args.numbers.now c.loop-j.j 0 ≤ length c.loop-j.effects = All-head (λ n. n ≤ length c.loop-j.effects) (get_or c.args.numbers.now c.loop-j.j 0) (drop (c.loop-j.j + 1) c.args.numbers.now) h.within in
    record {
      long = left-length c.loop-j.effects c.refresh_one.new.effects (get_or c.args.numbers.now c.loop-j.j 0 - 1) c.effect_now-now.result c.refresh_one.ensures.effects ∙ c.loop-j.invariant.long;
      left = left-on (get_or c.args.numbers.now c.loop-j.j 0) (drop (c.loop-j.j + 1) c.args.numbers.now) c.loop-j.effects all c.refresh_one.new.effects c.effect_now-now.result (length c.args.effects.now) h c.loop-j.invariant.long
          (c.effect_now-now.ensures c.effect_now-now.result) c.refresh_one.ensures.effects;
      ordered = c.refresh_one.ensures.ordered;
      len = c.refresh_one.ensures.len ∙ c.loop-j.invariant.len;
      capacity = omega (arith, c.refresh_one.ensures.capacity, c.loop-j.invariant.capacity);
    }

pub returns-clause-effects : goal.returns-clause-effects
returns-clause-effects c =
    left-none c.loop-j.effects (take (length c.args.effects.now) (effects c.args.anchor.now c.args.calendar.now c.args.history.now))
    (subst (λ u. AgreeBut u c.loop-j.effects (take (length c.args.effects.now) (effects c.args.anchor.now c.args.calendar.now c.args.history.now))) (drop_all c.loop-j.j c.args.numbers.now (omega (arith, c.loop-j-test.false))) c.loop-j.invariant.left)
