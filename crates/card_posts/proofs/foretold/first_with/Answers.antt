use Rattle.std.proofs.Common.{◌≡◌, ℕ, ◌+◌, ◌≤◌, List, [], length, sym, ap, subst, ◌∙◌, arith}
use Rattle.card_events.specs.declared.anchor.Anchor.{Anchor}
use Rattle.card_events.specs.History.{effective_day}
use Rattle.card_events.specs.declared.kept.Kept.{Kept}
use Rattle.card_events.specs.declared.post.Post.{Post}
use Rattle.card_posts.specs.Corrections.{changed_by}
use Rattle.card_posts.specs.Posted.{target_of}
use Rattle.card_posts.proofs.DayLemmas.{amend-one}
use Rattle.card_posts.proofs.FirstWith.{first-none, first-one}
use Rattle.card_posts.proofs.Noted.{changed-within}
use Rattle.card_posts.proofs.OneMore.{effects-length}
use Rattle.card_posts.proofs.foretold.first_with.Goals as goal

-- the effective day of the new post
own-day : (a : Anchor) (holidays : List ℕ) (h : List Kept) (k : Kept) (p : Post) (accepted d : ℕ) → k.accepted ≡ accepted → k.post ≡ p → d ≡ effective_day a holidays h (1 + length h) accepted p → d ≡ effective_day a holidays h (1 + length h) k.accepted k.post
own-day a holidays h k p accepted d dated same is = is ∙ (ap (λ x. effective_day a holidays h (1 + length h) x p) (sym dated) ∙ ap (effective_day a holidays h (1 + length h) k.accepted) (sym same))

within : (h : List Kept) (k : Kept) (p : Post) → k.post ≡ p → target_of p ≤ length h → target_of k.post ≤ length h
within h k p same l = subst (λ q. target_of q ≤ length h) (sym same) l

pub effect_with-now-requires-clause-dated : goal.effect_with-now-requires-clause-dated
effect_with-now-requires-clause-dated c =
    amend-one c.args.anchor.now.opened c.changed_by-number.result (record { number = 0; key = []; accepted = c.args.accepted; post = c.args.post.now }) (record { dated = c.requires.dated; received = c.requires.received })

pub returns-then-number-eq0 : goal.returns-then-number-eq0
returns-then-number-eq0 c k dated same =
    first-none c.args.anchor.now c.args.calendar.now c.args.history.now k c.args.effects.now c.day_of_next-own.result c.requires.effects c.requires.kept.names (within c.args.history.now k c.args.post.now same c.requires.target)
    (ap (changed_by c.args.history.now) same ∙ (sym c.changed_by-number.ensures ∙ omega (arith, c.if-number-eq0.true)))
    (own-day c.args.anchor.now c.args.calendar.now c.args.history.now k c.args.post.now c.args.accepted c.day_of_next-own.result dated same c.day_of_next-own.ensures)

pub effect_with-now-requires-clause-known : goal.effect_with-now-requires-clause-known
effect_with-now-requires-clause-known c = let l = changed-within c.args.history.now c.args.post.now c.requires.kept.names c.requires.target in omega (arith, l, c.changed_by-number.ensures)

pub offset_bounds-effects-number : goal.offset_bounds-effects-number
offset_bounds-effects-number c = let l = changed-within c.args.history.now c.args.post.now c.requires.kept.names c.requires.target in omega (arith, l, c.changed_by-number.ensures, c.requires.kept.few)

pub bounds-effects-number : goal.bounds-effects-number
bounds-effects-number c =
    let l = changed-within c.args.history.now c.args.post.now c.requires.kept.names c.requires.target in
    let long = ap length c.requires.effects ∙ effects-length c.args.anchor.now c.args.calendar.now c.args.history.now 1 c.args.history.now in
    omega (arith, l, long, c.changed_by-number.ensures, c.if-number-eq0.false)

pub returns : goal.returns
returns c k dated same =
    first-one c.args.anchor.now c.args.calendar.now c.args.history.now k k c.args.effects.now c.changed_by-number.result c.after_one.result c.day_of_next-own.result c.effect_with-now.result c.index-effects-number.result
    c.requires.effects c.requires.kept.names (within c.args.history.now k c.args.post.now same c.requires.target) (c.changed_by-number.ensures ∙ ap (changed_by c.args.history.now) (sym same)) (omega (arith, c.if-number-eq0.false))
    (own-day c.args.anchor.now c.args.calendar.now c.args.history.now k c.args.post.now c.args.accepted c.day_of_next-own.result dated same c.day_of_next-own.ensures)
    (c.effect_with-now.ensures k k same) c.index-effects-number.is c.after_one.ensures
