use Rattle.std.proofs.Common.{◌≡◌, ◌+◌, ◌-◌, Some, None, sym, ap, ◌∙◌, subst, arith, refl}
use Rattle.std.proofs.lemmas.Option.{slice_get_past, slice_get_read}
use Rattle.std.specs.Prelude.{option_map, slice_get}
use Rattle.card_posts.specs.Effect.{corrected_with, slot_by}
use Rattle.card_posts.specs.Posted.{slot_with}
use Rattle.card_posts.proofs.Numbered.{slot-at, slot-below}
use Rattle.card_posts.proofs.order.slot_with.Goals as goal

pub returns-then-number-eq0 : goal.returns-then-number-eq0
returns-then-number-eq0 c history l = sym (slot-below c.args.number 1 5 history c.args.effects.now (omega (arith, c.if-number-eq0.true)))

pub returns-in-Some : goal.returns-in-Some
returns-in-Some c history l =
    let at : 1 + (c.args.number - 1) ≡ c.args.number = omega (arith, c.if-number-eq0.false) in
    let found : slice_get c.args.effects.now (c.args.number - 1) ≡ Some c.in-Some.effect.now = slice_get_read c.args.effects.now _ (c.args.number - 1) c.in-Some.effect.now refl c.in-Some.ensures.lookup.3.0 c.in-Some.ensures.lookup.1 in
    sym (subst (λ m. slot_with m (corrected_with 1 5 history c.args.effects.now) ≡ option_map (slot_by m) (slice_get c.args.effects.now (c.args.number - 1))) at (slot-at (c.args.number - 1) 1 5 history c.args.effects.now l)
    ∙ (ap (option_map (slot_by c.args.number)) found ∙ ap Some (sym c.slot.ensures.value)))

pub returns-in-None : goal.returns-in-None
returns-in-None c history l =
    let at : 1 + (c.args.number - 1) ≡ c.args.number = omega (arith, c.if-number-eq0.false) in
    let found : slice_get c.args.effects.now (c.args.number - 1) ≡ None = slice_get_past c.args.effects.now (c.args.number - 1) c.in-None.ensures.lookup.3 in
    sym (subst (λ m. slot_with m (corrected_with 1 5 history c.args.effects.now) ≡ option_map (slot_by m) (slice_get c.args.effects.now (c.args.number - 1))) at (slot-at (c.args.number - 1) 1 5 history c.args.effects.now l)
    ∙ ap (option_map (slot_by c.args.number)) found)
