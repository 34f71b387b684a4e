-- The reasons against places of charges and credits, and against targets of Amends.
use Rattle.std.proofs.Common.{◌≡◌, ℕ, Bool, false, [], ◌∷◌, Some, None, refl, ap, ◌∙◌}
use Rattle.std.specs.Prelude.{not}
use Rattle.card_reasons.specs.Reasons.{place_reason, target_reason}
use Rattle.card_events.specs.declared.kept.Kept.{Kept}
use Rattle.card_events.specs.declared.post.Place.{Place}
use Rattle.card_events.specs.declared.post.Post.TheVariants as post
use Rattle.card_events.specs.declared.reply.Refusal.TheVariants as refusal
use Rattle.card_model.specs.Effects.{place_charged}
use Rattle.card_model.specs.Refusals.{Present, first_reason, fits_target, holds_of, is_outside_place, names_no_plan, named, outside_plan, unknown_plan, where_true, wrong_entry}

-- ---- the reasons of a place
-- of a charge, by whether its plan is unknown and its day outside
pub charged : (now : Present) (day cents : ℕ) (p : Place) (unknown outside : Bool) → unknown ≡ names_no_plan now p → outside ≡ is_outside_place now day p
    → first_reason (where_true unknown refusal.UnknownPlan ∷ where_true outside refusal.OutsidePlan ∷ []) ≡ place_reason now (post.Charge day p cents)
unfolding place_reason unknown_plan outside_plan
charged now day cents p unknown outside u o =
    ap (λ x. first_reason (where_true x refusal.UnknownPlan ∷ where_true outside refusal.OutsidePlan ∷ [])) u
    ∙ ap (λ x. first_reason (where_true (names_no_plan now p) refusal.UnknownPlan ∷ where_true x refusal.OutsidePlan ∷ [])) o

-- of a credit, by whether its plan is unknown
pub credited : (now : Present) (day cents : ℕ) (p : Place) (unknown : Bool) → unknown ≡ names_no_plan now p → first_reason (where_true unknown refusal.UnknownPlan ∷ None ∷ []) ≡ place_reason now (post.Credit day p cents)
unfolding place_reason unknown_plan outside_plan
credited now day cents p unknown u = ap (λ x. first_reason (where_true x refusal.UnknownPlan ∷ None ∷ [])) u

-- ---- the reasons of an Amend's target
pub target_some : (now : Present) (target day cents : ℕ) (k : Kept) (outside fits : Bool) → named now target ≡ Some k → outside ≡ holds_of (is_outside_place now day) (place_charged k.post) → fits ≡ fits_target (post.Amend target day cents) k.post
    → first_reason (where_true outside refusal.OutsidePlan ∷ where_true (not fits) (refusal.WrongEntry target) ∷ []) ≡ target_reason now (post.Amend target day cents)
unfolding target_reason outside_plan wrong_entry
target_some now target day cents k outside fits e o f = rw (e, o, f) refl

pub target_none : (now : Present) (target day cents : ℕ) → named now target ≡ None → first_reason (where_true false refusal.OutsidePlan ∷ where_true (not false) (refusal.WrongEntry target) ∷ []) ≡ target_reason now (post.Amend target day cents)
unfolding target_reason outside_plan wrong_entry
target_none now target day cents e = rw e refl
