-- The reasons against Returns.
use Rattle.std.proofs.Common.{◌≡◌, ℕ, Bool, [], ◌∷◌, Option, Some, None, refl, ap, sym, ◌∙◌}
use Rattle.std.specs.Prelude.{not}
use Rattle.std.specs.Option.{option_map}
use Rattle.card_reasons.specs.Reasons.{returned_reason}
use Rattle.card_events.specs.History.{at_number}
use Rattle.card_events.specs.declared.kept.Kept.{Kept}
use Rattle.card_events.specs.declared.post.Post.{Post}
use Rattle.card_events.specs.declared.post.Post.TheVariants as post
use Rattle.card_events.specs.declared.reply.Refusal.TheVariants as refusal
use Rattle.card_fees.specs.Counting.{is_payment_at}
use Rattle.card_model.specs.Payments.{is_payment, returns}
use Rattle.card_model.specs.Refusals.{Present, already_returned, first_reason, fits_target, holds_of, number_from, where_true, wrong_entry}

-- ---- a Return may name payments, and nothing else
fits-payment : (day target : ℕ) (p : Post) → fits_target (post.Return day target) p ≡ is_payment p
fits-payment day target (post.Charge d p c) = refl
fits-payment day target (post.Credit d p c) = refl
fits-payment day target (post.Payment d m by c) = refl
fits-payment day target (post.Bill c) = refl
fits-payment day target (post.Amend t d c) = refl
fits-payment day target (post.Plan d v r w f) = refl
fits-payment day target (post.Notice d y r w) = refl
fits-payment day target (post.Lower d y r) = refl
fits-payment day target post.Penalty = refl
fits-payment day target (post.Review d f) = refl
fits-payment day target (post.Dispute d t c) = refl
fits-payment day target (post.Ack d t) = refl
fits-payment day target (post.Resolve d t c) = refl
fits-payment day target (post.AskRefund d) = refl
fits-payment day target (post.Refund c) = refl
fits-payment day target (post.Open d t) = refl
fits-payment day target (post.OpenVariable d t) = refl
fits-payment day target (post.Return d t) = refl

pub fits-named : (day target : ℕ) (o : Option Kept) → holds_of (λ k. fits_target (post.Return day target) k.post) o ≡ is_payment_at o
fits-named day target None = refl
fits-named day target (Some k) = fits-payment day target k.post

-- ---- the reasons of its target
-- by whether that is a payment, and the number of an earlier Return
pub returned_by : (now : Present) (day target : ℕ) (fits : Bool) (earlier : Option ℕ) → fits ≡ is_payment_at (at_number target now.lists.posts) → earlier ≡ number_from (returns target) 1 now.lists.posts
    → first_reason (where_true (not fits) (refusal.WrongEntry target) ∷ option_map (λ n. refusal.AlreadyReturned n) earlier ∷ []) ≡ returned_reason now (post.Return day target)
unfolding returned_reason wrong_entry already_returned
returned_by now day target fits earlier f e =
    let there : Bool = holds_of (λ k. fits_target (post.Return day target) k.post) (at_number target now.lists.posts) in
    ap (λ b. first_reason (where_true (not b) (refusal.WrongEntry target) ∷ option_map (λ n. refusal.AlreadyReturned n) earlier ∷ [])) (f ∙ sym (fits-named day target (at_number target now.lists.posts)))
    ∙ ap (λ o. first_reason (where_true (not there) (refusal.WrongEntry target) ∷ option_map (λ n. refusal.AlreadyReturned n) o ∷ [])) e
