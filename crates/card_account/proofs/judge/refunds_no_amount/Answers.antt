use Rattle.std.proofs.Common.{◌≡◌, ℕ, false, refl, ap, sym, ◌∙◌}
use Rattle.card_account.proofs.judge.refunds_no_amount.Goals as goal
use Rattle.card_account.specs.Verdicts.{refunds_no_amount}
use Rattle.card_events.specs.declared.post.Post.{Post}
use Rattle.card_events.specs.declared.post.Post.TheVariants as post

-- no other post refunds anything
refunds-none : (p : Post) → ((cents : ℕ) → p ≡ post.Refund cents → ⊥) → refunds_no_amount p ≡ false
refunds-none (post.Refund cents) other = absurd (other cents refl)
refunds-none _ other = refl

pub returns-in-Refund : goal.returns-in-Refund
returns-in-Refund c = c.is_no_amount.ensures ∙ sym (ap (λ (p : Post). refunds_no_amount p) c.in-Refund.is)

pub returns-in_default : goal.returns-in_default
returns-in_default c = sym (refunds-none c.args.post.now c.in_default.not-Refund)
