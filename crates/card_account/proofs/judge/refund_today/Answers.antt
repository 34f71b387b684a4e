use Rattle.std.proofs.Common.{w64, ◌≡◌, ℕ, true, Some, pos, refl, ap, sym, ◌∙◌}
use Rattle.std.proofs.lemmas.Int.{to_z-of_z}
use Rattle.card_account.proofs.judge.refund_today.Goals as goal
use Rattle.card_events.specs.declared.post.Post.TheVariants as post
use Rattle.card_events.specs.declared.reply.Refusal.TheVariants as refusal
use Rattle.card_model.specs.Books.{Book}
use Rattle.card_model.specs.Entries.{credit_balance}
use Rattle.card_model.specs.Refusals
use Rattle.card_model.specs.Refusals.{Present, is_no_amount, reason_against}

out : (now : Present) (cents : ℕ) → is_no_amount cents ≡ true → Some refusal.AmountRange ≡ reason_against now (post.Refund cents)
unfolding reason_against Refusals.is_out_of_range
out now cents is = rw is refl

pub returns-then-is_no_amount : goal.returns-then-is_no_amount
returns-then-is_no_amount c =
    out c.args.now.now c.args.cents (sym c.is_no_amount.ensures ∙ c.if-is_no_amount.true)

pub returns : goal.returns
returns c =
    c.refund_reason.ensures c.args.now.now (sym c.posts.ensures.history) (to_z-of_z w64 c.credit.result (record { sfits = c.credit.type_inv }) ∙ (c.credit.ensures ∙ ap (λ (b : Book). pos (credit_balance b.entries)) c.requires.book))
