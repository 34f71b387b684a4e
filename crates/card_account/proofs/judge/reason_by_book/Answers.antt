use Rattle.std.proofs.Common.{◌≡◌, ℕ, false, refl, sym, ◌∙◌}
use Rattle.std.proofs.lemmas.Bool.{false≢true}
use Rattle.card_events.specs.declared.post.Post.{Post}
use Rattle.card_events.specs.declared.post.Post.TheVariants as post
use Rattle.card_reasons.specs.Reasons.{reads_book}
use Rattle.card_account.proofs.judge.reason_by_book.Goals as goal

-- for any other post no book is read
reads-none : (p : Post) → (p ≡ post.Penalty → ⊥) → ((cents : ℕ) → p ≡ post.Refund cents → ⊥) → reads_book p ≡ false
reads-none post.Penalty one two = absurd (one refl)
reads-none (post.Refund cents) one two = absurd (two cents refl)
reads-none _ one two = refl

pub returns-in_default : goal.returns-in_default
returns-in_default c = λ reads. absurd (false≢true (sym (reads-none c.args.post.now c.in_default.not-Penalty c.in_default.not-Refund) ∙ reads))
