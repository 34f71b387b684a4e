-- A Bill while it is loaded.
use Rattle.std.proofs.Common.{◌≡◌, ℕ, true, false, List, refl}
use Rattle.card_book.specs.Laws.{is_bill}
use Rattle.card_events.specs.declared.post.Post.{Post}
use Rattle.card_events.specs.declared.post.Post.TheVariants as post
use Rattle.card_past.specs.declared.owed.Owed.{Owed}
use Rattle.card_replay.specs.Needs.{folds_to_load}

none-else : {A : Type 0} → false ≡ true → A
none-else e = absurd (cc)

-- what holds of a Bill of each cycle holds of a post that is a Bill
pub of-bill : (P : Post → Type 0) → ((cycle : ℕ) → P (post.Bill cycle)) → (p : Post) → is_bill p ≡ true → P p
of-bill P each (post.Bill cycle) e = each cycle
of-bill P each (post.Open d t) e = none-else e
of-bill P each (post.OpenVariable d t) e = none-else e
of-bill P each (post.Charge d q c) e = none-else e
of-bill P each (post.Credit d q c) e = none-else e
of-bill P each (post.Payment d m y c) e = none-else e
of-bill P each (post.Return d t) e = none-else e
of-bill P each (post.Plan d k r w f) e = none-else e
of-bill P each (post.Notice d y r w) e = none-else e
of-bill P each (post.Lower d y r) e = none-else e
of-bill P each post.Penalty e = none-else e
of-bill P each (post.Review d f) e = none-else e
of-bill P each (post.Dispute d t c) e = none-else e
of-bill P each (post.Ack d t) e = none-else e
of-bill P each (post.Resolve d t c) e = none-else e
of-bill P each (post.AskRefund d) e = none-else e
of-bill P each (post.Refund c) e = none-else e
of-bill P each (post.Amend t d c) e = none-else e

-- a load doesn't fold for a Bill
pub bill-alone : (p : Post) (from : ℕ) (owed : List Owed) → is_bill p ≡ true → folds_to_load p from owed ≡ false
bill-alone p from owed e = of-bill (λ (q : Post). folds_to_load q from owed ≡ false) (λ cycle. refl) p e
