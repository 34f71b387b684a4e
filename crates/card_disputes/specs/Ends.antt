-- The posts that end tasks.
use Rattle.std.specs.Prelude.{◌≡◌, ℕ, Bool, List, drop, nat_lt}
use Rattle.std.specs.List.{list_any}
use Rattle.card_disputes.specs.declared.end.End.{End}
use Rattle.card_disputes.specs.declared.end.End.TheVariants as end
use Rattle.card_disputes.specs.declared.end.LastEnds.{LastEnds}
use Rattle.card_events.specs.declared.kept.Kept.{Kept}
use Rattle.card_events.specs.declared.post.Post.{Post}
use Rattle.card_model.specs.Deadlines.{acknowledges, is_lower, is_refund}

-- the post ends the task
abbrev pub ends : End → Post → Bool
ends (end.Acknowledged n) p = acknowledges n p
ends end.Refunded p = is_refund p
ends end.Lowered p = is_lower p

-- the last post that ends the task has this number, or it is 0 and none does: one does behind so many first posts where they are fewer
abbrev pub IsLast : End → ℕ → List Kept → Type 0
IsLast e last history = (number : ℕ) → list_any (λ k. ends e k.post) (drop number history) ≡ nat_lt number last

-- the numbers of the last Refund and of the last Lower
pub record AreLast (history : List Kept) (last : LastEnds) : Type 0 where
  pub refund : IsLast end.Refunded last.refund history
  pub lower : IsLast end.Lowered last.lower history
