-- The posts for which an account has to reach today. Days are day numbers.
use Rattle.std.specs.Prelude.{Bool, ℕ, ◌||◌, ◌&&◌, not, nat_le, List}
use Rattle.std.specs.List.{list_any}
use Rattle.card_events.specs.declared.post.Post.{Post}
use Rattle.card_book.specs.GoingOn.{sets_rates}
use Rattle.card_book.specs.Laws.{is_bill}
use Rattle.card_model.specs.Unread.{is_unread}
use Rattle.card_past.specs.declared.owed.Owed.{Owed}

-- those that set rates, and a Bill
abbrev pub needs_today : Post → Bool
needs_today p = sets_rates p || is_bill p

-- those before which statements that are owed are made by themselves, where they are made at all: a fold reads them, and today isn't
-- reached for them
abbrev pub makes_before : Post → Bool
makes_before p = not (needs_today p) && not (is_unread p)

-- Those for which a load folds, where statements are owed and a day is the first that the post changes: those that set rates, and those
-- that a fold reads and that change a day up to the closing of a cycle whose statement is owed. A Bill is none of them
abbrev pub folds_to_load : Post → ℕ → List Owed → Bool
folds_to_load p from owed = sets_rates p || (not (is_unread p) && list_any (λ o. nat_le from o.closing) owed)
