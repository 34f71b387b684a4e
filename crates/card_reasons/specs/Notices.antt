-- The effective days of Notices, post by post.
use Rattle.std.specs.Prelude.{ℕ, nat_lt, if◌then◌else◌, max, Option, Some, None}
use Rattle.card_events.specs.declared.kept.Kept.{Kept}
use Rattle.card_events.specs.declared.post.Category.{Category}
use Rattle.card_model.specs.Refusals.{effective_of}

-- a day, where it is after another one
abbrev pub after_day : ℕ → Option ℕ → Option ℕ
after_day day None = None
after_day day (Some d) = if nat_lt day d then Some d else None

-- the effective day of a post that is a Notice of a category, where that is after a day
abbrev pub effective_at : Category → ℕ → Option Kept → Option ℕ
effective_at c day None = None
effective_at c day (Some k) = after_day day (effective_of c k.post)

-- the later of two days, where there are both
abbrev pub later_of : Option ℕ → Option ℕ → Option ℕ
later_of None b = b
later_of (Some a) None = Some a
later_of (Some a) (Some b) = Some (max a b)
