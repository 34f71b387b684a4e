-- A post that is entered for a while, and taken back.
use Rattle.std.specs.Prelude.{◌≡◌, ℕ, ◌+◌, ◌-◌, ◌<◌, ◌≤◌, true, false, List, [], ◌∷◌, ◌++◌, length, take, Option, Some, None, vec_len, vec_capacity}
use Rattle.card_events.specs.History.{anchor_of, corrected}
use Rattle.card_events.specs.Keys.{with_key}
use Rattle.card_events.specs.declared.kept.Kept.{Kept}
use Rattle.card_events.specs.declared.kept.Slot.{Slot}
use Rattle.card_events.specs.declared.post.Post.{Post}
use Rattle.card_posts.specs.Change.{IsFirstChange}
use Rattle.card_posts.specs.Corrections.{corrects}
use Rattle.card_posts.specs.Effect.{corrected_with, slots_from}
use Rattle.card_posts.specs.Later.{HasSpare, Later}
use Rattle.card_posts.specs.Order.{in_order}
use Rattle.card_posts.specs.Posted.{Posted}
use Rattle.card_posts.specs.Stored.{AreBeside}
use Rattle.card_posts.specs.declared.correction.Correction.{Correction}
use Rattle.card_posts.specs.declared.draft.Beside.{Beside}
use Rattle.card_posts.specs.declared.draft.Draft.{Draft}
use Rattle.card_posts.specs.declared.effect.Effect.{Effect}

-- the day is the first on which the corrected list differs with this post behind the others, accepted on a day under any key
abbrev pub IsFirstWith : List ℕ → ℕ → Post → Posted → ℕ → Type 0
IsFirstWith holidays accepted p posted from =
    (key : List ℕ) → IsFirstChange from posted.corrected (corrected (anchor_of posted.history) holidays (posted.history ++ record { number = length posted.history + 1; key = key; accepted = accepted; post = p } ∷ []))

-- each of the lists has room for one more
pub record IsRoomy (b : Beside) : Type 0 where
  pub correction_room : HasSpare b.corrections
  pub effect_room : vec_len b.effects < vec_capacity b.effects
  pub slot_room : vec_len b.order < vec_capacity b.order

abbrev pub IsRoomyIfAny : Option Beside → Type 0
IsRoomyIfAny None = Unit {0}
IsRoomyIfAny (Some b) = IsRoomy b

-- where nothing was kept there is room for what is said of one post more
abbrev pub HasSpareIfNone : Option Beside → Later → Type 0
HasSpareIfNone None later = HasSpare later
HasSpareIfNone (Some b) later = Unit {0}

-- the lists are these, each with room for one more
pub record IsCopy (later : List Correction) (now : List Effect) (slots : List Slot) (b : Beside) : Type 0 where
  pub correction_items : b.corrections.each ≡ later
  pub effect_items : b.effects.items ≡ now
  pub slot_items : b.order.items ≡ slots
  pub room : IsRoomy b

-- beside a post that corrects others they are kept, and beside another one nothing is
abbrev pub IsCopyIfAny : Post → List Correction → List Effect → List Slot → Option Beside → Type 0
IsCopyIfAny post later now slots None = corrects post ≡ false
IsCopyIfAny post later now slots (Some b) = IsCopy later now slots b

-- the lists are those that stood beside the posts, and each has room for one more
pub record StoodBeside (old : Posted) (b : Beside) : Type 0 where
  pub beside : AreBeside old.history b.corrections.each b.effects.items b.order.items
  pub corrected : old.corrected ≡ corrected_with 1 5 old.history b.effects.items
  pub room : IsRoomy b

-- the last post corrects none of the others, and what counts of them is as it was
pub record LeavesOthers (kept : Kept) (old new : Posted) : Type 0 where
  pub plain : corrects kept.post ≡ false
  pub others : take (length old.history) new.corrected ≡ old.corrected

-- beside a post that corrects others the lists are kept; beside another one nothing is, since the rest stays as it was
abbrev pub StoodIfAny : Kept → Posted → Posted → Option Beside → Type 0
StoodIfAny kept old new None = LeavesOthers kept old new
StoodIfAny kept old new (Some b) = StoodBeside old b

-- A post under a new key was entered behind the others, for which there was room, and this is what takes it back
pub record IsDraft (kept : Kept) (old new : Posted) (d : Draft) : Type 0 where
  pub some : 1 ≤ length old.history
  pub room : old.has_room ≡ true
  pub fresh : with_key kept.key old.history ≡ None
  pub history : new.history ≡ old.history ++ kept ∷ []
  pub stood : StoodIfAny kept old new d.before
  pub from : IsFirstChange d.from old.corrected new.corrected

-- of some post and some others
pub record AwaitsReturn (new : Posted) (d : Draft) : Type 0 where
  pub kept : Kept
  pub old : Posted
  pub draft : IsDraft kept old new d

-- what is said of the posts but the last: what was kept, or else what is there without its end
abbrev pub corrections_before : Option Beside → List Correction → List Correction
corrections_before None later = take (length later - 1) later
corrections_before (Some b) later = b.corrections.each

-- what counts for the posts but the last
abbrev pub effects_before : Option Beside → List Effect → List Effect
effects_before None now = take (length now - 1) now
effects_before (Some b) now = b.effects.items

-- and their slots, as they are folded
abbrev pub slots_before : Option Beside → List Effect → List Slot
slots_before None now = in_order (slots_from 1 (take (length now - 1) now))
slots_before (Some b) now = b.order.items
