-- What is counted of payments and credits, kept from one question to the next. Days are effective days, amounts cents.
use Rattle.std.specs.Prelude.{ℕ, ◌+◌, ◌≡◌, ◌<◌, ◌≤◌, ◌⊎◌, Bool, true, false, not, nat_le, if◌then◌else◌, IfSome, List, Option, Some, None}
use Rattle.std.specs.List.{filter}
use Rattle.card_events.specs.History.{CorrectedPost, at_number}
use Rattle.card_events.specs.declared.kept.Kept.{Kept}
use Rattle.card_events.specs.declared.kept.Slot.{Slot}
use Rattle.card_events.specs.declared.post.Post.{Post}
use Rattle.card_events.specs.declared.post.Post.TheVariants as post
use Rattle.card_fees.specs.Counting.{credits, reaches, read_counts}
use Rattle.card_fees.specs.Due.{seen_of}
use Rattle.card_fees.specs.declared.returning.Until.{Until}
use Rattle.card_fees.specs.declared.tally.Sum.{Sum}
use Rattle.card_fees.specs.declared.tally.Tally.{Tally}
use Rattle.card_model.specs.Payments.{folded_before, is_before, counted, credited}
use Rattle.card_posts.specs.Posted.{Posted, StandsFor}

-- ---- over slots
-- the slots that aren't in front of the post with a day and a number
abbrev pub not_before : ℕ → ℕ → List Slot → List Slot
not_before day number slots = filter (λ s. not (is_before day number s.day s.number)) slots

-- what a slot from a day on counts, where it is read
abbrev pub paid_since : Until → List Kept → List CorrectedPost → ℕ → Slot → ℕ
paid_since u history posts from s = if nat_le from s.day then read_counts u history posts s else 0

-- the cents of a credit from a day on, where it is read
abbrev pub credited_since : Until → List Kept → ℕ → Slot → ℕ
credited_since u history from s = if nat_le from s.day then (if reaches u s.day s.number then credits history s else 0) else 0

-- a Return, whichever payment it names
abbrev pub is_return : Post → Bool
is_return (post.Return _ _) = true
is_return _ = false

abbrev pub is_return_at : Option Kept → Bool
is_return_at None = false
is_return_at (Some k) = is_return k.post

-- 1 for a Return that is read
abbrev pub return_read : Until → List Kept → Slot → ℕ
return_read u history s = if reaches u s.day s.number then (if is_return_at (at_number s.number history) then 1 else 0) else 0

-- a day and a number stand in front of others, or are these
abbrev pub Leads : ℕ → ℕ → ℕ → ℕ → Type 0
Leads day number later last = (day < later) ⊎ ((day ≡ later) × (number ≤ last))

-- ---- the sums that are kept
-- the payments with effective days from one on that are folded before the post with a day and a number, less those that a Return
-- before it takes back; and the merchants' credits
abbrev pub paid_before : List CorrectedPost → ℕ → ℕ → ℕ → ℕ
paid_before posts from day number = counted (folded_before day number posts) from day

abbrev pub credited_before : List CorrectedPost → ℕ → ℕ → ℕ → ℕ
credited_before posts from day number = credited (folded_before day number posts) from day

-- the sums of some whole days, none after a day
pub record IsSumOf (posts : List CorrectedPost) (last : ℕ) (s : Sum) : Type 0 where
  pub paid : s.paid ≡ counted posts s.from s.to
  pub credited : s.credited ≡ credited posts s.from s.to
  pub by : s.to ≤ last

-- the post with a day and a number stands behind none of a later day
abbrev pub IsBy : ℕ → ℕ → ℕ → Type 0
IsBy last day number = (day ≤ last) ⊎ ((day ≡ last + 1) × (number ≡ 0))

-- the sums up to where it stands, and those that it holds of whole days; it has looked at no post after a day
pub record IsTallyOf (posts : List CorrectedPost) (last : ℕ) (t : Tally) : Type 0 where
  pub paid : t.paid ≡ paid_before posts t.from t.day t.number
  pub credited : t.credited ≡ credited_before posts t.from t.day t.number
  pub stands : IsBy last t.day t.number
  pub due : IfSome t.due (IsSumOf posts last)
  pub before : IfSome t.before (IsSumOf posts last)

-- after a call it is right where it was
abbrev pub StaysRight : Posted → ℕ → Tally → Tally → Type 0
StaysRight posts day old new =
    (holidays : List ℕ) (last : ℕ) → StandsFor holidays posts → day ≤ last → IsTallyOf posts.corrected last old → IsTallyOf posts.corrected last new

-- ---- from one list of posts to another
-- where the fold of a day sees the same posts, what was counted up to that day is right for both
abbrev pub TalliesGoOn : Type 0
TalliesGoOn = (last : ℕ) (old new : List CorrectedPost) (t : Tally) → seen_of last old ≡ seen_of last new → IsTallyOf old last t → IsTallyOf new last t

-- and on later days
abbrev pub TalliesStay : Type 0
TalliesStay = (last later : ℕ) (posts : List CorrectedPost) (t : Tally) → last ≤ later → IsTallyOf posts last t → IsTallyOf posts later t
