-- What is kept of later posts for each post, by number: the last Amend, and the sum that was confirmed as an error.
use Rattle.std.specs.Prelude.{ℕ, suc, ◌+◌, ◌-◌, ◌^◌, min, Bool, true, false, List, [], ◌∷◌, Option, Some, None}
use Rattle.card_events.specs.History.{at_number, charge_disputed, confirmed, last_amend}
use Rattle.card_events.specs.declared.kept.Kept.{Kept}
use Rattle.card_events.specs.declared.post.Post.{Post}
use Rattle.card_events.specs.declared.post.Post.TheVariants as post
use Rattle.card_posts.specs.declared.correction.Correction.{Correction}

-- what the history says of post n. A sum above the greatest number of its field is kept as that number
abbrev pub correction_of : List Kept → ℕ → Correction
correction_of history n = record { amend = last_amend n history; confirmed = min (confirmed n history) (2 ^ 64 - 1) }

-- what it says of these posts, the first of which is post n
unfoldable pub corrections_from : List Kept → ℕ → List Kept → List Correction
corrections_from history n [] = []
corrections_from history n (k ∷ ks) = correction_of history n ∷ corrections_from history (suc n) ks

abbrev pub corrections : List Kept → List Correction
corrections history = corrections_from history 1 history

-- a sum with more cents, kept up to the greatest number of its field
abbrev pub saturated : ℕ → ℕ → ℕ
saturated sum cents = min (sum + cents) (2 ^ 64 - 1)

-- what is said of a post, where one more corrects it
abbrev pub with_post : Post → Correction → Correction
with_post (post.Amend _ day cents) c = record { amend = Some (day, cents); confirmed = c.confirmed }
with_post (post.Resolve _ _ cents) c = record { amend = c.amend; confirmed = saturated c.confirmed cents }
with_post _ c = c

abbrev pub charge_named : Option Kept → ℕ
charge_named None = 0
charge_named (Some k) = charge_disputed k.post

-- the earlier post that a post corrects: the one that an Amend names, the charge of a Resolve; 0 for none
abbrev pub changed_by : List Kept → Post → ℕ
changed_by history (post.Amend target _ _) = target
changed_by history (post.Resolve _ target _) = charge_named (at_number target history)
changed_by history _ = 0

-- the post changes what counts for earlier ones
abbrev pub corrects : Post → Bool
corrects (post.Amend _ _ _) = true
corrects (post.Resolve _ _ _) = true
corrects _ = false
