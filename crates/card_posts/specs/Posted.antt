-- The accepted posts of an account, as clauses see them.
use Rattle.std.specs.Prelude.{◌≡◌, ℕ, suc, ◌≤◌, max, Bool, true, false, ◌==◌, List, [], ◌∷◌, Option, option_map, length, map, pos, ◌≤ℤ◌}
use Rattle.std.specs.List.{All, find}
use Rattle.card_events.specs.History.{CorrectedPost, anchor_of, corrected, slot_of}
use Rattle.card_events.specs.Limits.{post_limit}
use Rattle.card_events.specs.declared.kept.Kept.{Kept}
use Rattle.card_events.specs.declared.kept.Slot.{Slot}
use Rattle.card_events.specs.declared.post.Post.{Post}
use Rattle.card_events.specs.declared.post.Post.TheVariants as post
use Rattle.card_events.specs.Business.{last_minute}
use Rattle.card_posts.specs.Order.{in_order}

-- the accepted posts, in order of acceptance; what counts of each now, by number; and whether there is room for one more
pub record Posted : Type 0 where
  pub history : List Kept
  pub corrected : List CorrectedPost
  pub has_room : Bool

-- the corrected list is that of the history under these holidays
abbrev pub StandsFor : List ℕ → Posted → Type 0
StandsFor holidays posted = posted.corrected ≡ corrected (anchor_of posted.history) holidays posted.history

-- a corrected list as it is folded: its slots by effective day, then by number
abbrev pub folding_order : List CorrectedPost → List Slot
folding_order posts = in_order (map slot_of posts)

-- the slot of the post with a number
abbrev pub slot_with : ℕ → List CorrectedPost → Option Slot
slot_with number posts = option_map slot_of (find (λ p. p.number == number) posts)

-- no post has more cents
abbrev pub cents_limit : ℕ
cents_limit = 999_999_999_999

-- there are at most 200,000 of them, each of 0 to 999,999,999,999 cents
pub record AreBounded (slots : List Slot) : Type 0 where
  pub count : length slots ≤ post_limit
  pub low : All (λ s. pos 0 ≤ℤ s.cents) slots
  pub high : All (λ s. s.cents ≤ℤ pos cents_limit) slots

-- each post bears its place as its number, where the first of the list has number n
unfoldable pub AreNumbered : ℕ → List Kept → Type 0
AreNumbered n [] = Unit {0}
AreNumbered n (k ∷ ks) = (k.number ≡ n) × AreNumbered (suc n) ks

-- the post sets rates of the account
abbrev pub sets_rates : Post → Bool
sets_rates (post.Plan _ _ _ _ _) = true
sets_rates (post.Notice _ _ _ _) = true
sets_rates (post.Lower _ _ _) = true
sets_rates _ = false

-- none of these posts does
unfoldable pub SetNoRates : List Kept → Type 0
SetNoRates [] = Unit {0}
SetNoRates (k ∷ ks) = (sets_rates k.post ≡ false) × SetNoRates ks

-- the earlier post that a Return, a Dispute, a Resolve or an Amend names, and 0 for the other kinds
abbrev pub target_of : Post → ℕ
target_of (post.Return _ target) = target
target_of (post.Dispute _ target _) = target
target_of (post.Resolve _ target _) = target
target_of (post.Amend target _ _) = target
target_of _ = 0

-- the day lies from the opening day to the day of acceptance
abbrev pub IsPastDay : ℕ → ℕ → ℕ → Type 0
IsPastDay opened accepted day = (opened ≤ day) × (day ≤ accepted)

-- a payment came in on such a day, at a minute of it, and an Amend gives such a day. Nothing is asked of other posts
abbrev pub IsReceived : ℕ → ℕ → Post → Type 0
IsReceived opened accepted (post.Payment day minute _ _) = IsPastDay opened accepted day × (minute ≤ last_minute)
IsReceived opened accepted (post.Amend _ day _) = IsPastDay opened accepted day
IsReceived opened accepted _ = Unit {0}

-- the last day on which a post was accepted
unfoldable pub last_accepted : List Kept → ℕ
last_accepted [] = 0
last_accepted (k ∷ ks) = max k.accepted (last_accepted ks)
