-- The effective day and corrected cents that are kept for each post, by number.
use Rattle.std.specs.Prelude.{ℕ, suc, ◌≤◌, Bool, true, false, if◌then◌else◌, List, [], ◌∷◌, Option, Some, None, pos}
use Rattle.std.specs.List.{All}
use Rattle.card_events.specs.Range.{last_request_day}
use Rattle.card_events.specs.declared.anchor.Anchor.{Anchor}
use Rattle.card_events.specs.Business.{credit_day, is_mail}
use Rattle.card_events.specs.History.{CorrectedPost, amended_day, at_number, effective_day, cents_of, next_segment}
use Rattle.card_events.specs.declared.kept.Kept.{Kept}
use Rattle.card_events.specs.declared.kept.Slot.{Slot}
use Rattle.card_events.specs.declared.post.Post.{Post}
use Rattle.card_events.specs.declared.post.Post.TheVariants as post
use Rattle.card_posts.specs.Posted.{cents_limit, target_of}
use Rattle.card_posts.specs.declared.effect.Effect.{Effect}

-- a post's own day, and that of acceptance where it has none
abbrev pub own_day : ℕ → Post → ℕ
own_day accepted (post.Open day _) = day
own_day accepted (post.OpenVariable day _) = day
own_day accepted (post.Charge day _ _) = day
own_day accepted (post.Credit day _ _) = day
own_day accepted (post.Payment day _ _ _) = day
own_day accepted (post.Return day _) = day
own_day accepted (post.Plan day _ _ _ _) = day
own_day accepted (post.Notice day _ _ _) = day
own_day accepted (post.Lower day _ _) = day
own_day accepted post.Penalty = accepted
own_day accepted (post.Review day _) = day
own_day accepted (post.Dispute day _ _) = day
own_day accepted (post.Ack day _) = day
own_day accepted (post.Resolve day _ _) = day
own_day accepted (post.AskRefund day) = day
own_day accepted (post.Refund _) = accepted
own_day accepted (post.Amend _ day _) = day
own_day accepted (post.Bill _) = accepted

-- the effective day of a post by itself: its own, or that of the last Amend, as of which a payment is credited
abbrev pub day_alone : Anchor → List ℕ → Option (ℕ × ℕ) → ℕ → Post → ℕ
day_alone a holidays amend accepted (post.Charge day _ _) = amended_day amend day
day_alone a holidays amend accepted (post.Credit day _ _) = amended_day amend day
day_alone a holidays amend accepted (post.Payment day minute by _) = credit_day a holidays (amended_day amend day) minute (is_mail by)
day_alone a holidays amend accepted p = own_day accepted p

-- a Return counts no earlier than its payment, a Dispute than its charge, and a Resolve than its Dispute
abbrev pub awaits : Post → Post → Bool
awaits (post.Return _ _) (post.Payment _ _ _ _) = true
awaits (post.Dispute _ _ _) (post.Charge _ _ _) = true
awaits (post.Resolve _ _ _) (post.Dispute _ _ _) = true
awaits _ _ = false

-- the effective day of the post that a post waits for, which is there or not, and 0 where it waits for none
abbrev pub awaited_day : Anchor → List ℕ → List Kept → Post → Option Kept → ℕ
awaited_day a holidays history p None = 0
awaited_day a holidays history p (Some k) = if awaits p k.post then effective_day a holidays history (target_of p) k.accepted k.post else 0

-- the effective day of the post that a post waits for, and 0 where it waits for none
abbrev pub day_awaited : Anchor → List ℕ → List Kept → Post → ℕ
day_awaited a holidays history p = awaited_day a holidays history p (at_number (target_of p) history)

-- the day that an Amend gives, if there is one, is none before the opening, and a day of requests
abbrev pub IsAmendDated : ℕ → Option (ℕ × ℕ) → Type 0
IsAmendDated opened None = Unit {0}
IsAmendDated opened (Some amend) = (opened ≤ amend.0) × (amend.0 ≤ last_request_day)

-- what the history says of post n
abbrev pub effect_of : Anchor → List ℕ → List Kept → ℕ → Kept → Effect
effect_of a holidays history n k = record { day = effective_day a holidays history n k.accepted k.post; cents = cents_of history n k.post }

-- what it says of these posts, the first of which is post n
unfoldable pub effects_from : Anchor → List ℕ → List Kept → ℕ → List Kept → List Effect
effects_from a holidays history n [] = []
effects_from a holidays history n (k ∷ ks) = effect_of a holidays history n k ∷ effects_from a holidays history (suc n) ks

abbrev pub effects : Anchor → List ℕ → List Kept → List Effect
effects a holidays history = effects_from a holidays history 1 history

-- no post has more cents than requests have
abbrev pub AreSmall : List Effect → Type 0
AreSmall es = All (λ e. e.cents ≤ cents_limit) es

-- the slot of post n
abbrev pub slot_by : ℕ → Effect → Slot
slot_by n e = record { day = e.day; number = n; cents = pos e.cents }

-- the slots of posts from n on
unfoldable pub slots_from : ℕ → List Effect → List Slot
slots_from n [] = []
slots_from n (e ∷ es) = slot_by n e ∷ slots_from (suc n) es

abbrev pub corrected_by : ℕ → ℕ → Kept → Effect → CorrectedPost
corrected_by n segment k e = record { number = n; day = e.day; cents = e.cents; accepted = k.accepted; segment = segment; post = k.post }

-- posts with what is kept for them, from post n on, where the next Plan or Notice adds this segment
unfoldable pub corrected_with : ℕ → ℕ → List Kept → List Effect → List CorrectedPost
corrected_with n segment [] es = []
corrected_with n segment (k ∷ ks) [] = []
corrected_with n segment (k ∷ ks) (e ∷ es) = corrected_by n segment k e ∷ corrected_with (suc n) (next_segment segment k.post) ks es
