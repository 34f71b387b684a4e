-- The history of an account, and its corrected list: each accepted post with the day and the cents that count now.
-- Posts are numbered by their places, from 1 on. A target that is no post of the kind wanted names nothing.
use Rattle.std.specs.Prelude.{ℕ, zero, suc, ◌+◌, ◌-◌, Bool, true, false, ◌==◌, if◌then◌else◌, max, unwrap_or, slice_get, List, [], ◌∷◌, Option, Some, None, pos}
use Rattle.std.specs.List.{filter, sum_by}
use Rattle.std.specs.Option.{option_or}
use Rattle.card_events.specs.Business.{credit_day, is_mail}
use Rattle.card_events.specs.declared.anchor.Anchor.{Anchor}
use Rattle.card_events.specs.declared.kept.Kept.{Kept}
use Rattle.card_events.specs.declared.kept.Slot.{Slot}
use Rattle.card_events.specs.declared.post.Post.{Post}
use Rattle.card_events.specs.declared.post.Post.TheVariants as post
use Rattle.card_events.specs.declared.post.Terms.{Terms}

-- an accepted post as it counts now: its effective day, its corrected cents, and the segment that a Plan or Notice adds
pub record CorrectedPost : Type 0 where
  pub number : ℕ
  pub day : ℕ
  pub cents : ℕ
  pub accepted : ℕ
  pub segment : ℕ
  pub post : Post

-- the post with a number
abbrev pub at_number : ℕ → List Kept → Option Kept
at_number zero history = None
at_number (suc n) history = slice_get history n

-- ---- what later posts say of an earlier one
-- the day and cents that a post gives to post n
abbrev pub amend_of : ℕ → Post → Option (ℕ × ℕ)
amend_of n (post.Amend target day cents) = if target == n then Some (day, cents) else None
amend_of n _ = None

-- those of the last Amend of post n
unfoldable pub last_amend : ℕ → List Kept → Option (ℕ × ℕ)
last_amend n [] = None
last_amend n (k ∷ ks) = option_or (last_amend n ks) (amend_of n k.post)

-- a Dispute of charge n
abbrev pub disputes : ℕ → Post → Bool
disputes n (post.Dispute _ target _) = target == n
disputes n _ = false

-- the charge that a Dispute names, and 0 for what is none
abbrev pub charge_disputed : Post → ℕ
charge_disputed (post.Dispute _ target _) = target
charge_disputed _ = 0

-- the post there is a Dispute of charge n
abbrev pub dispute_names : ℕ → Option Kept → Bool
dispute_names n None = false
dispute_names n (Some k) = disputes n k.post

-- the cents that a post confirms as an error in charge n
abbrev pub confirms : ℕ → List Kept → Post → ℕ
confirms n history (post.Resolve _ target cents) = if dispute_names n (at_number target history) then cents else 0
confirms n history _ = 0

-- the sum of what the Resolves of its Disputes confirmed
unfoldable pub confirmed : ℕ → List Kept → ℕ
confirmed n history = sum_by (λ k. confirms n history k.post) history

-- ---- the day and cents that stand for a post
-- the own day and cents of a post that an Amend may name
abbrev pub own_of : Post → Option (ℕ × ℕ)
own_of (post.Charge day _ cents) = Some (day, cents)
own_of (post.Credit day _ cents) = Some (day, cents)
own_of (post.Payment day _ _ cents) = Some (day, cents)
own_of _ = None

-- the own day and cents of the post there
abbrev pub own_at : Option Kept → Option (ℕ × ℕ)
own_at None = None
own_at (Some k) = own_of k.post

-- those of an Amend, where the post is one that an Amend may name
abbrev pub amended : Option (ℕ × ℕ) → Option (ℕ × ℕ) → Option (ℕ × ℕ)
amended amend None = None
amended amend (Some own) = Some (unwrap_or amend own)

-- those of the last Amend, else its own, before what a Resolve confirmed is taken off
abbrev pub standing : ℕ → List Kept → Option (ℕ × ℕ)
standing n history = amended (last_amend n history) (own_at (at_number n history))

-- the day of an Amend, else the own one
abbrev pub amended_day : Option (ℕ × ℕ) → ℕ → ℕ
amended_day None own = own
amended_day (Some a) own = a.0

-- the cents of an Amend, else the own ones
abbrev pub amended_cents : Option (ℕ × ℕ) → ℕ → ℕ
amended_cents None own = own
amended_cents (Some a) own = a.1

-- the corrected cents of post n: a charge is lowered by what was confirmed, not below 0
unfoldable pub cents_of : List Kept → ℕ → Post → ℕ
cents_of history n (post.Charge _ _ own) = amended_cents (last_amend n history) own - confirmed n history
cents_of history n (post.Credit _ _ own) = amended_cents (last_amend n history) own
cents_of history n (post.Payment _ _ _ own) = amended_cents (last_amend n history) own
cents_of history n (post.Dispute _ _ cents) = cents
cents_of history n (post.Resolve _ _ cents) = cents
cents_of history n (post.Refund cents) = cents
cents_of history n (post.Amend _ _ cents) = cents
cents_of history n _ = 0

-- ---- effective days
-- the corrected day of a charge, and 0 for what is none
abbrev pub charge_day : List Kept → ℕ → Option Kept → ℕ
charge_day history n None = 0
charge_day history n (Some k) = at k.post
  where
    at : Post → ℕ
    at (post.Charge day _ _) = amended_day (last_amend n history) day
    at _ = 0

-- the day on which a payment is credited (12 CFR 1026.10), and 0 for what is none
abbrev pub payment_day : Anchor → List ℕ → List Kept → ℕ → Option Kept → ℕ
payment_day a holidays history n None = 0
payment_day a holidays history n (Some k) = at k.post
  where
    at : Post → ℕ
    at (post.Payment day minute by _) = credit_day a holidays (amended_day (last_amend n history) day) minute (is_mail by)
    at _ = 0

-- a Dispute counts from the later of its day and its charge's; 0 is for what is none
abbrev pub dispute_day : List Kept → Option Kept → ℕ
dispute_day history None = 0
dispute_day history (Some k) = at k.post
  where
    at : Post → ℕ
    at (post.Dispute day target _) = max day (charge_day history target (at_number target history))
    at _ = 0

-- the effective day of post n
unfoldable pub effective_day : Anchor → List ℕ → List Kept → ℕ → ℕ → Post → ℕ
effective_day a holidays history n accepted (post.Open day _) = day
effective_day a holidays history n accepted (post.OpenVariable day _) = day
effective_day a holidays history n accepted (post.Charge day _ _) = amended_day (last_amend n history) day
effective_day a holidays history n accepted (post.Credit day _ _) = amended_day (last_amend n history) day
effective_day a holidays history n accepted (post.Payment day minute by _) =
    credit_day a holidays (amended_day (last_amend n history) day) minute (is_mail by)
effective_day a holidays history n accepted (post.Return day target) = max day (payment_day a holidays history target (at_number target history))
effective_day a holidays history n accepted (post.Plan day _ _ _ _) = day
effective_day a holidays history n accepted (post.Notice day _ _ _) = day
effective_day a holidays history n accepted (post.Lower day _ _) = day
effective_day a holidays history n accepted post.Penalty = accepted
effective_day a holidays history n accepted (post.Review day _) = day
effective_day a holidays history n accepted (post.Dispute day target _) = max day (charge_day history target (at_number target history))
effective_day a holidays history n accepted (post.Ack day _) = day
effective_day a holidays history n accepted (post.Resolve day target _) = max day (dispute_day history (at_number target history))
effective_day a holidays history n accepted (post.AskRefund day) = day
effective_day a holidays history n accepted (post.Refund _) = accepted
effective_day a holidays history n accepted (post.Amend _ day _) = day
effective_day a holidays history n accepted (post.Bill _) = accepted

-- ---- the corrected list
-- a Plan or a Notice
abbrev pub adds_segment : Post → Bool
adds_segment (post.Plan _ _ _ _ _) = true
adds_segment (post.Notice _ _ _ _) = true
adds_segment _ = false

-- the segment that the next Plan or Notice after a post adds
abbrev pub next_segment : ℕ → Post → ℕ
next_segment segment p = if adds_segment p then segment + 1 else segment

-- post n as the history corrects it
unfoldable pub corrected_post : Anchor → List ℕ → List Kept → ℕ → ℕ → Kept → CorrectedPost
corrected_post a holidays history n segment k =
    record {
      number = n;
      day = effective_day a holidays history n k.accepted k.post;
      cents = cents_of history n k.post;
      accepted = k.accepted;
      segment = segment;
      post = k.post;
    }

-- those from post n on, where the next Plan or Notice among them adds this segment
unfoldable pub corrected_from : Anchor → List ℕ → List Kept → ℕ → ℕ → List Kept → List CorrectedPost
corrected_from a holidays history n segment [] = []
corrected_from a holidays history n segment (k ∷ ks) =
    corrected_post a holidays history n segment k ∷ corrected_from a holidays history (suc n) (next_segment segment k.post) ks

-- the corrected list, in order of acceptance. Segments 0 to 4 are there from the opening on
abbrev pub corrected : Anchor → List ℕ → List Kept → List CorrectedPost
corrected a holidays history = corrected_from a holidays history 1 5 history

-- the day, number and cents of a corrected post
abbrev pub slot_of : CorrectedPost → Slot
slot_of p = record { day = p.day; number = p.number; cents = pos p.cents }

-- a post that the fold of its day reads. The others change what stands in the list, or are read by tasks and statements
abbrev pub is_folded : Post → Bool
is_folded (post.Open _ _) = false
is_folded (post.OpenVariable _ _) = false
is_folded (post.Review _ _) = false
is_folded (post.Ack _ _) = false
is_folded (post.AskRefund _) = false
is_folded (post.Amend _ _ _) = false
is_folded (post.Bill _) = false
is_folded _ = true

-- the part of the corrected list that is folded
abbrev pub folded : Anchor → List ℕ → List Kept → List CorrectedPost
folded a holidays history = filter (λ p. is_folded p.post) (corrected a holidays history)

-- ---- the opening, which is the first post
-- the terms of a list that no opening begins
abbrev pub no_terms : Terms
no_terms = record { close = 0; purchase = 0; cash = 0; transfer = 0; penalty = 0; floor = 0; pct = 0 }

-- the post opens an account
abbrev pub is_open : Post → Bool
is_open (post.Open _ _) = true
is_open (post.OpenVariable _ _) = true
is_open _ = false

-- the terms that a post opens with
abbrev pub terms_in : Post → Terms
terms_in (post.Open _ terms) = terms
terms_in (post.OpenVariable _ terms) = terms
terms_in _ = no_terms

-- the day on which a post opens the account
abbrev pub opening_in : Post → ℕ
opening_in (post.Open day _) = day
opening_in (post.OpenVariable day _) = day
opening_in _ = 0

-- the terms of an account
abbrev pub terms_of : List Kept → Terms
terms_of [] = no_terms
terms_of (k ∷ ks) = terms_in k.post

-- its opening day and the day of the month on which its cycles close
abbrev pub anchor_of : List Kept → Anchor
anchor_of [] = record { opened = 0; close_day = 0 }
anchor_of (k ∷ ks) = record { opened = opening_in k.post; close_day = (terms_in k.post).close }

-- the post opens an account whose opening rates follow the index
abbrev pub opens_variable : Post → Bool
opens_variable (post.OpenVariable _ _) = true
opens_variable _ = false

-- the opening rates of the account follow the index
abbrev pub is_variable : List Kept → Bool
is_variable [] = false
is_variable (k ∷ ks) = opens_variable k.post
