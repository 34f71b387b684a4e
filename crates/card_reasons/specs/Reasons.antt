-- Why a post isn't accepted, in parts.
use Rattle.std.specs.Prelude.{◌≡◌, ◌≤◌, ℕ, Bool, true, false, not, nat_lt, nat_le, ◌==◌, ◌||◌, List, [], ◌∷◌, length, Option}
use Rattle.std.specs.List.{All}
use Rattle.std.specs.List.Sorted.{IsNonDecreasingBy}
use Rattle.std.specs.Option.{option_map, option_or}
use Rattle.card_events.specs.Billing.{IsCloseDay, closing}
use Rattle.card_events.specs.Range.{last_request_day}
use Rattle.card_events.specs.declared.anchor.Anchor.{Anchor}
use Rattle.card_events.specs.History.{anchor_of}
use Rattle.card_events.specs.Limits.{post_limit}
use Rattle.card_events.specs.declared.kept.Kept.{Kept}
use Rattle.card_events.specs.SharedRows.{SharedRows}
use Rattle.card_events.specs.declared.post.Post.{Post}
use Rattle.card_events.specs.declared.post.Post.TheVariants as post
use Rattle.card_events.specs.declared.reply.Refusal.{Refusal}
use Rattle.card_events.specs.declared.reply.Refusal.TheVariants as refusal
use Rattle.card_model.specs.Cycles.{IssuedRow}
use Rattle.card_model.specs.Refusals.{IsBilledLater, Present, already_returned, bills, dispute_known, dispute_late, first_reason, first_year, no_open_dispute, reason_against, notice_pending, notice_too_short, number_from, outside_plan, plan_end_not_closing, plan_too_short, segments_full, unknown_plan, where_true, wrong_entry}
use Rattle.card_posts.specs.Posted.{Posted, StandsFor}

-- what is judged today of an account with these posts
abbrev pub judged_of : ℕ → SharedRows → List IssuedRow → List Kept → Present
judged_of today shared issued posts = record { today = today; shared = shared; lists = record { posts = posts; issued = issued } }

-- under the holidays of the corrected list, whatever was issued, this is the reason against a post today
abbrev pub IsReason : ℕ → Posted → Post → Option Refusal → Type 0
IsReason today posts p reason =
    (shared : SharedRows) (issued : List IssuedRow) → StandsFor shared.holidays posts → reason ≡ reason_against (judged_of today shared issued posts.history) p

-- the cycles of the account with these posts, which was opened on a day of requests
pub record HasCycles (a : Anchor) (history : List Kept) : Type 0 where
  pub anchor : a ≡ anchor_of history
  pub close_day : IsCloseDay a.close_day
  pub opened : a.opened ≤ last_request_day

-- posts were accepted in the order of their days, and Bills after their cycles' closings
pub record AreInOrder (a : Anchor) (history : List Kept) : Type 0 where
  pub accepted : IsNonDecreasingBy (λ k. k.accepted) history
  pub billed : All (IsBilledLater a) history

-- ---- posts with a day of their own
-- an amount, a rate or a minute is out of its range, or the day doesn't lie from the opening day to today
unfoldable pub early_reason : Bool → ℕ → ℕ → ℕ → Option Refusal
early_reason out today opened day =
    first_reason (
    where_true out refusal.AmountRange
    ∷ where_true (nat_lt today day) refusal.DayAhead
    ∷ where_true (nat_lt day opened) refusal.DayBeforeOpen ∷ [])

-- behind all others: the account has so many posts
abbrev pub full_reason : ℕ → Option Refusal
full_reason count = where_true (nat_le post_limit count) refusal.AccountFull

-- between these two: of a charge or a credit, its plan
unfoldable pub place_reason : Present → Post → Option Refusal
place_reason now p = first_reason (unknown_plan now p ∷ outside_plan now p ∷ [])

-- of a Plan, its end and the account's segments
unfoldable pub end_reason : Present → Post → Option Refusal
end_reason now p = first_reason (plan_end_not_closing now p ∷ plan_too_short p ∷ segments_full now p ∷ [])

-- that of a Plan up to a day, by the closing from then on, the least last day, and whether all segments are there
abbrev pub ended_reason : ℕ → ℕ → ℕ → Bool → Option Refusal
ended_reason next end least full =
    first_reason (
    where_true (not (next == end)) (refusal.PlanEndNotClosing next)
    ∷ where_true (nat_lt end least) refusal.PlanTooShort
    ∷ where_true full refusal.SegmentsFull ∷ [])

-- of an Amend, its target
unfoldable pub target_reason : Present → Post → Option Refusal
target_reason now p = first_reason (outside_plan now p ∷ wrong_entry now p ∷ [])

-- of a Return, the payment that it names
unfoldable pub returned_reason : Present → Post → Option Refusal
returned_reason now p = first_reason (wrong_entry now p ∷ already_returned now p ∷ [])

-- of a Notice, its effective day and the account's segments
unfoldable pub notice_reason : Present → Post → Option Refusal
notice_reason now p = first_reason (segments_full now p ∷ notice_too_short p ∷ first_year now p ∷ notice_pending now p ∷ [])

-- before a Notice that is pending: whether all segments are there, the least effective day, and the first one after a year
abbrev pub effective_reason : Bool → ℕ → ℕ → ℕ → Option Refusal
effective_reason full effective least first =
    first_reason (
    where_true full refusal.SegmentsFull
    ∷ where_true (nat_lt effective least) (refusal.NoticeTooShort least)
    ∷ where_true (nat_lt effective first) (refusal.FirstYear first) ∷ [])

-- of a Dispute, the charge that it names
unfoldable pub claim_reason : Present → Post → Option Refusal
claim_reason now p = first_reason (wrong_entry now p ∷ dispute_late now p ∷ dispute_known now p ∷ [])

-- of an Ack or a Resolve, the Dispute that it names
unfoldable pub open_dispute_reason : Present → Post → Option Refusal
open_dispute_reason now p = first_reason (wrong_entry now p ∷ no_open_dispute now p ∷ [])

-- ---- the kinds
-- a charge, a credit, a payment, and what corrects them
abbrev pub is_entry : Post → Bool
is_entry (post.Charge _ _ _) = true
is_entry (post.Credit _ _ _) = true
is_entry (post.Payment _ _ _ _) = true
is_entry (post.Return _ _) = true
is_entry (post.Amend _ _ _) = true
is_entry _ = false

-- what a rate is given by, or reviewed
abbrev pub is_of_rates : Post → Bool
is_of_rates (post.Plan _ _ _ _ _) = true
is_of_rates (post.Notice _ _ _ _) = true
is_of_rates (post.Lower _ _ _) = true
is_of_rates (post.Review _ _) = true
is_of_rates _ = false

-- a Dispute, what answers one, and a request for a refund
abbrev pub is_of_claims : Post → Bool
is_of_claims (post.Dispute _ _ _) = true
is_of_claims (post.Ack _ _) = true
is_of_claims (post.Resolve _ _ _) = true
is_of_claims (post.AskRefund _) = true
is_of_claims _ = false

-- a post that is judged by the book of today: a Penalty or a Refund
abbrev pub reads_book : Post → Bool
reads_book post.Penalty = true
reads_book (post.Refund _) = true
reads_book _ = false

-- ---- Bills
-- the cycle of a Bill is none that closes by 2099-12-31
abbrev pub is_no_cycle : Anchor → ℕ → Bool
is_no_cycle a cycle = (cycle == 0) || nat_lt last_request_day (closing a cycle)

-- of a Bill of a cycle that closes on a day
abbrev pub closed_reason : ℕ → ℕ → List Kept → ℕ → Option Refusal
closed_reason today day posts cycle =
    first_reason (
    option_map (λ n. refusal.WrongEntry n) (number_from (bills cycle) 1 posts)
    ∷ where_true (nat_le today day) (refusal.NotClosed day)
    ∷ where_true (nat_le post_limit (length posts)) refusal.AccountFull ∷ [])

-- of a Bill of a cycle
unfoldable pub bill_reason : ℕ → Anchor → List Kept → ℕ → Option Refusal
bill_reason today a posts cycle = option_or (where_true (is_no_cycle a cycle) refusal.AmountRange) (closed_reason today (closing a cycle) posts cycle)
