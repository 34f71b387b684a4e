-- Why a post isn't accepted: the first reason in order, with its value. Those from 12 CFR 1026.9, .13 and .55 name their
-- sections; the rest are the ledger's own.
use Rattle.std.specs.Prelude.{ℕ, suc, ◌≡◌, ◌<◌, ◌+◌, Bool, true, false, ◌&&◌, ◌||◌, not, ◌==◌, nat_le, nat_lt, if◌then◌else◌, max, is_some, List, [], ◌∷◌, length, Option, Some, None, pos}
use Rattle.std.specs.List.{count_by, filter, filter_map, list_any, reduce}
use Rattle.std.specs.Option.{option_map, option_map_or, option_or}
use Rattle.card_events.specs.Billing.{closing, next_on}
use Rattle.card_events.specs.Later.{six_months_after, year_after}
use Rattle.card_events.specs.Range.{last_request_day}
use Rattle.card_events.specs.declared.anchor.Anchor.{Anchor}
use Rattle.card_events.specs.History.{CorrectedPost, adds_segment, anchor_of, at_number, corrected, disputes}
use Rattle.card_events.specs.Limits.{post_limit}
use Rattle.card_events.specs.Same.{is_same_category}
use Rattle.card_events.specs.SharedRows.{IndexRow, SharedRows}
use Rattle.card_events.specs.declared.kept.Kept.{Kept}
use Rattle.card_events.specs.declared.post.Category.{Category}
use Rattle.card_events.specs.declared.post.Place.{Place}
use Rattle.card_events.specs.declared.post.Place.TheVariants as place
use Rattle.card_events.specs.declared.post.Post.{Post}
use Rattle.card_events.specs.declared.post.Post.TheVariants as post
use Rattle.card_events.specs.declared.post.Terms.{Terms}
use Rattle.card_events.specs.declared.reply.Refusal.{Refusal}
use Rattle.card_events.specs.declared.reply.Refusal.TheVariants as refusal
use Rattle.card_events.specs.Money.{rate_limit}
use Rattle.card_events.specs.Business.{last_minute}
use Rattle.card_model.specs.Books.{Book}
use Rattle.card_model.specs.Cycles.{IssuedRow, Seen, seen_on}
use Rattle.card_model.specs.Deadlines.{increases, last_notice_day, resolves}
use Rattle.card_model.specs.Effects.{place_charged}
use Rattle.card_model.specs.Entries.{credit_balance}
use Rattle.card_model.specs.Folds.{book}
use Rattle.card_model.specs.Payments.{returns, sixty_days_late}
use Rattle.card_model.specs.Rates.{index_on}

-- an account: its accepted posts and its issued rows
pub record Lists : Type 0 where
  pub posts : List Kept
  pub issued : List IssuedRow

-- what a post of an account is judged by
pub record Present : Type 0 where
  pub today : ℕ
  pub shared : SharedRows
  pub lists : Lists

-- the account's opening day and closing day
abbrev pub anchor_now : Present → Anchor
anchor_now now = anchor_of now.lists.posts

-- the post that a number names
abbrev pub named : Present → ℕ → Option Kept
named now n = at_number n now.lists.posts

-- the corrected list
abbrev pub corrected_now : Present → List CorrectedPost
corrected_now now = corrected (anchor_now now) now.shared.holidays now.lists.posts

-- what the fold of today sees, and the book at the end of today
abbrev pub seen_today : Present → Seen
seen_today now = seen_on (anchor_now now) now.shared now.lists.posts now.lists.issued now.today

-- the book at the end of today, interest of a closing included
unfoldable pub book_today : Present → Book
book_today now = book now.lists.posts now.lists.issued now.shared now.today

-- ---- reasons in order
-- the first of these that stands
abbrev pub first_reason : List (Option Refusal) → Option Refusal
first_reason [] = None
first_reason (r ∷ rs) = option_or r (first_reason rs)

-- a reason where a condition holds
abbrev pub where_true : Bool → Refusal → Option Refusal
where_true b r = if b then Some r else None

-- there is one, and it passes
abbrev pub holds_of : {A : Type 0} → (A → Bool) → Option A → Bool
holds_of p o = option_map_or p o false

-- the number of the first post that passes
unfoldable pub number_from : (Post → Bool) → ℕ → List Kept → Option ℕ
number_from p n [] = None
number_from p n (k ∷ ks) = let later = number_from p (suc n) ks in if p k.post then Some n else later

-- the number of the first post of the account that passes
abbrev pub number_that : (Post → Bool) → Present → Option ℕ
number_that p now = number_from p 1 now.lists.posts

-- ---- BadTerms: the first term that is out of its range
-- the terms of an opening in their order, from the closing day on
abbrev pub bad_terms_of : Terms → Option Refusal
bad_terms_of t =
    first_reason (
    where_true ((t.close == 0) || nat_lt 28 t.close) (refusal.BadTerms 1)
    ∷ where_true (nat_lt rate_limit t.purchase) (refusal.BadTerms 2)
    ∷ where_true (nat_lt rate_limit t.cash) (refusal.BadTerms 3)
    ∷ where_true (nat_lt rate_limit t.transfer) (refusal.BadTerms 4)
    ∷ where_true (nat_lt rate_limit t.penalty) (refusal.BadTerms 5)
    ∷ where_true (nat_lt 1000000 t.floor) (refusal.BadTerms 6)
    ∷ where_true (nat_lt 10000 t.pct) (refusal.BadTerms 7) ∷ [])

-- those of an opening
abbrev pub bad_terms : Post → Option Refusal
bad_terms (post.Open _ t) = bad_terms_of t
bad_terms (post.OpenVariable _ t) = bad_terms_of t
bad_terms _ = None

-- ---- AmountRange
-- 0 cents, or above 10^9
abbrev pub is_no_amount : ℕ → Bool
is_no_amount cents = (cents == 0) || nat_lt 1000000000 cents

-- cents above what a Dispute claims
abbrev pub is_above_claim : ℕ → Kept → Bool
is_above_claim cents k = at k.post
  where
    at : Post → Bool
    at (post.Dispute _ _ claim) = nat_lt claim cents
    at _ = false

-- an amount, a rate, a minute or a cycle that is out of its range
unfoldable pub is_out_of_range : Present → Post → Bool
is_out_of_range now (post.Charge _ _ cents) = is_no_amount cents
is_out_of_range now (post.Credit _ _ cents) = is_no_amount cents
is_out_of_range now (post.Payment _ minute _ cents) = is_no_amount cents || nat_lt last_minute minute
is_out_of_range now (post.Refund cents) = is_no_amount cents
is_out_of_range now (post.Dispute _ _ cents) = is_no_amount cents
is_out_of_range now (post.Amend _ _ cents) = nat_lt 1000000000 cents
is_out_of_range now (post.Resolve _ target cents) = nat_lt 1000000000 cents || holds_of (is_above_claim cents) (named now target)
is_out_of_range now (post.Plan _ _ rate _ after) = nat_lt rate_limit rate || nat_lt rate_limit after
is_out_of_range now (post.Notice _ _ rate _) = nat_lt rate_limit rate
is_out_of_range now (post.Lower _ _ rate) = nat_lt rate_limit rate
is_out_of_range now (post.Bill cycle) = (cycle == 0) || nat_lt last_request_day (closing (anchor_now now) cycle)
is_out_of_range now _ = false

-- an amount, a rate, a minute or a cycle is out of its range
abbrev pub amount_range : Present → Post → Option Refusal
amount_range now p = where_true (is_out_of_range now p) refusal.AmountRange

-- ---- DayAhead, DayBeforeOpen
-- the post's own day: an Amend's is the day that it gives
abbrev pub own_day : Post → Option ℕ
own_day (post.Open day _) = Some day
own_day (post.OpenVariable day _) = Some day
own_day (post.Charge day _ _) = Some day
own_day (post.Credit day _ _) = Some day
own_day (post.Payment day _ _ _) = Some day
own_day (post.Return day _) = Some day
own_day (post.Plan day _ _ _ _) = Some day
own_day (post.Notice day _ _ _) = Some day
own_day (post.Lower day _ _) = Some day
own_day post.Penalty = None
own_day (post.Review day _) = Some day
own_day (post.Dispute day _ _) = Some day
own_day (post.Ack day _) = Some day
own_day (post.Resolve day _ _) = Some day
own_day (post.AskRefund day) = Some day
own_day (post.Refund _) = None
own_day (post.Amend _ day _) = Some day
own_day (post.Bill _) = None

-- the post's own day is after today
abbrev pub day_ahead : ℕ → Post → Option Refusal
day_ahead today p = where_true (holds_of (λ d. nat_lt today d) (own_day p)) refusal.DayAhead

-- the post's own day is before the opening day
abbrev pub day_before_open : Present → Post → Option Refusal
day_before_open now p = where_true (holds_of (λ d. nat_lt d (anchor_now now).opened) (own_day p)) refusal.DayBeforeOpen

-- ---- UnknownPlan, OutsidePlan
-- the first and the last day of a Plan
abbrev pub plan_days : Post → Option (ℕ × ℕ)
plan_days (post.Plan day _ _ end _) = Some (day, end)
plan_days _ = None

-- the first and the last day of the plan of a number, none where no Plan has it
abbrev pub plan_at : Present → ℕ → Option (ℕ × ℕ)
plan_at now n = at (named now n)
  where
    at : Option Kept → Option (ℕ × ℕ)
    at None = None
    at (Some k) = plan_days k.post

-- no Plan is there
abbrev pub is_no_plan : Option (ℕ × ℕ) → Bool
is_no_plan None = true
is_no_plan (Some days) = false

-- a day outside a plan, where one is there
abbrev pub is_outside : ℕ → Option (ℕ × ℕ) → Bool
is_outside day None = false
is_outside day (Some days) = nat_lt day days.0 || nat_lt days.1 day

-- a place that names a number which is no Plan's
abbrev pub names_no_plan : Present → Place → Bool
names_no_plan now (place.Plan n) = is_no_plan (plan_at now n)
names_no_plan now _ = false

-- a day outside the plan that a place names
abbrev pub is_outside_place : Present → ℕ → Place → Bool
is_outside_place now day (place.Plan n) = is_outside day (plan_at now n)
is_outside_place now day _ = false

-- a charge or a credit on a number that is no Plan's
unfoldable pub unknown_plan : Present → Post → Option Refusal
unknown_plan now (post.Charge _ p _) = where_true (names_no_plan now p) refusal.UnknownPlan
unknown_plan now (post.Credit _ p _) = where_true (names_no_plan now p) refusal.UnknownPlan
unknown_plan now _ = None

-- the place of the charge that a number names
abbrev pub place_of : Option Kept → Option Place
place_of None = None
place_of (Some k) = place_charged k.post

-- a charge on a plan, or an Amend of one, on a day outside it
unfoldable pub outside_plan : Present → Post → Option Refusal
outside_plan now (post.Charge day p _) = where_true (is_outside_place now day p) refusal.OutsidePlan
outside_plan now (post.Amend target day _) = where_true (holds_of (is_outside_place now day) (place_of (named now target))) refusal.OutsidePlan
outside_plan now _ = None

-- ---- PlanEndNotClosing, PlanTooShort, SegmentsFull
-- the first closing on or after a day
abbrev pub closing_on : Present → ℕ → ℕ
closing_on now day = next_on (anchor_now now).close_day (max day (anchor_now now).opened)

-- a plan's end that is no closing
unfoldable pub plan_end_not_closing : Present → Post → Option Refusal
plan_end_not_closing now (post.Plan _ _ _ end _) = where_true (not (closing_on now end == end)) (refusal.PlanEndNotClosing (closing_on now end))
plan_end_not_closing now _ = None

-- a plan that ends before six months are over (12 CFR 1026.55(b)(1))
unfoldable pub plan_too_short : Post → Option Refusal
plan_too_short (post.Plan day _ _ end _) = where_true (nat_lt end (six_months_after day)) refusal.PlanTooShort
plan_too_short _ = None

-- five segments stand from the opening on, and each Plan and Notice adds one
abbrev pub segments_full : Present → Post → Option Refusal
segments_full now p =
    where_true (adds_segment p && nat_le 64 (5 + count_by (λ k. adds_segment k.post) now.lists.posts)) refusal.SegmentsFull

-- ---- WrongEntry
-- a post that may have this one as its target
abbrev pub fits_target : Post → Post → Bool
fits_target (post.Return _ _) (post.Payment _ _ _ _) = true
fits_target (post.Dispute _ _ _) (post.Charge _ _ _) = true
fits_target (post.Ack _ _) (post.Dispute _ _ _) = true
fits_target (post.Resolve _ _ _) (post.Dispute _ _ _) = true
fits_target (post.Amend _ _ _) (post.Charge _ _ _) = true
fits_target (post.Amend _ _ _) (post.Credit _ _ _) = true
fits_target (post.Amend _ _ _) (post.Payment _ _ _ _) = true
fits_target _ _ = false

-- a target that is no post of the kind wanted
abbrev pub wrong_target : Present → Post → ℕ → Option Refusal
wrong_target now p target = where_true (not (holds_of (λ k. fits_target p k.post) (named now target))) (refusal.WrongEntry target)

-- a Bill of a cycle
abbrev pub bills : ℕ → Post → Bool
bills cycle (post.Bill c) = c == cycle
bills cycle _ = false

-- a Bill was accepted after its cycle's closing
abbrev pub IsBilledLater : Anchor → Kept → Type 0
IsBilledLater a k = (cycle : ℕ) → bills cycle k.post ≡ true → closing a cycle < k.accepted

-- the target is of another kind, or the cycle was issued by an earlier Bill
unfoldable pub wrong_entry : Present → Post → Option Refusal
wrong_entry now (post.Return day target) = wrong_target now (post.Return day target) target
wrong_entry now (post.Dispute day target c) = wrong_target now (post.Dispute day target c) target
wrong_entry now (post.Ack day target) = wrong_target now (post.Ack day target) target
wrong_entry now (post.Resolve day target c) = wrong_target now (post.Resolve day target c) target
wrong_entry now (post.Amend target day c) = wrong_target now (post.Amend target day c) target
wrong_entry now (post.Bill cycle) = option_map (λ n. refusal.WrongEntry n) (number_that (bills cycle) now)
wrong_entry now _ = None

-- ---- AlreadyReturned
-- an earlier Return names the payment
unfoldable pub already_returned : Present → Post → Option Refusal
already_returned now (post.Return _ target) = option_map (λ n. refusal.AlreadyReturned n) (number_that (returns target) now)
already_returned now _ = None

-- ---- NoticeTooShort, FirstYear, NoticePending
-- a Notice that takes effect in less than 45 days (12 CFR 1026.9(c)(2)(i))
abbrev pub notice_too_short : Post → Option Refusal
notice_too_short (post.Notice day _ _ effective) = where_true (nat_lt effective (day + 45)) (refusal.NoticeTooShort (day + 45))
notice_too_short _ = None

-- a Notice that takes effect in the account's first year (12 CFR 1026.55(b)(3)(iii))
unfoldable pub first_year : Present → Post → Option Refusal
first_year now (post.Notice _ _ _ effective) =
    where_true (nat_lt effective (year_after (anchor_now now).opened)) (refusal.FirstYear (year_after (anchor_now now).opened))
first_year now _ = None

-- the effective day of a Notice of a category
abbrev pub effective_of : Category → Post → Option ℕ
effective_of c (post.Notice _ other _ effective) = if is_same_category c other then Some effective else None
effective_of c _ = None

-- the greatest effective day after a day, of the Notices of a category
abbrev pub pending_day : Present → Category → ℕ → Option ℕ
pending_day now c day = reduce max (filter (λ d. nat_lt day d) (filter_map (λ k. effective_of c k.post) now.lists.posts))

-- a Notice of the category takes effect after this one's day
unfoldable pub notice_pending : Present → Post → Option Refusal
notice_pending now (post.Notice day c _ _) = option_map (λ d. refusal.NoticePending d) (pending_day now c day)
notice_pending now _ = None

-- ---- NotDelinquent (12 CFR 1026.55(b)(4))
-- a Penalty where the account isn't sixty days late today
unfoldable pub not_delinquent : Present → Post → Option Refusal
not_delinquent now post.Penalty = where_true (not (sixty_days_late (seen_today now) (book_today now).cycles)) refusal.NotDelinquent
not_delinquent now _ = None

-- ---- DisputeLate (12 CFR 1026.13(b)(1)), DisputeKnown, NoOpenDispute
-- a Dispute after the last day for one
unfoldable pub dispute_late : Present → Post → Option Refusal
dispute_late now (post.Dispute day target _) = at (last_notice_day (anchor_now now) (corrected_now now) target)
  where
    at : Option ℕ → Option Refusal
    at None = None
    at (Some last) = where_true (nat_lt last day) (refusal.DisputeLate last)
dispute_late now _ = None

-- an earlier Dispute names the charge
unfoldable pub dispute_known : Present → Post → Option Refusal
dispute_known now (post.Dispute _ target _) = option_map (λ n. refusal.DisputeKnown n) (number_that (disputes target) now)
dispute_known now _ = None

-- a Resolve names the Dispute
abbrev pub is_resolved : Present → ℕ → Bool
is_resolved now n = list_any (λ k. resolves n k.post) now.lists.posts

-- an Ack or a Resolve of a resolved Dispute
unfoldable pub no_open_dispute : Present → Post → Option Refusal
no_open_dispute now (post.Ack _ target) = where_true (is_resolved now target) refusal.NoOpenDispute
no_open_dispute now (post.Resolve _ target _) = where_true (is_resolved now target) refusal.NoOpenDispute
no_open_dispute now _ = None

-- ---- NotClosed, RefundTooLarge, NothingToReview, AccountFull
-- a Bill of a cycle that isn't closed before today
unfoldable pub not_closed : Present → Post → Option Refusal
not_closed now (post.Bill cycle) =
    where_true (nat_le now.today (closing (anchor_now now) cycle)) (refusal.NotClosed (closing (anchor_now now) cycle))
not_closed now _ = None

-- a Refund above the credit balance of today
unfoldable pub refund_too_large : Present → Post → Option Refusal
refund_too_large now (post.Refund cents) =
    let credit = credit_balance (book_today now).entries in
    where_true (nat_lt credit cents) (refusal.RefundTooLarge (pos credit))
refund_too_large now _ = None

-- no days
abbrev pub is_empty : List ℕ → Bool
is_empty days = length days == 0

-- no increase has taken effect by the Review's day
unfoldable pub nothing_to_review : Present → Post → Option Refusal
nothing_to_review now (post.Review day _) = where_true (is_empty (increases (corrected_now now) day)) refusal.NothingToReview
nothing_to_review now _ = None

-- the account has 200,000 posts
abbrev pub account_full : Present → Option Refusal
account_full now = where_true (nat_le post_limit (length now.lists.posts)) refusal.AccountFull

-- ---- NoIndex (12 CFR 1026.55(b)(2))
-- an OpenVariable of a day without an index
unfoldable pub no_index : List IndexRow → Post → Option Refusal
no_index rows (post.OpenVariable day _) = where_true (not (is_some (index_on rows day))) refusal.NoIndex
no_index rows _ = None

-- ---- the first reason
-- the reasons against a post of an account that is there, under a new key, in order
abbrev pub reasons : Present → Post → List (Option Refusal)
reasons now p =
    amount_range now p ∷ day_ahead now.today p ∷ day_before_open now p ∷ unknown_plan now p ∷ outside_plan now p
    ∷ plan_end_not_closing now p ∷ plan_too_short p ∷ segments_full now p ∷ wrong_entry now p ∷ already_returned now p
    ∷ notice_too_short p ∷ first_year now p ∷ notice_pending now p ∷ not_delinquent now p
    ∷ dispute_late now p ∷ dispute_known now p ∷ no_open_dispute now p ∷ not_closed now p
    ∷ refund_too_large now p ∷ nothing_to_review now p ∷ account_full now ∷ []

-- the first reason against it, none where it is accepted
unfoldable pub reason_against : Present → Post → Option Refusal
reason_against now p = first_reason (reasons now p)

-- against the opening of a new account, where so many accounts exist
unfoldable pub reason_to_open : ℕ → ℕ → SharedRows → Post → Option Refusal
reason_to_open today accounts shared p =
    first_reason (bad_terms p ∷ day_ahead today p ∷ no_index shared.index p ∷ where_true (nat_le 1000000 accounts) refusal.LedgerFull ∷ [])
