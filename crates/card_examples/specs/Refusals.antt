-- Worked values of refusals: what isn't accepted, and the first reason against it.
use Rattle.std.specs.Prelude.{ℕ, ◌≡◌, List, [], ◌∷◌, ◌++◌, Some, pos, map}
use Rattle.std.specs.List.{range_with_len}
use Rattle.card_events.specs.Civil.{day_at}
use Rattle.card_events.specs.declared.anchor.Channel.TheVariants.{Online}
use Rattle.card_events.specs.SharedRows.{shared_rows}
use Rattle.card_events.specs.declared.kept.Kept.{Kept}
use Rattle.card_events.specs.declared.post.Category.TheVariants as category
use Rattle.card_events.specs.declared.post.Finding.TheVariants.{Keep}
use Rattle.card_events.specs.declared.post.Place.TheVariants as place
use Rattle.card_events.specs.declared.post.PlanKind.TheVariants.{Deferred}
use Rattle.card_events.specs.declared.post.Post.{Post}
use Rattle.card_events.specs.declared.post.Post.TheVariants as post
use Rattle.card_events.specs.declared.post.Terms.{Terms}
use Rattle.card_events.specs.declared.reply.Refusal.{Refusal}
use Rattle.card_events.specs.declared.reply.Refusal.TheVariants as refusal
use Rattle.card_events.specs.declared.reply.Reply.TheVariants.{Refused}
use Rattle.card_events.specs.declared.request.Request.{Request}
use Rattle.card_events.specs.declared.request.Request.TheVariants as request
use Rattle.card_events.specs.declared.request.Shared.TheVariants as shared
use Rattle.card_model.specs.Machine.{run, step}
use Rattle.card_model.specs.Refusals.{Present, reason_against, reason_to_open}
use Rattle.card_examples.specs.Accounts.{charge_jan10, fee_row, open_a, pay_online, roll, terms_with, to_a}

-- after these requests this one is refused for this reason, and changes nothing
abbrev pub Refuses : List Request → Request → Refusal → Type 0
Refuses before r e = step (run before) r ≡ (run before, Refused e)

-- ---- accounts
-- opened on 2024-01-06; today is 2024-01-10
abbrev pub opened : List Request
opened = fee_row 3000 4100 ∷ roll 2024 1 10 ∷ open_a 2500 ∷ []

-- with a charge of 10 dollars
abbrev pub charged : List Request
charged = opened ++ charge_jan10 2 place.Purchase 1000 ∷ []

-- a plan of 2024-01-10 whose interest is deferred to this date
abbrev pub plan_to : ℕ → ℕ → ℕ → ℕ → Request
plan_to n y m d = to_a n (post.Plan (day_at 2024 1 10) Deferred 2499 (day_at y m d) 2499)

-- opened, with a plan
abbrev pub planned : List Request
planned = opened ++ plan_to 2 2024 8 5 ∷ []

-- a payment of a dollar that was returned
abbrev pub returned : List Request
returned = charged ++ pay_online 3 (day_at 2024 1 10) 100 ∷ to_a 4 (post.Return (day_at 2024 1 10) 3) ∷ []

-- in the second year of the account
abbrev pub second_year : List Request
second_year = opened ++ roll 2025 1 10 ∷ roll 2025 3 16 ∷ []

-- post n, a notice of this day that purchases bear 24.99% from a date on
abbrev pub notice : ℕ → ℕ → ℕ → ℕ → ℕ → Request
notice n day y m d = to_a n (post.Notice day category.Purchase 2499 (day_at y m d))

-- with a notice of 2025-03-01 that waits
abbrev pub noticed : List Request
noticed = second_year ++ notice 2 (day_at 2025 3 1) 2025 4 15 ∷ []

-- the charge's statement was issued on 2024-02-06
abbrev pub billed : List Request
billed = charged ++ roll 2024 2 6 ∷ to_a 3 (post.Bill 1) ∷ []

-- it is disputed
abbrev pub disputed : List Request
disputed = billed ++ to_a 4 (post.Dispute (day_at 2024 2 6) 2 1000) ∷ []

-- and the dispute is resolved
abbrev pub resolved : List Request
resolved = disputed ++ to_a 5 (post.Resolve (day_at 2024 2 6) 4 1000) ∷ []

-- 1000 dollars; the first due date, 2024-03-01, was missed, and today is the sixtieth day after it
abbrev pub sixty_days : List Request
sixty_days =
    opened ++ charge_jan10 2 place.Purchase 100000 ∷ roll 2024 2 6 ∷ to_a 3 (post.Bill 1) ∷ roll 2024 4 30 ∷ []

-- a credit balance of 5 dollars
abbrev pub overpaid : List Request
overpaid = charged ++ pay_online 3 (day_at 2024 1 10) 1500 ∷ []

-- the opening of an account
abbrev pub opening : Kept
opening = record { number = 1; key = 1 ∷ []; accepted = day_at 2024 1 10; post = post.Open (day_at 2024 1 6) (terms_with 2500) }

-- an account of the opening and these posts
abbrev pub with_posts : List Kept → Present
with_posts posts = record { today = day_at 2024 1 10; shared = shared_rows []; lists = record { posts = opening ∷ posts; issued = [] } }

-- a post as it was accepted under a number
abbrev pub kept : Post → ℕ → Kept
kept p n = record { number = n; key = n ∷ []; accepted = day_at 2024 1 10; post = p }

-- a plan that could be accepted
abbrev pub a_plan : Post
a_plan = post.Plan (day_at 2024 1 10) Deferred 2499 (day_at 2024 8 5) 2499

-- a charge that could be accepted
abbrev pub a_charge : Post
a_charge = post.Charge (day_at 2024 1 10) place.Purchase 100

-- ---- terms out of range
-- an opening with these terms
abbrev pub opens_with : Terms → Request
opens_with t = to_a 1 (post.Open (day_at 2024 1 6) t)

-- before any account exists; today is 2024-01-10
abbrev pub unopened : List Request
unopened = fee_row 3000 4100 ∷ roll 2024 1 10 ∷ []

-- terms by their numbers, in order
abbrev pub terms_of : ℕ → ℕ → ℕ → ℕ → ℕ → ℕ → ℕ → Terms
terms_of close purchase cash transfer penalty floor pct =
    record { close = close; purchase = purchase; cash = cash; transfer = transfer; penalty = penalty; floor = floor; pct = pct }

-- the first term that is out of its range
pub record TermsAreRefused : Type 0 where
  -- cycles close on a day that every month has
  pub close29 : Refuses unopened (opens_with (terms_of 29 1999 2499 2199 2999 2500 100)) (refusal.BadTerms 1)
  pub close0 : Refuses unopened (opens_with (terms_of 0 1999 2499 2199 2999 2500 100)) (refusal.BadTerms 1)
  -- no rate is 100% or more
  pub purchase : Refuses unopened (opens_with (terms_of 5 10000 2499 2199 2999 2500 100)) (refusal.BadTerms 2)
  pub cash : Refuses unopened (opens_with (terms_of 5 1999 10000 2199 2999 2500 100)) (refusal.BadTerms 3)
  pub transfer : Refuses unopened (opens_with (terms_of 5 1999 2499 10000 2999 2500 100)) (refusal.BadTerms 4)
  pub penalty : Refuses unopened (opens_with (terms_of 5 1999 2499 2199 10000 2500 100)) (refusal.BadTerms 5)
  -- the floor of the minimum payment is at most 10,000 dollars, and its part of the balance at most all of it
  pub floor : Refuses unopened (opens_with (terms_of 5 1999 2499 2199 2999 1000001 100)) (refusal.BadTerms 6)
  pub pct : Refuses unopened (opens_with (terms_of 5 1999 2499 2199 2999 2500 10001)) (refusal.BadTerms 7)
  -- the first that is out of its range is named
  pub first : Refuses unopened (opens_with (terms_of 5 1999 10000 2199 2999 2500 10001)) (refusal.BadTerms 3)

-- amounts, rates, minutes and cycles that are out of their ranges
pub record AmountsAreRefused : Type 0 where
  -- amounts are from one cent to ten million dollars
  pub nothing : Refuses opened (charge_jan10 2 place.Purchase 0) refusal.AmountRange
  pub above : Refuses opened (charge_jan10 2 place.Purchase 1000000001) refusal.AmountRange
  pub no_payment : Refuses opened (pay_online 2 (day_at 2024 1 10) 0) refusal.AmountRange
  pub no_refund : Refuses opened (to_a 2 (post.Refund 0)) refusal.AmountRange
  pub no_claim : Refuses charged (to_a 3 (post.Dispute (day_at 2024 1 10) 2 0)) refusal.AmountRange
  pub amended : Refuses charged (to_a 3 (post.Amend 2 (day_at 2024 1 10) 1000000001)) refusal.AmountRange
  -- not more of a charge is an error than was claimed
  pub above_claim : Refuses disputed (to_a 5 (post.Resolve (day_at 2024 2 6) 4 1001)) refusal.AmountRange
  -- a day ends with minute 1439
  pub minute : Refuses opened (to_a 2 (post.Payment (day_at 2024 1 10) 1440 Online 100)) refusal.AmountRange
  pub rate : Refuses second_year (to_a 2 (post.Lower (day_at 2025 3 16) category.Cash 10000)) refusal.AmountRange
  pub after : Refuses opened (to_a 2 (post.Plan (day_at 2024 1 10) Deferred 2499 (day_at 2024 8 5) 10000)) refusal.AmountRange
  -- there is no cycle 0, and no statement after 2099
  pub cycle0 : Refuses opened (to_a 2 (post.Bill 0)) refusal.AmountRange
  pub cycle912 : Refuses opened (to_a 2 (post.Bill 912)) refusal.AmountRange
  -- penalty fees of the table are at most 1000 dollars, and a repeated one isn't below the first
  pub fee : Refuses opened (request.Shared (shared.FeeRow (day_at 2024 2 1) 3000 100001)) refusal.AmountRange
  pub fees_order : Refuses opened (request.Shared (shared.FeeRow (day_at 2024 2 1) 3000 2999)) refusal.AmountRange

-- each reason, on an account against which it stands
pub record RefusalsAreWorked : Type 0 where
  -- the account and the key
  pub unknown_account : Refuses unopened (charge_jan10 1 place.Purchase 1) refusal.UnknownAccount
  pub account_exists : Refuses opened (to_a 2 (post.Open (day_at 2024 1 6) (terms_with 2500))) refusal.AccountExists
  pub key_reused : Refuses charged (charge_jan10 2 place.Purchase 1001) (refusal.KeyReused 2)
  pub terms : TermsAreRefused
  pub amounts : AmountsAreRefused
  -- an amount out of range is told before a day
  pub amount_first : Refuses opened (to_a 2 (post.Charge (day_at 2024 1 11) place.Purchase 0)) refusal.AmountRange
  -- days
  pub day_ahead : Refuses opened (to_a 2 (post.Charge (day_at 2024 1 11) place.Purchase 1)) refusal.DayAhead
  pub day_before_open : Refuses opened (to_a 2 (post.Charge (day_at 2024 1 5) place.Purchase 1)) refusal.DayBeforeOpen
  -- plans
  pub unknown_plan : Refuses planned (charge_jan10 3 (place.Plan 9) 100) refusal.UnknownPlan
  pub outside_plan : Refuses planned (to_a 3 (post.Charge (day_at 2024 1 9) (place.Plan 2) 100)) refusal.OutsidePlan
  -- a plan ends with a cycle, and lasts at least six months
  pub plan_end : Refuses opened (plan_to 2 2024 8 4) (refusal.PlanEndNotClosing (day_at 2024 8 5))
  pub plan_too_short : Refuses opened (plan_to 2 2024 7 5) refusal.PlanTooShort
  -- five segments stand from the opening on, and 59 plans are 64
  pub segments_full : reason_against (with_posts (map (kept a_plan) (range_with_len 2 59))) a_plan ≡ Some refusal.SegmentsFull
  -- targets: a return of a charge, a second statement of a cycle, a second return
  pub wrong_entry : Refuses charged (to_a 3 (post.Return (day_at 2024 1 10) 2)) (refusal.WrongEntry 2)
  pub billed_twice : Refuses billed (to_a 4 (post.Bill 1)) (refusal.WrongEntry 3)
  pub already_returned : Refuses returned (to_a 5 (post.Return (day_at 2024 1 10) 3)) (refusal.AlreadyReturned 4)
  -- notices: 45 days before the rate takes effect, not in the first year, and not while another is pending
  pub notice_too_short : Refuses second_year (notice 2 (day_at 2025 3 1) 2025 4 14) (refusal.NoticeTooShort (day_at 2025 4 15))
  pub first_year : Refuses opened (notice 2 (day_at 2024 1 10) 2024 3 1) (refusal.FirstYear (day_at 2025 1 6))
  pub notice_pending : Refuses noticed (notice 3 (day_at 2025 3 10) 2025 5 1) (refusal.NoticePending (day_at 2025 4 15))
  -- on the sixtieth day after a missed due date an account isn't sixty days late yet
  pub not_delinquent : Refuses sixty_days (to_a 4 post.Penalty) refusal.NotDelinquent
  -- disputes: within 60 days of the statement, once, and not after they were resolved
  pub dispute_late : Refuses (billed ++ roll 2024 4 7 ∷ []) (to_a 4 (post.Dispute (day_at 2024 4 7) 2 1000)) (refusal.DisputeLate (day_at 2024 4 6))
  pub dispute_known : Refuses disputed (to_a 5 (post.Dispute (day_at 2024 2 6) 2 1000)) (refusal.DisputeKnown 4)
  pub no_open_dispute : Refuses resolved (to_a 6 (post.Ack (day_at 2024 2 6) 4)) refusal.NoOpenDispute
  -- a statement isn't issued on its closing or before
  pub not_closed : Refuses charged (to_a 3 (post.Bill 1)) (refusal.NotClosed (day_at 2024 2 5))
  pub refund_too_large : Refuses overpaid (to_a 4 (post.Refund 501)) (refusal.RefundTooLarge (pos 500))
  -- the notice takes effect later than the day of this review
  pub nothing_to_review : Refuses noticed (to_a 3 (post.Review (day_at 2025 3 16) Keep)) refusal.NothingToReview
  -- 200,000 posts an account, and 1,000,000 accounts
  pub account_full : reason_against (with_posts (map (kept a_charge) (range_with_len 2 199999))) a_charge ≡ Some refusal.AccountFull
  pub ledger_full : reason_to_open (day_at 2024 1 10) 1000000 (shared_rows []) (post.Open (day_at 2024 1 6) (terms_with 2500)) ≡ Some refusal.LedgerFull
  -- today goes forward, by at most 366 days where there is an account; rows are for days to come
  pub roll_back : Refuses opened (roll 2024 1 10) (refusal.RollBack (day_at 2024 1 10))
  pub roll_too_far : Refuses opened (roll 2025 1 11) refusal.RollTooFar
  pub past_row : Refuses opened (request.Shared (shared.Holiday (day_at 2024 1 10))) (refusal.PastRow (day_at 2024 1 10))
