-- Worked values of accounts whose opening rates follow the index (12 CFR 1026.55(b)(2)). Rates are in basis points.
use Rattle.std.specs.Prelude.{ℕ, ◌≡◌, List, [], ◌∷◌, ◌++◌, Some, pos}
use Rattle.card_events.specs.Civil.{day_at}
use Rattle.card_events.specs.declared.post.Category.TheVariants as category
use Rattle.card_events.specs.declared.post.Place.TheVariants as place
use Rattle.card_events.specs.declared.post.PlanKind.TheVariants.{Promo}
use Rattle.card_events.specs.declared.post.Post.TheVariants as post
use Rattle.card_events.specs.declared.post.Terms.{Terms}
use Rattle.card_events.specs.declared.reply.Refusal.TheVariants as refusal
use Rattle.card_events.specs.declared.request.Request.{Request}
use Rattle.card_events.specs.declared.request.Request.TheVariants as request
use Rattle.card_events.specs.declared.request.Shared.TheVariants as shared
use Rattle.card_model.specs.Refusals.{reason_to_open}
use Rattle.card_examples.specs.Accounts.{charge_jan10, fee_row, open_a, owed_after, rates_after, roll, terms_with, to_a}
use Rattle.card_examples.specs.Refusals.{Refuses}
use Rattle.card_examples.specs.Statements.{breaks_after}

-- ---- requests
-- margins of 14.49% for purchases, 19.49% for cash and this one for transfers; cycles close on this day of the month
abbrev pub margins_with : ℕ → ℕ → Terms
margins_with close transfer = record { close = close; purchase = 1449; cash = 1949; transfer = transfer; penalty = 2999; floor = 2500; pct = 100 }

-- they close on the 5th, and transfers bear 16.49% and the index
abbrev pub margins : Terms
margins = margins_with 5 1649

-- the index is this rate from a date on
abbrev pub index : ℕ → ℕ → ℕ → ℕ → Request
index y m d rate = request.Shared (shared.Index (day_at y m d) rate)

-- the account is opened on this day of January 2024, its rates following the index
abbrev pub open_variable : ℕ → Request
open_variable d = to_a 1 (post.OpenVariable (day_at 2024 1 d) margins)

-- opened on 2024-01-06 under an index of 5.50%, with 1000 dollars of cash four days later; today is the 10th
abbrev pub followed : List Request
followed = index 2024 1 1 550 ∷ roll 2024 1 10 ∷ open_variable 6 ∷ charge_jan10 2 place.Cash 100000 ∷ []

-- the index rises to 5.75% from 2024-01-21 on, and the cycle has closed
abbrev pub risen : List Request
risen = followed ++ index 2024 1 21 575 ∷ roll 2024 2 6 ∷ []

-- rows in another order than that of their days, two of them for one day each
abbrev pub out_of_order : List Request
out_of_order =
    index 2024 1 1 550 ∷ index 2024 1 1 500 ∷ roll 2024 1 10 ∷ open_variable 6 ∷ charge_jan10 2 place.Cash 100000 ∷ index 2024 2 1 900
    ∷ index 2024 1 21 575 ∷ index 2024 2 1 575 ∷ index 2024 1 21 550 ∷ roll 2024 2 6 ∷ []

-- an index of 90% that rises to 99.99%, and a margin of 9.99% for transfers
abbrev pub high : List Request
high =
    index 2024 1 1 9000 ∷ roll 2024 1 10 ∷ to_a 1 (post.OpenVariable (day_at 2024 1 6) (margins_with 5 999)) ∷ index 2024 1 21 9999
    ∷ roll 2024 2 6 ∷ []

-- cash lowered to 24.00% on 2024-01-10, while the index falls and rises
abbrev pub lowered : List Request
lowered =
    followed ++ to_a 3 (post.Lower (day_at 2024 1 10) category.Cash 2400) ∷ index 2024 1 21 400 ∷ index 2024 1 26 600 ∷ roll 2024 2 6 ∷ []

-- notice of 2025-03-01 that cash bears 25.99% from 2025-04-15 on
abbrev pub noticed : List Request
noticed =
    index 2024 1 1 550 ∷ roll 2024 1 6 ∷ open_variable 6 ∷ roll 2025 1 5 ∷ roll 2025 3 1
    ∷ to_a 2 (post.Notice (day_at 2025 3 1) category.Cash 2599 (day_at 2025 4 15)) ∷ index 2025 3 10 600 ∷ index 2025 4 1 620
    ∷ index 2025 5 1 900 ∷ roll 2025 5 6 ∷ []

-- 1000 dollars of cash whose first due date was missed, and a penalty of 2024-05-01; the index rises to 12% from 2024-07-01 on
abbrev pub penalized : List Request
penalized =
    fee_row 3000 4100 ∷ followed ++ roll 2024 2 6 ∷ to_a 3 (post.Bill 1) ∷ index 2024 7 1 1200 ∷ roll 2024 5 1 ∷ to_a 4 post.Penalty
    ∷ roll 2024 7 6 ∷ []

-- a promotional plan at 3.99% to 2024-08-05 and 18.99% after it
abbrev pub planned : List Request
planned =
    index 2024 1 1 550 ∷ roll 2024 1 10 ∷ open_variable 6 ∷ to_a 2 (post.Plan (day_at 2024 1 10) Promo 399 (day_at 2024 8 5) 1899)
    ∷ index 2024 3 1 700 ∷ index 2024 8 20 800 ∷ roll 2024 9 6 ∷ []

-- an index from 2024-01-08 on; today is the 10th
abbrev pub indexed : List Request
indexed = index 2024 1 8 550 ∷ roll 2024 1 10 ∷ []

-- the account is opened on the first day that has an index
abbrev pub opened : List Request
opened = indexed ++ open_variable 8 ∷ []

-- ---- what they come to
-- margin and index, day by day
pub record VariableRatesAreWorked : Type 0 where
  -- the rate changes on the row's own day, amid a cycle; 24.99% for 11 days and 25.24% for 16 are 18.60
  pub cash : rates_after risen 3 (day_at 2024 1 10 ∷ day_at 2024 1 20 ∷ day_at 2024 1 21 ∷ []) ≡ 2499 ∷ 2499 ∷ 2524 ∷ []
  pub purchase : rates_after risen 2 (day_at 2024 1 20 ∷ day_at 2024 1 21 ∷ []) ≡ 1999 ∷ 2024 ∷ []
  pub owed : owed_after risen ≡ pos 101860
  -- the row of the greatest day up to a day counts, and of two for one day the one accepted later
  pub in_order : rates_after out_of_order 3 (day_at 2024 1 10 ∷ day_at 2024 1 21 ∷ day_at 2024 2 1 ∷ []) ≡ 2449 ∷ 2499 ∷ 2524 ∷ []
  pub owed_in_order : owed_after out_of_order ≡ pos 101837
  -- no rate is above 99.99%
  pub capped : rates_after high 3 (day_at 2024 1 20 ∷ day_at 2024 1 21 ∷ []) ≡ 9999 ∷ 9999 ∷ []
  pub just_capped : rates_after high 4 (day_at 2024 1 20 ∷ day_at 2024 1 21 ∷ []) ≡ 9999 ∷ 9999 ∷ []
  -- a lowered rate caps each later day's
  pub lowered : rates_after lowered 3 (day_at 2024 1 20 ∷ day_at 2024 1 21 ∷ day_at 2024 1 26 ∷ []) ≡ 2400 ∷ 2349 ∷ 2400 ∷ []
  -- a notice's balance follows the index until its own rate takes effect, and the old balance goes on following it
  pub notice : rates_after noticed 5 (day_at 2025 3 16 ∷ day_at 2025 4 14 ∷ day_at 2025 4 15 ∷ day_at 2025 5 1 ∷ []) ≡ 2549 ∷ 2569 ∷ 2599 ∷ 2599 ∷ []
  pub protected : rates_after noticed 3 (day_at 2025 4 14 ∷ day_at 2025 4 15 ∷ day_at 2025 5 1 ∷ []) ≡ 2569 ∷ 2569 ∷ 2849 ∷ []
  -- the penalty rate is fixed, and the greater of the two counts
  pub penalty : rates_after penalized 3 (day_at 2024 6 14 ∷ day_at 2024 6 15 ∷ day_at 2024 7 1 ∷ []) ≡ 2499 ∷ 2999 ∷ 3149 ∷ []
  -- so are a plan and what follows it
  pub plan : rates_after planned 5 (day_at 2024 3 1 ∷ day_at 2024 8 5 ∷ day_at 2024 8 6 ∷ day_at 2024 8 20 ∷ []) ≡ 399 ∷ 399 ∷ 1899 ∷ 1899 ∷ []
  -- a row after the opening is a break day
  pub breaks : breaks_after risen ≡ day_at 2024 1 6 ∷ day_at 2024 1 10 ∷ day_at 2024 1 21 ∷ day_at 2024 2 5 ∷ []

-- what isn't accepted of index rows and of openings that follow them, in the order of the reasons
pub record IndexRefusalsAreWorked : Type 0 where
  -- a rate out of range is told before a day in the past
  pub rate : Refuses [] (index 2024 1 5 10000) refusal.AmountRange
  pub rate_first : Refuses [] (index 2011 1 1 10000) refusal.AmountRange
  pub past : Refuses indexed (index 2024 1 10 550) (refusal.PastRow (day_at 2024 1 10))
  -- terms out of range, then a day ahead, then a day without an index, then a full ledger
  pub terms : Refuses indexed (to_a 1 (post.OpenVariable (day_at 2024 1 7) (margins_with 29 1649))) (refusal.BadTerms 1)
  pub margin : Refuses indexed (to_a 1 (post.OpenVariable (day_at 2024 1 7) (margins_with 5 10000))) (refusal.BadTerms 4)
  pub ahead : Refuses (roll 2024 1 10 ∷ []) (open_variable 11) refusal.DayAhead
  pub no_index : Refuses indexed (open_variable 7) refusal.NoIndex
  pub index_first : reason_to_open (day_at 2024 1 10) 1000000 (record { holidays = []; fees = []; index = [] }) (post.OpenVariable (day_at 2024 1 6) margins) ≡ Some refusal.NoIndex
  -- of an account that is there, and under a key that is there, the other reasons come first
  pub account_exists : Refuses opened (to_a 2 (post.OpenVariable (day_at 2024 1 7) margins)) refusal.AccountExists
  pub key_reused : Refuses opened (open_variable 7) (refusal.KeyReused 1)
  -- an opening with fixed rates is other content, and the other way round
  pub fixed : Refuses opened (to_a 1 (post.Open (day_at 2024 1 8) margins)) (refusal.KeyReused 1)
  pub variable : Refuses (fee_row 3000 4100 ∷ roll 2024 1 10 ∷ open_a 2500 ∷ []) (to_a 1 (post.OpenVariable (day_at 2024 1 6) (terms_with 2500))) (refusal.KeyReused 1)
