-- Worked values of rates (12 CFR 1026.9(c)(2), .9(g), .55(b)). Rates are in basis points.
use Rattle.std.specs.Prelude.{◌≡◌, List, [], ◌∷◌, ◌++◌, None, Some, pos}
use Rattle.card_events.specs.Civil.{day_at}
use Rattle.card_events.specs.declared.post.Category.TheVariants as category
use Rattle.card_events.specs.declared.post.Place.TheVariants as place
use Rattle.card_events.specs.declared.post.PlanKind.TheVariants.{Promo}
use Rattle.card_events.specs.declared.post.Post.TheVariants as post
use Rattle.card_events.specs.declared.request.Request.{Request}
use Rattle.card_examples.specs.Accounts.{book_of, charge_jan10, fee_row, issued_and_paid, open_a, parts_after, pay_online, rates_after, roll, to_a}

-- notice of 2025-03-01 that purchases bear 24.99% from 2025-04-15 on, and charges of the 14th and the 15th day after it
abbrev pub noticed : List Request
noticed =
    fee_row 3000 4100 ∷ roll 2024 1 10 ∷ open_a 2500 ∷ roll 2025 1 10 ∷ roll 2025 3 16
    ∷ to_a 2 (post.Notice (day_at 2025 3 1) category.Purchase 2499 (day_at 2025 4 15))
    ∷ to_a 3 (post.Charge (day_at 2025 3 15) place.Purchase 100) ∷ to_a 4 (post.Charge (day_at 2025 3 16) place.Purchase 200) ∷ []

-- purchases lowered to 15.99% on 2025-03-16
abbrev pub lowered : List Request
lowered = noticed ++ to_a 5 (post.Lower (day_at 2025 3 16) category.Purchase 1599) ∷ []

-- a promotional plan at 5.99% to 2024-08-05 and 24.99% after it; purchases are lowered to 2.99% and then to 17.99%
abbrev pub promo : List Request
promo =
    fee_row 3000 4100 ∷ roll 2024 1 10 ∷ open_a 2500 ∷ to_a 2 (post.Plan (day_at 2024 1 10) Promo 599 (day_at 2024 8 5) 2499)
    ∷ to_a 3 (post.Lower (day_at 2024 1 10) category.Purchase 299) ∷ roll 2024 8 10
    ∷ to_a 4 (post.Lower (day_at 2024 8 10) category.Purchase 1799) ∷ []

-- 1000 dollars whose first due date, 2024-03-01, was missed; a penalty of 2024-05-01
abbrev pub penalized : List Request
penalized =
    fee_row 3000 4100 ∷ roll 2024 1 10 ∷ open_a 2500 ∷ charge_jan10 2 place.Purchase 100000 ∷ roll 2024 2 6 ∷ to_a 3 (post.Bill 1)
    ∷ roll 2024 5 1 ∷ to_a 4 post.Penalty ∷ []

-- the minimum payment turns out to have come on 2024-04-25
abbrev pub found_paid : List Request
found_paid = penalized ++ pay_online 5 (day_at 2024 4 25) 2500 ∷ []

-- purchases lowered to 15.99% while the penalty rate holds
abbrev pub penalty_lowered : List Request
penalty_lowered = penalized ++ roll 2024 6 20 ∷ to_a 5 (post.Lower (day_at 2024 6 20) category.Purchase 1599) ∷ []

-- and a second penalty of that day, which begins on 2024-08-04
abbrev pub penalized_again : List Request
penalized_again = penalty_lowered ++ to_a 6 post.Penalty ∷ []

-- 1000 dollars on a promotional plan to 2024-08-05, and a penalty of 2024-05-01
abbrev pub promo_penalized : List Request
promo_penalized =
    fee_row 3000 4100 ∷ roll 2024 1 10 ∷ open_a 2500 ∷ to_a 2 (post.Plan (day_at 2024 1 10) Promo 599 (day_at 2024 8 5) 2499)
    ∷ charge_jan10 3 (place.Plan 2) 100000 ∷ roll 2024 2 6 ∷ to_a 4 (post.Bill 1) ∷ roll 2024 5 1 ∷ to_a 5 post.Penalty ∷ []

-- At a fiftieth of the amounts: penalized, and four due dates after the penalty's beginning were met
abbrev pub four_met : List Request
four_met =
    (fee_row 30 41 ∷ roll 2024 1 10 ∷ open_a 50 ∷ charge_jan10 2 place.Purchase 2000 ∷ roll 2024 2 6 ∷ to_a 3 (post.Bill 1) ∷ roll 2024 5 1
    ∷ to_a 4 post.Penalty ∷ [])
    ++ issued_and_paid 5 5 6 50 ++ issued_and_paid 7 6 7 65 ++ issued_and_paid 9 7 8 72 ++ issued_and_paid 11 8 9 71

-- the fifth and the sixth too
abbrev pub six_met : List Request
six_met = four_met ++ issued_and_paid 13 9 10 69 ++ issued_and_paid 15 10 11 70 ++ roll 2024 12 2 ∷ []

-- or not the fifth
abbrev pub fifth_missed : List Request
fifth_missed = four_met ++ roll 2024 10 6 ∷ to_a 13 (post.Bill 9) ∷ issued_and_paid 14 10 11 172 ++ roll 2024 12 2 ∷ []

-- rates on each side of a notice, of a lowered rate, of a plan's end, of a penalty and of its end
pub record RatesAreWorked : Type 0 where
  -- up to the 14th day after a notice a charge goes to the old balance, from the 15th on to a new one, segment 5
  pub day14 : parts_after noticed 3 ≡ (2, pos 100) ∷ []
  pub day15 : parts_after noticed 4 ≡ (5, pos 200) ∷ []
  -- the new balance bears the old rate to the day before the effective day, and the old balance for good
  pub notice : rates_after noticed 5 (day_at 2025 3 16 ∷ day_at 2025 4 14 ∷ day_at 2025 4 15 ∷ []) ≡ 1999 ∷ 1999 ∷ 2499 ∷ []
  pub protected : rates_after noticed 2 (day_at 2025 4 14 ∷ day_at 2025 4 15 ∷ []) ≡ 1999 ∷ 1999 ∷ []
  -- a lowered rate holds from its day on, also of what bears the old rate until its own begins, and doesn't hold a rate that begins later
  pub lowered_old : rates_after lowered 2 (day_at 2025 3 15 ∷ day_at 2025 3 16 ∷ day_at 2025 4 15 ∷ []) ≡ 1999 ∷ 1599 ∷ 1599 ∷ []
  pub lowered_new : rates_after lowered 5 (day_at 2025 3 16 ∷ day_at 2025 4 14 ∷ day_at 2025 4 15 ∷ []) ≡ 1599 ∷ 1599 ∷ 2499 ∷ []
  -- a promotional plan bears its rate to its end, untouched by what lowers purchases, and then the rate after it
  pub plan : rates_after promo 5 (day_at 2024 1 9 ∷ day_at 2024 1 10 ∷ day_at 2024 8 5 ∷ day_at 2024 8 6 ∷ []) ≡ 0 ∷ 599 ∷ 599 ∷ 2499 ∷ []
  -- past its end it is lowered with purchases
  pub plan_lowered : rates_after promo 5 (day_at 2024 8 9 ∷ day_at 2024 8 10 ∷ []) ≡ 2499 ∷ 1799 ∷ []
  -- a penalty rate begins 45 days after its day
  pub penalty : rates_after penalized 2 (day_at 2024 6 14 ∷ day_at 2024 6 15 ∷ []) ≡ 1999 ∷ 2999 ∷ []
  -- an account that turns out not to have been sixty days late has none
  pub undone : rates_after found_paid 2 (day_at 2024 6 14 ∷ day_at 2024 6 15 ∷ day_at 2024 7 1 ∷ []) ≡ 1999 ∷ 1999 ∷ 1999 ∷ []
  -- it is lowered like any rate that has begun
  pub penalty_capped : rates_after penalty_lowered 2 (day_at 2024 6 19 ∷ day_at 2024 6 20 ∷ []) ≡ 2999 ∷ 1599 ∷ []
  -- of several penalties the greatest rate counts: the second one begins after the rate was lowered
  pub second_penalty : rates_after penalized_again 2 (day_at 2024 8 3 ∷ day_at 2024 8 4 ∷ []) ≡ 1599 ∷ 2999 ∷ []
  -- a penalty rate reaches a plan when its period is over, and cash at once
  pub plan_penalty : rates_after promo_penalized 5 (day_at 2024 6 15 ∷ day_at 2024 8 5 ∷ day_at 2024 8 6 ∷ []) ≡ 599 ∷ 599 ∷ 2999 ∷ []
  pub cash_penalty : rates_after promo_penalized 3 (day_at 2024 6 14 ∷ day_at 2024 6 15 ∷ []) ≡ 2499 ∷ 2999 ∷ []
  -- where the first six due dates after its beginning were met, it ends with the sixth, 2024-12-01
  pub cured : rates_after six_met 2 (day_at 2024 6 15 ∷ day_at 2024 12 1 ∷ day_at 2024 12 2 ∷ []) ≡ 2999 ∷ 2999 ∷ 1999 ∷ []
  pub interval : (book_of six_met).penalties ≡ (record { begins = day_at 2024 6 15; last = Some (day_at 2024 12 1) }) ∷ []
  -- and else it stays
  pub not_cured : rates_after fifth_missed 2 (day_at 2024 12 1 ∷ day_at 2024 12 2 ∷ []) ≡ 2999 ∷ 2999 ∷ []
  pub stays : (book_of fifth_missed).penalties ≡ (record { begins = day_at 2024 6 15; last = None }) ∷ []
