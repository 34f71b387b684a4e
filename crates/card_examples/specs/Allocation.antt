-- Worked values of the allocation of payments (12 CFR 1026.53). A part is a segment with its cents. Amounts are scaled
-- down, since each cent is evaluated by itself.
use Rattle.std.specs.Prelude.{ℕ, ◌≡◌, List, [], ◌∷◌, ◌++◌, Option, Some, None, Bool, true, false}
use Rattle.card_events.specs.Civil.{day_at}
use Rattle.card_events.specs.declared.post.Place.TheVariants as place
use Rattle.card_events.specs.declared.post.PlanKind.TheVariants.{Deferred}
use Rattle.card_events.specs.declared.post.Post.TheVariants as post
use Rattle.card_events.specs.declared.request.Request.{Request}
use Rattle.card_model.specs.Allocation.{allocated, placed}
use Rattle.card_model.specs.Entries.{negated}
use Rattle.card_model.specs.declared.holding.Holding.{Holding}
use Rattle.card_examples.specs.Accounts.{charge_jan10, fee_row, open_a, parts_after, pay_online, roll, to_a}

-- a segment's balance and rate, and the end of its period where it is deferred and that is near
abbrev pub holding_of : ℕ → ℕ → ℕ → Option ℕ → Bool → Holding
holding_of id balance rate last_two of_place = record { id = id; balance = balance; rate = rate; last_two = last_two; of_place = of_place; paid = 0 }

-- purchases of 50 dollars at 19.99%, cash of 30 at 24.99%, and a promotional balance of 20 at 0%
abbrev pub three : List Holding
three = holding_of 2 5000 1999 None false ∷ holding_of 3 3000 2499 None false ∷ holding_of 5 2000 0 None false ∷ []

-- those, and a deferred balance of 40
abbrev pub four : Option ℕ → List Holding
four last_two = three ++ holding_of 6 4000 0 last_two false ∷ []

-- two deferred balances of a dollar in the last two cycles of their periods; that of segment 6 ends first
abbrev pub two_deferred : List Holding
two_deferred = holding_of 2 100 1999 None false ∷ holding_of 5 100 0 (Some 20000) false ∷ holding_of 6 100 0 (Some 19969) false ∷ []

-- a merchant's credit to cash: a dollar of cash at a smaller rate than that of a dollar of purchases
abbrev pub of_cash : List Holding
of_cash = holding_of 2 100 2999 None false ∷ holding_of 3 100 1999 None true ∷ []

-- the statement of 2024-02-05 asks for 2.50 of 80.55; it was issued on 2024-02-06
abbrev pub billed : List Request
billed =
    fee_row 300 410 ∷ roll 2024 1 10 ∷ open_a 250 ∷ charge_jan10 2 place.Purchase 5000 ∷ charge_jan10 3 place.Cash 3000
    ∷ roll 2024 2 6 ∷ to_a 4 (post.Bill 1) ∷ roll 2024 2 7 ∷ []

-- a deferred plan to 2024-08-05 with a charge of 100 dollars, and 50 dollars of cash
abbrev pub with_plan : List Request
with_plan =
    fee_row 300 410 ∷ roll 2024 1 10 ∷ open_a 250 ∷ to_a 2 (post.Plan (day_at 2024 1 10) Deferred 2499 (day_at 2024 8 5) 2499)
    ∷ charge_jan10 3 (place.Plan 2) 10000 ∷ charge_jan10 4 place.Cash 5000 ∷ roll 2024 6 6 ∷ []

-- parts of payments and of a merchant's credit
pub record AllocationIsWorked : Type 0 where
  -- of a payment of 40 dollars the 3.50 of the minimum payment go to the least rate, the rest to the greatest rates
  pub payment : allocated 350 4000 three ≡ (2, 650) ∷ (3, 3000) ∷ (5, 350) ∷ []
  -- a deferred balance in the last two cycles of its period takes all that is above the minimum payment
  pub deferred : allocated 350 4000 (four (Some 19940)) ≡ (5, 350) ∷ (6, 3650) ∷ []
  -- a cycle earlier it takes nothing, since it ranks at 0%
  pub deferred_before : allocated 350 4000 (four None) ≡ (2, 650) ∷ (3, 3000) ∷ (5, 350) ∷ []
  -- of two deferred balances the one whose period ends first takes the cents
  pub soonest : allocated 0 150 two_deferred ≡ (5, 50) ∷ (6, 100) ∷ []
  -- what is paid above all balances is a credit balance
  pub above : allocated 100 350 two_deferred ≡ (0, 50) ∷ (2, 100) ∷ (5, 100) ∷ (6, 100) ∷ []
  -- a merchant's credit goes to its place first, and then as a payment above the minimum does
  pub merchant : placed 150 of_cash ≡ (2, 50) ∷ (3, 100) ∷ []
  -- a payment of 10 dollars on the day after the issue brings the minimum payment of 2.50 to purchases, the rest to cash
  pub after_issue : parts_after (billed ++ pay_online 5 (day_at 2024 2 7) 1000 ∷ []) 5 ≡ (2, negated 250) ∷ (3, negated 750) ∷ []
  -- on the day of issue there is no minimum part
  pub on_issue : parts_after (billed ++ pay_online 5 (day_at 2024 2 6) 1000 ∷ []) 5 ≡ (3, negated 1000) ∷ []
  -- the last two cycles of a period that ends on 2024-08-05 begin on 2024-06-06: a payment of 20 dollars
  pub third_last : parts_after (with_plan ++ pay_online 5 (day_at 2024 6 5) 2000 ∷ []) 5 ≡ (3, negated 2000) ∷ []
  pub second_last : parts_after (with_plan ++ pay_online 5 (day_at 2024 6 6) 2000 ∷ []) 5 ≡ (5, negated 2000) ∷ []
