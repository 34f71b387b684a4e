-- Worked values of deferred interest (12 CFR 1026.54, .55(b)(1) and its comment 55(b)(1)-3).
use Rattle.std.specs.Prelude.{ℕ, ◌+◌, ◌*◌, ◌≡◌, List, [], ◌∷◌, ◌++◌, Some, pos, map}
use Rattle.card_events.specs.Civil.{day_at}
use Rattle.card_events.specs.declared.post.Place.TheVariants as place
use Rattle.card_events.specs.declared.post.PlanKind.TheVariants as plan
use Rattle.card_events.specs.declared.post.Post.TheVariants as post
use Rattle.card_events.specs.declared.request.Request.{Request}
use Rattle.card_events.specs.Money.{daily, interest}
use Rattle.card_examples.specs.Accounts.{book_of, charge_jan10, fee_row, interest_after, open_a, owed_after, pay_online, roll, to_a}

-- a charge of 2024-01-10 on a plan whose interest, at 24.99%, is deferred to 2024-08-05
abbrev pub charged : ℕ → List Request
charged cents =
    fee_row 3000 4100 ∷ roll 2024 1 10 ∷ open_a 2500 ∷ to_a 2 (post.Plan (day_at 2024 1 10) plan.Deferred 2499 (day_at 2024 8 5) 2499)
    ∷ charge_jan10 3 (place.Plan 2) cents ∷ []

-- 100 dollars, and a payment of all but one cent on 2024-07-20, which is a tenth of the sum above; the period is over
abbrev pub one_cent_left : List Request
one_cent_left = charged 10000 ++ roll 2024 7 20 ∷ pay_online 4 (day_at 2024 7 20) 9999 ∷ roll 2024 8 6 ∷ []

-- the payment turns out to have been of the whole
abbrev pub none_left : List Request
none_left = one_cent_left ++ to_a 5 (post.Amend 4 (day_at 2024 7 20) 10000) ∷ []

-- 1000 dollars without a payment, to the closing after the period
abbrev pub unpaid : List Request
unpaid = charged 100000 ++ roll 2024 9 6 ∷ []

-- interest of a period, charged or dropped at its end
pub record DeferredIsWorked : Type 0 where
  -- 192 days of 1000 dollars and 17 days of one cent, at 24.99%: 13145.4 cents
  pub accrued : interest ((192 * 100000 + 17 * 1) * daily 2499) ≡ 13145
  -- a balance of one cent at the end of the period owes the interest of the whole period
  pub one_cent : interest_after one_cent_left 7 ≡ Some ((5, 1315) ∷ [])
  pub one_cent_owed : owed_after one_cent_left ≡ pos 1316
  -- paid to the last cent, it owes none
  pub dropped : interest_after none_left 7 ≡ Some []
  pub dropped_owed : owed_after none_left ≡ pos 0
  -- no interest in the period, 209 days of 1000 dollars at its end, and after it that of any balance at the rate after it
  pub unpaid_interest : map (λ c. c.interest) (book_of unpaid).cycles
      ≡ [] ∷ [] ∷ [] ∷ [] ∷ [] ∷ [] ∷ ((5, 14309) ∷ []) ∷ ((5, 2426) ∷ []) ∷ []
  -- the grace amount leaves it out, but for statements whose due date lies in the last cycle of its period or later
  pub unpaid_grace : map (λ c. c.grace_amount) (book_of unpaid).cycles ≡ 0 ∷ 0 ∷ 0 ∷ 0 ∷ 0 ∷ 100000 ∷ 114309 ∷ 116735 ∷ []
