-- Worked values of interest (12 CFR 1026.14(b)).
use Rattle.std.specs.Prelude.{◌*◌, ◌≡◌, List, [], ◌∷◌, Some, pos}
use Rattle.card_events.specs.declared.post.Place.TheVariants as place
use Rattle.card_events.specs.declared.request.Request.{Request}
use Rattle.card_events.specs.Money.{daily, interest}
use Rattle.card_examples.specs.Accounts.{roll, fee_row, open_a, charge_jan10, owed_after, interest_after}

-- 1000 dollars of cash advances, from 2024-01-10 to the first closing, 2024-02-05
abbrev pub cash_advance : List Request
cash_advance = fee_row 3000 4100 ∷ roll 2024 1 10 ∷ open_a 2500 ∷ charge_jan10 2 place.Cash 100000 ∷ roll 2024 2 6 ∷ []

-- daily rates, and interest in whole cents
pub record InterestIsWorked : Type 0 where
  -- 19.99% a year are 547671 billionths a day, and 24.99% are 684657
  pub purchase_rate : daily 1999 ≡ 547671
  pub cash_rate : daily 2499 ≡ 684657
  -- a daily rate is rounded down, and the divisor is 365
  pub hundredth : daily 1 ≡ 273
  pub greatest : daily 9999 ≡ 2739452
  -- 30 days of 1000 dollars at 19.99%: 1643.013 cents
  pub month : interest (30 * 100000 * daily 1999) ≡ 1643
  -- half a cent is rounded up, and less than half a cent is none
  pub half : interest 500000000 ≡ 1
  pub less : interest 499999999 ≡ 0
  -- 27 days of 1000 dollars at 24.99%: 1848.57 cents
  pub days27 : interest (27 * 100000 * daily 2499) ≡ 1849
  -- the same on an account: a cash advance bears interest from its day on
  pub advance : interest_after cash_advance 1 ≡ Some ((3, 1849) ∷ [])
  pub advance_owed : owed_after cash_advance ≡ pos 101849
