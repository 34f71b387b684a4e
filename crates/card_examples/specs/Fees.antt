-- Worked values of minimum payments and penalty fees (12 CFR 1026.52(b), .10).
use Rattle.std.specs.Prelude.{ℕ, ◌+◌, ◌≡◌, List, [], ◌∷◌, ◌++◌, Bool, true, false, Some, pos}
use Rattle.card_events.specs.Civil.{day_at}
use Rattle.card_events.specs.declared.anchor.Channel.{Channel}
use Rattle.card_events.specs.declared.anchor.Channel.TheVariants.{Mail, Online}
use Rattle.card_events.specs.declared.post.Place.TheVariants as place
use Rattle.card_events.specs.declared.post.Post.TheVariants as post
use Rattle.card_events.specs.declared.request.Request.{Request}
use Rattle.card_events.specs.SharedRows.{FeeRow}
use Rattle.card_model.specs.Closing.{minimum_of}
use Rattle.card_model.specs.Fees.{is_repeat, row_in_force, tier_amount}
use Rattle.card_model.specs.declared.fee.Fee.{Fee}
use Rattle.card_model.specs.declared.fee.FeeKind.{FeeKind}
use Rattle.card_model.specs.declared.fee.FeeKind.TheVariants.{Late, Returned}
use Rattle.card_examples.specs.Accounts.{charge_jan10, fee_row, fees_after, interest_after, issued_and_paid, minimum_after, open_a, owed_after, parts_after, pay_online, roll, to_a}

-- a fee for the due date of a cycle, charged in the next cycle
abbrev pub fee_of : FeeKind → ℕ → Bool → ℕ → ℕ → Fee
fee_of k due_cycle repeat day cents =
    record { due_cycle = due_cycle; kind = k; repeat = repeat; cycle = due_cycle + 1; day = day; cents = pos cents }

-- purchases of 1000 dollars; the statement of 2024-02-05 is issued on the day after, and due on 2024-03-01
abbrev pub billed : ℕ → List Request
billed floor = fee_row 3000 4100 ∷ roll 2024 1 10 ∷ open_a floor ∷ charge_jan10 2 place.Purchase 100000 ∷ roll 2024 2 6 ∷ to_a 3 (post.Bill 1) ∷ []

-- on the day after the due date
abbrev pub unpaid : ℕ → List Request
unpaid floor = billed floor ++ roll 2024 3 2 ∷ []

-- a payment of 2024-02-20 that is returned on 2024-03-04; the next cycle is closed
abbrev pub returned_later : ℕ → List Request
returned_later cents =
    billed 2500 ++ roll 2024 2 20 ∷ pay_online 4 (day_at 2024 2 20) cents ∷ roll 2024 3 4 ∷ to_a 5 (post.Return (day_at 2024 3 4) 4)
    ∷ roll 2024 3 6 ∷ []

-- At a hundredth of the amounts: 10 dollars of purchases, fees of 30 and 41 cents, and a floor of 50. The first due date
-- isn't met; the minimum payments of the next five statements are paid
abbrev pub fee_in_cycle2 : List Request
fee_in_cycle2 =
    (fee_row 30 41 ∷ roll 2024 1 10 ∷ open_a 50 ∷ charge_jan10 2 place.Purchase 1000 ∷ roll 2024 2 6 ∷ to_a 3 (post.Bill 1) ∷ [])
    ++ issued_and_paid 4 2 3 106 ++ issued_and_paid 6 3 4 50 ++ issued_and_paid 8 4 5 50 ++ issued_and_paid 10 5 6 50
    ++ issued_and_paid 12 6 7 50

-- the seventh due date isn't met either
abbrev pub seventh_missed : List Request
seventh_missed = fee_in_cycle2 ++ roll 2024 8 6 ∷ to_a 14 (post.Bill 7) ∷ roll 2024 9 6 ∷ []

-- or the seventh is met, and the eighth isn't
abbrev pub eighth_missed : List Request
eighth_missed = fee_in_cycle2 ++ issued_and_paid 14 7 8 50 ++ roll 2024 9 6 ∷ to_a 16 (post.Bill 8) ∷ roll 2024 10 6 ∷ []

-- A due date that is a Sunday, 2024-11-24, and 25 dollars that come in on the Monday after it, the day of the late fee
abbrev pub paid_on_monday : Channel → List Request
paid_on_monday by =
    fee_row 3000 4100 ∷ roll 2024 10 28
    ∷ to_a 1 (post.Open (day_at 2024 10 1) (record { close = 28; purchase = 1999; cash = 2499; transfer = 2199; penalty = 2999; floor = 2500; pct = 100 }))
    ∷ to_a 2 (post.Charge (day_at 2024 10 5) place.Purchase 50000) ∷ roll 2024 10 29 ∷ to_a 3 (post.Bill 1) ∷ roll 2024 11 25
    ∷ to_a 4 (post.Payment (day_at 2024 11 25) 600 by 2500) ∷ []

-- a row of the fee table
abbrev pub row_of : ℕ → ℕ → ℕ → FeeRow
row_of day first repeat = record { day = day; first = first; repeat = repeat }

-- fees of 30 and 41 dollars from 2011 on, and two rows for 2024-02-01, of which the later one was meant
abbrev pub table : List FeeRow
table = row_of (day_at 2011 1 2) 3000 4100 ∷ row_of (day_at 2024 2 1) 3200 4300 ∷ row_of (day_at 2024 2 1) 3100 4200 ∷ []

-- a late fee in cycle 2
abbrev pub in_cycle2 : Bool → List Fee
in_cycle2 repeat = fee_of Late 1 repeat (day_at 2024 3 2) 3000 ∷ []

-- the amounts of the table, and which of them a fee takes
pub record TiersAreWorked : Type 0 where
  -- the first amount, and the repeat amount
  pub first : tier_amount (row_in_force (row_of (day_at 2011 1 2) 3000 4100 ∷ [])) false ≡ 3000
  pub repeat : tier_amount (row_in_force (row_of (day_at 2011 1 2) 3000 4100 ∷ [])) true ≡ 4100
  -- the row with the latest day counts, and of two for one day the later one; without a row there is no fee
  pub later_row : tier_amount (row_in_force table) false ≡ 3100
  pub no_row : tier_amount (row_in_force []) true ≡ 0
  -- a fee at the first amount in cycle 2 makes one of its kind in cycle 8 a repeated one, and not one in cycle 9
  pub sixth : is_repeat Late 8 (in_cycle2 false) ≡ true
  pub seventh : is_repeat Late 9 (in_cycle2 false) ≡ false
  pub same_cycle : is_repeat Late 2 (in_cycle2 false) ≡ true
  -- nor one of another kind, and a repeated fee makes none
  pub other_kind : is_repeat Returned 8 (in_cycle2 false) ≡ false
  pub after_repeat : is_repeat Late 8 (in_cycle2 true) ≡ false

-- minimum payments, late fees and returned-payment fees
pub record FeesAreWorked : Type 0 where
  -- a minimum payment of 1% of 805.55 with 5.55 of interest is below the floor of 25 dollars
  pub at_floor : minimum_of (pos 80555) 2500 100 555 0 ≡ 2500
  -- it isn't above the balance
  pub at_balance : minimum_of (pos 1250) 2500 100 0 0 ≡ 1250
  -- what is past due comes on top of the floor
  pub above_floor : minimum_of (pos 80555) 2500 100 555 2500 ≡ 5000
  -- 1% of 1040.87, interest of 15.87, a fee of 25 and 25 past due
  pub with_past_due : minimum_of (pos 104087) 2500 100 4087 2500 ≡ 7627
  -- a late fee isn't above the minimum payment of 25 dollars, though the table has 30
  pub late : fees_after (unpaid 2500) ≡ fee_of Late 1 false (day_at 2024 3 2) 2500 ∷ []
  pub late_owed : owed_after (unpaid 2500) ≡ pos 102500
  -- with a minimum payment of 50 dollars it is the first amount of the table
  pub first : fees_after (unpaid 5000) ≡ fee_of Late 1 false (day_at 2024 3 2) 3000 ∷ []
  pub tiers : TiersAreWorked
  -- six cycles after a fee at the first amount, the next is at the repeat amount
  pub repeat : fees_after seventh_missed ≡ fee_of Late 1 false (day_at 2024 3 2) 30 ∷ fee_of Late 7 true (day_at 2024 9 2) 41 ∷ []
  -- seven cycles after it, it's at the first amount again
  pub first_again : fees_after eighth_missed ≡ fee_of Late 1 false (day_at 2024 3 2) 30 ∷ fee_of Late 8 false (day_at 2024 10 2) 30 ∷ []
  -- Ten dollars are paid, below the minimum payment, and returned: the balance is put back, the late fee stays, and no
  -- second fee is charged for the due date
  pub put_back : parts_after (returned_later 1000) 5 ≡ (2, pos 1000) ∷ []
  pub one_fee : fees_after (returned_later 1000) ≡ fee_of Late 1 false (day_at 2024 3 2) 2500 ∷ []
  -- interest on 14 days of 1000 dollars, 11 of 990, 2 of 1015 and 2 of 1025
  pub returned_interest : interest_after (returned_later 1000) 2 ≡ Some ((2, 1587) ∷ [])
  pub returned_owed : owed_after (returned_later 1000) ≡ pos 104087
  -- the minimum payment of 25 dollars is paid in time, and returned after the due date: a fee for the returned payment
  pub returned_fee : fees_after (returned_later 2500) ≡ fee_of Returned 1 false (day_at 2024 3 4) 2500 ∷ []
  pub returned_minimum : minimum_after (returned_later 2500) 2 ≡ Some 7613
  -- mail that comes on the Monday after a due date on a Sunday is credited as of it, and takes the late fee away
  pub mail : owed_after (paid_on_monday Mail) ≡ pos 47500
  pub online : owed_after (paid_on_monday Online) ≡ pos 50000
