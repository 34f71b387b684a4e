-- Worked values of the grace period (12 CFR 1026.54). Amounts are scaled down to a tenth, since each cent of a payment is
-- evaluated by itself.
use Rattle.std.specs.Prelude.{ℕ, ◌*◌, ◌≡◌, List, [], ◌∷◌, ◌++◌, Some, pos, map}
use Rattle.card_events.specs.Civil.{day_at}
use Rattle.card_events.specs.declared.post.Place.TheVariants as place
use Rattle.card_events.specs.declared.post.Post.TheVariants as post
use Rattle.card_events.specs.declared.request.Request.{Request}
use Rattle.card_examples.specs.Accounts.{book_of, charge_jan10, fee_row, grace_amount_after, interest_after, open_a, owed_after, pay_online, roll, to_a}

-- purchases of 2024-01-10; the statement of 2024-02-05 is issued on the day after, and due on 2024-03-01
abbrev pub billed : ℕ → ℕ → List Request
billed cents floor =
    fee_row floor (2 * floor) ∷ roll 2024 1 10 ∷ open_a floor ∷ charge_jan10 2 place.Purchase cents ∷ roll 2024 2 6 ∷ to_a 3 (post.Bill 1) ∷ []

-- paid on 2024-02-20, and the next cycle closed on 2024-03-05
abbrev pub paid_with : ℕ → List Request
paid_with cents = billed 10000 250 ++ roll 2024 2 20 ∷ pay_online 4 (day_at 2024 2 20) cents ∷ roll 2024 3 6 ∷ []

-- At a hundredth: the first statement isn't paid. The second is, in full, on 2024-03-07, a day on which 5 dollars are
-- charged; then the third is, in full
abbrev pub paid_late : List Request
paid_late =
    billed 1000 25 ++ roll 2024 3 6 ∷ to_a 4 (post.Bill 2) ∷ roll 2024 3 7 ∷ pay_online 5 (day_at 2024 3 7) 1041
    ∷ to_a 6 (post.Charge (day_at 2024 3 7) place.Purchase 500) ∷ roll 2024 4 6 ∷ to_a 7 (post.Bill 3) ∷ roll 2024 4 7
    ∷ pay_online 8 (day_at 2024 4 7) 509 ∷ roll 2024 5 6 ∷ []

-- interest on purchases with a grace period, without it, and with it again
pub record GraceIsWorked : Type 0 where
  -- to keep the grace period, the whole balance has to be paid
  pub amount : grace_amount_after (billed 10000 250) 1 ≡ Some 10000
  -- purchases bear no interest in the first cycle
  pub first_cycle : interest_after (billed 10000 250) 1 ≡ Some []
  -- paid in full by the due date: no interest
  pub kept : owed_after (paid_with 10000) ≡ pos 0
  -- paid but for one cent: interest on that cent alone, which is less than half a cent
  pub one_cent : owed_after (paid_with 9999) ≡ pos 1
  -- half is paid: 29 days of the other half at 19.99%, 79.4 cents, and none on the half that was paid
  pub half : interest_after (paid_with 5000) 2 ≡ Some ((2, 79) ∷ [])
  pub half_owed : owed_after (paid_with 5000) ≡ pos 5079
  -- The grace period lost: without payment the second cycle bears interest on all, 16 cents with the late fee's days. The
  -- third cycle has no grace period either, since the first statement wasn't paid: 8.8 cents for one day of 10.41 and 30 of
  -- 5 dollars, though the second statement was paid in full. So the fourth cycle has it again, and bears none
  pub lost : map (λ c. c.interest) (book_of paid_late).cycles ≡ [] ∷ ((2, 16) ∷ []) ∷ ((2, 9) ∷ []) ∷ [] ∷ []
  pub again : owed_after paid_late ≡ pos 0
