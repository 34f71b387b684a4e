-- Worked values of what a payment, a merchant's credit and a return do (12 CFR 1026.10, .52(b), .53, .54). Amounts are
-- scaled down.
use Rattle.std.specs.Prelude.{ℕ, ◌≡◌, List, [], ◌∷◌, ◌++◌, Some, pos, false, map}
use Rattle.card_events.specs.Civil.{day_at}
use Rattle.card_events.specs.declared.anchor.Channel.TheVariants.{Online}
use Rattle.card_events.specs.declared.post.Category.TheVariants as category
use Rattle.card_events.specs.declared.post.Place.TheVariants as place
use Rattle.card_events.specs.declared.post.Post.TheVariants as post
use Rattle.card_events.specs.declared.request.Request.{Request}
use Rattle.card_model.specs.Entries.{negated}
use Rattle.card_model.specs.declared.fee.FeeKind.TheVariants.{Late, Returned}
use Rattle.card_examples.specs.Accounts.{charge_jan10, entries_after, fee_row, fees_after, interest_after, open_a, parts_after, pay_online, roll, to_a}
use Rattle.card_examples.specs.Fees.{fee_of}

-- ---- the minimum part
-- purchases of 50 dollars and cash of 30; the statement of 2024-02-05 asks for 2.50 and was issued on 2024-02-06
abbrev pub billed : List Request
billed =
    fee_row 300 410 ∷ roll 2024 1 10 ∷ open_a 250 ∷ charge_jan10 2 place.Purchase 5000 ∷ charge_jan10 3 place.Cash 3000
    ∷ roll 2024 2 6 ∷ to_a 4 (post.Bill 1) ∷ roll 2024 2 7 ∷ []

-- two dollars, and two more on the same day
abbrev pub two_payments : List Request
two_payments = billed ++ pay_online 5 (day_at 2024 2 7) 200 ∷ pay_online 6 (day_at 2024 2 7) 200 ∷ []

-- two dollars, returned at once, and three more
abbrev pub first_returned : List Request
first_returned =
    billed ++ pay_online 5 (day_at 2024 2 7) 200 ∷ to_a 6 (post.Return (day_at 2024 2 7) 5) ∷ pay_online 7 (day_at 2024 2 7) 300 ∷ []

-- two dollars, and then one that came in a day before them
abbrev pub earlier_found : List Request
earlier_found = billed ++ pay_online 5 (day_at 2024 2 7) 200 ∷ roll 2024 2 10 ∷ pay_online 6 (day_at 2024 2 6) 100 ∷ []

-- ---- the credit balance
-- 5 dollars charged, and 7 paid
abbrev pub overpaid : List Request
overpaid = fee_row 300 410 ∷ roll 2024 1 10 ∷ open_a 250 ∷ charge_jan10 2 place.Purchase 500 ∷ pay_online 3 (day_at 2024 1 10) 700 ∷ []

-- returned at once
abbrev pub overpaid_returned : List Request
overpaid_returned = overpaid ++ to_a 4 (post.Return (day_at 2024 1 10) 3) ∷ []

-- returned after 1.50 of cash
abbrev pub used_and_returned : List Request
used_and_returned = overpaid ++ charge_jan10 4 place.Cash 150 ∷ to_a 5 (post.Return (day_at 2024 1 10) 3) ∷ []

-- ---- after a statement
-- one statement of 10 dollars, due on 2024-03-01
abbrev pub due_march : List Request
due_march =
    fee_row 300 410 ∷ roll 2024 1 10 ∷ open_a 250 ∷ charge_jan10 2 place.Purchase 1000 ∷ roll 2024 2 6 ∷ to_a 3 (post.Bill 1)
    ∷ roll 2024 2 20 ∷ []

-- a merchant's credit of these cents on 2024-02-20
abbrev pub credited : ℕ → List Request
credited cents = due_march ++ to_a 4 (post.Credit (day_at 2024 2 20) place.Purchase cents) ∷ roll 2024 3 6 ∷ []

-- three dollars that came in at 17:01, and turn out to be four that came in two days before
abbrev pub amended : List Request
amended = due_march ++ to_a 4 (post.Payment (day_at 2024 2 20) 1021 Online 300) ∷ to_a 5 (post.Amend 4 (day_at 2024 2 18) 400) ∷ []

-- a payment that is returned on its day, and turns out to have come in two days later
abbrev pub moved_behind_return : List Request
moved_behind_return =
    due_march ++ pay_online 4 (day_at 2024 2 20) 300 ∷ to_a 5 (post.Return (day_at 2024 2 20) 4) ∷ roll 2024 2 23
    ∷ to_a 6 (post.Amend 4 (day_at 2024 2 22) 300) ∷ []

-- three dollars and the minimum payment, and the first of them returned after the due date
abbrev pub met_and_returned : List Request
met_and_returned =
    due_march ++ pay_online 4 (day_at 2024 2 20) 300 ∷ pay_online 5 (day_at 2024 2 20) 250 ∷ roll 2024 3 4
    ∷ to_a 6 (post.Return (day_at 2024 3 4) 4) ∷ []

-- which is void after all
abbrev pub void_returned : List Request
void_returned = met_and_returned ++ to_a 7 (post.Amend 4 (day_at 2024 2 20) 0) ∷ []

-- half is paid in time, and returned after the due date; the next cycle is closed
abbrev pub half_returned : List Request
half_returned =
    due_march ++ pay_online 4 (day_at 2024 2 20) 500 ∷ roll 2024 3 4 ∷ to_a 5 (post.Return (day_at 2024 3 4) 4) ∷ roll 2024 3 6 ∷ []

-- the minimum payment is returned after the second due date, for which no statement was issued
abbrev pub second_unissued : List Request
second_unissued =
    due_march ++ pay_online 4 (day_at 2024 2 20) 250 ∷ roll 2024 4 4 ∷ to_a 5 (post.Return (day_at 2024 4 4) 4) ∷ []

-- 500 dollars more are charged, of which the second statement asks for 9.34, and nothing is paid; then the payment for the
-- first due date is returned
abbrev pub second_greater : List Request
second_greater =
    due_march ++ pay_online 4 (day_at 2024 2 20) 250 ∷ to_a 5 (post.Charge (day_at 2024 2 20) place.Purchase 50000) ∷ roll 2024 3 6
    ∷ to_a 6 (post.Bill 2) ∷ roll 2024 4 4 ∷ to_a 7 (post.Return (day_at 2024 4 4) 4) ∷ []

-- ---- two vintages
-- a charge of 2 dollars on the 15th day after a notice, and one of a dollar on the 14th; to the effective day both bear 19.99%
abbrev pub vintages : List Request
vintages =
    fee_row 300 410 ∷ roll 2024 1 10 ∷ open_a 250 ∷ roll 2025 1 10 ∷ roll 2025 3 16
    ∷ to_a 2 (post.Notice (day_at 2025 3 1) category.Purchase 2499 (day_at 2025 4 15))
    ∷ to_a 3 (post.Charge (day_at 2025 3 16) place.Purchase 200) ∷ to_a 4 (post.Charge (day_at 2025 3 15) place.Purchase 100) ∷ []

-- the entries, fees and interest of payments, credits and returns
pub record PaymentsAreWorked : Type 0 where
  -- the second payment of a day finds what the first left of the minimum payment, 50 cents
  pub second : parts_after two_payments 6 ≡ (2, negated 50) ∷ (3, negated 150) ∷ []
  -- a payment that was returned before leaves all of it
  pub after_return : parts_after first_returned 7 ≡ (2, negated 250) ∷ (3, negated 50) ∷ []
  -- A payment that came in earlier takes its place before the others, which are allocated anew. On the day of issue there
  -- is no minimum part
  pub earlier : parts_after earlier_found 6 ≡ (3, negated 100) ∷ []
  pub reallocated : parts_after earlier_found 5 ≡ (2, negated 150) ∷ (3, negated 50) ∷ []
  -- a returned payment takes its part of the credit balance back
  pub credit_back : parts_after overpaid_returned 4 ≡ (0, pos 200) ∷ (2, pos 500) ∷ []
  -- what of it was used by then is owed as purchases
  pub used_back : parts_after used_and_returned 5 ≡ (0, pos 50) ∷ (2, pos 150) ∷ (2, pos 500) ∷ []
  -- a merchant's credit of the whole balance keeps the grace period, and isn't a minimum payment
  pub credit_keeps_grace : interest_after (credited 1000) 2 ≡ Some []
  pub credit_is_no_payment : fees_after (credited 1000) ≡ fee_of Late 1 false (day_at 2024 3 2) 250 ∷ []
  -- one of 9 dollars leaves interest on the tenth, and on 4 days of the late fee: 2.1 cents
  pub credit_in_part : interest_after (credited 900) 2 ≡ Some ((2, 2) ∷ [])
  -- an amended payment is one that came in on the new day, at the old minute: here after 17:00
  pub amended_day : entries_after amended ≡ (2, pos 1000) ∷ (2, negated 400) ∷ []
  -- a return follows its payment to a later day
  pub return_follows : parts_after moved_behind_return 5 ≡ (2, pos 300) ∷ []
  -- the due date was met by the other payment; the returned one has a fee, and a void one none
  pub returned_fee : fees_after met_and_returned ≡ fee_of Returned 1 false (day_at 2024 3 4) 250 ∷ []
  pub void_has_none : fees_after void_returned ≡ []
  -- a fee isn't above the minimum payment of the last due date, which is 0 without a statement
  pub second_due_date : fees_after second_unissued ≡ []
  -- nor above that of its own due date: a late fee of 3 dollars for the second, and one of 2.50 for the first
  pub own_due_date : map (λ f. f.cents) (fees_after second_greater) ≡ pos 300 ∷ pos 250 ∷ []
  -- a payment that was returned by the closing is no repayment: 13 cents on 14 days of 10 dollars, 13 of 5 and 2 of 12.50
  pub no_repayment : interest_after half_returned 2 ≡ Some ((2, 13) ∷ [])
  -- of two vintages at one rate the older is paid first, by a merchant's credit too
  pub older : parts_after (vintages ++ pay_online 5 (day_at 2025 3 16) 150 ∷ []) 5 ≡ (2, negated 100) ∷ (5, negated 50) ∷ []
  pub older_credit : parts_after (vintages ++ to_a 5 (post.Credit (day_at 2025 3 16) place.Purchase 150) ∷ []) 5 ≡ (2, negated 100) ∷ (5, negated 50) ∷ []
  -- from the effective day on the newer one bears more, and is paid first
  pub dearer : parts_after (vintages ++ roll 2025 4 15 ∷ pay_online 5 (day_at 2025 4 15) 150 ∷ []) 5 ≡ (5, negated 150) ∷ []
