-- Worked values of corrections after a statement was issued. That no correction raises what was issued is the ledger's
-- choice; what an error took away follows 12 CFR 1026.13(e).
use Rattle.std.specs.Prelude.{ℕ, ◌≡◌, List, [], ◌∷◌, ◌++◌, Some, pos, map}
use Rattle.card_events.specs.Civil.{day_at}
use Rattle.card_events.specs.declared.post.Place.TheVariants as place
use Rattle.card_events.specs.declared.post.Post.TheVariants as post
use Rattle.card_events.specs.declared.request.Request.{Request}
use Rattle.card_examples.specs.Accounts.{book_of, charge_jan10, entries_after, fee_row, fees_after, grace_amount_after, interest_after, minimum_after, open_a, owed_after, pay_online, roll, to_a}

-- 1000 dollars of cash; the statement of 2024-02-05 is issued with interest of 18.49
abbrev pub issued : List Request
issued = fee_row 3000 4100 ∷ roll 2024 1 10 ∷ open_a 2500 ∷ charge_jan10 2 place.Cash 100000 ∷ roll 2024 2 6 ∷ to_a 3 (post.Bill 1) ∷ []

-- post n makes the charge one of these cents
abbrev pub amended : ℕ → ℕ → Request
amended n cents = to_a n (post.Amend 2 (day_at 2024 1 10) cents)

-- 2000 dollars it was
abbrev pub raised : List Request
raised = issued ++ amended 4 200000 ∷ []

-- 500 dollars it was
abbrev pub lowered : List Request
lowered = raised ++ amended 5 50000 ∷ []

-- 1000 dollars it was after all
abbrev pub taken_back : List Request
taken_back = raised ++ amended 5 100000 ∷ []

-- The minimum payment of 25 dollars is paid in time, and the second statement issued without a late fee; then the payment
-- is found never to have come
abbrev pub never_paid : List Request
never_paid =
    fee_row 3000 4100 ∷ roll 2024 1 10 ∷ open_a 2500 ∷ charge_jan10 2 place.Purchase 100000 ∷ roll 2024 2 6 ∷ to_a 3 (post.Bill 1)
    ∷ roll 2024 2 20 ∷ pay_online 4 (day_at 2024 2 20) 2500 ∷ roll 2024 3 6 ∷ to_a 5 (post.Bill 2) ∷ to_a 6 (post.Amend 4 (day_at 2024 2 20) 0) ∷ []

-- what stays as issued, and what a correction lowers
pub record CapsAreWorked : Type 0 where
  -- as issued: 27 days of 1000 dollars at 24.99%
  pub at_issue : interest_after issued 1 ≡ Some ((3, 1849) ∷ [])
  -- 36.97 of interest on the doubled charge are lowered to the 18.49 that were issued
  pub interest_stays : interest_after raised 1 ≡ Some ((3, 1849) ∷ [])
  pub raised_owed : owed_after raised ≡ pos 201849
  -- and so are the minimum payment and the grace amount
  pub minimum_stays : minimum_after raised 1 ≡ Some 2867
  pub grace_stays : grace_amount_after raised 1 ≡ Some 101849
  -- what a correction lowers is lowered: 9.24 of interest on half the charge
  pub interest_falls : interest_after lowered 1 ≡ Some ((3, 924) ∷ [])
  pub lowered_owed : owed_after lowered ≡ pos 50924
  -- a correction taken back leaves all as it was
  pub back : entries_after taken_back ≡ (3, pos 100000) ∷ (3, pos 1849) ∷ []
  pub minimum_back : minimum_after taken_back 1 ≡ Some 2867
  -- a fee that wasn't on an issued statement isn't charged later
  pub no_late_fee : fees_after never_paid ≡ []
  pub interest_of_both : map (λ c. c.interest) (book_of never_paid).cycles ≡ [] ∷ ((2, 1549) ∷ []) ∷ []
  pub never_paid_owed : owed_after never_paid ≡ pos 101549
