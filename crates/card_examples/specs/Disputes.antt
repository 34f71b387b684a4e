-- Worked values of disputed charges (12 CFR 1026.13).
use Rattle.std.specs.Prelude.{ℕ, ◌≡◌, List, [], ◌∷◌, ◌++◌, ℤ, pos, map}
use Rattle.card_events.specs.Civil.{day_at}
use Rattle.card_events.specs.declared.post.Place.TheVariants as place
use Rattle.card_events.specs.declared.post.Post.TheVariants as post
use Rattle.card_events.specs.declared.request.Request.{Request}
use Rattle.card_model.specs.Cycles.{Cycle}
use Rattle.card_model.specs.Entries.{negated}
use Rattle.card_examples.specs.Accounts.{balance_after, book_of, owed_after, parts_after, roll, to_a}

-- a charge of 50 dollars on 2024-02-01; cycles close on each 15th, and the first statement was issued on 2024-02-16
abbrev pub billed : List Request
billed =
    roll 2024 2 16
    ∷ to_a 1 (post.Open (day_at 2024 1 16) (record { close = 15; purchase = 1999; cash = 2499; transfer = 2199; penalty = 2999; floor = 2500; pct = 100 }))
    ∷ to_a 2 (post.Charge (day_at 2024 2 1) place.Purchase 5000) ∷ to_a 3 (post.Bill 1) ∷ roll 2024 4 17 ∷ []

-- these cents of it are disputed on 2024-04-16
abbrev pub disputed : ℕ → List Request
disputed claim = billed ++ to_a 4 (post.Dispute (day_at 2024 4 16) 2 claim) ∷ []

-- all of it is disputed, and these cents are found to be an error on the day after
abbrev pub confirmed : ℕ → List Request
confirmed cents = disputed 5000 ++ to_a 5 (post.Resolve (day_at 2024 4 17) 4 cents) ∷ []

-- 30 dollars are disputed, and the fourth cycle closed
abbrev pub in_dispute : List Request
in_dispute = disputed 3000 ++ roll 2024 5 16 ∷ []

-- the new balance of a statement, what is held, the minimum payment and the grace amount
abbrev pub figures : Cycle → ℤ × ℕ × ℕ × ℕ
figures c = (c.new_balance, c.held, c.minimum, c.grace_amount)

-- what is held, and what comes back
pub record DisputesAreWorked : Type 0 where
  -- what is disputed is held apart from its segment, and stays owed
  pub held : parts_after (disputed 5000) 4 ≡ (2, negated 5000) ∷ (1, pos 5000) ∷ []
  pub held_owed : owed_after (disputed 5000) ≡ pos 5165
  -- not more than the claim
  pub claimed : parts_after (disputed 3000) 4 ≡ (2, negated 3000) ∷ (1, pos 3000) ∷ []
  -- neither the minimum payment nor the grace amount of a later statement asks for it
  pub apart : map figures (book_of in_dispute).cycles
      ≡ (pos 5000, 0, 2500, 5000) ∷ (pos 5079, 0, 5000, 5079) ∷ (pos 5165, 0, 2500, 5165) ∷ (pos 5165, 3000, 2165, 2165) ∷ []
  -- All of it was an error: the charge is gone from its own day on, and the interest on it with it
  pub all_confirmed : owed_after (confirmed 5000) ≡ pos 0
  -- 20 of the 50 dollars were: the other 30 were what the dispute moved, and come back
  pub moved : parts_after (confirmed 2000) 4 ≡ (2, negated 3000) ∷ (1, pos 3000) ∷ []
  pub back : parts_after (confirmed 2000) 5 ≡ (1, negated 3000) ∷ (2, pos 3000) ∷ []
  pub nothing_held : balance_after (confirmed 2000) 1 ≡ pos 0
  -- 29 days of 30 dollars at 19.99%, and 31 days of 30.48
  pub interest : map (λ c. c.interest) (book_of (confirmed 2000)).cycles ≡ [] ∷ ((2, 48) ∷ []) ∷ ((2, 52) ∷ []) ∷ []
  pub some_confirmed : owed_after (confirmed 2000) ≡ pos 3100
