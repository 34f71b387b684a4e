-- What a payment may reach, of balances and ranks by segment.
use Rattle.std.specs.Prelude.{ℕ, ◌+◌, ◌==◌, ◌||◌, nat_lt, Bool, List, [], ◌∷◌, drop, ℤ}
use Rattle.std.specs.List.{list_any}
use Rattle.card_model.specs.Entries.{at_least_zero}
use Rattle.card_model.specs.declared.holding.Holding.{Holding}
use Rattle.card_segments.specs.declared.rank.Rank.{Rank}

-- a segment with its balance and its rank; it is of the place where its number is named
abbrev pub holding : List ℕ → ℕ → ℤ → Rank → Holding
holding place id balance rank =
    record {
      id = id;
      balance = at_least_zero balance;
      rate = rank.rate;
      last_two = rank.last_two;
      of_place = list_any (λ s. s == id) place;
      paid = 0;
    }

-- the segments from a number on
abbrev pub holdings_from : List ℕ → ℕ → List ℤ → List Rank → List Holding
holdings_from place id [] ranks = []
holdings_from place id (b ∷ bs) [] = []
holdings_from place id (b ∷ bs) (r ∷ rs) = holding place id b r ∷ holdings_from place (id + 1) bs rs

-- all segments but Credit and Held, which take no part
abbrev pub holdings : List ℕ → List ℤ → List Rank → List Holding
holdings place balances ranks = holdings_from place 2 (drop 2 balances) (drop 2 ranks)

-- it was paid, or can be: no other takes part
abbrev pub counts : Holding → Bool
counts h = nat_lt 0 h.paid || nat_lt 0 h.balance
