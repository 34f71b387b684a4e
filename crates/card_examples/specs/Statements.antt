-- Worked values of statements (12 CFR 1026.5(b)(2)(ii), .7(b)), of the limit of interest, and of the days on which something
-- may happen.
use Rattle.std.specs.Prelude.{ℕ, ◌+◌, ◌-◌, ◌≡◌, List, [], ◌∷◌, ◌++◌, Option, Some, None, false, pos}
use Rattle.std.specs.List.{filter, range_with_len}
use Rattle.card_events.specs.Civil.{day_at}
use Rattle.card_events.specs.History.{corrected}
use Rattle.card_events.specs.SharedRows.{shared_rows}
use Rattle.card_events.specs.declared.post.Place.TheVariants as place
use Rattle.card_events.specs.declared.post.Post.TheVariants as post
use Rattle.card_events.specs.declared.request.Request.{Request}
use Rattle.card_model.specs.Books.{Book, account_of}
use Rattle.card_model.specs.Breaks.{is_break}
use Rattle.card_model.specs.Closing.{within_limit}
use Rattle.card_model.specs.Cycles.{Cycle}
use Rattle.card_model.specs.Machine.{State, lists_of, run}
use Rattle.card_model.specs.Refusals.{Lists}
use Rattle.card_model.specs.Spans.{steps_among}
use Rattle.card_model.specs.declared.fee.FeeKind.TheVariants.{Late}
use Rattle.card_examples.specs.Accounts.{book_of, charge_jan10, cycle_after, fee_row, fees_after, interest_after, name, open_a, pay_online, roll, to_a}
use Rattle.card_examples.specs.Fees.{fee_of}

-- purchases of 1000 dollars
abbrev pub charged : List Request
charged = fee_row 3000 4100 ∷ roll 2024 1 10 ∷ open_a 2500 ∷ charge_jan10 2 place.Purchase 100000 ∷ []

-- the statement of 2024-02-05 is due on 2024-03-01. It is issued on this day of February; nothing is paid
abbrev pub issued_on : ℕ → List Request
issued_on day = charged ++ roll 2024 2 day ∷ to_a 3 (post.Bill 1) ∷ roll 2024 3 6 ∷ []

-- ten dollars are paid, and returned; the second cycle closes on 2024-03-05
abbrev pub returned : List Request
returned =
    charged ++ roll 2024 2 6 ∷ to_a 3 (post.Bill 1) ∷ roll 2024 2 20 ∷ pay_online 4 (day_at 2024 2 20) 1000 ∷ roll 2024 3 4
    ∷ to_a 5 (post.Return (day_at 2024 3 4) 4) ∷ roll 2024 3 6 ∷ []

-- what the second statement shows
abbrev pub second : Cycle
second =
    record {
      number = 2;
      first = day_at 2024 2 6;
      closing = day_at 2024 3 5;
      due = day_at 2024 4 1;
      previous = pos 100000;
      new_balance = pos 104087;
      held = 0;
      interest = (2, 1587) ∷ [];
      average = (2, 99897) ∷ [];
      fees = fee_of Late 1 false (day_at 2024 3 2) 2500 ∷ [];
      minimum = 7627;
      grace_amount = 104087;
      entries = 5;
    }

-- an account without a charge, for two months
abbrev pub without_charge : List Request
without_charge = fee_row 3000 4100 ∷ roll 2024 1 10 ∷ open_a 2500 ∷ roll 2024 3 10 ∷ []

-- the break days of an account's lists and book up to today
abbrev pub breaks_with : State → Option Lists → Book → List ℕ
breaks_with s None b = []
breaks_with s (Some l) b =
    let a = account_of l.posts in
    let posts = corrected a.anchor (shared_rows s.shared).holidays l.posts in
    filter (is_break a posts l.issued (shared_rows s.shared).index b.penalties) (range_with_len a.anchor.opened (s.today + 1 - a.anchor.opened))

-- the break days of the account up to today
abbrev pub breaks_after : List Request → List ℕ
breaks_after requests = breaks_with (run requests) (lists_of name (run requests).accounts) (book_of requests)

-- the steps of a fold of an account's lists to the end of today, by today's book
abbrev pub steps_with : State → Option Lists → Book → ℕ
steps_with s None b = 0
steps_with s (Some l) b =
    let a = account_of l.posts in
    let posts = corrected a.anchor (shared_rows s.shared).holidays l.posts in
    steps_among (is_break a posts l.issued (shared_rows s.shared).index b.penalties) a.anchor.opened s.today

-- those of the account
abbrev pub steps_after : List Request → ℕ
steps_after requests = steps_with (run requests) (lists_of name (run requests).accounts) (book_of requests)

-- statements that ask for a payment or for none, their numbers, break days, and steps
pub record StatementsAreWorked : Type 0 where
  -- issued 21 days before the due date, a statement asks for its minimum payment: a late fee, and interest
  pub in_time : fees_after (issued_on 9) ≡ fee_of Late 1 false (day_at 2024 3 2) 2500 ∷ []
  pub in_time_interest : interest_after (issued_on 9) 2 ≡ Some ((2, 1594) ∷ [])
  -- 20 days before it asks for nothing: no late fee, and purchases bear no interest in the next cycle
  pub too_late : fees_after (issued_on 10) ≡ []
  pub too_late_interest : interest_after (issued_on 10) 2 ≡ Some []
  -- all numbers of a statement. The average is that of 14 days of 1000 dollars, 11 of 990, 2 of 1015 and 2 of 1025
  pub closed : cycle_after returned 2 ≡ Some second
  -- interest raises no balance above 10^13 cents
  pub limit : within_limit 9999999999000 2000 ≡ 1000
  pub at_limit : within_limit 10000000000000 1 ≡ 0
  pub above_limit : within_limit 10000000000001 1 ≡ 0
  -- the opening day, two closings and the day after a due date; on all other days nothing happens
  pub breaks : breaks_after without_charge ≡ day_at 2024 1 6 ∷ day_at 2024 2 5 ∷ day_at 2024 3 2 ∷ day_at 2024 3 5 ∷ []
  -- each of them is a step of the fold to 2024-03-10, and so is that day
  pub steps : steps_after without_charge ≡ 5
