-- Worked values of what statements show beside their cycles (12 CFR 1026.7(b)).
use Rattle.std.specs.Prelude.{ℕ, ◌≡◌, List, [], ◌∷◌, ◌++◌, Option, Some, None, true, false, pos, negsuc}
use Rattle.std.specs.Option.{option_map}
use Rattle.card_events.specs.Civil.{day_at}
use Rattle.card_events.specs.SharedRows.{shared_rows}
use Rattle.card_events.specs.declared.post.Place.TheVariants as place
use Rattle.card_events.specs.declared.post.PlanKind.TheVariants as plan
use Rattle.card_events.specs.declared.post.Post.TheVariants as post
use Rattle.card_events.specs.declared.request.Request.{Request}
use Rattle.card_model.specs.Cycles.{Cycle, Sheet}
use Rattle.card_model.specs.Machine.{State, lists_of, run}
use Rattle.card_model.specs.Refusals.{Lists}
use Rattle.card_model.specs.declared.entry.EntryKind.TheVariants as kind
use Rattle.card_model.specs.declared.segment.Sort.TheVariants as sort
use Rattle.card_examples.specs.Accounts.{charge_jan10, cycle_after, fee_row, name, open_a, roll, to_a}
use Rattle.card_examples.specs.Statements.{returned}
use Rattle.card_model.specs.Sheets.{restated_sheet_of, sheet_of}

-- ---- requests
-- the second statement is issued, and then a charge of its cycle comes in; the third cycle closes on 2024-04-05
abbrev pub charged_late : List Request
charged_late = returned ++ to_a 6 (post.Bill 2) ∷ roll 2024 3 7 ∷ to_a 7 (post.Charge (day_at 2024 2 10) place.Purchase 2000) ∷ roll 2024 4 6 ∷ []

-- a plan with deferred interest up to August, cash, and a purchase that is credited on its day; ten dollars are disputed
abbrev pub planned : List Request
planned =
    fee_row 3000 4100 ∷ roll 2024 1 20 ∷ open_a 2500 ∷ to_a 2 (post.Plan (day_at 2024 1 10) plan.Deferred 1999 (day_at 2024 8 5) 2499)
    ∷ charge_jan10 3 (place.Plan 2) 5000 ∷ to_a 4 (post.Charge (day_at 2024 1 12) place.Cash 3000) ∷ to_a 5 (post.Charge (day_at 2024 1 13) place.Purchase 2000)
    ∷ to_a 6 (post.Credit (day_at 2024 1 13) place.Purchase 2000) ∷ to_a 7 (post.Dispute (day_at 2024 1 15) 3 1000) ∷ roll 2024 2 6 ∷ []

-- ---- what they come to
-- the sheet of a cycle, issued today
abbrev pub issued_with : State → Option Lists → Option Cycle → Option Sheet
issued_with s None c = None
issued_with s (Some l) c = option_map (sheet_of l.posts l.issued (shared_rows s.shared) s.today) c

abbrev pub issued_after : List Request → ℕ → Option Sheet
issued_after requests k = issued_with (run requests) (lists_of name (run requests).accounts) (cycle_after requests k)

-- the sheet of a cycle as it is now
abbrev pub restated_with : State → Option Lists → Option Cycle → Option Sheet
restated_with s None c = None
restated_with s (Some l) c = option_map (restated_sheet_of (record { today = s.today; shared = shared_rows s.shared; lists = l })) c

abbrev pub restated_after : List Request → ℕ → Option Sheet
restated_after requests k = restated_with (run requests) (lists_of name (run requests).accounts) (cycle_after requests k)

-- ---- sheets
-- a payment, a late fee and a return
abbrev pub second : Sheet
second =
    record {
      due_payment = true;
      previous = pos 100000;
      corrections = pos 0;
      moves = record { day = day_at 2024 2 20; kind = kind.Payment; post = 4; cents = negsuc 999 } ∷ record { day = day_at 2024 3 2; kind = kind.Fee; post = 0; cents = pos 2500 } ∷ record { day = day_at 2024 3 4; kind = kind.Return; post = 5; cents = pos 1000 } ∷ [];
      fees_year = pos 2500;
      interest_year = pos 1587;
      rates = record { segment = 2; sort = sort.Purchase; rate = 1999; average = 99897; interest = 1587 } ∷ [];
      deferred = [];
      late_up_to = pos 4100;
      penalty = 2999;
      closing = (2, 104087) ∷ [];
      floor = pos 2500;
      pct = 100;
    }

-- the charge that is dated back stands as a correction of the second statement
abbrev pub third : Sheet
third =
    record {
      due_payment = true;
      previous = pos 104087;
      corrections = pos 2000;
      moves = record { day = day_at 2024 4 2; kind = kind.Fee; post = 0; cents = pos 4100 } ∷ [];
      fees_year = pos 6600;
      interest_year = pos 3397;
      rates = record { segment = 2; sort = sort.Purchase; rate = 1999; average = 106616; interest = 1810 } ∷ [];
      deferred = [];
      late_up_to = pos 4100;
      penalty = 2999;
      closing = (2, 111997) ∷ [];
      floor = pos 2500;
      pct = 100;
    }

-- without a Bill no payment is due. The disputed ten dollars count on no segment, the credited purchase on no day
abbrev pub deferred : Sheet
deferred =
    record {
      due_payment = false;
      previous = pos 0;
      corrections = pos 0;
      moves =
          record { day = day_at 2024 1 10; kind = kind.Charge; post = 3; cents = pos 5000 } ∷ record { day = day_at 2024 1 12; kind = kind.Charge; post = 4; cents = pos 3000 }
          ∷ record { day = day_at 2024 1 13; kind = kind.Charge; post = 5; cents = pos 2000 } ∷ record { day = day_at 2024 1 13; kind = kind.Credit; post = 6; cents = negsuc 1999 } ∷ [];
      fees_year = pos 0;
      interest_year = pos 51;
      rates =
          record { segment = 3; sort = sort.Cash; rate = 2499; average = 2419; interest = 51 }
          ∷ record { segment = 5; sort = sort.Deferred; rate = 0; average = 0; interest = 0 } ∷ [];
      deferred = record { segment = 5; balance = pos 4000; accrued = pos 62; ends = day_at 2024 8 5 } ∷ [];
      late_up_to = pos 4100;
      penalty = 2999;
      closing = (3, 3051) ∷ (5, 4000) ∷ [];
      floor = pos 2500;
      pct = 100;
    }

-- the sheets of statements
pub record SheetsAreWorked : Type 0 where
  pub issued : issued_after returned 2 ≡ Some second
  pub corrected : issued_after charged_late 3 ≡ Some third
  pub plans : restated_after planned 1 ≡ Some deferred
