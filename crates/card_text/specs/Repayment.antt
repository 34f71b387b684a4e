-- The text of what the balances of a statement come to where they are repaid (12 CFR 1026.7(b)(12)), in the ledger's own
-- amortization: what is owed on each segment at the closing, at the rate of its line for ever, and the minimum payment by the floor
-- and the part of the statement.
use Rattle.std.specs.Prelude.{ℕ, ◌==◌, List, ◌++◌, Option, Some, None, map, find, codes, ℤ, unsigned_abs}
use Rattle.std.specs.Fmt.{decimal}
use Rattle.std.specs.Option.{option_map, unwrap_or}
use Rattle.card_events.specs.Money.{money_text}
use Rattle.card_model.specs.Cycles.{Sheet}
use Rattle.card_model.specs.declared.lines.RateLine.{RateLine}
use Rattle.card_repay.specs.Amortization.{at_minimum, in_36}
use Rattle.card_repay.specs.declared.fixed.In36.{In36}
use Rattle.card_repay.specs.declared.minimum.AtMinimum.{AtMinimum}
use Rattle.card_repay.specs.declared.owing.Owing.{Owing}
use Rattle.card_text.specs.Statements.{two_texts, two_texts_ended}

-- the line of the rate of a segment, the first one
abbrev pub line_of : ℕ → List RateLine → Option RateLine
line_of segment lines = find (λ l. l.segment == segment) lines

-- its rate; 0 without a line, which no statement lacks of a segment on which something is owed at the closing
abbrev pub rate_of : ℕ → List RateLine → ℕ
rate_of segment lines = unwrap_or (option_map (λ l. l.rate) (line_of segment lines)) 0

-- what is owed on a segment, a pair of its number and cents
abbrev pub owing_of : List RateLine → ℕ × ℕ → Owing
owing_of lines amount = record { cents = amount.1; rate = rate_of amount.0 lines }

-- on each segment of a statement: neither a credit balance nor what is in dispute is among them
unfoldable pub owing_on : Sheet → List Owing
owing_on s = map (owing_of s.rates) s.closing

-- ` TOTAL MONEY`, at the end of a line
unfoldable pub total_end : ℤ → List ℕ
total_end cents = two_texts_ended (codes " TOTAL ") (money_text cents)

-- `MINIMUM ONLY MONTHS N TOTAL MONEY`
unfoldable pub months_line : AtMinimum → List ℕ
months_line told = two_texts (codes "MINIMUM ONLY MONTHS ") (decimal told.months) ++ total_end told.total

-- `MINIMUM ONLY NEVER`
unfoldable pub never_line : List ℕ
never_line = codes "MINIMUM ONLY NEVER\n"

-- the line of the minimum payment
abbrev pub minimum_line : Option AtMinimum → List ℕ
minimum_line (Some told) = months_line told
minimum_line None = never_line

-- `THIRTY-SIX MONTHS PAYMENT MONEY`
unfoldable pub plan_payment : ℤ → List ℕ
plan_payment cents = two_texts (codes "THIRTY-SIX MONTHS PAYMENT ") (money_text cents)

-- `THIRTY-SIX MONTHS PAYMENT MONEY TOTAL MONEY`
unfoldable pub plan_line : In36 → List ℕ
plan_line told = plan_payment told.payment ++ total_end told.total

-- both
unfoldable pub repayment_text : Sheet → List ℕ
repayment_text s = minimum_line (at_minimum (unsigned_abs s.floor) s.pct (owing_on s)) ++ plan_line (in_36 (owing_on s))
