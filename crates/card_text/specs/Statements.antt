-- The text of a periodic statement (12 CFR 1026.7(b)): the cycle that it is of, and what it shows beside the cycle.
use Rattle.std.specs.Prelude.{ℕ, ◌-◌, ◌/◌, ◌%◌, ◌&&◌, ◌==◌, nat_lt, if◌then◌else◌, List, [], ◌∷◌, ◌++◌, length, replicate, ℤ, pos, codes}
use Rattle.std.specs.Fmt.{decimal}
use Rattle.std.specs.List.{flat_map}
use Rattle.card_events.specs.Money.{daily, money_text}
use Rattle.card_events.specs.Civil.{day_text}
use Rattle.card_model.specs.Cycles.{Cycle, Sheet, amounts_sum}
use Rattle.card_model.specs.Fees.{fees_sum}
use Rattle.card_model.specs.declared.entry.EntryKind.{EntryKind}
use Rattle.card_model.specs.declared.entry.EntryKind.TheVariants as kind
use Rattle.card_model.specs.declared.segment.Sort.TheVariants as sort
use Rattle.card_model.specs.declared.lines.DeferredLine.{DeferredLine}
use Rattle.card_model.specs.declared.lines.Move.{Move}
use Rattle.card_model.specs.declared.lines.RateLine.{RateLine}
use Rattle.card_text.specs.Export.{segment_name}

-- ---- columns; a text that is wider than its places stands whole
-- filled with spaces on the right
abbrev pub to_left : ℕ → List ℕ → List ℕ
to_left places text = text ++ replicate (places - length text) 32

-- filled with spaces on the left
abbrev pub to_right : ℕ → List ℕ → List ℕ
to_right places text = replicate (places - length text) 32 ++ text

-- an amount in its column
abbrev pub amount_text : ℤ → List ℕ
amount_text cents = to_right 14 (money_text cents)

-- `19.99%`
abbrev pub rate_text : ℕ → List ℕ
rate_text rate = decimal (rate / 100) ++ 46 ∷ decimal (rate % 100 / 10) ++ decimal (rate % 10) ++ 37 ∷ []

-- `0.000547671`: the daily rate of a yearly rate, nine digits behind the point
abbrev pub daily_text : ℕ → List ℕ
daily_text rate = let digits = decimal (daily rate) in codes "0." ++ replicate (9 - length digits) 48 ++ digits

-- a text behind another
unfoldable pub two_texts : List ℕ → List ℕ → List ℕ
two_texts first second = first ++ second

-- so, at the end of a line
unfoldable pub two_texts_ended : List ℕ → List ℕ → List ℕ
two_texts_ended first second = first ++ second ++ 10 ∷ []

-- three of them
unfoldable pub three_texts_ended : List ℕ → List ℕ → List ℕ → List ℕ
three_texts_ended first second third = first ++ second ++ third ++ 10 ∷ []

-- ---- lines, each with its line feed
-- a label and a value
unfoldable pub labelled : List ℕ → List ℕ → List ℕ
labelled label value = to_left 28 label ++ 32 ∷ to_right 14 value ++ 10 ∷ []

-- what a transaction is, in a word; interest and holds are none
abbrev pub move_word : EntryKind → ℕ → List ℕ
move_word kind.Charge n = codes "CHARGE"
move_word kind.Credit n = codes "CREDIT"
move_word kind.Payment n = codes "PAYMENT"
move_word kind.Return n = codes "RETURN"
move_word kind.Refund n = codes "REFUND"
move_word kind.Fee n = if n == 0 then codes "FEE-LATE" else codes "FEE-RETURN"
move_word kind.Interest n = []
move_word kind.Hold n = []

-- `DAY KIND POST CENTS`
unfoldable pub move_line : Move → List ℕ
move_line m = day_text m.day ++ 32 ∷ to_left 10 (move_word m.kind m.post) ++ 32 ∷ to_right 6 (decimal m.post) ++ 32 ∷ amount_text m.cents ++ 10 ∷ []

-- `RATE SEGMENT RATE DAILY`, of a segment with this name
unfoldable pub rate_front : List ℕ → ℕ → List ℕ
rate_front name rate = codes "RATE " ++ to_left 12 name ++ 32 ∷ to_right 7 (rate_text rate) ++ 32 ∷ to_right 12 (daily_text rate)

-- ` AVERAGE INTEREST`
unfoldable pub rate_amounts : ℕ → ℕ → List ℕ
rate_amounts average interest = 32 ∷ amount_text (pos average) ++ 32 ∷ amount_text (pos interest) ++ 10 ∷ []

-- both, with the name that the segment has in the export
unfoldable pub rate_line : RateLine → List ℕ
rate_line r = rate_front (segment_name r.sort r.segment) r.rate ++ rate_amounts r.average r.interest

-- `DEFERRED SEGMENT BALANCE `, of a segment with this name
unfoldable pub deferred_front : List ℕ → ℤ → List ℕ
deferred_front name balance = codes "DEFERRED " ++ name ++ 32 ∷ money_text balance ++ 32 ∷ []

-- `ACCRUED PAY IN FULL BY DAY`
unfoldable pub deferred_rest : ℤ → ℕ → List ℕ
deferred_rest accrued ends = three_texts_ended (money_text accrued) (codes " PAY IN FULL BY ") (day_text ends)

-- both, with the name that the segment has in the export
unfoldable pub deferred_line : DeferredLine → List ℕ
deferred_line d = deferred_front (segment_name sort.Deferred d.segment) d.balance ++ deferred_rest d.accrued d.ends

-- `LATE PAYMENT FEE UP TO CENTS`
unfoldable pub late_fee : ℤ → List ℕ
late_fee cents = two_texts (codes "LATE PAYMENT FEE UP TO ") (money_text cents)

-- ` AND RATE UP TO RATE`
unfoldable pub late_rate : ℕ → List ℕ
late_rate rate = two_texts_ended (codes " AND RATE UP TO ") (rate_text rate)

-- what a late payment may cost
unfoldable pub late_line : ℤ → ℕ → List ℕ
late_line cents rate = late_fee cents ++ late_rate rate

-- ---- the statement
-- of whom, which cycle, and its days
unfoldable pub heading : List ℕ → Cycle → List ℕ
heading name c =
    codes "STATEMENT " ++ name ++ codes " CYCLE " ++ decimal c.number ++ 10 ∷ []
    ++ codes "PERIOD " ++ day_text c.first ++ codes " TO " ++ day_text c.closing ++ 10 ∷ []

-- the balance before, and what changed in it since
unfoldable pub earlier_lines : Sheet → List ℕ
earlier_lines s = labelled (codes "PREVIOUS BALANCE") (money_text s.previous) ++ labelled (codes "EARLIER CORRECTIONS") (money_text s.corrections)

-- the fees and the interest of the cycle
unfoldable pub charge_lines : Cycle → List ℕ
charge_lines c =
    labelled (codes "FEES THIS PERIOD") (money_text (pos (fees_sum c.fees)))
    ++ labelled (codes "INTEREST THIS PERIOD") (money_text (pos (amounts_sum c.interest)))

-- from the previous balance to this one's interest: these lines and the transactions add up to the new balance
unfoldable pub activity : Cycle → Sheet → List ℕ
activity c s = earlier_lines s ++ flat_map move_line s.moves ++ charge_lines c

-- the sums of the year to date
unfoldable pub year_lines : Sheet → List ℕ
year_lines s = labelled (codes "FEES THIS YEAR") (money_text s.fees_year) ++ labelled (codes "INTEREST THIS YEAR") (money_text s.interest_year)

-- what is owed, and what of it is in dispute
unfoldable pub owed_lines : Cycle → List ℕ
owed_lines c = labelled (codes "NEW BALANCE") (money_text c.new_balance) ++ labelled (codes "IN DISPUTE") (money_text (pos c.held))

-- what to pay, and by which day; a statement that came too late asks for nothing (12 CFR 1026.5(b)(2)(ii))
unfoldable pub payment_lines : Cycle → Sheet → List ℕ
payment_lines c s =
    labelled (codes "MINIMUM PAYMENT") (money_text (pos c.minimum))
    ++ labelled (codes "PAYMENT DUE DATE") (if s.due_payment then day_text c.due else codes "-")

-- the sums of the year, the balances and the payment
unfoldable pub balances : Cycle → Sheet → List ℕ
balances c s = year_lines s ++ owed_lines c ++ payment_lines c s

-- what a late payment costs, where there is a payment to make
unfoldable pub warning : Cycle → Sheet → List ℕ
warning c s = if s.due_payment && nat_lt 0 c.minimum then late_line s.late_up_to s.penalty else []

-- the whole text
unfoldable pub statement_text : List ℕ → Cycle → Sheet → List ℕ
statement_text name c s =
    heading name c ++ activity c s ++ balances c s ++ flat_map rate_line s.rates ++ flat_map deferred_line s.deferred ++ warning c s
