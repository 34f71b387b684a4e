-- The book of the next day: as the posts of the day left it, or with the closing.
use Rattle.std.proofs.Common.{◌≡◌, ℕ, suc, ◌+◌, ◌-◌, ◌≤◌, Bool, true, false, cond, eqb, List, [], ◌∷◌, ◌++◌, refl, sym, ap, ◌∙◌, arith, Option, Some, None}
use Rattle.std.specs.List.{last_or}
use Rattle.std.proofs.lemmas.Bool.{eq-eqb, ne_eqb}
use Rattle.std.proofs.lemmas.List.Elements.{All-weaker}
use Rattle.card_bounds.proofs.Dated.{Before, posted_on}
use Rattle.card_events.specs.Civil.{day_of_month}
use Rattle.card_events.specs.History.{anchor_of}
use Rattle.card_closing.proofs.Growing.{rows_grow}
use Rattle.card_closing.proofs.Turns.{interest_in_turn}
use Rattle.card_closing.specs.Rows.{no_rows}
use Rattle.card_model.specs.Books.{Account, Book, all_segments}
use Rattle.card_model.specs.Closing.{Posting, close, closing_interest, first_day_of, first_of, post_interest, purchase_case_in}
use Rattle.card_model.specs.Cycles.{Cycle, IssuedRow, Seen}
use Rattle.card_model.specs.Folds.{book_after, day_after}
use Rattle.card_model.specs.Interest.{accrual, cycle_interest, deferred_interest}
use Rattle.card_model.specs.Segments.{SegmentTerms}
use Rattle.card_daily.specs.Given.{Given, account_in, book_in, opened_in, row_in, seen_in}
use Rattle.card_daily.specs.Stands.{before, first_in, posted, rows_through}
use Rattle.card_daily.proofs.Books.{day-is}
use Rattle.card_daily.proofs.Cycles.{before-dated, first-amid, posted-folded}

-- ---- the day
next-is : (g : Given) (day : ℕ) → opened_in g ≤ day → before g (day + 1) ≡ day_after (row_in g (day - opened_in g)) (account_in g) (seen_in g day) (before g day)
unfolding book_after
next-is g day o =
    let n = day - opened_in g in
    let count : day + 1 - opened_in g ≡ suc n = omega arith in
    ap (book_in g) count ∙ ap (λ d. day_after (row_in g n) (account_in g) (seen_in g d) (before g day)) (day-is (opened_in g) day o)

posted-is : (g : Given) (day : ℕ) → opened_in g ≤ day → posted g day ≡ posted_on (row_in g (day - opened_in g)) (account_in g) (seen_in g day) (before g day)
posted-is g day o =
    posted-folded g day o ∙ ap (λ d. posted_on (row_in g (day - opened_in g)) (account_in g) (seen_in g d) (before g day)) (day-is (opened_in g) day o)

test-true : (t : Bool) (x y : Book) → t ≡ true → cond t x y ≡ x
test-true t x y e = rw e refl

test-false : (t : Bool) (x y : Book) → t ≡ false → cond t x y ≡ y
test-false t x y e = rw e refl

day-is-by : (row : Option IssuedRow) (a : Account) (seen : Seen) (b : Book)
    → day_after row a seen b ≡ cond (eqb (day_of_month seen.day) a.anchor.close_day) (close row a seen (posted_on row a seen b)) (posted_on row a seen b)
unfolding day_after
day-is-by row a seen b = refl

-- the book with the closing
abbrev pub closed : Given → ℕ → Book
closed g day = close (row_in g (day - opened_in g)) (account_in g) (seen_in g day) (posted g day)

pub next-closed : (g : Given) (day : ℕ) → opened_in g ≤ day → day_of_month day ≡ (anchor_of g.history).close_day → before g (day + 1) ≡ closed g day
next-closed g day o e =
    let row = row_in g (day - opened_in g) in
    let left = posted_on row (account_in g) (seen_in g day) (before g day) in
    next-is g day o ∙ (day-is-by row (account_in g) (seen_in g day) (before g day)
    ∙ (test-true (eqb (day_of_month day) (anchor_of g.history).close_day) (close row (account_in g) (seen_in g day) left) left (eq-eqb (day_of_month day) (anchor_of g.history).close_day e)
    ∙ ap (close row (account_in g) (seen_in g day)) (sym (posted-is g day o))))

pub next-open : (g : Given) (day : ℕ) → opened_in g ≤ day → (day_of_month day ≡ (anchor_of g.history).close_day → ⊥) → before g (day + 1) ≡ posted g day
next-open g day o e =
    let row = row_in g (day - opened_in g) in
    let left = posted_on row (account_in g) (seen_in g day) (before g day) in
    next-is g day o ∙ (day-is-by row (account_in g) (seen_in g day) (before g day)
    ∙ (test-false (eqb (day_of_month day) (anchor_of g.history).close_day) (close row (account_in g) (seen_in g day) left) left (ne_eqb (day_of_month day) (anchor_of g.history).close_day e)
    ∙ sym (posted-is g day o)))

-- ---- the cycle
last-push : (o : Option Cycle) (cs : List Cycle) (c : Cycle) → last_or o (cs ++ c ∷ []) ≡ Some c
last-push o [] c = refl
last-push o (x ∷ xs) c = last-push (Some x) xs c

first-closed : (row : Option IssuedRow) (a : Account) (seen : Seen) (b : Book) → first_day_of a (close row a seen b) ≡ seen.day + 1
unfolding close
first-closed row a seen b = ap (first_of a) (last-push None b.cycles _)

-- after a closing the next cycle begins
pub first-next : (g : Given) (day : ℕ) → opened_in g ≤ day → day_of_month day ≡ (anchor_of g.history).close_day → first_in g (day + 1) ≡ day + 1
first-next g day o e =
    ap (first_day_of (account_in g)) (next-closed g day o e) ∙ first-closed (row_in g (day - opened_in g)) (account_in g) (seen_in g day) (posted g day)

-- on other days it goes on
pub first-stays : (g : Given) (day : ℕ) → opened_in g ≤ day → (day_of_month day ≡ (anchor_of g.history).close_day → ⊥) → first_in g (day + 1) ≡ first_in g day
first-stays g day o e = ap (first_day_of (account_in g)) (next-open g day o e) ∙ first-amid g day _

-- ---- what a closing leaves
pub closed-fees : (row : Option IssuedRow) (a : Account) (seen : Seen) (b : Book) → (close row a seen b).fees ≡ b.fees
unfolding close
closed-fees row a seen b = refl

pub closed-penalties : (row : Option IssuedRow) (a : Account) (seen : Seen) (b : Book) → (close row a seen b).penalties ≡ b.penalties
unfolding close
closed-penalties row a seen b = refl

same-accrual : (seen : Seen) (b c : Book) (t : SegmentTerms) → b.entries ≡ c.entries → accrual seen b t ≡ accrual seen c t
unfolding accrual
same-accrual seen b c t e = rw e refl

-- interest counts for no accrual
pub closed-accrual : (row : Option IssuedRow) (a : Account) (seen : Seen) (b : Book) (t : SegmentTerms) → accrual seen (close row a seen b) t ≡ accrual seen b t
unfolding close closing_interest
closed-accrual row a seen b t =
    let none : Posting = record { amounts = []; book = b } in
    let first = post_interest row seen (cycle_interest a seen (purchase_case_in seen b) (first_day_of a b)) (all_segments a seen) none in
    let last = post_interest row seen (deferred_interest seen) (all_segments a seen) first in
    same-accrual seen (close row a seen b) last.book t refl
    ∙ (interest_in_turn.accruals row seen (deferred_interest seen) (all_segments a seen) first t
    ∙ interest_in_turn.accruals row seen (cycle_interest a seen (purchase_case_in seen b) (first_day_of a b)) (all_segments a seen) none t)

-- ---- rows
-- the next cycle begins without rows
pub rows-next : (g : Given) (day : ℕ) (t : SegmentTerms) → opened_in g ≤ day → day_of_month day ≡ (anchor_of g.history).close_day
    → no_rows (day + 1) ≡ rows_through g (first_in g (day + 1)) day (before g (day + 1)) t
rows-next g day t o e =
    let dated = All-weaker (Before (day + 1)) (λ x. x.day ≤ day) (λ x l. omega arith) (before g (day + 1)).entries (before-dated g (day + 1) (omega arith)) in
    sym (ap (λ f. rows_through g f day (before g (day + 1)) t) (first-next g day o e) ∙ rows_grow.begins (account_in g) (seen_in g day) (before g (day + 1)) t dated)
