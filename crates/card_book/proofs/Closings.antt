-- The closings up to the last day folded, and the next one.
use Rattle.std.proofs.Common.{◌≡◌, ℕ, zero, suc, ◌+◌, ◌-◌, ◌<◌, ◌≤◌, List, [], length, Some, None, sym, ap, ◌∙◌, subst, arith}
use Rattle.card_events.specs.Billing.{closing}
use Rattle.card_events.specs.Range.{last_request_day}
use Rattle.card_events.specs.declared.anchor.Anchor.{Anchor}
use Rattle.card_events.proofs.Cycles.{cycle_around}
use Rattle.card_events.specs.History.{anchor_of}
use Rattle.card_model.specs.Cycles.{Cycle}
use Rattle.card_model.specs.Folds.{cycle_at}
use Rattle.card_model.proofs.Calendar.{cycles_are_of_the_calendar, is-anchor}
use Rattle.card_model.proofs.Cuts.{closing-entries, closing-within}
use Rattle.card_daily.specs.Given.{Given, IsSound, book_on, opened_in}

-- how many there are up to a day: the last of them isn't after it, and the next one is
pub record AreUpTo (a : Anchor) (closed day : ℕ) : Type 0 where
  pub last : closing a closed ≤ day
  pub next : day < closing a (closed + 1)

pub closed-up-to : (g : Given) (day : ℕ) → IsSound g → opened_in g ≤ day → day ≤ last_request_day → AreUpTo (anchor_of g.history) (length (book_on g day).cycles) day
closed-up-to g day sound low dated =
    let a = anchor_of g.history in
    let n = length (book_on g day).cycles in
    let count = cycles_are_of_the_calendar.count g.history g.issued g.shared day in
    let around = cycle_around a (is-anchor a sound.opening) (day + 1) (n + 1) (omega (arith, low)) (omega (arith, dated)) count in
    let back : n + 1 - 1 ≡ n = omega arith in
    let before = subst (λ k. closing a k < day + 1) back around.0 in
    let after = around.1 in
    record { last = omega (arith, before); next = omega (arith, after) }

-- the day that closed a closed cycle isn't after the day of the book
pub closed-by : (g : Given) (day k : ℕ) (c : Cycle) → opened_in g ≤ day → cycle_at k (book_on g day).cycles ≡ Some c → c.closing ≤ day
closed-by g day k c low e = closing-within g.history g.issued g.shared day k c low e

-- its count of entries is that of the book of that day
pub closing-count : (g : Given) (day k : ℕ) (c : Cycle) → cycle_at k (book_on g day).cycles ≡ Some c → length (book_on g c.closing).entries ≡ c.entries
closing-count g day k c e = closing-entries g.history g.issued g.shared day k c e

-- where no day is folded, no cycle is closed
pub none-closed : (k : ℕ) (cs : List Cycle) (c : Cycle) → cs ≡ [] → cycle_at k cs ≡ Some c → ⊥
none-closed zero cs c e at = let no : None ≡ Some c = at in cc
none-closed (suc n) cs c e at = let no : None ≡ Some c = ap (λ (l : List Cycle). cycle_at (suc n) l) (sym e) ∙ at in cc
