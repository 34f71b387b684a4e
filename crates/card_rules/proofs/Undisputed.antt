-- What is held when a cycle closes isn't asked for.
use Rattle.std.proofs.Common.{◌≡◌, ℕ, zero, suc, ◌≤◌, List, [], ◌∷◌, refl, ap, arith, Option, Some, None, ℤ, pos, negsuc, ◌-ℤ◌}
use Rattle.std.proofs.lemmas.Int.{ints}
use Rattle.std.specs.List.{Contains}
use Rattle.card_events.specs.SharedRows.{SharedRows}
use Rattle.card_events.specs.declared.kept.Kept.{Kept}
use Rattle.card_model.specs.Books.{Account, Book, account_of}
use Rattle.card_model.specs.Caps.{capped_by, issued_grace, issued_minimum}
use Rattle.card_model.specs.Closing.{Posting, closing_interest, deferred_later, grace_amount, minimum_of, minimum_payment, net_balance}
use Rattle.card_model.specs.Cycles.{Cycle, IssuedRow, Seen}
use Rattle.card_model.specs.Entries.{at_least_zero}
use Rattle.card_model.specs.Folds.{book, cycle_at}
use Rattle.card_rates.specs.Laws.{seen_in}
use Rattle.card_rules.proofs.Grace.{IsClosing, closing-of}
use Rattle.card_rules.proofs.PenaltyFees.{late_fees_are_right}
use Rattle.card_rules.specs.Undisputed.{AsksForTheRest, DisputedIsNotAsked}

capped-low : (f : IssuedRow → ℕ) (o : Option IssuedRow) (n : ℕ) → capped_by f o n ≤ n
capped-low f None n = omega arith
capped-low f (Some r) n = omega arith

minimum-low : (z : ℤ) (floor pct charges past : ℕ) → minimum_of z floor pct charges past ≤ at_least_zero z
minimum-low (pos nb) floor pct charges past = omega arith
minimum-low (negsuc n) floor pct charges past = omega arith

payment-low : (a : Account) (seen : Seen) (b : Book) (p : Posting) → minimum_payment a seen b p ≤ at_least_zero (net_balance p.book.entries)
unfolding minimum_payment
payment-low a seen b p = minimum-low (net_balance p.book.entries) _ _ _ _

less-low : (z : ℤ) (n : ℕ) → at_least_zero (z -ℤ pos n) ≤ at_least_zero z
less-low z n = by (z -ℤ pos n) refl z refl
  where
    by : (d : ℤ) → z -ℤ pos n ≡ d → (y : ℤ) → z ≡ y → at_least_zero d ≤ at_least_zero y
    by (negsuc k) e y f = omega arith
    by (pos k) e (pos m) f = omega (arith, ints, e, f)
    by (pos k) e (negsuc m) f = absurd (omega (arith, ints, e, f))

grace-low : (a : Account) (seen : Seen) (p : Posting) → grace_amount a seen p ≤ at_least_zero (net_balance p.book.entries)
unfolding grace_amount
grace-low a seen p = less-low (net_balance p.book.entries) (deferred_later a seen p.book)

asks : (history : List Kept) (issued : List IssuedRow) (shared : SharedRows) (c : Cycle) → IsClosing history issued shared c.closing c → AsksForTheRest history issued shared c
asks history issued shared c h =
    let a = account_of history in
    let seen = seen_in history issued shared c.closing in
    let p = closing_interest h.row a seen h.posted in
    let net = ap (λ es. at_least_zero (net_balance es)) h.entries in
    let min-is = ap (λ (x : Cycle). x.minimum) h.is in
    let min-cap = capped-low issued_minimum h.row (minimum_payment a seen h.posted p) in
    let min-low = payment-low a seen h.posted p in
    let grace-is = ap (λ (x : Cycle). x.grace_amount) h.is in
    let grace-cap = capped-low issued_grace h.row (grace_amount a seen p) in
    let grace-most = grace-low a seen p in
    record { minimum = omega (arith, net, min-is, min-cap, min-low); grace = omega (arith, net, grace-is, grace-cap, grace-most) }

-- the place of a cycle
at-of : (cs : List Cycle) (c : Cycle) → Contains cs c → (k : ℕ) × (cycle_at k cs ≡ Some c)
at-of [] c (k, l, e) = absurd (omega arith)
at-of (x ∷ xs) c (zero, l, e) = (1, ap Some e)
at-of (x ∷ xs) c (suc k, l, e) = shift (at-of xs c (k, omega arith, e))
  where
    shift : (j : ℕ) × (cycle_at j xs ≡ Some c) → (j : ℕ) × (cycle_at j (x ∷ xs) ≡ Some c)
    shift (zero, e) = absurd (let none : None ≡ Some c = e in cc)
    shift (suc j, e) = (suc (suc j), e)

pub disputed_is_not_asked : DisputedIsNotAsked
disputed_is_not_asked = record {
  cycles = λ history issued shared day k c o l at. asks history issued shared c (closing-of history issued shared day k c o l at).1;
  late = λ history issued shared day f o l there late.
      let r = late_fees_are_right history issued shared day f there late in
      let at = at-of (book history issued shared day).cycles r.cycle r.closed in
      let rest = asks history issued shared r.cycle (closing-of history issued shared day at.0 r.cycle o l at.1).1 in
      let short = r.fell_short in
      let most = rest.minimum in
      (r.cycle, r.closed, r.its_own, omega (arith, short, most));
}
