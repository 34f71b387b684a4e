-- What a post does on its effective day (12 CFR 1026.10, .11(a), .13, .52(b), .53, .55(b)).
use Rattle.std.specs.Prelude.{ℕ, ◌+◌, Bool, true, false, ◌&&◌, ◌==◌, nat_le, nat_lt, if◌then◌else◌, min, unwrap_or, map, List, [], ◌∷◌, ◌++◌, Option, Some, None, ℤ, neg_ℤ}
use Rattle.std.specs.List.{filter, find}
use Rattle.card_events.specs.Billing.{next_on}
use Rattle.card_events.specs.History.{CorrectedPost, charge_disputed}
use Rattle.card_events.specs.declared.post.Place.{Place}
use Rattle.card_events.specs.declared.post.Post.{Post}
use Rattle.card_events.specs.declared.post.Post.TheVariants as post
use Rattle.card_model.specs.Allocation.{allocated, placed}
use Rattle.card_model.specs.Books.{Account, Book, all_segments, newest_purchase, note_of, rate_in, with_all_entries, with_entries, with_penalties}
use Rattle.card_model.specs.Cycles.{Cycle, IssuedRow, Seen, last_cycle, post_at}
use Rattle.card_model.specs.Entries.{at_least_zero, credit_balance, debit, holds, is_kind, lowers, owing, releases, sum_of}
use Rattle.card_model.specs.Fees.{penalty_fee, with_fee}
use Rattle.card_model.specs.Payments.{is_payment, minimum_left, sixty_days_late}
use Rattle.card_model.specs.Segments.{SegmentTerms, is_deferred_in, is_of_place, kept_segment, last_that, segment_at}
use Rattle.card_model.specs.declared.entry.Entry.{Entry}
use Rattle.card_model.specs.declared.entry.EntryKind.TheVariants as kind
use Rattle.card_model.specs.declared.entry.Note.{Note}
use Rattle.card_model.specs.declared.fee.Fee.{Fee}
use Rattle.card_model.specs.declared.fee.FeeKind.TheVariants as fee
use Rattle.card_model.specs.declared.holding.Holding.{Holding}
use Rattle.card_model.specs.declared.segment.Segment.{Segment}

-- ---- what a payment may reach
-- the first closing on or after a day
abbrev pub closing_from : Account → ℕ → ℕ
closing_from a day = next_on a.anchor.close_day day

-- the closing after that of a day's cycle
abbrev pub second_closing : Account → ℕ → ℕ
second_closing a day = closing_from a (closing_from a day + 1)

-- the end of a Deferred in its period on a day, where it is a later day at most
abbrev pub end_by : ℕ → ℕ → Segment → Option ℕ
end_by until day s = if is_deferred_in day s && nat_le (unwrap_or s.ends 0) until then s.ends else None

-- the end of a Deferred in the last two cycles of its period: it ends with the day's closing or the next one
abbrev pub last_two_of : Account → Seen → SegmentTerms → Option ℕ
last_two_of a seen g = end_by (second_closing a seen.day) seen.day (kept_segment g)

-- a segment of the place, where one is named
abbrev pub is_in_place : Option Place → SegmentTerms → Bool
is_in_place None g = false
is_in_place (Some p) g = is_of_place p g

-- a segment with its balance and its rate of the day
abbrev pub holding : Account → Seen → Book → Option Place → SegmentTerms → Holding
holding a seen b place g =
    record {
      id = g.id;
      balance = owing g.id b.entries;
      rate = rate_in a seen b seen.day g;
      last_two = last_two_of a seen g;
      of_place = is_in_place place g;
      paid = 0;
    }

-- all segments with their balances and rates of the day
abbrev pub holdings : Account → Seen → Book → Option Place → List Holding
holdings a seen b place = map (holding a seen b place) (all_segments a seen)

-- ---- Payment and Credit
-- the minimum part is what is left of the minimum payment, or the whole where that is less
unfoldable pub payment_parts : Account → Seen → CorrectedPost → Book → List (ℕ × ℕ)
payment_parts a seen p b = allocated (min p.cents (minimum_left seen p (last_cycle b.cycles))) p.cents (holdings a seen b None)

-- the parts of a merchant's credit to a place
unfoldable pub credit_parts : Account → Seen → CorrectedPost → Place → Book → List (ℕ × ℕ)
credit_parts a seen p place b = placed p.cents (holdings a seen b (Some place))

-- an entry below 0 for each part
abbrev pub parts_entries : Note → List (ℕ × ℕ) → List Entry
parts_entries note [] = []
parts_entries note (x ∷ xs) = lowers note x.0 x.1 ++ parts_entries note xs

-- ---- Return
-- the parts that payment n reached, as its entries tell them
abbrev pub is_part_of : ℕ → Entry → Bool
is_part_of n e = (e.post == n) && is_kind kind.Payment e.kind

-- how far an amount lies below 0
abbrev pub size : ℤ → ℕ
size z = at_least_zero (neg_ℤ z)

-- each part is debited to its segment in turn, that of Credit to the newest Purchase vintage
abbrev pub put_back : Note → ℕ → List Entry → List Entry → List Entry
put_back note newest [] entries = entries
put_back note newest (e ∷ es) entries =
    put_back note newest es
    (entries ++ debit note (if e.segment == 0 then newest else e.segment) (size e.cents) (credit_balance entries))

-- the book with the parts of a payment put back
abbrev pub returned : Account → Seen → ℕ → ℕ → Book → Book
returned a seen n target b =
    with_all_entries (put_back (note_of seen kind.Return n) (newest_purchase a seen) (filter (is_part_of target) b.entries) b.entries) b

-- the payment with a number
abbrev pub payment_at : ℕ → List CorrectedPost → Option CorrectedPost
payment_at n posts = find (λ p. (p.number == n) && is_payment p.post) posts

-- the cycle whose due date a returned payment was for: the last that closed before it was credited. A void payment has none
abbrev pub meant_for : List Cycle → Option CorrectedPost → Option Cycle
meant_for cycles None = None
meant_for cycles (Some p) = if p.cents == 0 then None else last_that (λ c. nat_lt c.closing p.day) cycles

-- the fee for a returned payment, where it was meant for a due date
abbrev pub returned_fee : Option IssuedRow → Seen → Book → Option Cycle → Option Fee
returned_fee issued seen b None = None
returned_fee issued seen b (Some c) = penalty_fee issued seen b fee.Returned c

-- ---- Dispute and Resolve (12 CFR 1026.13)
-- the place of a charge
abbrev pub place_charged : Post → Option Place
place_charged (post.Charge _ place _) = Some place
place_charged _ = None

-- a charge
abbrev pub is_charge : Post → Bool
is_charge (post.Charge _ _ _) = true
is_charge _ = false

-- the charge with a number
abbrev pub charge_at : ℕ → List CorrectedPost → Option CorrectedPost
charge_at n posts = find (λ p. (p.number == n) && is_charge p.post) posts

-- the segment of a place on a day
abbrev pub place_segment : ℕ → List SegmentTerms → Option Place → ℕ
place_segment day all None = 2
place_segment day all (Some place) = segment_at place day all

-- the segment of a charge on its corrected day
abbrev pub charge_segment : List SegmentTerms → Option CorrectedPost → ℕ
charge_segment all None = 2
charge_segment all (Some p) = place_segment p.day all (place_charged p.post)

-- the corrected cents of a charge, 0 where there is none
abbrev pub corrected_cents : Option CorrectedPost → ℕ
corrected_cents None = 0
corrected_cents (Some p) = p.cents

-- the segment of the charge with a number
abbrev pub disputed_segment : Account → Seen → ℕ → ℕ
disputed_segment a seen charge = charge_segment (all_segments a seen) (charge_at charge seen.posts)

-- what a Dispute moves to Held: the least of the claim, the corrected charge and the balance of its segment
abbrev pub disputed_cents : Account → Seen → ℕ → ℕ → Book → ℕ
disputed_cents a seen charge claim b =
    min claim (min (corrected_cents (charge_at charge seen.posts)) (owing (disputed_segment a seen charge) b.entries))

-- an entry on Held of post n
abbrev pub is_held_by : ℕ → Entry → Bool
is_held_by n e = (e.post == n) && (e.segment == 1) && is_kind kind.Hold e.kind

-- what a Dispute moved to Held, as its entries tell it
abbrev pub moved_by : ℕ → List Entry → ℕ
moved_by n entries = at_least_zero (sum_of (is_held_by n) entries)

-- the charge that a Dispute names
abbrev pub disputed_charge : Option CorrectedPost → ℕ
disputed_charge None = 0
disputed_charge (Some p) = charge_disputed p.post

-- ---- Penalty (12 CFR 1026.9(g), .55(b)(4))
-- it begins 45 days after its day, where the account is sixty days late
abbrev pub penalized : Seen → Book → Book
penalized seen b =
    let begun = b.penalties ++ record { begins = seen.day + 45; last = None } ∷ [] in
    with_penalties (if sixty_days_late seen b.cycles then begun else b.penalties) b

-- ---- each post
-- what a post does to the book. Posts of the kinds that aren't named do nothing
unfoldable pub effect : Option IssuedRow → Account → Seen → CorrectedPost → Post → Book → Book
effect issued a seen p (post.Charge _ place _) b =
    with_entries (debit (note_of seen kind.Charge p.number) (segment_at place seen.day (all_segments a seen)) p.cents (credit_balance b.entries)) b
effect issued a seen p (post.Payment _ _ _ _) b =
    with_entries (parts_entries (note_of seen kind.Payment p.number) (payment_parts a seen p b)) b
effect issued a seen p (post.Credit _ place _) b =
    with_entries (parts_entries (note_of seen kind.Credit p.number) (credit_parts a seen p place b)) b
effect issued a seen p (post.Return _ target) b =
    with_fee a seen p.number (returned_fee issued seen b (meant_for b.cycles (payment_at target seen.posts))) (returned a seen p.number target b)
effect issued a seen p (post.Dispute _ target claim) b =
    with_entries (holds (note_of seen kind.Hold p.number) (disputed_segment a seen target) (disputed_cents a seen target claim b)) b
effect issued a seen p (post.Resolve _ target _) b =
    let g = disputed_segment a seen (disputed_charge (post_at target seen.posts)) in
    with_entries (releases (note_of seen kind.Hold p.number) g (moved_by target b.entries) (credit_balance b.entries)) b
effect issued a seen p (post.Refund _) b =
    with_entries (debit (note_of seen kind.Refund p.number) (newest_purchase a seen) p.cents (credit_balance b.entries)) b
effect issued a seen p post.Penalty b = penalized seen b
effect issued a seen p _ b = b

-- the posts of a day, in turn
unfoldable pub after_posts : Option IssuedRow → Account → Seen → List CorrectedPost → Book → Book
after_posts issued a seen [] b = b
after_posts issued a seen (p ∷ ps) b = after_posts issued a seen ps (effect issued a seen p p.post b)
