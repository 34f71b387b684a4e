-- The fold reads of a charge, a payment or a merchant's credit its corrected day and cents alone.
use Rattle.std.proofs.Common.{◌≡◌, ℕ, zero, suc, ◌+◌, ◌*◌, ◌-◌, Bool, true, false, cond, not, ◌&&◌, ◌||◌, eqb, List, [], ◌∷◌, ◌++◌, refl, sym, ap, ◌∙◌, Option, Some, None, pos, ◌-ℤ◌}
use Rattle.std.specs.Prelude.{map, min, nat_le, nat_lt}
use Rattle.std.specs.List.{filter, filter_map, find, list_all, list_any, sum_by}
use Rattle.std.specs.Option.{option_map}
use Rattle.std.proofs.lemmas.List.Sums.{sum_by-cons}
use Rattle.card_events.specs.Civil.{day_of_month}
use Rattle.card_events.specs.Money.{daily, interest}
use Rattle.card_events.specs.declared.anchor.Anchor.{Anchor}
use Rattle.card_events.specs.History.{CorrectedPost, anchor_of, charge_disputed, folded}
use Rattle.card_events.specs.SharedRows.{SharedRows}
use Rattle.card_events.specs.declared.kept.Kept.{Kept}
use Rattle.card_events.specs.declared.post.Place.{Place}
use Rattle.card_events.specs.declared.post.Post.{Post}
use Rattle.card_events.specs.declared.post.Post.TheVariants as post
use Rattle.card_model.proofs.Past.{same_books}
use Rattle.card_model.proofs.Unindexed.{filter_map-agree, map-agree, sum-agree}
use Rattle.card_model.specs.Allocation.{allocated, placed}
use Rattle.card_model.specs.Books.{Account, Book, account_of, all_segments, note_of, present_cycle, rate_in, with_all_entries, with_cycle, with_entries, with_penalties}
use Rattle.card_model.specs.Caps.{row_for}
use Rattle.card_model.specs.Closing.{Posting, ends_after, close, closed_cycle, closing_interest, first_day_of, grace_amount, minimum_of, minimum_payment, nonzero, net_balance, post_interest, post_one, posted_for, purchase_case_in}
use Rattle.card_model.specs.Cycles.{Cycle, IssuedRow, Seen, amount_at, amounts_sum, last_cycle, post_at, posts_on, seen_on}
use Rattle.card_model.specs.DueDates.{awaits_end, cured_by, due_after_day, on_due}
use Rattle.card_model.specs.Effects.{closing_from, disputed_cents, is_part_of, place_segment, put_back, size, after_posts, charge_at, charge_segment, corrected_cents, credit_parts, disputed_charge, disputed_segment, effect, holding, holdings, is_charge, meant_for, moved_by, parts_entries, payment_at, payment_parts, place_charged, returned, returned_fee}
use Rattle.card_model.specs.Entries.{at_least_zero, credit_balance, debit, holds, is_kind, owing, releases, sum_of}
use Rattle.card_model.specs.Fees.{fee_by, fee_cents, fees_in, fees_sum, late_fee, penalty_fee, with_fee}
use Rattle.card_model.specs.Folds.{book, book_after, day_after}
use Rattle.card_model.specs.Interest.{average_balance, accrual, case_of, charged, charged_on, cycle_before, cycle_interest, days_from, deferred_interest, half_up, interest_sum, is_repayment, purchase_case, repaid_after, row}
use Rattle.card_model.specs.Payments.{asked, asks, counted, credited, due_cycle_of, folded_before, has_due_payment, is_before, is_between, is_credit, is_met, is_paid, is_paid_if_any, is_payment, is_returned, met, minimum_left, owes_sixty_days, paid, past_due, returns, sixty_days_late}
use Rattle.card_model.specs.Rates.{Lowering, index_for, lowering_of, lowerings, rate_on, starts}
use Rattle.card_model.specs.Segments.{SegmentTerms, is_sort, newest, opening_vintages, segment_at, segment_of, segments}
use Rattle.card_model.specs.declared.entry.Entry.{Entry}
use Rattle.card_model.specs.declared.entry.EntryKind.TheVariants as kind
use Rattle.card_model.specs.declared.fee.Fee.{Fee}
use Rattle.card_model.specs.declared.fee.FeeKind.TheVariants as fee
use Rattle.card_model.specs.declared.segment.Sort.TheVariants as sort
use Rattle.card_model.specs.declared.segment.Interval.{Interval}
use Rattle.card_model.specs.declared.grace.GraceCase.{GraceCase}
use Rattle.card_model.specs.declared.grace.GraceCase.TheVariants as case
use Rattle.card_model.specs.declared.holding.Holding.{Holding}
use Rattle.card_rules.specs.CorrectedFacts.{CorrectedFactsAreEnough, SayTheSame, plain, plainly}

-- what may be seen, plainly
abbrev plain-seen : Seen → Seen
plain-seen seen = record { day = seen.day; posts = map plainly seen.posts; fees = seen.fees; index = seen.index; issued = seen.issued }

all-agree : {A : Type 0} (f g : A → Bool) → ((x : A) → f x ≡ g x) → (xs : List A) → list_all f xs ≡ list_all g xs
all-agree f g h [] = refl
all-agree f g h (x ∷ xs) = rw (h x, all-agree f g h xs) refl

any-agree : {A : Type 0} (f g : A → Bool) → ((x : A) → f x ≡ g x) → (xs : List A) → list_any f xs ≡ list_any g xs
any-agree f g h [] = refl
any-agree f g h (x ∷ xs) = rw (h x, any-agree f g h xs) refl

sum-plain : (f g : CorrectedPost → ℕ) → ((p : CorrectedPost) → f p ≡ g (plainly p)) → (ps : List CorrectedPost) → sum_by f ps ≡ sum_by g (map plainly ps)
sum-plain f g h [] = refl
sum-plain f g h (p ∷ ps) = sum_by-cons f p ps ∙ (rw (h p, sum-plain f g h ps) (sym (sum_by-cons g (plainly p) (map plainly ps))))

any-plain : (f g : CorrectedPost → Bool) → ((p : CorrectedPost) → f p ≡ g (plainly p)) → (ps : List CorrectedPost) → list_any f ps ≡ list_any g (map plainly ps)
any-plain f g h [] = refl
any-plain f g h (p ∷ ps) = rw (h p, any-plain f g h ps) refl

filter_map-plain : {B : Type 0} (f g : CorrectedPost → Option B) → ((p : CorrectedPost) → f p ≡ g (plainly p)) → (ps : List CorrectedPost) → filter_map f ps ≡ filter_map g (map plainly ps)
filter_map-plain f g h [] = refl
filter_map-plain f g h (p ∷ ps) = rw (h p, filter_map-plain f g h ps) refl

pub filter-plain : (f : CorrectedPost → Bool) → ((p : CorrectedPost) → f p ≡ f (plainly p)) → (ps : List CorrectedPost) → map plainly (filter f ps) ≡ filter f (map plainly ps)
filter-plain f h [] = refl
filter-plain f h (p ∷ ps) = by (f p) (f (plainly p)) (h p) (filter-plain f h ps)
  where
    by : (t u : Bool) → t ≡ u → map plainly (filter f ps) ≡ filter f (map plainly ps) → map plainly (cond t (p ∷ filter f ps) (filter f ps)) ≡ cond u (plainly p ∷ filter f (map plainly ps)) (filter f (map plainly ps))
    by true true e r = ap (λ qs. plainly p ∷ qs) r
    by false false e r = r
    by true false e r = absurd (cc)
    by false true e r = absurd (cc)

find-plain : (f g : CorrectedPost → Bool) → ((p : CorrectedPost) → f p ≡ g (plainly p)) → (ps : List CorrectedPost) → option_map plainly (find f ps) ≡ find g (map plainly ps)
find-plain f g h [] = refl
find-plain f g h (p ∷ ps) = by (f p) (g (plainly p)) (h p) (find-plain f g h ps)
  where
    by : (t u : Bool) → t ≡ u → option_map plainly (find f ps) ≡ find g (map plainly ps) → option_map plainly (cond t (Some p) (find f ps)) ≡ cond u (Some (plainly p)) (find g (map plainly ps))
    by true true e r = refl
    by false false e r = r
    by true false e r = absurd (cc)
    by false true e r = absurd (cc)

-- ---- what a post says of itself
payment-is : (p : Post) → is_payment p ≡ is_payment (plain p)
payment-is (post.Charge d q c) = refl
payment-is (post.Credit d q c) = refl
payment-is (post.Payment d m y c) = refl
payment-is (post.Return d t) = refl
payment-is (post.Open d t) = refl
payment-is (post.OpenVariable d t) = refl
payment-is (post.Plan d k r e f) = refl
payment-is (post.Notice d c r e) = refl
payment-is (post.Lower d c r) = refl
payment-is post.Penalty = refl
payment-is (post.Review d f) = refl
payment-is (post.Dispute d t c) = refl
payment-is (post.Ack d t) = refl
payment-is (post.Resolve d t c) = refl
payment-is (post.AskRefund d) = refl
payment-is (post.Refund c) = refl
payment-is (post.Amend t d c) = refl
payment-is (post.Bill c) = refl

credit-is : (p : Post) → is_credit p ≡ is_credit (plain p)
credit-is (post.Charge d q c) = refl
credit-is (post.Credit d q c) = refl
credit-is (post.Payment d m y c) = refl
credit-is (post.Return d t) = refl
credit-is (post.Open d t) = refl
credit-is (post.OpenVariable d t) = refl
credit-is (post.Plan d k r e f) = refl
credit-is (post.Notice d c r e) = refl
credit-is (post.Lower d c r) = refl
credit-is post.Penalty = refl
credit-is (post.Review d f) = refl
credit-is (post.Dispute d t c) = refl
credit-is (post.Ack d t) = refl
credit-is (post.Resolve d t c) = refl
credit-is (post.AskRefund d) = refl
credit-is (post.Refund c) = refl
credit-is (post.Amend t d c) = refl
credit-is (post.Bill c) = refl

charge-is : (p : Post) → is_charge p ≡ is_charge (plain p)
charge-is (post.Charge d q c) = refl
charge-is (post.Credit d q c) = refl
charge-is (post.Payment d m y c) = refl
charge-is (post.Return d t) = refl
charge-is (post.Open d t) = refl
charge-is (post.OpenVariable d t) = refl
charge-is (post.Plan d k r e f) = refl
charge-is (post.Notice d c r e) = refl
charge-is (post.Lower d c r) = refl
charge-is post.Penalty = refl
charge-is (post.Review d f) = refl
charge-is (post.Dispute d t c) = refl
charge-is (post.Ack d t) = refl
charge-is (post.Resolve d t c) = refl
charge-is (post.AskRefund d) = refl
charge-is (post.Refund c) = refl
charge-is (post.Amend t d c) = refl
charge-is (post.Bill c) = refl

returns-is : (n : ℕ) (p : Post) → returns n p ≡ returns n (plain p)
returns-is n (post.Charge d q c) = refl
returns-is n (post.Credit d q c) = refl
returns-is n (post.Payment d m y c) = refl
returns-is n (post.Return d t) = refl
returns-is n (post.Open d t) = refl
returns-is n (post.OpenVariable d t) = refl
returns-is n (post.Plan d k r e f) = refl
returns-is n (post.Notice d c r e) = refl
returns-is n (post.Lower d c r) = refl
returns-is n post.Penalty = refl
returns-is n (post.Review d f) = refl
returns-is n (post.Dispute d t c) = refl
returns-is n (post.Ack d t) = refl
returns-is n (post.Resolve d t c) = refl
returns-is n (post.AskRefund d) = refl
returns-is n (post.Refund c) = refl
returns-is n (post.Amend t d c) = refl
returns-is n (post.Bill c) = refl

segment-is : (id n : ℕ) (p : Post) → segment_of id n p ≡ segment_of id n (plain p)
segment-is id n (post.Charge d q c) = refl
segment-is id n (post.Credit d q c) = refl
segment-is id n (post.Payment d m y c) = refl
segment-is id n (post.Return d t) = refl
segment-is id n (post.Open d t) = refl
segment-is id n (post.OpenVariable d t) = refl
segment-is id n (post.Plan d k r e f) = refl
segment-is id n (post.Notice d c r e) = refl
segment-is id n (post.Lower d c r) = refl
segment-is id n post.Penalty = refl
segment-is id n (post.Review d f) = refl
segment-is id n (post.Dispute d t c) = refl
segment-is id n (post.Ack d t) = refl
segment-is id n (post.Resolve d t c) = refl
segment-is id n (post.AskRefund d) = refl
segment-is id n (post.Refund c) = refl
segment-is id n (post.Amend t d c) = refl
segment-is id n (post.Bill c) = refl

lowering-is : (p : Post) → lowering_of p ≡ lowering_of (plain p)
lowering-is (post.Charge d q c) = refl
lowering-is (post.Credit d q c) = refl
lowering-is (post.Payment d m y c) = refl
lowering-is (post.Return d t) = refl
lowering-is (post.Open d t) = refl
lowering-is (post.OpenVariable d t) = refl
lowering-is (post.Plan d k r e f) = refl
lowering-is (post.Notice d c r e) = refl
lowering-is (post.Lower d c r) = refl
lowering-is post.Penalty = refl
lowering-is (post.Review d f) = refl
lowering-is (post.Dispute d t c) = refl
lowering-is (post.Ack d t) = refl
lowering-is (post.Resolve d t c) = refl
lowering-is (post.AskRefund d) = refl
lowering-is (post.Refund c) = refl
lowering-is (post.Amend t d c) = refl
lowering-is (post.Bill c) = refl

place-is : (p : Post) → place_charged p ≡ place_charged (plain p)
place-is (post.Charge d q c) = refl
place-is (post.Credit d q c) = refl
place-is (post.Payment d m y c) = refl
place-is (post.Return d t) = refl
place-is (post.Open d t) = refl
place-is (post.OpenVariable d t) = refl
place-is (post.Plan d k r e f) = refl
place-is (post.Notice d c r e) = refl
place-is (post.Lower d c r) = refl
place-is post.Penalty = refl
place-is (post.Review d f) = refl
place-is (post.Dispute d t c) = refl
place-is (post.Ack d t) = refl
place-is (post.Resolve d t c) = refl
place-is (post.AskRefund d) = refl
place-is (post.Refund c) = refl
place-is (post.Amend t d c) = refl
place-is (post.Bill c) = refl

disputed-is : (p : Post) → charge_disputed p ≡ charge_disputed (plain p)
disputed-is (post.Charge d q c) = refl
disputed-is (post.Credit d q c) = refl
disputed-is (post.Payment d m y c) = refl
disputed-is (post.Return d t) = refl
disputed-is (post.Open d t) = refl
disputed-is (post.OpenVariable d t) = refl
disputed-is (post.Plan d k r e f) = refl
disputed-is (post.Notice d c r e) = refl
disputed-is (post.Lower d c r) = refl
disputed-is post.Penalty = refl
disputed-is (post.Review d f) = refl
disputed-is (post.Dispute d t c) = refl
disputed-is (post.Ack d t) = refl
disputed-is (post.Resolve d t c) = refl
disputed-is (post.AskRefund d) = refl
disputed-is (post.Refund c) = refl
disputed-is (post.Amend t d c) = refl
disputed-is (post.Bill c) = refl

-- ---- what is read off the list
returned-is : (ps : List CorrectedPost) (to n : ℕ) → is_returned ps to n ≡ is_returned (map plainly ps) to n
returned-is ps to n = any-plain (λ p. returns n p.post && nat_le p.day to) (λ p. returns n p.post && nat_le p.day to) (λ p. ap (λ t. t && nat_le p.day to) (returns-is n p.post)) ps

counted-is : (ps : List CorrectedPost) (from to : ℕ) → counted ps from to ≡ counted (map plainly ps) from to
unfolding counted
counted-is ps from to =
    sum-plain (λ p. cond (is_payment p.post && is_between from to p && not (is_returned ps to p.number)) p.cents 0)
    (λ p. cond (is_payment p.post && is_between from to p && not (is_returned (map plainly ps) to p.number)) p.cents 0)
    (λ p. let a = payment-is p.post in let b = returned-is ps to p.number in rw (a, b) refl) ps

credited-is : (ps : List CorrectedPost) (from to : ℕ) → credited ps from to ≡ credited (map plainly ps) from to
unfolding credited
credited-is ps from to =
    sum-plain (λ p. cond (is_credit p.post && is_between from to p) p.cents 0) (λ p. cond (is_credit p.post && is_between from to p) p.cents 0) (λ p. let a = credit-is p.post in rw a refl) ps

segments-is : (a : Account) (seen : Seen) → all_segments a seen ≡ all_segments a (plain-seen seen)
unfolding segments
segments-is a seen =
    ap (λ gs. opening_vintages a.anchor.opened a.terms ++ gs)
    (filter_map-plain (λ p. segment_of p.segment p.number p.post) (λ p. segment_of p.segment p.number p.post) (λ p. segment-is p.segment p.number p.post) seen.posts)

lowerings-is : (ps : List CorrectedPost) → lowerings ps ≡ lowerings (map plainly ps)
unfolding lowerings
lowerings-is ps = filter_map-plain (λ p. lowering_of p.post) (λ p. lowering_of p.post) (λ p. lowering-is p.post) ps

before-is : (day n : ℕ) (ps : List CorrectedPost) → map plainly (folded_before day n ps) ≡ folded_before day n (map plainly ps)
before-is day n ps = filter-plain (λ q. is_before day n q.day q.number) (λ q. refl) ps

posts-on-is : (seen : Seen) → map plainly (posts_on seen) ≡ posts_on (plain-seen seen)
posts-on-is seen = filter-plain (λ p. eqb p.day seen.day) (λ p. refl) seen.posts

payment-at-is : (n : ℕ) (ps : List CorrectedPost) → option_map plainly (payment_at n ps) ≡ payment_at n (map plainly ps)
payment-at-is n ps = find-plain (λ p. eqb p.number n && is_payment p.post) (λ p. eqb p.number n && is_payment p.post) (λ p. ap (λ t. eqb p.number n && t) (payment-is p.post)) ps

charge-at-is : (n : ℕ) (ps : List CorrectedPost) → option_map plainly (charge_at n ps) ≡ charge_at n (map plainly ps)
charge-at-is n ps = find-plain (λ p. eqb p.number n && is_charge p.post) (λ p. eqb p.number n && is_charge p.post) (λ p. ap (λ t. eqb p.number n && t) (charge-is p.post)) ps

post-at-is : (n : ℕ) (ps : List CorrectedPost) → option_map plainly (post_at n ps) ≡ post_at n (map plainly ps)
post-at-is n ps = find-plain (λ p. eqb p.number n) (λ p. eqb p.number n) (λ p. refl) ps

-- ---- due dates
met-is : (seen : Seen) (c : Cycle) → met seen c ≡ met (plain-seen seen) c
unfolding is_met
met-is seen c = ap (λ n. nat_le (asks (due_cycle_of seen.issued c)) n) (counted-is seen.posts (c.closing + 1) c.due)

paid-is : (seen : Seen) (c : Cycle) → paid seen c ≡ paid (plain-seen seen) c
unfolding is_paid
paid-is seen c =
    let a = counted-is seen.posts (c.closing + 1) c.due in
    let b = credited-is seen.posts (c.closing + 1) c.due in
    ap (λ n. not (has_due_payment seen.issued c) || nat_le c.grace_amount (n + credited seen.posts (c.closing + 1) c.due)) a
    ∙ ap (λ n. not (has_due_payment seen.issued c) || nat_le c.grace_amount (counted (map plainly seen.posts) (c.closing + 1) c.due + n)) b

abbrev paid_if_any : Seen → Option Cycle → Bool
paid_if_any seen o = is_paid_if_any seen.posts (option_map (due_cycle_of seen.issued) o)

paid-any-is : (seen : Seen) (c : Option Cycle) → paid_if_any seen c ≡ paid_if_any (plain-seen seen) c
paid-any-is seen None = refl
paid-any-is seen (Some c) = paid-is seen c

past-is : (seen : Seen) (closing : ℕ) (c : Option Cycle) → past_due seen closing c ≡ past_due (plain-seen seen) closing c
past-is seen closing None = refl
past-is seen closing (Some c) = ap (λ n. asked seen.issued (Some c) - n) (counted-is seen.posts (c.closing + 1) closing)

sixty-is : (seen : Seen) (cycles : List Cycle) → sixty_days_late seen cycles ≡ sixty_days_late (plain-seen seen) cycles
unfolding sixty_days_late
sixty-is seen cycles =
    any-agree (owes_sixty_days seen) (owes_sixty_days (plain-seen seen))
    (λ c. ap (λ n. nat_lt (c.due + 60) seen.day && nat_lt n (asks (due_cycle_of seen.issued c))) (counted-is seen.posts (c.closing + 1) seen.day)) cycles

left-is : (seen : Seen) (p : CorrectedPost) (c : Option Cycle) → minimum_left seen p c ≡ minimum_left (plain-seen seen) (plainly p) c
left-is seen p None = refl
left-is seen p (Some c) =
    ap (λ n. asked seen.issued (Some c) - n)
    (counted-is (folded_before seen.day p.number seen.posts) (c.closing + 1) seen.day ∙ ap (λ ps. counted ps (c.closing + 1) seen.day) (before-is seen.day p.number seen.posts))

case-is : (seen : Seen) (cycles : List Cycle) (c : Option Cycle) → purchase_case seen cycles c ≡ purchase_case (plain-seen seen) cycles c
case-is seen cycles None = refl
case-is seen cycles (Some c) =
    ap (λ t. cond t (cond (paid seen c) case.None (case.Lowered c.due)) case.Plain) (paid-any-is seen (cycle_before cycles c))
    ∙ ap (λ u. cond (paid_if_any (plain-seen seen) (cycle_before cycles c)) (cond u case.None (case.Lowered c.due)) case.Plain) (paid-is seen c)

cured-is : (seen : Seen) (cycles : List Cycle) (due : ℕ) (i : Interval) → cured_by seen cycles due i ≡ cured_by (plain-seen seen) cycles due i
cured-is seen cycles due i =
    ap (λ t. cond (awaits_end cycles i && t) (record { begins = i.begins; last = Some due }) i)
    (all-agree (met seen) (met (plain-seen seen)) (met-is seen) (due_after_day i.begins cycles))

-- ---- fees
abbrev fee-on : Book → Seen → ℕ → Fee → List SegmentTerms → Book
fee-on b seen n f gs =
    record {
      entries = b.entries ++ debit (note_of seen kind.Fee n) (newest sort.Purchase seen.day gs) (fee_cents f) (credit_balance b.entries);
      cycles = b.cycles;
      fees = b.fees ++ f ∷ [];
      penalties = b.penalties;
    }

fee-is : (a : Account) (seen : Seen) (n : ℕ) (f : Option Fee) (b : Book) → with_fee a seen n f b ≡ with_fee a (plain-seen seen) n f b
fee-is a seen n None b = refl
fee-is a seen n (Some f) b = ap (fee-on b seen n f) (segments-is a seen)

due-is : (row : Option IssuedRow) (a : Account) (seen : Seen) (b : Book) (c : Option Cycle) → on_due row a seen b c ≡ on_due row a (plain-seen seen) b c
unfolding on_due fee_by
due-is row a seen b None = refl
due-is row a seen b (Some c) =
    ap (λ (ps : List Interval). cond (eqb seen.day (c.due + 1)) (with_penalties ps (with_fee a seen 0 (late_fee row seen b c) b)) b)
    (map-agree (cured_by seen b.cycles c.due) (cured_by (plain-seen seen) b.cycles c.due) (cured-is seen b.cycles c.due) b.penalties)
    ∙ (ap (λ (t : Bool). cond (eqb seen.day (c.due + 1)) (with_penalties (map (cured_by (plain-seen seen) b.cycles c.due) b.penalties) (with_fee a seen 0 (cond t None (penalty_fee row seen b fee.Late c)) b)) b) (met-is seen c)
    ∙ ap (λ (x : Book). cond (eqb seen.day (c.due + 1)) (with_penalties (map (cured_by (plain-seen seen) b.cycles c.due) b.penalties) x) b)
    (fee-is a seen 0 (cond (met (plain-seen seen) c) None (penalty_fee row seen b fee.Late c)) b))

returned-fee-is : (row : Option IssuedRow) (seen : Seen) (b : Book) (c : Option Cycle) → returned_fee row seen b c ≡ returned_fee row (plain-seen seen) b c
unfolding fee_by
returned-fee-is row seen b None = refl
returned-fee-is row seen b (Some c) = refl

meant-is : (cycles : List Cycle) (o : Option CorrectedPost) → meant_for cycles o ≡ meant_for cycles (option_map plainly o)
meant-is cycles None = refl
meant-is cycles (Some p) = refl

-- ---- rates and parts
rate-is : (a : Account) (seen : Seen) (b : Book) (day : ℕ) (g : SegmentTerms) → rate_in a seen b day g ≡ rate_in a (plain-seen seen) b day g
rate-is a seen b day g =
    ap (λ (ls : List Lowering). rate_on (index_for a.variable seen.index day) ls a.terms.penalty (starts day b.penalties) (all_segments a seen) day g) (lowerings-is seen.posts)
    ∙ ap (λ (gs : List SegmentTerms). rate_on (index_for a.variable seen.index day) (lowerings (map plainly seen.posts)) a.terms.penalty (starts day b.penalties) gs day g) (segments-is a seen)

holding-is : (a : Account) (seen : Seen) (b : Book) (place : Option Place) (g : SegmentTerms) → holding a seen b place g ≡ holding a (plain-seen seen) b place g
holding-is a seen b place g = rw (rate-is a seen b seen.day g) refl

holdings-is : (a : Account) (seen : Seen) (b : Book) (place : Option Place) → holdings a seen b place ≡ holdings a (plain-seen seen) b place
holdings-is a seen b place =
    map-agree (holding a seen b place) (holding a (plain-seen seen) b place) (holding-is a seen b place) (all_segments a seen)
    ∙ ap (λ (gs : List SegmentTerms). map (holding a (plain-seen seen) b place) gs) (segments-is a seen)

payment-parts-is : (a : Account) (seen : Seen) (p : CorrectedPost) (b : Book) → payment_parts a seen p b ≡ payment_parts a (plain-seen seen) (plainly p) b
unfolding payment_parts
payment-parts-is a seen p b =
    ap (λ (left : ℕ). allocated (min p.cents left) p.cents (holdings a seen b None)) (left-is seen p (last_cycle b.cycles))
    ∙ ap (λ (hs : List Holding). allocated (min p.cents (minimum_left (plain-seen seen) (plainly p) (last_cycle b.cycles))) p.cents hs) (holdings-is a seen b None)

credit-parts-is : (a : Account) (seen : Seen) (p : CorrectedPost) (place : Place) (b : Book) → credit_parts a seen p place b ≡ credit_parts a (plain-seen seen) (plainly p) place b
unfolding credit_parts
credit-parts-is a seen p place b = ap (λ (hs : List Holding). placed p.cents hs) (holdings-is a seen b (Some place))

-- ---- disputes
charge-segment-is : (gs : List SegmentTerms) (o : Option CorrectedPost) → charge_segment gs o ≡ charge_segment gs (option_map plainly o)
charge-segment-is gs None = refl
charge-segment-is gs (Some p) = ap (place_segment p.day gs) (place-is p.post)

disputed-segment-is : (a : Account) (seen : Seen) (charge : ℕ) → disputed_segment a seen charge ≡ disputed_segment a (plain-seen seen) charge
disputed-segment-is a seen charge =
    charge-segment-is (all_segments a seen) (charge_at charge seen.posts)
    ∙ (ap (charge_segment (all_segments a seen)) (charge-at-is charge seen.posts)
    ∙ ap (λ (gs : List SegmentTerms). charge_segment gs (charge_at charge (map plainly seen.posts))) (segments-is a seen))

cents-is : (o : Option CorrectedPost) → corrected_cents o ≡ corrected_cents (option_map plainly o)
cents-is None = refl
cents-is (Some p) = refl

disputed-cents-is : (a : Account) (seen : Seen) (charge claim : ℕ) (b : Book) → disputed_cents a seen charge claim b ≡ disputed_cents a (plain-seen seen) charge claim b
disputed-cents-is a seen charge claim b =
    ap (λ (n : ℕ). min claim (min n (owing (disputed_segment a seen charge) b.entries))) (cents-is (charge_at charge seen.posts) ∙ ap corrected_cents (charge-at-is charge seen.posts))
    ∙ ap (λ (s : ℕ). min claim (min (corrected_cents (charge_at charge (map plainly seen.posts))) (owing s b.entries))) (disputed-segment-is a seen charge)

disputed-charge-is : (o : Option CorrectedPost) → disputed_charge o ≡ disputed_charge (option_map plainly o)
disputed-charge-is None = refl
disputed-charge-is (Some p) = disputed-is p.post

-- ---- posts
effect-is : (row : Option IssuedRow) (a : Account) (seen : Seen) (p : CorrectedPost) (q : Post) (b : Book) → effect row a seen p q b ≡ effect row a (plain-seen seen) (plainly p) (plain q) b
unfolding effect
effect-is row a seen p (post.Charge d place c) b =
    ap (λ (gs : List SegmentTerms). with_entries (debit (note_of seen kind.Charge p.number) (segment_at place seen.day gs) p.cents (credit_balance b.entries)) b) (segments-is a seen)
effect-is row a seen p (post.Payment d m y c) b = ap (λ (xs : List (ℕ × ℕ)). with_entries (parts_entries (note_of seen kind.Payment p.number) xs) b) (payment-parts-is a seen p b)
effect-is row a seen p (post.Credit d place c) b = ap (λ (xs : List (ℕ × ℕ)). with_entries (parts_entries (note_of seen kind.Credit p.number) xs) b) (credit-parts-is a seen p place b)
effect-is row a seen p (post.Return d target) b =
    let o = payment_at target seen.posts in
    let q = payment_at target (map plainly seen.posts) in
    let cs = meant-is b.cycles o ∙ ap (meant_for b.cycles) (payment-at-is target seen.posts) in
    ap (λ (c : Option Cycle). with_fee a seen p.number (returned_fee row seen b c) (returned a seen p.number target b)) cs
    ∙ (ap (λ (f : Option Fee). with_fee a seen p.number f (returned a seen p.number target b)) (returned-fee-is row seen b (meant_for b.cycles q))
    ∙ (ap (λ (gs : List SegmentTerms). with_fee a seen p.number (returned_fee row (plain-seen seen) b (meant_for b.cycles q)) (with_all_entries (put_back (note_of seen kind.Return p.number) (newest sort.Purchase seen.day gs) (filter (is_part_of target) b.entries) b.entries) b)) (segments-is a seen)
    ∙ fee-is a seen p.number (returned_fee row (plain-seen seen) b (meant_for b.cycles q)) (returned a (plain-seen seen) p.number target b)))
effect-is row a seen p (post.Dispute d target claim) b =
    ap (λ (s : ℕ). with_entries (holds (note_of seen kind.Hold p.number) s (disputed_cents a seen target claim b)) b) (disputed-segment-is a seen target)
    ∙ ap (λ (n : ℕ). with_entries (holds (note_of seen kind.Hold p.number) (disputed_segment a (plain-seen seen) target) n) b) (disputed-cents-is a seen target claim b)
effect-is row a seen p (post.Resolve d target c) b =
    ap (λ (n : ℕ). with_entries (releases (note_of seen kind.Hold p.number) (disputed_segment a seen n) (moved_by target b.entries) (credit_balance b.entries)) b)
    (disputed-charge-is (post_at target seen.posts) ∙ ap disputed_charge (post-at-is target seen.posts))
    ∙ ap (λ (s : ℕ). with_entries (releases (note_of seen kind.Hold p.number) s (moved_by target b.entries) (credit_balance b.entries)) b)
    (disputed-segment-is a seen (disputed_charge (post_at target (map plainly seen.posts))))
effect-is row a seen p (post.Refund c) b =
    ap (λ (gs : List SegmentTerms). with_entries (debit (note_of seen kind.Refund p.number) (newest sort.Purchase seen.day gs) p.cents (credit_balance b.entries)) b) (segments-is a seen)
effect-is row a seen p post.Penalty b =
    ap (λ (t : Bool). with_penalties (cond t (b.penalties ++ record { begins = seen.day + 45; last = None } ∷ []) b.penalties) b) (sixty-is seen b.cycles)
effect-is row a seen p (post.Open d t) b = refl
effect-is row a seen p (post.OpenVariable d t) b = refl
effect-is row a seen p (post.Plan d k r e f) b = refl
effect-is row a seen p (post.Notice d c r e) b = refl
effect-is row a seen p (post.Lower d c r) b = refl
effect-is row a seen p (post.Review d f) b = refl
effect-is row a seen p (post.Ack d t) b = refl
effect-is row a seen p (post.AskRefund d) b = refl
effect-is row a seen p (post.Amend t d c) b = refl
effect-is row a seen p (post.Bill c) b = refl

posts-is : (row : Option IssuedRow) (a : Account) (seen : Seen) (ps : List CorrectedPost) (b : Book) → after_posts row a seen ps b ≡ after_posts row a (plain-seen seen) (map plainly ps) b
unfolding after_posts
posts-is row a seen [] b = refl
posts-is row a seen (p ∷ ps) b =
    posts-is row a seen ps (effect row a seen p p.post b)
    ∙ ap (after_posts row a (plain-seen seen) (map plainly ps)) (effect-is row a seen p p.post b)

-- ---- interest
sum_of-agree : (f g : Entry → Bool) → ((e : Entry) → f e ≡ g e) → (es : List Entry) → sum_of f es ≡ sum_of g es
sum_of-agree f g h [] = refl
sum_of-agree f g h (e ∷ es) = rw (h e, sum_of-agree f g h es) refl

repayment-is : (seen : Seen) (e : Entry) → is_repayment seen e ≡ is_repayment (plain-seen seen) e
repayment-is seen e = ap (λ t. is_kind kind.Credit e.kind || (is_kind kind.Payment e.kind && not t)) (returned-is seen.posts seen.day e.post)

repaid-is : (seen : Seen) (entries : List Entry) (s day due : ℕ) → repaid_after seen entries s day due ≡ repaid_after (plain-seen seen) entries s day due
repaid-is seen entries s day due =
    ap size
    (sum_of-agree (λ e. eqb e.segment s && is_repayment seen e && nat_lt day e.day && nat_le e.day due) (λ e. eqb e.segment s && is_repayment (plain-seen seen) e && nat_lt day e.day && nat_le e.day due)
    (λ e. ap (λ t. eqb e.segment s && t && nat_lt day e.day && nat_le e.day due) (repayment-is seen e)) entries)

charged-is : (k : GraceCase) (seen : Seen) (entries : List Entry) (s day : ℕ) → charged k seen entries s day ≡ charged k (plain-seen seen) entries s day
charged-is case.None seen entries s day = refl
charged-is (case.Lowered due) seen entries s day = ap (λ n. row entries s day - n) (repaid-is seen entries s day due)
charged-is case.Plain seen entries s day = refl

average-is : (seen : Seen) (b : Book) (k : GraceCase) (first : ℕ) (g : SegmentTerms) → average_balance seen b k first g ≡ average_balance (plain-seen seen) b k first g
unfolding average_balance
average-is seen b k first g =
    ap (λ (total : ℕ). half_up total (seen.day + 1 - first))
    (sum-agree (charged_on seen b k g) (charged_on (plain-seen seen) b k g) (λ day. charged-is (case_of k day g) seen b.entries g.id day) (days_from seen first))

deferred-is : (seen : Seen) (b : Book) (g : SegmentTerms) → deferred_interest seen b g ≡ deferred_interest (plain-seen seen) b g
unfolding accrual
deferred-is seen b g = refl

interest-is : (a : Account) (seen : Seen) (k : GraceCase) (first : ℕ) (b : Book) (g : SegmentTerms) → cycle_interest a seen k first b g ≡ cycle_interest a (plain-seen seen) k first b g
unfolding interest_sum
interest-is a seen k first b g =
    ap interest
    (sum-agree (λ day. charged_on seen b k g day * daily (rate_in a seen b day g)) (λ day. charged_on (plain-seen seen) b k g day * daily (rate_in a (plain-seen seen) b day g))
    (λ day. ap (λ (n : ℕ). n * daily (rate_in a seen b day g)) (charged-is (case_of k day g) seen b.entries g.id day)
    ∙ ap (λ (r : ℕ). charged_on (plain-seen seen) b k g day * daily r) (rate-is a seen b day g)) (days_from seen first))

posted-is : (row : Option IssuedRow) (seen : Seen) (f h : Book → SegmentTerms → ℕ) → ((b : Book) (g : SegmentTerms) → f b g ≡ h b g) → (gs : List SegmentTerms) (p : Posting)
    → post_interest row seen f gs p ≡ post_interest row (plain-seen seen) h gs p
unfolding post_interest
posted-is row seen f h agree [] p = refl
posted-is row seen f h agree (g ∷ gs) p =
    posted-is row seen f h agree gs (post_one seen g (posted_for row f g p) p)
    ∙ rw (agree p.book g) refl

closing-interest-is : (row : Option IssuedRow) (a : Account) (seen : Seen) (b : Book) → closing_interest row a seen b ≡ closing_interest row a (plain-seen seen) b
unfolding closing_interest
closing-interest-is row a seen b =
    let start : Posting = record { amounts = []; book = b } in
    let gs = all_segments a seen in
    let k = purchase_case_in seen b in
    let l = purchase_case_in (plain-seen seen) b in
    let first = first_day_of a b in
    let same : k ≡ l = case-is seen b.cycles (last_cycle b.cycles) in
    let cycle =
    posted-is row seen (cycle_interest a seen k first) (cycle_interest a (plain-seen seen) k first) (λ b g. interest-is a seen k first b g) gs start
    ∙ ap (λ (m : GraceCase). post_interest row (plain-seen seen) (cycle_interest a (plain-seen seen) m first) gs start) same in
    posted-is row seen (deferred_interest seen) (deferred_interest (plain-seen seen)) (deferred-is seen) gs (post_interest row seen (cycle_interest a seen k first) gs start)
    ∙ (ap (post_interest row (plain-seen seen) (deferred_interest (plain-seen seen)) gs) cycle
    ∙ ap (λ (vs : List SegmentTerms). post_interest row (plain-seen seen) (deferred_interest (plain-seen seen)) vs (post_interest row (plain-seen seen) (cycle_interest a (plain-seen seen) l first) vs start)) (segments-is a seen))

-- ---- the closing
minimum-is : (a : Account) (seen : Seen) (b : Book) (p : Posting) → minimum_payment a seen b p ≡ minimum_payment a (plain-seen seen) b p
unfolding minimum_payment
minimum-is a seen b p =
    ap (λ (late : ℕ). minimum_of (net_balance p.book.entries) a.terms.floor a.terms.pct (amounts_sum p.amounts + fees_sum (fees_in (present_cycle b) b.fees)) late)
    (past-is seen seen.day (last_cycle b.cycles))

grace-is : (a : Account) (seen : Seen) (p : Posting) → grace_amount a seen p ≡ grace_amount a (plain-seen seen) p
unfolding grace_amount
grace-is a seen p =
    ap (λ (gs : List SegmentTerms). at_least_zero (net_balance p.book.entries -ℤ pos (sum_by (λ g. cond (is_sort sort.Deferred g.sort && ends_after (closing_from a (seen.day + 1)) g.ends) (owing g.id p.book.entries) 0) gs)))
    (segments-is a seen)

averages-is : (a : Account) (seen : Seen) (b : Book) → filter_map (nonzero (average_balance seen b (purchase_case_in seen b) (first_day_of a b))) (all_segments a seen)
    ≡ filter_map (nonzero (average_balance (plain-seen seen) b (purchase_case_in (plain-seen seen) b) (first_day_of a b))) (all_segments a (plain-seen seen))
averages-is a seen b =
    let k = purchase_case_in seen b in
    let first = first_day_of a b in
    filter_map-agree (nonzero (average_balance seen b k first)) (nonzero (average_balance (plain-seen seen) b k first))
    (λ g. ap (λ (x : ℕ). cond (eqb x 0) None (Some (g.id, x))) (average-is seen b k first g)) (all_segments a seen)
    ∙ (ap (λ (m : GraceCase). filter_map (nonzero (average_balance (plain-seen seen) b m first)) (all_segments a seen)) (case-is seen b.cycles (last_cycle b.cycles))
    ∙ ap (λ (gs : List SegmentTerms). filter_map (nonzero (average_balance (plain-seen seen) b (purchase_case_in (plain-seen seen) b) first)) gs) (segments-is a seen))

amounts-are : (a : Account) (seen : Seen) (p : Posting) → filter_map (nonzero (λ g. amount_at g.id p.amounts)) (all_segments a seen) ≡ filter_map (nonzero (λ g. amount_at g.id p.amounts)) (all_segments a (plain-seen seen))
amounts-are a seen p = ap (λ (gs : List SegmentTerms). filter_map (nonzero (λ g. amount_at g.id p.amounts)) gs) (segments-is a seen)

cycle-is : (row : Option IssuedRow) (a : Account) (seen : Seen) (b : Book) (p : Posting) → closed_cycle row a seen b p ≡ closed_cycle row a (plain-seen seen) b p
cycle-is row a seen b p = rw (averages-is a seen b, amounts-are a seen p, minimum-is a seen b p, grace-is a seen p) refl

close-is : (row : Option IssuedRow) (a : Account) (seen : Seen) (b : Book) → close row a seen b ≡ close row a (plain-seen seen) b
unfolding close
close-is row a seen b =
    ap (λ (p : Posting). with_all_entries p.book.entries (with_cycle (closed_cycle row a seen b p) b)) (closing-interest-is row a seen b)
    ∙ ap (λ (c : Cycle). with_all_entries (closing_interest row a (plain-seen seen) b).book.entries (with_cycle c b)) (cycle-is row a seen b (closing_interest row a (plain-seen seen) b))

day-is : (row : Option IssuedRow) (a : Account) (seen : Seen) (b : Book) → day_after row a seen b ≡ day_after row a (plain-seen seen) b
unfolding day_after
day-is row a seen b =
    let due = on_due row a seen b (last_cycle b.cycles) in
    let later = on_due row a (plain-seen seen) b (last_cycle b.cycles) in
    let posted : after_posts row a seen (posts_on seen) due ≡ after_posts row a (plain-seen seen) (posts_on (plain-seen seen)) later =
    posts-is row a seen (posts_on seen) due
    ∙ (ap (λ (ps : List CorrectedPost). after_posts row a (plain-seen seen) ps due) (posts-on-is seen)
    ∙ ap (after_posts row a (plain-seen seen) (posts_on (plain-seen seen))) (due-is row a seen b (last_cycle b.cycles))) in
    ap (λ (x : Book). cond (eqb (day_of_month seen.day) a.anchor.close_day) (close row a seen x) x) posted
    ∙ ap (λ (x : Book). cond (eqb (day_of_month seen.day) a.anchor.close_day) x (after_posts row a (plain-seen seen) (posts_on (plain-seen seen)) later))
    (close-is row a seen (after_posts row a (plain-seen seen) (posts_on (plain-seen seen)) later))

fold-is : (rows : List IssuedRow) (a : Account) (seen : ℕ → Seen) (n : ℕ) → book_after rows a seen n ≡ book_after rows a (λ d. plain-seen (seen d)) n
unfolding book_after
fold-is rows a seen zero = refl
fold-is rows a seen (suc n) =
    let before = book_after rows a seen n in
    day-is (row_for (present_cycle before) rows) a (seen (a.anchor.opened + n)) before
    ∙ ap (λ (x : Book). day_after (row_for (present_cycle x) rows) a (plain-seen (seen (a.anchor.opened + n))) x) (fold-is rows a seen n)

-- ---- two histories
abbrev plain-of : ℕ → List IssuedRow → SharedRows → List CorrectedPost → Seen
plain-of d issued shared ps =
    record {
      day = d;
      posts = ps;
      fees = filter (λ r. nat_le r.day d) shared.fees;
      index = filter (λ r. nat_le r.day d) shared.index;
      issued = filter (λ r. nat_lt r.day d) issued;
    }

views-are : (history other : List Kept) (issued : List IssuedRow) (shared : SharedRows) → SayTheSame shared history other → (d : ℕ)
    → plain-seen (seen_on (anchor_of other) shared other issued d) ≡ plain-seen (seen_on (anchor_of history) shared history issued d)
views-are history other issued shared h d =
    ap (λ (ps : List CorrectedPost). plain-of d issued shared ps)
    (filter-plain (λ p. nat_le p.day d) (λ p. refl) (folded (anchor_of other) shared.holidays other)
    ∙ (ap (filter (λ (p : CorrectedPost). nat_le p.day d)) h.posts
    ∙ sym (filter-plain (λ p. nat_le p.day d) (λ p. refl) (folded (anchor_of history) shared.holidays history))))

pub corrected_facts_are_enough : CorrectedFactsAreEnough
unfolding book
corrected_facts_are_enough history other issued shared day h =
    fold-is issued (account_of other) (seen_on (anchor_of other) shared other issued) (day + 1 - (anchor_of other).opened)
    ∙ (same_books issued (account_of other) (account_of history) (λ d. plain-seen (seen_on (anchor_of other) shared other issued d)) (λ d. plain-seen (seen_on (anchor_of history) shared history issued d)) _ _ account days
    (λ k below. views-are history other issued shared h ((anchor_of history).opened + k))
    ∙ sym (fold-is issued (account_of history) (seen_on (anchor_of history) shared history issued) (day + 1 - (anchor_of history).opened)))
  where
    account : account_of other ≡ account_of history
    account = let a = h.anchor in let t = h.terms in let v = h.variable in cc

    days : day + 1 - (anchor_of other).opened ≡ day + 1 - (anchor_of history).opened
    days = ap (λ (a : Anchor). day + 1 - a.opened) h.anchor
