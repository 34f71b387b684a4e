-- The entries of a payment come to its cents.
use Rattle.std.proofs.Common.{◌≡◌, ℕ, zero, suc, ◌+◌, ◌-◌, ◌≤◌, Bool, true, false, cond, ◌&&◌, eqb, leb, ltb, List, [], ◌∷◌, ◌++◌, refl, ap, ◌∙◌, arith, Option, Some, None, ℤ, pos, negsuc, ◌+ℤ◌}
use Rattle.std.proofs.lemmas.Bool.Decides.{nat_tests}
use Rattle.std.proofs.lemmas.Int.{ints}
use Rattle.std.proofs.lemmas.List.Sums.{sum_by-cons}
use Rattle.std.specs.List.{filter, sum_by}
use Rattle.card_model.proofs.Unindexed.{sum-agree}
use Rattle.card_bounds.proofs.Reached.{no-part}
use Rattle.card_events.specs.Civil.{day_of_month}
use Rattle.card_events.specs.History.{CorrectedPost, anchor_of, corrected, folded, is_folded}
use Rattle.card_events.specs.SharedRows.{SharedRows}
use Rattle.card_events.specs.declared.kept.Kept.{Kept}
use Rattle.card_events.specs.declared.post.Post.{Post}
use Rattle.card_events.specs.declared.post.Post.TheVariants as post
use Rattle.card_model.proofs.EntryFacts.{all-debit, all-holds, all-parts, all-releases}
use Rattle.card_model.proofs.PartsSum.{SegmentsAscend}
use Rattle.card_model.proofs.Posted.{sum_of-append}
use Rattle.card_model.specs.Books.{Account, Book, account_of, all_segments, present_cycle}
use Rattle.card_model.specs.Caps.{row_for}
use Rattle.card_model.specs.Closing.{Posting, close, closing_interest, post_interest, post_one, posted_for}
use Rattle.card_model.specs.Cycles.{Cycle, IssuedRow, Seen, last_cycle, post_at, posts_on, seen_on}
use Rattle.card_model.specs.DueDates.{after_due_date, on_due}
use Rattle.card_model.specs.Effects.{after_posts, credit_parts, disputed_cents, disputed_charge, disputed_segment, effect, is_part_of, meant_for, moved_by, parts_entries, payment_at, payment_parts, put_back, returned, returned_fee, size}
use Rattle.card_model.specs.Entries.{credit_balance, debit, is_kind, sum_of}
use Rattle.card_model.specs.Fees.{fee_cents, late_fee, with_fee}
use Rattle.card_model.specs.Folds.{book, book_after, day_after}
use Rattle.card_model.specs.Payments.{is_between, is_payment}
use Rattle.card_model.specs.Segments.{SegmentTerms, newest, segment_at}
use Rattle.card_model.specs.declared.entry.Entry.{Entry}
use Rattle.card_model.specs.declared.entry.EntryKind.{EntryKind}
use Rattle.card_model.specs.declared.entry.EntryKind.TheVariants as kind
use Rattle.card_model.specs.declared.fee.Fee.{Fee}
use Rattle.card_model.specs.declared.segment.Sort.TheVariants as sort
use Rattle.card_rates.specs.Laws.{seen_in}
use Rattle.card_rules.proofs.ClosingAmounts.{sum_of-more}
use Rattle.card_rules.proofs.WholePayments.{ascend, payment-whole}
use Rattle.card_rules.specs.PaidInTheBook.{PaymentsAreInTheBook}
use Rattle.card_rules.specs.WholePayments.{all_parts}

-- ---- entries of other kinds
IsOther : ℕ → Entry → Type 0
IsOther n e = is_part_of n e ≡ false

debited : (n : ℕ) (es : List Entry) (day m s x credit : ℕ) (k : EntryKind) → is_kind kind.Payment k ≡ false → sum_of (is_part_of n) (es ++ debit (record { day = day; kind = k; post = m }) s x credit) ≡ sum_of (is_part_of n) es
debited n es day m s x credit k h = sum_of-more (is_part_of n) es _ (all-debit (λ e. is_part_of n e ≡ false) day m s x credit k (λ s z. rw h (no-part (eqb m n))))

back-sum : (n day m newest : ℕ) (ps es : List Entry) → sum_of (is_part_of n) (put_back (record { day = day; kind = kind.Return; post = m }) newest ps es) ≡ sum_of (is_part_of n) es
back-sum n day m newest [] es = refl
back-sum n day m newest (x ∷ ps) es =
    back-sum n day m newest ps (es ++ debit (record { day = day; kind = kind.Return; post = m }) (cond (eqb x.segment 0) newest x.segment) (size x.cents) (credit_balance es))
    ∙ debited n es day m (cond (eqb x.segment 0) newest x.segment) (size x.cents) (credit_balance es) kind.Return refl

fee-sum : (n : ℕ) (a : Account) (seen : Seen) (m : ℕ) (o : Option Fee) (b : Book) → sum_of (is_part_of n) (with_fee a seen m o b).entries ≡ sum_of (is_part_of n) b.entries
fee-sum n a seen m None b = refl
fee-sum n a seen m (Some f) b = debited n b.entries seen.day m (newest sort.Purchase seen.day (all_segments a seen)) (fee_cents f) (credit_balance b.entries) kind.Fee refl

due-sum : (n : ℕ) (row : Option IssuedRow) (a : Account) (seen : Seen) (b : Book) (c : Option Cycle) → sum_of (is_part_of n) (on_due row a seen b c).entries ≡ sum_of (is_part_of n) b.entries
unfolding on_due
due-sum n row a seen b None = refl
due-sum n row a seen b (Some c) = by (eqb seen.day (c.due + 1)) (fee-sum n a seen 0 (late_fee row seen b c) b)
  where
    by : (t : Bool) → sum_of (is_part_of n) (after_due_date row a seen b c).entries ≡ sum_of (is_part_of n) b.entries → sum_of (is_part_of n) (cond t (after_due_date row a seen b c) b).entries ≡ sum_of (is_part_of n) b.entries
    by true k = k
    by false k = refl

interest-sum : (n : ℕ) (row : Option IssuedRow) (seen : Seen) (amount : Book → SegmentTerms → ℕ) (gs : List SegmentTerms) (p : Posting) → sum_of (is_part_of n) (post_interest row seen amount gs p).book.entries ≡ sum_of (is_part_of n) p.book.entries
unfolding post_interest
interest-sum n row seen amount [] p = refl
interest-sum n row seen amount (g ∷ gs) p =
    interest-sum n row seen amount gs (post_one seen g (posted_for row amount g p) p)
    ∙ debited n p.book.entries seen.day 0 g.id (posted_for row amount g p) (credit_balance p.book.entries) kind.Interest refl

close-sum : (n : ℕ) (row : Option IssuedRow) (a : Account) (seen : Seen) (b : Book) → sum_of (is_part_of n) (close row a seen b).entries ≡ sum_of (is_part_of n) b.entries
unfolding close closing_interest
close-sum n row a seen b = interest-sum n row seen _ _ _ ∙ interest-sum n row seen _ _ (record { amounts = []; book = b })

-- ---- entries of payments
paid-sum : (day m n : ℕ) (ps : List (ℕ × ℕ)) → eqb m n ≡ true → sum_of (is_part_of n) (parts_entries (record { day = day; kind = kind.Payment; post = m }) ps) +ℤ pos (all_parts ps) ≡ pos 0
paid-sum day m n [] h = refl
paid-sum day m n ((s, zero) ∷ ps) h =
    let rest = paid-sum day m n ps h in
    let one = sum_by-cons (λ (x : ℕ × ℕ). x.1) (s, 0) ps in
    omega (arith, ints, rest, one)
paid-sum day m n ((s, suc x) ∷ ps) h =
    let rest = paid-sum day m n ps h in
    let one = sum_by-cons (λ (x : ℕ × ℕ). x.1) (s, suc x) ps in
    let here : sum_of (is_part_of n) (parts_entries (record { day = day; kind = kind.Payment; post = m }) ((s, suc x) ∷ ps)) ≡ negsuc x +ℤ sum_of (is_part_of n) (parts_entries (record { day = day; kind = kind.Payment; post = m }) ps) = rw h refl in
    omega (arith, ints, rest, one, here)

worth : ℕ → CorrectedPost → ℕ
worth n s = cond (is_payment s.post && eqb s.number n) s.cents 0

none-worth : (n : ℕ) (s : CorrectedPost) (p : Post) → s.post ≡ p → is_payment p ≡ false → worth n s ≡ 0
unfolding worth
none-worth n s p e h = ap (λ q. cond (is_payment q && eqb s.number n) s.cents 0) e ∙ rw h refl

payment-sum : (n : ℕ) (a : Account) (seen : Seen) (s : CorrectedPost) (b : Book) → SegmentsAscend 2 (all_segments a seen) → is_payment s.post ≡ true
    → sum_of (is_part_of n) (b.entries ++ parts_entries (record { day = seen.day; kind = kind.Payment; post = s.number }) (payment_parts a seen s b)) +ℤ pos (worth n s) ≡ sum_of (is_part_of n) b.entries
unfolding worth
payment-sum n a seen s b up is = by (eqb s.number n) refl
  where
    xs : List Entry
    xs = parts_entries (record { day = seen.day; kind = kind.Payment; post = s.number }) (payment_parts a seen s b)

    by : (t : Bool) → eqb s.number n ≡ t
        → sum_of (is_part_of n) (b.entries ++ parts_entries (record { day = seen.day; kind = kind.Payment; post = s.number }) (payment_parts a seen s b)) +ℤ pos (cond (is_payment s.post && eqb s.number n) s.cents 0) ≡ sum_of (is_part_of n) b.entries
    by true q =
        let all = sum_of-append (is_part_of n) b.entries (parts_entries (record { day = seen.day; kind = kind.Payment; post = s.number }) (payment_parts a seen s b)) in
        let parts = paid-sum seen.day s.number n (payment_parts a seen s b) q in
        let whole = payment-whole a seen s b up in
        let cents : cond (is_payment s.post && eqb s.number n) s.cents 0 ≡ s.cents = rw (is, q) refl in
        omega (arith, ints, all, parts, whole, cents)
    by false q =
        let none = sum_of-more (is_part_of n) b.entries (parts_entries (record { day = seen.day; kind = kind.Payment; post = s.number }) (payment_parts a seen s b))
        (all-parts (λ (e : Entry). is_part_of n e ≡ false) seen.day s.number kind.Payment (payment_parts a seen s b) (λ s z. rw q refl)) in
        let cents : cond (is_payment s.post && eqb s.number n) s.cents 0 ≡ 0 = rw (is, q) refl in
        omega (arith, ints, none, cents)

-- ---- the posts
-- an effect that enters no payment
still : (n : ℕ) (s : CorrectedPost) (p : Post) (old new : ℤ) → s.post ≡ p → is_payment p ≡ false → new ≡ old → new +ℤ pos (worth n s) ≡ old
still n s p old new e h same = let none = none-worth n s p e h in omega (arith, ints, none, same)

effect-sum : (n : ℕ) (row : Option IssuedRow) (a : Account) (seen : Seen) (s : CorrectedPost) (p : Post) (b : Book) → SegmentsAscend 2 (all_segments a seen) → s.post ≡ p
    → sum_of (is_part_of n) (effect row a seen s p b).entries +ℤ pos (worth n s) ≡ sum_of (is_part_of n) b.entries
unfolding effect
effect-sum n row a seen s (post.Charge d p c) b up e =
    still n s (post.Charge d p c) _ _ e refl (debited n b.entries seen.day s.number (segment_at p seen.day (all_segments a seen)) s.cents (credit_balance b.entries) kind.Charge refl)
effect-sum n row a seen s (post.Payment d m y c) b up e = payment-sum n a seen s b up (rw e refl)
effect-sum n row a seen s (post.Credit d p c) b up e =
    still n s (post.Credit d p c) _ _ e refl
    (sum_of-more (is_part_of n) b.entries (parts_entries (record { day = seen.day; kind = kind.Credit; post = s.number }) (credit_parts a seen s p b))
    (all-parts (λ (x : Entry). is_part_of n x ≡ false) seen.day s.number kind.Credit (credit_parts a seen s p b) (λ t z. no-part (eqb s.number n))))
effect-sum n row a seen s (post.Return d target) b up e =
    still n s (post.Return d target) _ _ e refl
    (fee-sum n a seen s.number (returned_fee row seen b (meant_for b.cycles (payment_at target seen.posts))) (returned a seen s.number target b)
    ∙ back-sum n seen.day s.number (newest sort.Purchase seen.day (all_segments a seen)) (filter (is_part_of target) b.entries) b.entries)
effect-sum n row a seen s (post.Dispute d target claim) b up e =
    still n s (post.Dispute d target claim) _ _ e refl
    (sum_of-more (is_part_of n) b.entries _ (all-holds (λ (x : Entry). is_part_of n x ≡ false) seen.day s.number (disputed_segment a seen target) (disputed_cents a seen target claim b) (λ t z. no-part (eqb s.number n))))
effect-sum n row a seen s (post.Resolve d target c) b up e =
    still n s (post.Resolve d target c) _ _ e refl
    (sum_of-more (is_part_of n) b.entries _
    (all-releases (λ (x : Entry). is_part_of n x ≡ false) seen.day s.number (disputed_segment a seen (disputed_charge (post_at target seen.posts))) (moved_by target b.entries) (credit_balance b.entries) (λ t z. no-part (eqb s.number n))))
effect-sum n row a seen s (post.Refund c) b up e =
    still n s (post.Refund c) _ _ e refl (debited n b.entries seen.day s.number (newest sort.Purchase seen.day (all_segments a seen)) s.cents (credit_balance b.entries) kind.Refund refl)
effect-sum n row a seen s (post.Open d t) b up e = still n s (post.Open d t) _ _ e refl refl
effect-sum n row a seen s (post.OpenVariable d t) b up e = still n s (post.OpenVariable d t) _ _ e refl refl
effect-sum n row a seen s (post.Plan d k r g f) b up e = still n s (post.Plan d k r g f) _ _ e refl refl
effect-sum n row a seen s (post.Notice d c r g) b up e = still n s (post.Notice d c r g) _ _ e refl refl
effect-sum n row a seen s (post.Lower d c r) b up e = still n s (post.Lower d c r) _ _ e refl refl
effect-sum n row a seen s post.Penalty b up e = still n s post.Penalty _ _ e refl refl
effect-sum n row a seen s (post.Review d f) b up e = still n s (post.Review d f) _ _ e refl refl
effect-sum n row a seen s (post.Ack d t) b up e = still n s (post.Ack d t) _ _ e refl refl
effect-sum n row a seen s (post.AskRefund d) b up e = still n s (post.AskRefund d) _ _ e refl refl
effect-sum n row a seen s (post.Amend t d c) b up e = still n s (post.Amend t d c) _ _ e refl refl
effect-sum n row a seen s (post.Bill c) b up e = still n s (post.Bill c) _ _ e refl refl

posts-sum : (n : ℕ) (row : Option IssuedRow) (a : Account) (seen : Seen) (ss : List CorrectedPost) (b : Book) → SegmentsAscend 2 (all_segments a seen)
    → sum_of (is_part_of n) (after_posts row a seen ss b).entries +ℤ pos (sum_by (worth n) ss) ≡ sum_of (is_part_of n) b.entries
unfolding after_posts
posts-sum n row a seen [] b up = let none : sum_by (worth n) [] ≡ 0 = refl in omega (arith, ints, none)
posts-sum n row a seen (s ∷ ss) b up =
    let one = effect-sum n row a seen s s.post b up refl in
    let rest = posts-sum n row a seen ss (effect row a seen s s.post b) up in
    let all = sum_by-cons (worth n) s ss in
    omega (arith, ints, one, rest, all)

day-sum : (n : ℕ) (row : Option IssuedRow) (a : Account) (seen : Seen) (b : Book) → SegmentsAscend 2 (all_segments a seen)
    → sum_of (is_part_of n) (day_after row a seen b).entries +ℤ pos (sum_by (worth n) (posts_on seen)) ≡ sum_of (is_part_of n) b.entries
unfolding day_after
day-sum n row a seen b up = by (eqb (day_of_month seen.day) a.anchor.close_day)
  where
    due : Book
    due = on_due row a seen b (last_cycle b.cycles)

    after : sum_of (is_part_of n) (after_posts row a seen (posts_on seen) (on_due row a seen b (last_cycle b.cycles))).entries +ℤ pos (sum_by (worth n) (posts_on seen)) ≡ sum_of (is_part_of n) b.entries
    after = posts-sum n row a seen (posts_on seen) (on_due row a seen b (last_cycle b.cycles)) up ∙ due-sum n row a seen b (last_cycle b.cycles)

    by : (t : Bool) → sum_of (is_part_of n) (cond t (close row a seen (after_posts row a seen (posts_on seen) (on_due row a seen b (last_cycle b.cycles)))) (after_posts row a seen (posts_on seen) (on_due row a seen b (last_cycle b.cycles)))).entries
        +ℤ pos (sum_by (worth n) (posts_on seen)) ≡ sum_of (is_part_of n) b.entries
    by true = ap (λ z. z +ℤ pos (sum_by (worth n) (posts_on seen))) (close-sum n row a seen (after_posts row a seen (posts_on seen) (on_due row a seen b (last_cycle b.cycles)))) ∙ after
    by false = after

-- ---- all days
filter-sum : (g : CorrectedPost → ℕ) (q : CorrectedPost → Bool) (xs : List CorrectedPost) → sum_by g (filter q xs) ≡ sum_by (λ x. cond (q x) (g x) 0) xs
filter-sum g q [] = refl
filter-sum g q (x ∷ xs) = by (q x) refl (filter-sum g q xs) (sum_by-cons (λ x. cond (q x) (g x) 0) x xs)
  where
    by : (t : Bool) → q x ≡ t → sum_by g (filter q xs) ≡ sum_by (λ x. cond (q x) (g x) 0) xs → sum_by (λ x. cond (q x) (g x) 0) (x ∷ xs) ≡ cond (q x) (g x) 0 + sum_by (λ x. cond (q x) (g x) 0) xs
        → sum_by g (cond t (x ∷ filter q xs) (filter q xs)) ≡ sum_by (λ x. cond (q x) (g x) 0) (x ∷ xs)
    by true e rest all = let one = sum_by-cons g x (filter q xs) in let here : cond (q x) (g x) 0 ≡ g x = rw e refl in omega (arith, one, rest, all, here)
    by false e rest all = let here : cond (q x) (g x) 0 ≡ 0 = rw e refl in omega (arith, rest, all, here)

two-sums : (f g h : CorrectedPost → ℕ) → ((x : CorrectedPost) → f x ≡ g x + h x) → (xs : List CorrectedPost) → sum_by f xs ≡ sum_by g xs + sum_by h xs
two-sums f g h e [] = refl
two-sums f g h e (x ∷ xs) =
    let a = sum_by-cons f x xs in
    let b = sum_by-cons g x xs in
    let c = sum_by-cons h x xs in
    let here = e x in
    let rest = two-sums f g h e xs in
    omega (arith, a, b, c, here, rest)

-- credited in so many days from one on
within : ℕ → ℕ → ℕ → CorrectedPost → ℕ
within n from count p = cond (leb from p.day && ltb p.day (from + count)) (worth n p) 0

one-more : (from count d w : ℕ) → cond (leb from d && ltb d (from + suc count)) w 0 ≡ cond (leb from d && ltb d (from + count)) w 0 + cond (leb d (from + count)) (cond (eqb d (from + count)) w 0) 0
one-more from count d w = by (leb from d) refl (ltb d (from + suc count)) refl (ltb d (from + count)) refl (leb d (from + count)) refl (eqb d (from + count)) refl
  where
    by : (r : Bool) → leb from d ≡ r → (s : Bool) → ltb d (from + suc count) ≡ s → (t : Bool) → ltb d (from + count) ≡ t → (u : Bool) → leb d (from + count) ≡ u → (v : Bool) → eqb d (from + count) ≡ v
        → cond (r && s) w 0 ≡ cond (r && t) w 0 + cond u (cond v w 0) 0
    by true a true b true c true e false f = omega arith
    by true a true b false c true e true f = omega arith
    by false a s b t c true e false f = omega arith
    by false a s b t c false e v f = omega arith
    by true a false b false c false e v f = omega arith
    by true a true b true c true e true f = absurd (grind (arith, nat_tests))
    by true a true b true c false e v f = absurd (grind (arith, nat_tests))
    by true a true b false c true e false f = absurd (grind (arith, nat_tests))
    by true a true b false c false e v f = absurd (grind (arith, nat_tests))
    by true a false b true c u e v f = absurd (grind (arith, nat_tests))
    by true a false b false c true e v f = absurd (grind (arith, nat_tests))
    by false a s b t c true e true f = absurd (grind (arith, nat_tests))

module _ (history : List Kept) (issued : List IssuedRow) (shared : SharedRows) (n : ℕ) where
  abbrev from : ℕ
  from = (anchor_of history).opened

  abbrev ps : List CorrectedPost
  ps = folded (anchor_of history) shared.holidays history

  day-more : (count : ℕ) → sum_by (within n from (suc count)) ps ≡ sum_by (within n from count) ps + sum_by (worth n) (posts_on (seen_in history issued shared (from + count)))
  unfolding within
  day-more count =
      let d = from + count in
      let step = two-sums (λ p. cond (leb from p.day && ltb p.day (from + suc count)) (worth n p) 0) (λ p. cond (leb from p.day && ltb p.day (from + count)) (worth n p) 0)
      (λ p. cond (leb p.day (from + count)) (cond (eqb p.day (from + count)) (worth n p) 0) 0) (λ p. one-more from count p.day (worth n p)) ps in
      let inner = filter-sum (λ p. cond (eqb p.day (from + count)) (worth n p) 0) (λ p. leb p.day (from + count)) ps in
      let outer = filter-sum (worth n) (λ p. eqb p.day (from + count)) (filter (λ p. leb p.day (from + count)) ps) in
      omega (arith, step, inner, outer)

  none-yet : (xs : List CorrectedPost) → sum_by (within n from 0) xs ≡ 0
  unfolding within
  none-yet [] = refl
  none-yet (x ∷ xs) =
      let one = sum_by-cons (λ p. cond (leb from p.day && ltb p.day (from + 0)) (worth n p) 0) x xs in
      let rest = none-yet xs in
      let here : cond (leb from x.day && ltb x.day (from + 0)) (worth n x) 0 ≡ 0 = by (leb from x.day) refl (ltb x.day (from + 0)) refl in
      omega (arith, one, rest, here)
    where
      by : (s : Bool) → leb from x.day ≡ s → (t : Bool) → ltb x.day (from + 0) ≡ t → cond (s && t) (worth n x) 0 ≡ 0
      by true e true f = absurd (grind (arith, nat_tests))
      by true e false f = refl
      by false e t f = refl

  fold-sum : (count : ℕ) → sum_of (is_part_of n) (book_after issued (account_of history) (seen_on (anchor_of history) shared history issued) count).entries +ℤ pos (sum_by (within n from count) ps) ≡ pos 0
  unfolding book_after
  fold-sum zero = let none = none-yet ps in omega (arith, ints, none)
  fold-sum (suc count) =
      let b = book_after issued (account_of history) (seen_on (anchor_of history) shared history issued) count in
      let day = day-sum n (row_for (present_cycle b) issued) (account_of history) (seen_in history issued shared (from + count)) b (ascend history issued shared (from + count)) in
      let rest = fold-sum count in
      let more = day-more count in
      omega (arith, ints, day, rest, more)

  -- what isn't folded is no payment
  all-folded : (day : ℕ) → from ≤ day → (p : CorrectedPost) → cond (is_folded p.post) (within n from (day + 1 - from) p) 0 ≡ cond (is_payment p.post && eqb p.number n && is_between from day p) p.cents 0
  unfolding within worth
  all-folded day l p = by p.post (eqb p.number n) (leb from p.day) (ltb p.day (from + (day + 1 - from))) (leb p.day day) same
    where
      same : ltb p.day (from + (day + 1 - from)) ≡ leb p.day day
      same = let on : from + (day + 1 - from) ≡ day + 1 = omega (arith, l) in ap (λ x. ltb p.day x) on ∙ tests p.day day
        where
          tests : (x y : ℕ) → ltb x (y + 1) ≡ leb x y
          tests x y = grind (arith, nat_tests)

      by : (q : Post) (t s u v : Bool) → u ≡ v → cond (is_folded q) (cond (s && u) (cond (is_payment q && t) p.cents 0) 0) 0 ≡ cond (is_payment q && t && (s && v)) p.cents 0
      by (post.Payment d m y c) true true true true e = refl
      by (post.Payment d m y c) true true false false e = refl
      by (post.Payment d m y c) true false true true e = refl
      by (post.Payment d m y c) true false false false e = refl
      by (post.Payment d m y c) false true true true e = refl
      by (post.Payment d m y c) false true false false e = refl
      by (post.Payment d m y c) false false true true e = refl
      by (post.Payment d m y c) false false false false e = refl
      by (post.Payment d m y c) t s true false e = absurd (cc)
      by (post.Payment d m y c) t s false true e = absurd (cc)
      by (post.Charge d q c) t true true v e = refl
      by (post.Charge d q c) t true false v e = refl
      by (post.Charge d q c) t false u v e = refl
      by (post.Credit d q c) t true true v e = refl
      by (post.Credit d q c) t true false v e = refl
      by (post.Credit d q c) t false u v e = refl
      by (post.Return d w) t true true v e = refl
      by (post.Return d w) t true false v e = refl
      by (post.Return d w) t false u v e = refl
      by (post.Open d w) t s u v e = refl
      by (post.OpenVariable d w) t s u v e = refl
      by (post.Plan d k r g f) t true true v e = refl
      by (post.Plan d k r g f) t true false v e = refl
      by (post.Plan d k r g f) t false u v e = refl
      by (post.Notice d c r g) t true true v e = refl
      by (post.Notice d c r g) t true false v e = refl
      by (post.Notice d c r g) t false u v e = refl
      by (post.Lower d c r) t true true v e = refl
      by (post.Lower d c r) t true false v e = refl
      by (post.Lower d c r) t false u v e = refl
      by post.Penalty t true true v e = refl
      by post.Penalty t true false v e = refl
      by post.Penalty t false u v e = refl
      by (post.Review d f) t s u v e = refl
      by (post.Dispute d w c) t true true v e = refl
      by (post.Dispute d w c) t true false v e = refl
      by (post.Dispute d w c) t false u v e = refl
      by (post.Ack d w) t s u v e = refl
      by (post.Resolve d w c) t true true v e = refl
      by (post.Resolve d w c) t true false v e = refl
      by (post.Resolve d w c) t false u v e = refl
      by (post.AskRefund d) t s u v e = refl
      by (post.Refund c) t true true v e = refl
      by (post.Refund c) t true false v e = refl
      by (post.Refund c) t false u v e = refl
      by (post.Amend w d c) t s u v e = refl
      by (post.Bill c) t s u v e = refl

pub payments_are_in_the_book : PaymentsAreInTheBook
unfolding book
payments_are_in_the_book history issued shared day n l =
    let count : ℕ = day + 1 - (anchor_of history).opened in
    let sum = fold-sum history issued shared n count in
    let listed = filter-sum (within n (anchor_of history).opened (day + 1 - (anchor_of history).opened)) (λ p. is_folded p.post) (corrected (anchor_of history) shared.holidays history) in
    let same = sum-agree (λ p. cond (is_folded p.post) (within n (anchor_of history).opened (day + 1 - (anchor_of history).opened) p) 0) (λ p. cond (is_payment p.post && eqb p.number n && is_between (anchor_of history).opened day p) p.cents 0)
    (all-folded history issued shared n day l) (corrected (anchor_of history) shared.holidays history) in
    omega (arith, ints, sum, listed, same)
