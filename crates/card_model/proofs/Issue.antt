-- A row with the values of the book changes no day up to its own.
use Rattle.std.proofs.Common.{◌≡◌, ℕ, zero, suc, ◌+◌, ◌-◌, ◌≤◌, Bool, true, false, cond, List, [], ◌∷◌, ◌++◌, refl, sym, ap, ◌∙◌, subst, arith, Option, Some, None, eqb, ltb, length, get_or, append_assoc}
use Rattle.std.specs.List.{filter, All, cons_option, sum_by}
use Rattle.std.proofs.lemmas.List.{append-nil}
use Rattle.std.proofs.lemmas.List.Sums.{sum_by-cons}
use Rattle.std.proofs.lemmas.List.Elements.{All-nil, All-cons, All-head, All-tail, All-weaker, filter-append}
use Rattle.std.proofs.lemmas.Bool.{eqb-true, eq-eqb}
use Rattle.std.proofs.lemmas.Bool.Decides.{nat_tests}
use Rattle.std.specs.Prelude.{min}
use Rattle.std.specs.Option.{option_or}
use Rattle.std.specs.Prelude.{slice_get}
use Rattle.card_events.specs.Civil.{day_of_month}
use Rattle.card_events.specs.History.{CorrectedPost, anchor_of}
use Rattle.card_events.specs.SharedRows.{SharedRows}
use Rattle.card_events.specs.declared.kept.Kept.{Kept}
use Rattle.card_events.specs.declared.post.Post.{Post}
use Rattle.card_model.specs.Books.{Account, Book, account_of, all_segments, present_cycle}
use Rattle.card_model.specs.Caps.{row_for}
use Rattle.card_model.specs.Closing.{Posting, by_segment, close, closed_cycle, closing_interest, first_day_of, grace_amount, minimum_payment, post_interest, post_one, posted_for, purchase_case_in}
use Rattle.card_model.specs.Cycles.{Cycle, IssuedRow, Seen, Sheet, amount_at, last_cycle, posts_on, seen_on}
use Rattle.card_model.specs.DueDates.{after_due_date, on_due}
use Rattle.card_model.specs.Effects.{after_posts, effect, meant_for, payment_at, returned, returned_fee}
use Rattle.card_model.specs.Entries.{posted}
use Rattle.card_model.specs.Fees.{at_cents, charged_fee, fee_above, fee_cents, fee_for, fees_in, issued_fee, late_fee, penalty_fee, with_fee}
use Rattle.card_model.specs.Folds.{book, book_after, cycle_at, day_after, row_of_cycle, rows_issued}
use Rattle.card_model.specs.Interest.{cycle_interest, deferred_interest}
use Rattle.card_model.specs.Laws.{IsFeeWithin, IssuingChangesNoPastDay}
use Rattle.card_model.specs.Payments.{met}
use Rattle.card_model.specs.Segments.{SegmentTerms}
use Rattle.card_model.specs.declared.fee.Fee.{Fee}
use Rattle.card_events.specs.declared.post.Post.TheVariants as post
use Rattle.card_model.specs.declared.fee.FeeKind.TheVariants as fee
use Rattle.card_model.proofs.Grows.{Extends, Grows, posts-grow, close-grows, book-grows}
use Rattle.card_model.proofs.Caps.{amount_at-push, effect-cycles, posts-cycles, due-cycles, fee_for-cycle}
use Rattle.card_model.proofs.Past.{same_after}
use Rattle.card_model.proofs.Inert.{bill-same}
use Rattle.card_model.proofs.Settled.{Settled, numbered-at, book-settled}

-- ---- a row that is wide enough for these fees of its cycle
abbrev pub Wide : IssuedRow → List Fee → Type 0
Wide r fs = All (λ f. f.cycle ≡ r.cycle → IsFeeWithin r f) fs

wide-less : (r : IssuedRow) (xs ys : List Fee) → Extends xs ys → Wide r ys → Wide r xs
wide-less r xs ys e h = front xs e.rest (subst (Wide r) e.is h)
  where
    front : (xs zs : List Fee) → Wide r (xs ++ zs) → Wide r xs
    front [] zs h = All-nil (λ f. f.cycle ≡ r.cycle → IsFeeWithin r f)
    front (x ∷ xs) zs h = All-cons (λ f. f.cycle ≡ r.cycle → IsFeeWithin r f) x xs (All-head (λ f. f.cycle ≡ r.cycle → IsFeeWithin r f) x (xs ++ zs) h) (front xs zs (All-tail (λ f. f.cycle ≡ r.cycle → IsFeeWithin r f) x (xs ++ zs) h))

wide-last : (r : IssuedRow) (xs : List Fee) (f : Fee) → Wide r (xs ++ f ∷ []) → f.cycle ≡ r.cycle → IsFeeWithin r f
wide-last r [] f h e = All-head (λ f. f.cycle ≡ r.cycle → IsFeeWithin r f) f [] h e
wide-last r (x ∷ xs) f h e = wide-last r xs f (All-tail (λ f. f.cycle ≡ r.cycle → IsFeeWithin r f) x (xs ++ f ∷ []) h) e

min-within : (k m : ℕ) → k ≤ m → min k m ≡ k
min-within k m l = omega arith

-- a fee that the row leaves as it is
fee-free : (r : IssuedRow) (a : Account) (seen : Seen) (n : ℕ) (o : Option Fee) (b : Book) → ((f : Fee) → o ≡ Some f → f.cycle ≡ r.cycle) → Wide r (with_fee a seen n (charged_fee None o) b).fees
    → with_fee a seen n (charged_fee (Some r) o) b ≡ with_fee a seen n (charged_fee None o) b
fee-free r a seen n None b c h = refl
fee-free r a seen n (Some f) b c h = ap (λ k. with_fee a seen n (fee_above k f) b) (by (fee_cents f) (c f refl) h)
  where
    by : (k : ℕ) → f.cycle ≡ r.cycle → Wide r (with_fee a seen n (fee_above k f) b).fees → min k (issued_fee f.due_cycle r) ≡ k
    by zero e w = omega arith
    by (suc k) e w = let l : suc k ≤ issued_fee f.due_cycle r = wide-last r b.fees (at_cents (suc k) f) w e in min-within (suc k) (issued_fee f.due_cycle r) l

late-free : (r : IssuedRow) (a : Account) (seen : Seen) (b : Book) (c : Cycle) → present_cycle b ≡ r.cycle → Wide r (with_fee a seen 0 (late_fee None seen b c) b).fees
    → with_fee a seen 0 (late_fee (Some r) seen b c) b ≡ with_fee a seen 0 (late_fee None seen b c) b
late-free r a seen b c e h = by (met seen c) h
  where
    by : (t : Bool) → Wide r (with_fee a seen 0 (cond t None (penalty_fee None seen b fee.Late c)) b).fees
        → with_fee a seen 0 (cond t None (penalty_fee (Some r) seen b fee.Late c)) b ≡ with_fee a seen 0 (cond t None (penalty_fee None seen b fee.Late c)) b
    by true w = refl
    by false w = fee-free r a seen 0 (fee_for seen b.cycles b.fees (present_cycle b) fee.Late c) b (λ f g. fee_for-cycle seen b.cycles b.fees (present_cycle b) fee.Late c f g ∙ e) w

returned-free : (r : IssuedRow) (a : Account) (seen : Seen) (n : ℕ) (b back : Book) (c : Option Cycle) → present_cycle b ≡ r.cycle → Wide r (with_fee a seen n (returned_fee None seen b c) back).fees
    → with_fee a seen n (returned_fee (Some r) seen b c) back ≡ with_fee a seen n (returned_fee None seen b c) back
returned-free r a seen n b back None e h = refl
returned-free r a seen n b back (Some c) e h = fee-free r a seen n (fee_for seen b.cycles b.fees (present_cycle b) fee.Returned c) back (λ f g. fee_for-cycle seen b.cycles b.fees (present_cycle b) fee.Returned c f g ∙ e) h

effect-free : (r : IssuedRow) (a : Account) (seen : Seen) (s : CorrectedPost) (p : Post) (b : Book) → present_cycle b ≡ r.cycle → Wide r (effect None a seen s p b).fees → effect (Some r) a seen s p b ≡ effect None a seen s p b
unfolding effect
effect-free r a seen s (post.Return d target) b e h = returned-free r a seen s.number b (returned a seen s.number target b) (meant_for b.cycles (payment_at target seen.posts)) e h
effect-free r a seen s (post.Charge d p n) b e h = refl
effect-free r a seen s (post.Payment d m c n) b e h = refl
effect-free r a seen s (post.Credit d p n) b e h = refl
effect-free r a seen s (post.Dispute d target claim) b e h = refl
effect-free r a seen s (post.Resolve d target c) b e h = refl
effect-free r a seen s (post.Refund n) b e h = refl
effect-free r a seen s post.Penalty b e h = refl
effect-free r a seen s (post.Open d t) b e h = refl
effect-free r a seen s (post.OpenVariable d t) b e h = refl
effect-free r a seen s (post.Plan d k g f i) b e h = refl
effect-free r a seen s (post.Notice d c g i) b e h = refl
effect-free r a seen s (post.Lower d c g) b e h = refl
effect-free r a seen s (post.Review d f) b e h = refl
effect-free r a seen s (post.Ack d t) b e h = refl
effect-free r a seen s (post.AskRefund d) b e h = refl
effect-free r a seen s (post.Amend t d c) b e h = refl
effect-free r a seen s (post.Bill c) b e h = refl

posts-free : (r : IssuedRow) (a : Account) (seen : Seen) (ss : List CorrectedPost) (b : Book) → present_cycle b ≡ r.cycle → Wide r (after_posts None a seen ss b).fees → after_posts (Some r) a seen ss b ≡ after_posts None a seen ss b
unfolding after_posts
posts-free r a seen [] b e h = refl
posts-free r a seen (s ∷ ss) b e h =
    let next = effect None a seen s s.post b in
    let now = effect-free r a seen s s.post b e (wide-less r next.fees (after_posts None a seen ss next).fees (posts-grow None a seen ss next).fees h) in
    let cycle : present_cycle next ≡ r.cycle = ap (λ (cs : List Cycle). length cs + 1) (effect-cycles None a seen s s.post b) ∙ e in
    ap (after_posts (Some r) a seen ss) now ∙ posts-free r a seen ss next cycle h

due-free : (r : IssuedRow) (a : Account) (seen : Seen) (b : Book) (c : Option Cycle) → present_cycle b ≡ r.cycle → Wide r (on_due None a seen b c).fees → on_due (Some r) a seen b c ≡ on_due None a seen b c
unfolding on_due
due-free r a seen b None e h = refl
due-free r a seen b (Some c) e h = by (eqb seen.day (c.due + 1)) h
  where
    by : (t : Bool) → Wide r (cond t (after_due_date None a seen b c) b).fees → cond t (after_due_date (Some r) a seen b c) b ≡ cond t (after_due_date None a seen b c) b
    by true h = let f = late-free r a seen b c e h in rw f refl
    by false h = refl

-- ---- interest
amounts-grow : (issued : Option IssuedRow) (seen : Seen) (amount : Book → SegmentTerms → ℕ) (gs : List SegmentTerms) (p : Posting) (s : ℕ) → amount_at s p.amounts ≤ amount_at s (post_interest issued seen amount gs p).amounts
unfolding post_interest
amounts-grow issued seen amount [] p s = omega arith
amounts-grow issued seen amount (g ∷ gs) p s =
    let next = post_one seen g (posted_for issued amount g p) p in
    chain _ _ _ _ (amount_at-push s g.id (posted_for issued amount g p) p.amounts) (amounts-grow issued seen amount gs next s)
  where
    chain : (x y z n : ℕ) → y ≡ x + n → y ≤ z → x ≤ z
    chain x y z n e l = omega arith

-- the row has at min what was posted for each of these segments
abbrev Covers : IssuedRow → List (ℕ × ℕ) → List SegmentTerms → Type 0
Covers r amounts gs = All (λ g. amount_at g.id amounts ≤ amount_at g.id r.statement.interest) gs

interest-free : (r : IssuedRow) (seen : Seen) (amount : Book → SegmentTerms → ℕ) (gs : List SegmentTerms) (p : Posting) → Covers r (post_interest None seen amount gs p).amounts gs
    → post_interest (Some r) seen amount gs p ≡ post_interest None seen amount gs p
unfolding post_interest
interest-free r seen amount [] p h = refl
interest-free r seen amount (g ∷ gs) p h =
    let x = posted_for None amount g p in
    let next = post_one seen g x p in
    let all = (post_interest None seen amount gs next).amounts in
    let here = All-head (λ (g : SegmentTerms). amount_at g.id all ≤ amount_at g.id r.statement.interest) g gs h in
    let later = interest-free r seen amount gs next (All-tail (λ (g : SegmentTerms). amount_at g.id all ≤ amount_at g.id r.statement.interest) g gs h) in
    let e : posted_for (Some r) amount g p ≡ x = room x (amount_at g.id p.amounts) (amount_at g.id next.amounts) (amount_at g.id all) (amount_at g.id r.statement.interest) (pushed g.id x p.amounts) (amounts-grow None seen amount gs next g.id) here in
    ap (λ c. post_interest (Some r) seen amount gs (post_one seen g c p)) e ∙ later
  where
    pushed : (s x : ℕ) (xs : List (ℕ × ℕ)) → amount_at s (xs ++ (s, x) ∷ []) ≡ amount_at s xs + x
    pushed s x xs = amount_at-push s s x xs ∙ rw (eq-eqb s s refl) refl

    room : (x m n a i : ℕ) → n ≡ m + x → n ≤ a → a ≤ i → min x (i - m) ≡ x
    room x m n a i e l k = omega arith

closing-free : (r : IssuedRow) (a : Account) (seen : Seen) (b : Book) → Covers r (closing_interest None a seen b).amounts (all_segments a seen) → closing_interest (Some r) a seen b ≡ closing_interest None a seen b
unfolding closing_interest
closing-free r a seen b h =
    let start : Posting = record { amounts = []; book = b } in
    let amount = cycle_interest a seen (purchase_case_in seen b) (first_day_of a b) in
    let all = all_segments a seen in
    let once = post_interest None seen amount all start in
    let first = interest-free r seen amount all start (λ k d l. below _ _ _ (amounts-grow None seen (deferred_interest seen) all once (get_or all k d).id) (h k d l)) in
    ap (post_interest (Some r) seen (deferred_interest seen) all) first ∙ interest-free r seen (deferred_interest seen) all once h
  where
    below : (x y z : ℕ) → x ≤ y → y ≤ z → x ≤ z
    below x y z l m = omega arith

more_so : (x y n w : ℕ) → w ≡ n + y → x ≤ y → x ≤ w
more_so x y n w e l = omega arith

first_so : (x y w : ℕ) → w ≡ x + y → x ≤ w
first_so x y w e = omega arith

-- what is listed by segment covers itself
covers-own : (amount : SegmentTerms → ℕ) (g : SegmentTerms) (gs : List SegmentTerms) → amount g ≤ amount_at g.id (by_segment amount (g ∷ gs))
covers-own amount g gs = by (eqb (amount g) 0) refl
  where
    by : (t : Bool) → eqb (amount g) 0 ≡ t → amount g ≤ amount_at g.id (cons_option (cond t None (Some (g.id, amount g))) (by_segment amount gs))
    by true e = let none = eqb-true (amount g) 0 e in omega arith
    by false e =
        first_so (amount g) (amount_at g.id (by_segment amount gs)) _ (sum_by-cons (λ (p : ℕ × ℕ). cond (eqb p.0 g.id) p.1 0) (g.id, amount g) (by_segment amount gs) ∙ rw (eq-eqb g.id g.id refl) refl)

covers-later : (amount : SegmentTerms → ℕ) (g : SegmentTerms) (gs : List SegmentTerms) (s x : ℕ) → x ≤ amount_at s (by_segment amount gs) → x ≤ amount_at s (by_segment amount (g ∷ gs))
covers-later amount g gs s x l = by (eqb (amount g) 0)
  where
    by : (t : Bool) → x ≤ amount_at s (cons_option (cond t None (Some (g.id, amount g))) (by_segment amount gs))
    by true = l
    by false = more_so x (amount_at s (by_segment amount gs)) _ _ (sum_by-cons (λ (p : ℕ × ℕ). cond (eqb p.0 s) p.1 0) (g.id, amount g) (by_segment amount gs)) l

by_segment-covers : (amount : SegmentTerms → ℕ) (gs : List SegmentTerms) → All (λ (g : SegmentTerms). amount g ≤ amount_at g.id (by_segment amount gs)) gs
by_segment-covers amount [] = All-nil (λ (g : SegmentTerms). amount g ≤ amount_at g.id (by_segment amount []))
by_segment-covers amount (g ∷ gs) =
    All-cons (λ (x : SegmentTerms). amount x ≤ amount_at x.id (by_segment amount (g ∷ gs))) g gs (covers-own amount g gs)
    (All-weaker (λ (x : SegmentTerms). amount x ≤ amount_at x.id (by_segment amount gs)) (λ (x : SegmentTerms). amount x ≤ amount_at x.id (by_segment amount (g ∷ gs))) (λ x l. covers-later amount g gs x.id (amount x) l) gs (by_segment-covers amount gs))

-- ---- a closing, and a day
min-same : (m n : ℕ) → n ≡ m → min m n ≡ m
min-same m n e = omega arith

close-free : (r : IssuedRow) (a : Account) (seen : Seen) (b : Book) → r.statement ≡ closed_cycle None a seen b (closing_interest None a seen b) → close (Some r) a seen b ≡ close None a seen b
unfolding close
close-free r a seen b h =
    let p = closing_interest None a seen b in
    let covers : Covers r p.amounts (all_segments a seen) = subst (λ l. All (λ (g : SegmentTerms). amount_at g.id p.amounts ≤ amount_at g.id l) (all_segments a seen)) (sym (ap (λ (c : Cycle). c.interest) h)) (by_segment-covers (λ g. amount_at g.id p.amounts) (all_segments a seen)) in
    let same = closing-free r a seen b covers in
    let minimum : min (minimum_payment a seen b p) r.statement.minimum ≡ minimum_payment a seen b p = min-same (minimum_payment a seen b p) r.statement.minimum (ap (λ (c : Cycle). c.minimum) h) in
    let grace : min (grace_amount a seen p) r.statement.grace_amount ≡ grace_amount a seen p = min-same (grace_amount a seen p) r.statement.grace_amount (ap (λ (c : Cycle). c.grace_amount) h) in
    let cycle : closed_cycle (Some r) a seen b p ≡ closed_cycle None a seen b p = cc in
    rw (same, cycle) refl

close-cycles : (issued : Option IssuedRow) (a : Account) (seen : Seen) (b : Book) → (close issued a seen b).cycles ≡ b.cycles ++ closed_cycle issued a seen b (closing_interest issued a seen b) ∷ []
unfolding close
close-cycles issued a seen b = refl

day-free : (r : IssuedRow) (a : Account) (seen : Seen) (b : Book) → present_cycle b ≡ r.cycle → Wide r (day_after None a seen b).fees
    → ((c : Cycle) → (day_after None a seen b).cycles ≡ b.cycles ++ c ∷ [] → r.statement ≡ c) → day_after (Some r) a seen b ≡ day_after None a seen b
unfolding day_after
day-free r a seen b e h m =
    let due = on_due None a seen b (last_cycle b.cycles) in
    let posted = after_posts None a seen (posts_on seen) due in
    let t = eqb (day_of_month seen.day) a.anchor.close_day in
    let due_cycles : due.cycles ≡ b.cycles = due-cycles None a seen b (last_cycle b.cycles) in
    let cycles : posted.cycles ≡ b.cycles = posts-cycles None a seen (posts_on seen) due ∙ due_cycles in
    let wide : Wide r posted.fees = before t posted h in
    let first = due-free r a seen b (last_cycle b.cycles) e (wide-less r due.fees posted.fees (posts-grow None a seen (posts_on seen) due).fees wide) in
    let second = posts-free r a seen (posts_on seen) due (ap (λ (cs : List Cycle). length cs + 1) due_cycles ∙ e) wide in
    let same : after_posts (Some r) a seen (posts_on seen) (on_due (Some r) a seen b (last_cycle b.cycles)) ≡ posted = ap (after_posts (Some r) a seen (posts_on seen)) first ∙ second in
    rw same (last t posted cycles m)
  where
    before : (t : Bool) (posted : Book) → Wide r (cond t (close None a seen posted) posted).fees → Wide r posted.fees
    before true posted w = wide-less r posted.fees (close None a seen posted).fees (close-grows None a seen posted).fees w
    before false posted w = w

    last : (t : Bool) (posted : Book) → posted.cycles ≡ b.cycles → ((c : Cycle) → (cond t (close None a seen posted) posted).cycles ≡ b.cycles ++ c ∷ [] → r.statement ≡ c)
        → cond t (close (Some r) a seen posted) posted ≡ cond t (close None a seen posted) posted
    last true posted q m = close-free r a seen posted (m (closed_cycle None a seen posted (closing_interest None a seen posted)) (close-cycles None a seen posted ∙ ap (λ l. l ++ closed_cycle None a seen posted (closing_interest None a seen posted) ∷ []) q))
    last false posted q m = refl

-- ---- what a book gives
pub record Gives (r : IssuedRow) (b : Book) : Type 0 where
  pub fees : Wide r b.fees
  pub cycle : (c : Cycle) → cycle_at r.cycle b.cycles ≡ Some c → r.statement ≡ c

cycle-placed : (xs ys : List Cycle) (c : Cycle) → slice_get (xs ++ c ∷ ys) (length xs) ≡ Some c
cycle-placed [] ys c = refl
cycle-placed (x ∷ xs) ys c = cycle-placed xs ys c

pub row_for-append : (n : ℕ) (rows : List IssuedRow) (r : IssuedRow) → row_for n (rows ++ r ∷ []) ≡ option_or (row_for n rows) (cond (eqb r.cycle n) (Some r) None)
unfolding row_for
row_for-append n [] r = refl
row_for-append n (x ∷ rows) r = by (eqb x.cycle n) (row_for-append n rows r)
  where
    by : (t : Bool) → row_for n (rows ++ r ∷ []) ≡ option_or (row_for n rows) (cond (eqb r.cycle n) (Some r) None)
        → cond t (Some x) (row_for n (rows ++ r ∷ [])) ≡ option_or (cond t (Some x) (row_for n rows)) (cond (eqb r.cycle n) (Some r) None)
    by true h = refl
    by false h = h

one-day : (rows : List IssuedRow) (r : IssuedRow) (a : Account) (seen : Seen) (b : Book)
    → (present_cycle b ≡ r.cycle → row_for (present_cycle b) rows ≡ None → day_after (Some r) a seen b ≡ day_after None a seen b)
    → day_after (row_for (present_cycle b) (rows ++ r ∷ [])) a seen b ≡ day_after (row_for (present_cycle b) rows) a seen b
one-day rows r a seen b h =
    rw (row_for-append (present_cycle b) rows r) (by (row_for (present_cycle b) rows) refl (eqb r.cycle (present_cycle b)) refl)
  where
    by : (o : Option IssuedRow) → row_for (present_cycle b) rows ≡ o → (t : Bool) → eqb r.cycle (present_cycle b) ≡ t
        → day_after (option_or o (cond t (Some r) None)) a seen b ≡ day_after o a seen b
    by (Some x) e t q = refl
    by None e false q = refl
    by None e true q = h (sym (eqb-true r.cycle (present_cycle b) q)) e

days-free : (rows : List IssuedRow) (r : IssuedRow) (a : Account) (s : ℕ → Seen) (n later : ℕ) → Gives r (book_after rows a s (later + n)) → book_after (rows ++ r ∷ []) a s n ≡ book_after rows a s n
unfolding book_after
days-free rows r a s zero later g = refl
days-free rows r a s (suc n) later g =
    let b = book_after rows a s n in
    let seen = s (a.anchor.opened + n) in
    let shift : later + suc n ≡ suc later + n = omega arith in
    let earlier = days-free rows r a s n (suc later) (subst (λ m. Gives r (book_after rows a s m)) shift g) in
    ap (λ b. day_after (row_for (present_cycle b) (rows ++ r ∷ [])) a seen b) earlier
    ∙ one-day rows r a seen b (λ e none.
    let next : book_after rows a s (suc n) ≡ day_after None a seen b = ap (λ o. day_after o a seen b) none in
    let grown = subst (λ d. Grows d (book_after rows a s (later + suc n))) next (book-grows rows a s (suc n) later) in
    day-free r a seen b e (wide-less r (day_after None a seen b).fees _ grown.fees g.fees)
    (λ c f. g.cycle c (placed b.cycles c (book_after rows a s (later + suc n)).cycles (day_after None a seen b).cycles r.cycle grown.cycles f e)))
  where
    placed : (xs : List Cycle) (c : Cycle) (all ys : List Cycle) (k : ℕ) → Extends ys all → ys ≡ xs ++ c ∷ [] → length xs + 1 ≡ k → cycle_at k all ≡ Some c
    placed xs c all ys k e f q =
        let number : k ≡ suc (length xs) = omega arith in
        let list : all ≡ xs ++ c ∷ e.rest = e.is ∙ (ap (λ l. l ++ e.rest) f ∙ append_assoc xs (c ∷ []) e.rest) in
        rw (number, list) (cycle-placed xs e.rest c)

-- ---- the row of a Bill
-- the fees for one due date
abbrev fees_for : ℕ → List Fee → ℕ
fees_for due_cycle fs = sum_by (λ f. cond (eqb f.due_cycle due_cycle) (fee_cents f) 0) fs

fees_in-wide : (k : ℕ) (fs : List Fee) → All (λ (f : Fee). f.cycle ≡ k → fee_cents f ≤ fees_for f.due_cycle (fees_in k fs)) fs
fees_in-wide k [] = All-nil (λ (f : Fee). f.cycle ≡ k → fee_cents f ≤ fees_for f.due_cycle (fees_in k []))
fees_in-wide k (f ∷ fs) =
    All-cons (λ (x : Fee). x.cycle ≡ k → fee_cents x ≤ fees_for x.due_cycle (fees_in k (f ∷ fs))) f fs here
    (All-weaker (λ (x : Fee). x.cycle ≡ k → fee_cents x ≤ fees_for x.due_cycle (fees_in k fs)) (λ (x : Fee). x.cycle ≡ k → fee_cents x ≤ fees_for x.due_cycle (fees_in k (f ∷ fs))) (λ x l e. later x.due_cycle (fee_cents x) (eqb f.cycle k) (l e)) fs (fees_in-wide k fs))
  where
    front : (d : ℕ) → fees_for d (f ∷ fees_in k fs) ≡ cond (eqb f.due_cycle d) (fee_cents f) 0 + fees_for d (fees_in k fs)
    front d = sum_by-cons (λ (x : Fee). cond (eqb x.due_cycle d) (fee_cents x) 0) f (fees_in k fs)

    later : (d n : ℕ) (t : Bool) → n ≤ fees_for d (fees_in k fs) → n ≤ fees_for d (cond t (f ∷ fees_in k fs) (fees_in k fs))
    later d n true l = more_so n (fees_for d (fees_in k fs)) (cond (eqb f.due_cycle d) (fee_cents f) 0) _ (front d) l
    later d n false l = l

    here : f.cycle ≡ k → fee_cents f ≤ fees_for f.due_cycle (fees_in k (f ∷ fs))
    here e = rw (eq-eqb f.cycle k e) (first_so (fee_cents f) (fees_for f.due_cycle (fees_in k fs)) _ (front f.due_cycle ∙ rw (eq-eqb f.due_cycle f.due_cycle refl) refl))

pub all-at : (P : Cycle → Type 0) (cs : List Cycle) (i : ℕ) (c : Cycle) → All P cs → slice_get cs i ≡ Some c → P c
all-at P [] i c h e = cc
all-at P (x ∷ cs) zero c h e = let same : x ≡ c = cc in subst P same (All-head P x cs h)
all-at P (x ∷ cs) (suc i) c h e = all-at P cs i c (All-tail P x cs h) e

abbrev row_with : ℕ → ℕ → ℕ → (Cycle → Sheet) → Cycle → IssuedRow
row_with k n today sheet c = record { cycle = k; bill = n; day = today; statement = c; sheet = sheet c }

row-gives : (k n today : ℕ) (sheet : Cycle → Sheet) (b : Book) (c : Cycle) → Settled b → cycle_at k b.cycles ≡ Some c → Gives (row_with k n today sheet c) b
row-gives zero n today sheet b c h e = cc
row-gives (suc i) n today sheet b c h e =
    let number : c.number ≡ suc i = numbered-at 1 i b.cycles c h.numbers e ∙ omega arith in
    let fees : c.fees ≡ fees_in (suc i) b.fees = all-at (λ (x : Cycle). x.fees ≡ fees_in x.number b.fees) b.cycles i c h.fees e ∙ ap (λ m. fees_in m b.fees) number in
    record {
      fees = subst (λ fs. All (λ (f : Fee). f.cycle ≡ suc i → fee_cents f ≤ fees_for f.due_cycle fs) b.fees) (sym fees) (fees_in-wide (suc i) b.fees);
      cycle = λ d f. some-same c d (sym e ∙ f);
    }
  where
    some-same : (c d : Cycle) → Some c ≡ Some d → c ≡ d
    some-same c d h = cc

-- a row of today is seen on no day up to today
rows-unseen : (k n today day : ℕ) (sheet : Cycle → Sheet) (o : Option Cycle) (issued : List IssuedRow) → day ≤ today → filter (λ r. ltb r.day day) (issued ++ row_of_cycle k n today sheet o) ≡ filter (λ r. ltb r.day day) issued
rows-unseen k n today day sheet None issued l = ap (filter (λ (r : IssuedRow). ltb r.day day)) (append-nil issued)
rows-unseen k n today day sheet (Some c) issued l =
    let late : ltb today day ≡ false = grind (arith, nat_tests) in
    filter-append (λ (r : IssuedRow). ltb r.day day) issued (row_with k n today sheet c ∷ []) ∙ rw late (append-nil (filter (λ (r : IssuedRow). ltb r.day day) issued))

rows-free : (issued : List IssuedRow) (a : Account) (s : ℕ → Seen) (k m today n later : ℕ) (sheet : Cycle → Sheet) (o : Option Cycle) → cycle_at k (book_after issued a s (later + n)).cycles ≡ o
    → book_after (issued ++ row_of_cycle k m today sheet o) a s n ≡ book_after issued a s n
rows-free issued a s k m today n later sheet None e = ap (λ l. book_after l a s n) (append-nil issued)
rows-free issued a s k m today n later sheet (Some c) e = days-free issued _ a s n later (row-gives k m today sheet (book_after issued a s (later + n)) c (book-settled issued a s (later + n)) e)

row-changes-nothing : (history : List Kept) (issued : List IssuedRow) (shared : SharedRows) (m today cycle x : ℕ) (sheet : Cycle → Sheet) → x ≤ today
    → book history (issued ++ rows_issued cycle m today sheet (book history issued shared today)) shared x ≡ book history issued shared x
unfolding book
row-changes-nothing history issued shared m today cycle x sheet l =
    let a = account_of history in
    let s = seen_on (anchor_of history) shared history issued in
    let n = x + 1 - (anchor_of history).opened in
    let all = today + 1 - (anchor_of history).opened in
    let later = all - n in
    let sum : later + n ≡ all = omega arith in
    let b = book_after issued a s all in
    let rows = issued ++ rows_issued cycle m today sheet b in
    same_after rows a (seen_on (anchor_of history) shared history rows) s n (λ k below.
    let unseen = rows-unseen cycle m today ((anchor_of history).opened + k) sheet (cycle_at cycle b.cycles) issued (omega arith) in
    cc)
    ∙ subst (λ d. book_after (issued ++ rows_issued cycle m today sheet (book_after issued a s d)) a s n ≡ book_after issued a s n) sum (rows-free issued a s cycle m today n later sheet (cycle_at cycle (book_after issued a s (later + n)).cycles) refl)

pub issuing_changes_no_past_day : IssuingChangesNoPastDay
issuing_changes_no_past_day history issued shared m key today cycle x sheet l =
    bill-same history (issued ++ rows_issued cycle m today sheet (book history issued shared today)) shared m key today cycle x
    ∙ row-changes-nothing history issued shared m today cycle x sheet l
