-- No book passes its issued rows.
use Rattle.std.proofs.Common.{◌≡◌, ℕ, zero, suc, ◌+◌, ◌-◌, ◌≤◌, Bool, true, false, cond, List, [], ◌∷◌, ◌++◌, refl, sym, ap, ◌∙◌, subst, arith, Option, Some, None, eqb, length}
use Rattle.std.specs.List.{All, cons_option}
use Rattle.std.proofs.lemmas.List.Sums.{sum_by-append}
use Rattle.std.proofs.lemmas.List.Elements.{All-nil, All-cons, All-push}
use Rattle.std.proofs.lemmas.Bool.{eqb-true}
use Rattle.card_events.specs.Civil.{day_of_month}
use Rattle.card_events.specs.History.{CorrectedPost}
use Rattle.card_events.specs.declared.post.Post.{Post}
use Rattle.card_model.specs.Books.{Account, Book, all_segments, present_cycle}
use Rattle.card_model.specs.Caps.{capped_by, issued_grace, issued_interest, issued_minimum, row_for}
use Rattle.card_model.specs.Closing.{Posting, by_segment, close, closed_cycle, closing_interest, grace_amount, minimum_payment, post_interest, post_one, posted_for, within_limit}
use Rattle.card_model.specs.Cycles.{Cycle, IssuedRow, Seen, amount_at, last_cycle, posts_on}
use Rattle.card_model.specs.DueDates.{after_due_date, on_due}
use Rattle.card_model.specs.Effects.{after_posts, effect, meant_for, payment_at, returned, returned_fee}
use Rattle.card_model.specs.Entries.{owing}
use Rattle.card_model.specs.Fees.{at_cents, charged_fee, fee_above, fee_by, fee_cents, fee_for, issued_fee, late_fee, penalty_fee, with_fee}
use Rattle.card_model.specs.Folds.{book, book_after, day_after}
use Rattle.card_model.specs.Interest.{row}
use Rattle.card_model.specs.Laws.{IsCycleWithin, IsFeeWithin, IsWithin, IssuedCaps}
use Rattle.card_model.specs.Payments.{met}
use Rattle.card_model.specs.Segments.{SegmentTerms}
use Rattle.card_model.specs.declared.fee.Fee.{Fee}
use Rattle.card_model.specs.declared.fee.FeeKind.{FeeKind}
use Rattle.card_events.specs.declared.post.Post.TheVariants as post
use Rattle.card_model.specs.declared.fee.FeeKind.TheVariants as fee

-- ---- fees
pub above-is : (c : ℕ) (f g : Fee) → fee_above c f ≡ Some g → g ≡ at_cents c f
above-is zero f g h = cc
above-is (suc n) f g h = cc

pub capped-within : (x : IssuedRow → ℕ) (n : ℕ) (o : Option IssuedRow) (r : IssuedRow) → o ≡ Some r → capped_by x o n ≤ x r
capped-within x n None r h = cc
capped-within x n (Some t) r h = let e : t ≡ r = cc in rw e (omega arith)

pub fee_for-cycle : (seen : Seen) (cs : List Cycle) (fs : List Fee) (n : ℕ) (k : FeeKind) (c : Cycle) (f : Fee) → fee_for seen cs fs n k c ≡ Some f → f.cycle ≡ n
unfolding fee_by
fee_for-cycle seen cs fs n k c f h = by _ _ refl h
  where
    by : (t : Bool) (g : Fee) → g.cycle ≡ n → cond t None (Some g) ≡ Some f → f.cycle ≡ n
    by true g e h = cc
    by false g e h = let same : g ≡ f = cc in rw (← same) e

-- a fee of a cycle, lowered by the row of that cycle
-- a fee is at most what the row of its cycle has
abbrev pub FeeFits : List IssuedRow → Fee → Type 0
FeeFits rows f = (r : IssuedRow) → row_for f.cycle rows ≡ Some r → IsFeeWithin r f

charged-fits : (rows : List IssuedRow) (n : ℕ) (o : Option Fee) → ((f : Fee) → o ≡ Some f → f.cycle ≡ n) → (g : Fee) → charged_fee (row_for n rows) o ≡ Some g → FeeFits rows g
charged-fits rows n None same g h r e = cc
charged-fits rows n (Some f) same g h r e =
    let is = above-is (capped_by (issued_fee f.due_cycle) (row_for n rows) (fee_cents f)) f g h in
    let cycle : f.cycle ≡ n = same f refl in
    let here : row_for n rows ≡ Some r = ap (λ m. row_for m rows) (sym cycle ∙ sym (ap (λ (x : Fee). x.cycle) is)) ∙ e in
    rw is (capped-within (issued_fee f.due_cycle) (fee_cents f) (row_for n rows) r here)

penalty-fits : (rows : List IssuedRow) (seen : Seen) (b : Book) (k : FeeKind) (c : Cycle) (g : Fee) → penalty_fee (row_for (present_cycle b) rows) seen b k c ≡ Some g → FeeFits rows g
penalty-fits rows seen b k c g h = charged-fits rows (present_cycle b) _ (fee_for-cycle seen b.cycles b.fees (present_cycle b) k c) g h

late-fits : (rows : List IssuedRow) (seen : Seen) (b : Book) (c : Cycle) (g : Fee) → late_fee (row_for (present_cycle b) rows) seen b c ≡ Some g → FeeFits rows g
late-fits rows seen b c g h = by (met seen c) h
  where
    by : (t : Bool) → cond t None (penalty_fee (row_for (present_cycle b) rows) seen b fee.Late c) ≡ Some g → FeeFits rows g
    by true e = cc
    by false e = penalty-fits rows seen b fee.Late c g e

returned-fits : (rows : List IssuedRow) (seen : Seen) (b : Book) (c : Option Cycle) (g : Fee) → returned_fee (row_for (present_cycle b) rows) seen b c ≡ Some g → FeeFits rows g
returned-fits rows seen b None g h = cc
returned-fits rows seen b (Some c) g h = penalty-fits rows seen b fee.Returned c g h

with_fee-fits : (rows : List IssuedRow) (a : Account) (seen : Seen) (n : ℕ) (o : Option Fee) (b : Book) → ((g : Fee) → o ≡ Some g → FeeFits rows g) → All (FeeFits rows) b.fees → All (FeeFits rows) (with_fee a seen n o b).fees
with_fee-fits rows a seen n None b h all = all
with_fee-fits rows a seen n (Some f) b h all = All-push (FeeFits rows) b.fees f all (h f refl)

-- ---- what stays in a step
pub effect-cycles : (issued : Option IssuedRow) (a : Account) (seen : Seen) (s : CorrectedPost) (p : Post) (b : Book) → (effect issued a seen s p b).cycles ≡ b.cycles
unfolding effect
effect-cycles issued a seen s (post.Charge d p n) b = refl
effect-cycles issued a seen s (post.Payment d m c n) b = refl
effect-cycles issued a seen s (post.Credit d p n) b = refl
effect-cycles issued a seen s (post.Return d target) b = fee-cycles a seen s.number (returned_fee issued seen b (meant_for b.cycles (payment_at target seen.posts))) (returned a seen s.number target b)
  where
    fee-cycles : (a : Account) (seen : Seen) (n : ℕ) (o : Option Fee) (b : Book) → (with_fee a seen n o b).cycles ≡ b.cycles
    fee-cycles a seen n None b = refl
    fee-cycles a seen n (Some f) b = refl
effect-cycles issued a seen s (post.Dispute d target claim) b = refl
effect-cycles issued a seen s (post.Resolve d target c) b = refl
effect-cycles issued a seen s (post.Refund n) b = refl
effect-cycles issued a seen s post.Penalty b = refl
effect-cycles issued a seen s (post.Open d t) b = refl
effect-cycles issued a seen s (post.OpenVariable d t) b = refl
effect-cycles issued a seen s (post.Plan d k r e f) b = refl
effect-cycles issued a seen s (post.Notice d c r e) b = refl
effect-cycles issued a seen s (post.Lower d c r) b = refl
effect-cycles issued a seen s (post.Review d f) b = refl
effect-cycles issued a seen s (post.Ack d t) b = refl
effect-cycles issued a seen s (post.AskRefund d) b = refl
effect-cycles issued a seen s (post.Amend t d c) b = refl
effect-cycles issued a seen s (post.Bill c) b = refl

pub posts-cycles : (issued : Option IssuedRow) (a : Account) (seen : Seen) (ss : List CorrectedPost) (b : Book) → (after_posts issued a seen ss b).cycles ≡ b.cycles
unfolding after_posts
posts-cycles issued a seen [] b = refl
posts-cycles issued a seen (s ∷ ss) b = posts-cycles issued a seen ss (effect issued a seen s s.post b) ∙ effect-cycles issued a seen s s.post b

pub fee-cycles : (a : Account) (seen : Seen) (n : ℕ) (o : Option Fee) (b : Book) → (with_fee a seen n o b).cycles ≡ b.cycles
fee-cycles a seen n None b = refl
fee-cycles a seen n (Some f) b = refl

pub due-cycles : (issued : Option IssuedRow) (a : Account) (seen : Seen) (b : Book) (c : Option Cycle) → (on_due issued a seen b c).cycles ≡ b.cycles
unfolding on_due
due-cycles issued a seen b None = refl
due-cycles issued a seen b (Some c) = by (eqb seen.day (c.due + 1)) (fee-cycles a seen 0 (late_fee issued seen b c) b)
  where
    by : (t : Bool) → (after_due_date issued a seen b c).cycles ≡ b.cycles → (cond t (after_due_date issued a seen b c) b).cycles ≡ b.cycles
    by true h = h
    by false h = refl

-- ---- the fees of a day
effect-fits : (rows : List IssuedRow) (a : Account) (seen : Seen) (s : CorrectedPost) (p : Post) (b : Book) → All (FeeFits rows) b.fees → All (FeeFits rows) (effect (row_for (present_cycle b) rows) a seen s p b).fees
unfolding effect
effect-fits rows a seen s (post.Charge d p n) b h = h
effect-fits rows a seen s (post.Payment d m c n) b h = h
effect-fits rows a seen s (post.Credit d p n) b h = h
effect-fits rows a seen s (post.Return d target) b h =
    let c = meant_for b.cycles (payment_at target seen.posts) in
    with_fee-fits rows a seen s.number (returned_fee (row_for (present_cycle b) rows) seen b c) (returned a seen s.number target b) (returned-fits rows seen b c) h
effect-fits rows a seen s (post.Dispute d target claim) b h = h
effect-fits rows a seen s (post.Resolve d target c) b h = h
effect-fits rows a seen s (post.Refund n) b h = h
effect-fits rows a seen s post.Penalty b h = h
effect-fits rows a seen s (post.Open d t) b h = h
effect-fits rows a seen s (post.OpenVariable d t) b h = h
effect-fits rows a seen s (post.Plan d k r e f) b h = h
effect-fits rows a seen s (post.Notice d c r e) b h = h
effect-fits rows a seen s (post.Lower d c r) b h = h
effect-fits rows a seen s (post.Review d f) b h = h
effect-fits rows a seen s (post.Ack d t) b h = h
effect-fits rows a seen s (post.AskRefund d) b h = h
effect-fits rows a seen s (post.Amend t d c) b h = h
effect-fits rows a seen s (post.Bill c) b h = h

posts-fit : (rows : List IssuedRow) (n : ℕ) (a : Account) (seen : Seen) (ss : List CorrectedPost) (b : Book) → present_cycle b ≡ n → All (FeeFits rows) b.fees → All (FeeFits rows) (after_posts (row_for n rows) a seen ss b).fees
unfolding after_posts
posts-fit rows n a seen [] b e h = h
posts-fit rows n a seen (s ∷ ss) b e h =
    let next = effect (row_for n rows) a seen s s.post b in
    let same : present_cycle next ≡ n = ap (λ (cs : List Cycle). length cs + 1) (effect-cycles (row_for n rows) a seen s s.post b) ∙ e in
    let fit : All (FeeFits rows) next.fees = subst (λ m. All (FeeFits rows) (effect (row_for m rows) a seen s s.post b).fees) e (effect-fits rows a seen s s.post b h) in
    posts-fit rows n a seen ss next same fit

fees_chosen : (rows : List IssuedRow) (t : Bool) (new other : Book) → All (FeeFits rows) new.fees → All (FeeFits rows) other.fees → All (FeeFits rows) (cond t new other).fees
fees_chosen rows true new other g h = g
fees_chosen rows false new other g h = h

due-fit : (rows : List IssuedRow) (a : Account) (seen : Seen) (b : Book) (c : Option Cycle) → All (FeeFits rows) b.fees → All (FeeFits rows) (on_due (row_for (present_cycle b) rows) a seen b c).fees
unfolding on_due
due-fit rows a seen b None h = h
due-fit rows a seen b (Some c) h =
    fees_chosen rows (eqb seen.day (c.due + 1)) (after_due_date (row_for (present_cycle b) rows) a seen b c) b
    (with_fee-fits rows a seen 0 (late_fee (row_for (present_cycle b) rows) seen b c) b (late-fits rows seen b c) h) h

-- ---- the interest of a closing
pub amount_at-append : (s : ℕ) (xs ys : List (ℕ × ℕ)) → amount_at s (xs ++ ys) ≡ amount_at s xs + amount_at s ys
amount_at-append s xs ys = sum_by-append _ xs ys

pub amount_at-push : (t s x : ℕ) (xs : List (ℕ × ℕ)) → amount_at t (xs ++ (s, x) ∷ []) ≡ amount_at t xs + cond (eqb s t) x 0
amount_at-push t s x xs = amount_at-append t xs ((s, x) ∷ []) ∙ omega arith

-- x more on s, where that is left there
still : (xs is : List (ℕ × ℕ)) (s x : ℕ) → x ≤ amount_at s is - amount_at s xs → ((t : ℕ) → amount_at t xs ≤ amount_at t is) → (t : ℕ) → amount_at t (xs ++ (s, x) ∷ []) ≤ amount_at t is
still xs is s x few h t = rw (amount_at-push t s x xs) (by (eqb s t) refl (h t))
  where
    leaves : (x n m : ℕ) → x ≤ n - m → m ≤ n → m + x ≤ n
    leaves x n m h l = omega arith

    by : (u : Bool) → eqb s t ≡ u → amount_at t xs ≤ amount_at t is → amount_at t xs + cond u x 0 ≤ amount_at t is
    by false e l = omega arith
    by true e l = let f = subst (λ n. x ≤ amount_at n is - amount_at n xs) (eqb-true s t e) few in leaves x (amount_at t is) (amount_at t xs) f l

interest-fits : (r : IssuedRow) (seen : Seen) (amount : Book → SegmentTerms → ℕ) (gs : List SegmentTerms) (p : Posting) → ((s : ℕ) → amount_at s p.amounts ≤ amount_at s r.statement.interest) → (s : ℕ) → amount_at s (post_interest (Some r) seen amount gs p).amounts ≤ amount_at s r.statement.interest
unfolding post_interest
interest-fits r seen amount [] p h s = h s
interest-fits r seen amount (g ∷ gs) p h s =
    let few = capped-within (issued_interest g.id p.amounts) (within_limit (owing g.id p.book.entries) (amount p.book g)) (Some r) r refl in
    interest-fits r seen amount gs (post_one seen g (posted_for (Some r) amount g p) p) (still p.amounts r.statement.interest g.id (posted_for (Some r) amount g p) few h) s

closing-fits : (r : IssuedRow) (a : Account) (seen : Seen) (b : Book) (s : ℕ) → amount_at s (closing_interest (Some r) a seen b).amounts ≤ amount_at s r.statement.interest
unfolding closing_interest
closing-fits r a seen b s = interest-fits r seen _ _ _ (interest-fits r seen _ _ _ (λ t. omega arith)) s

-- amounts by segment
by_segment-all : (P : ℕ × ℕ → Type 0) (amount : SegmentTerms → ℕ) → ((g : SegmentTerms) → P (g.id, amount g)) → (gs : List SegmentTerms) → All P (by_segment amount gs)
by_segment-all P amount h [] = All-nil P
by_segment-all P amount h (g ∷ gs) = by (eqb (amount g) 0) (h g) (by_segment-all P amount h gs)
  where
    by : (t : Bool) → P (g.id, amount g) → All P (by_segment amount gs) → All P (cons_option (cond t None (Some (g.id, amount g))) (by_segment amount gs))
    by true p i = i
    by false p i = All-cons P (g.id, amount g) (by_segment amount gs) p i

-- a cycle has at most what the row of its number has
abbrev pub CycleFits : List IssuedRow → Cycle → Type 0
CycleFits rows c = (r : IssuedRow) → row_for c.number rows ≡ Some r → IsCycleWithin r c

closed-within_row : (r : IssuedRow) (a : Account) (seen : Seen) (b : Book) → IsCycleWithin r (closed_cycle (Some r) a seen b (closing_interest (Some r) a seen b))
closed-within_row r a seen b =
    let p = closing_interest (Some r) a seen b in
    record {
      interest = by_segment-all (λ x. x.1 ≤ amount_at x.0 r.statement.interest) (λ g. amount_at g.id p.amounts) (λ g. closing-fits r a seen b g.id) (all_segments a seen);
      minimum = capped-within issued_minimum (minimum_payment a seen b p) (Some r) r refl;
      grace_amount = capped-within issued_grace (grace_amount a seen p) (Some r) r refl;
    }

closed-within : (issued : Option IssuedRow) (r : IssuedRow) (a : Account) (seen : Seen) (b : Book) → issued ≡ Some r → IsCycleWithin r (closed_cycle issued a seen b (closing_interest issued a seen b))
closed-within None r a seen b e = cc
closed-within (Some t) r a seen b e =
    let same : t ≡ r = cc in
    subst (λ u. IsCycleWithin u (closed_cycle (Some t) a seen b (closing_interest (Some t) a seen b))) same (closed-within_row t a seen b)

-- ---- the book of every day
pub record Fits (rows : List IssuedRow) (b : Book) : Type 0 where
  pub cycles : All (CycleFits rows) b.cycles
  pub fees : All (FeeFits rows) b.fees

chosen : (rows : List IssuedRow) (t : Bool) (new other : Book) → Fits rows new → Fits rows other → Fits rows (cond t new other)
chosen rows true new other g h = g
chosen rows false new other g h = h

close-fits : (rows : List IssuedRow) (n : ℕ) (a : Account) (seen : Seen) (b : Book) → present_cycle b ≡ n → Fits rows b → Fits rows (close (row_for n rows) a seen b)
unfolding close
close-fits rows n a seen b e h = record {
  cycles = All-push (CycleFits rows) b.cycles _ h.cycles (λ r f. closed-within (row_for n rows) r a seen b (ap (λ m. row_for m rows) (sym e) ∙ f));
  fees = h.fees;
}

day-fits : (rows : List IssuedRow) (a : Account) (seen : Seen) (b : Book) → Fits rows b → Fits rows (day_after (row_for (present_cycle b) rows) a seen b)
unfolding day_after
day-fits rows a seen b h =
    let issued = row_for (present_cycle b) rows in
    let due = on_due issued a seen b (last_cycle b.cycles) in
    let posted = after_posts issued a seen (posts_on seen) due in
    let due_cycles : due.cycles ≡ b.cycles = due-cycles issued a seen b (last_cycle b.cycles) in
    let cycles : posted.cycles ≡ b.cycles = posts-cycles issued a seen (posts_on seen) due ∙ due_cycles in
    let fits : Fits rows posted = record {
      cycles = rw cycles h.cycles;
      fees = posts-fit rows (present_cycle b) a seen (posts_on seen) due (ap (λ (cs : List Cycle). length cs + 1) due_cycles) (due-fit rows a seen b (last_cycle b.cycles) h.fees);
    } in
    chosen rows (eqb (day_of_month seen.day) a.anchor.close_day) (close issued a seen posted) posted (close-fits rows (present_cycle b) a seen posted (ap (λ (cs : List Cycle). length cs + 1) cycles) fits) fits

book-fits : (rows : List IssuedRow) (a : Account) (seen : ℕ → Seen) (n : ℕ) → Fits rows (book_after rows a seen n)
unfolding book_after
book-fits rows a seen zero = record { cycles = All-nil (CycleFits rows); fees = All-nil (FeeFits rows) }
book-fits rows a seen (suc n) = day-fits rows a (seen (a.anchor.opened + n)) (book_after rows a seen n) (book-fits rows a seen n)

within : (rows : List IssuedRow) (row : IssuedRow) (b : Book) → row_for row.cycle rows ≡ Some row → Fits rows b → IsWithin row b
within rows row b e h = record {
  cycles = λ k d l same. h.cycles k d l row (ap (λ m. row_for m rows) same ∙ e);
  fees = λ k d l same. h.fees k d l row (ap (λ m. row_for m rows) same ∙ e);
}

pub issued_caps : IssuedCaps
unfolding book
issued_caps history issued shared day row e = within issued row _ e (book-fits issued _ _ _)
