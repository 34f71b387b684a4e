-- Closed cycles are numbered from 1 on, and have all fees that were charged in them.
use Rattle.std.proofs.Common.{◌≡◌, ℕ, zero, suc, ◌+◌, ◌<◌, ◌≤◌, Bool, true, false, cond, List, [], ◌∷◌, ◌++◌, refl, sym, ap, ◌∙◌, subst, arith, Option, Some, None, eqb, length, append_assoc}
use Rattle.std.specs.List.{All}
use Rattle.std.specs.Prelude.{slice_get}
use Rattle.std.proofs.lemmas.List.{append-nil}
use Rattle.std.proofs.lemmas.List.Elements.{All-nil, All-cons, All-head, All-tail, All-push, All-append, filter-append}
use Rattle.std.proofs.lemmas.Bool.{ne_eqb}
use Rattle.card_events.specs.Civil.{day_of_month}
use Rattle.card_events.specs.History.{CorrectedPost}
use Rattle.card_events.specs.declared.post.Post.{Post}
use Rattle.card_model.specs.Books.{Account, Book, present_cycle}
use Rattle.card_model.specs.Caps.{capped_by, row_for}
use Rattle.card_model.specs.Closing.{close, closed_cycle, closing_interest}
use Rattle.card_model.specs.Cycles.{Cycle, IssuedRow, Seen, last_cycle, posts_on}
use Rattle.card_model.specs.DueDates.{after_due_date, on_due}
use Rattle.card_model.specs.Effects.{after_posts, effect, meant_for, payment_at, returned, returned_fee}
use Rattle.card_model.specs.Fees.{charged_fee, fee_cents, fees_in, issued_fee, late_fee, penalty_fee, with_fee}
use Rattle.card_model.specs.Folds.{book_after, day_after}
use Rattle.card_model.specs.Payments.{met}
use Rattle.card_model.specs.declared.fee.Fee.{Fee}
use Rattle.card_model.specs.declared.fee.FeeKind.{FeeKind}
use Rattle.card_events.specs.declared.post.Post.TheVariants as post
use Rattle.card_model.specs.declared.fee.FeeKind.TheVariants as fee
use Rattle.card_model.proofs.Caps.{above-is, fee_for-cycle, effect-cycles, posts-cycles, due-cycles}

-- ---- numbers of cycles
abbrev pub AreNumbered : ℕ → List Cycle → Type 0
AreNumbered n [] = Unit {0}
AreNumbered n (c ∷ cs) = (c.number ≡ n) × AreNumbered (suc n) cs

numbered-push : (n m : ℕ) (cs : List Cycle) (c : Cycle) → length cs + n ≡ m → c.number ≡ m → AreNumbered n cs → AreNumbered n (cs ++ c ∷ [])
numbered-push n m [] c e f h = (f ∙ omega arith, tt)
numbered-push n m (x ∷ cs) c e f h = (h.0, numbered-push (suc n) m cs c (omega arith) f h.1)

pub numbered-at : (n i : ℕ) (cs : List Cycle) (c : Cycle) → AreNumbered n cs → slice_get cs i ≡ Some c → c.number ≡ n + i
numbered-at n i [] c h e = cc
numbered-at n zero (x ∷ cs) c h e = let same : x ≡ c = cc in ap (λ (y : Cycle). y.number) (sym same) ∙ (h.0 ∙ omega arith)
numbered-at n (suc i) (x ∷ cs) c h e = numbered-at (suc n) i cs c h.1 e ∙ omega arith

numbered-below : (n m : ℕ) (cs : List Cycle) → length cs + n ≤ m → AreNumbered n cs → All (λ (c : Cycle). c.number < m) cs
numbered-below n m [] l h = All-nil (λ (c : Cycle). c.number < m)
numbered-below n m (x ∷ cs) l h = All-cons (λ (c : Cycle). c.number < m) x cs (let e = h.0 in omega arith) (numbered-below (suc n) m cs (omega arith) h.1)

-- ---- fees of one cycle, added
pub record Adds (n : ℕ) (old new : List Fee) : Type 0 where
  pub rest : List Fee
  pub is : new ≡ old ++ rest
  pub of_cycle : All (λ (f : Fee). f.cycle ≡ n) rest

adds_none : (n : ℕ) (fs : List Fee) → Adds n fs fs
adds_none n fs = record { rest = []; is = sym (append-nil fs); of_cycle = All-nil (λ (f : Fee). f.cycle ≡ n) }

pub adds_then : (n : ℕ) (xs ys zs : List Fee) → Adds n xs ys → Adds n ys zs → Adds n xs zs
adds_then n xs ys zs a b = record {
  rest = a.rest ++ b.rest;
  is = b.is ∙ (ap (λ l. l ++ b.rest) a.is ∙ append_assoc xs a.rest b.rest);
  of_cycle = All-append (λ (f : Fee). f.cycle ≡ n) a.rest b.rest a.of_cycle b.of_cycle;
}

charged-cycle : (n : ℕ) (issued : Option IssuedRow) (o : Option Fee) → ((f : Fee) → o ≡ Some f → f.cycle ≡ n) → (g : Fee) → charged_fee issued o ≡ Some g → g.cycle ≡ n
charged-cycle n issued None h g e = cc
charged-cycle n issued (Some f) h g e = ap (λ (x : Fee). x.cycle) (above-is (capped_by (issued_fee f.due_cycle) issued (fee_cents f)) f g e) ∙ h f refl

penalty-cycle : (issued : Option IssuedRow) (seen : Seen) (b : Book) (k : FeeKind) (c : Cycle) (g : Fee) → penalty_fee issued seen b k c ≡ Some g → g.cycle ≡ present_cycle b
penalty-cycle issued seen b k c g e = charged-cycle (present_cycle b) issued _ (fee_for-cycle seen b.cycles b.fees (present_cycle b) k c) g e

fee-adds : (a : Account) (seen : Seen) (m n : ℕ) (o : Option Fee) (b : Book) → ((g : Fee) → o ≡ Some g → g.cycle ≡ n) → Adds n b.fees (with_fee a seen m o b).fees
fee-adds a seen m n None b h = adds_none n b.fees
fee-adds a seen m n (Some g) b h = record { rest = g ∷ []; is = refl; of_cycle = All-cons (λ (f : Fee). f.cycle ≡ n) g [] (h g refl) (All-nil (λ (f : Fee). f.cycle ≡ n)) }

returned-cycle : (issued : Option IssuedRow) (seen : Seen) (b : Book) (c : Option Cycle) (g : Fee) → returned_fee issued seen b c ≡ Some g → g.cycle ≡ present_cycle b
returned-cycle issued seen b None g e = cc
returned-cycle issued seen b (Some c) g e = penalty-cycle issued seen b fee.Returned c g e

late-cycle : (issued : Option IssuedRow) (seen : Seen) (b : Book) (c : Cycle) (g : Fee) → late_fee issued seen b c ≡ Some g → g.cycle ≡ present_cycle b
late-cycle issued seen b c g h = by (met seen c) h
  where
    by : (t : Bool) → cond t None (penalty_fee issued seen b fee.Late c) ≡ Some g → g.cycle ≡ present_cycle b
    by true e = cc
    by false e = penalty-cycle issued seen b fee.Late c g e

effect-adds : (issued : Option IssuedRow) (a : Account) (seen : Seen) (p : CorrectedPost) (k : Post) (b : Book) → Adds (present_cycle b) b.fees (effect issued a seen p k b).fees
unfolding effect
effect-adds issued a seen p (post.Return d target) b =
    let c = meant_for b.cycles (payment_at target seen.posts) in
    fee-adds a seen p.number (present_cycle b) (returned_fee issued seen b c) (returned a seen p.number target b) (returned-cycle issued seen b c)
effect-adds issued a seen p (post.Charge d q n) b = adds_none _ b.fees
effect-adds issued a seen p (post.Payment d m c n) b = adds_none _ b.fees
effect-adds issued a seen p (post.Credit d q n) b = adds_none _ b.fees
effect-adds issued a seen p (post.Dispute d target claim) b = adds_none _ b.fees
effect-adds issued a seen p (post.Resolve d target c) b = adds_none _ b.fees
effect-adds issued a seen p (post.Refund n) b = adds_none _ b.fees
effect-adds issued a seen p post.Penalty b = adds_none _ b.fees
effect-adds issued a seen p (post.Open d t) b = adds_none _ b.fees
effect-adds issued a seen p (post.OpenVariable d t) b = adds_none _ b.fees
effect-adds issued a seen p (post.Plan d k r e f) b = adds_none _ b.fees
effect-adds issued a seen p (post.Notice d c r e) b = adds_none _ b.fees
effect-adds issued a seen p (post.Lower d c r) b = adds_none _ b.fees
effect-adds issued a seen p (post.Review d f) b = adds_none _ b.fees
effect-adds issued a seen p (post.Ack d t) b = adds_none _ b.fees
effect-adds issued a seen p (post.AskRefund d) b = adds_none _ b.fees
effect-adds issued a seen p (post.Amend t d c) b = adds_none _ b.fees
effect-adds issued a seen p (post.Bill c) b = adds_none _ b.fees

pub posts-add : (issued : Option IssuedRow) (a : Account) (seen : Seen) (ps : List CorrectedPost) (b : Book) (n : ℕ) → present_cycle b ≡ n → Adds n b.fees (after_posts issued a seen ps b).fees
unfolding after_posts
posts-add issued a seen [] b n e = adds_none n b.fees
posts-add issued a seen (p ∷ ps) b n e =
    let next = effect issued a seen p p.post b in
    let same : present_cycle next ≡ n = ap (λ (cs : List Cycle). length cs + 1) (effect-cycles issued a seen p p.post b) ∙ e in
    adds_then n b.fees next.fees _ (subst (λ m. Adds m b.fees next.fees) e (effect-adds issued a seen p p.post b)) (posts-add issued a seen ps next n same)

pub due-adds : (issued : Option IssuedRow) (a : Account) (seen : Seen) (b : Book) (o : Option Cycle) → Adds (present_cycle b) b.fees (on_due issued a seen b o).fees
unfolding on_due
due-adds issued a seen b None = adds_none _ b.fees
due-adds issued a seen b (Some c) = by (eqb seen.day (c.due + 1)) (fee-adds a seen 0 (present_cycle b) (late_fee issued seen b c) b (late-cycle issued seen b c))
  where
    by : (t : Bool) → Adds (present_cycle b) b.fees (after_due_date issued a seen b c).fees → Adds (present_cycle b) b.fees (cond t (after_due_date issued a seen b c) b).fees
    by true h = h
    by false h = adds_none _ b.fees

-- fees of another cycle are none of this one's
no_fees : (n m : ℕ) (fs : List Fee) → n < m → All (λ (f : Fee). f.cycle ≡ m) fs → fees_in n fs ≡ []
no_fees n m [] l h = refl
no_fees n m (f ∷ fs) l h =
    let other : eqb f.cycle n ≡ false = ne_eqb f.cycle n (λ e. let k = All-head (λ (f : Fee). f.cycle ≡ m) f fs h in omega arith) in
    rw other (no_fees n m fs l (All-tail (λ (f : Fee). f.cycle ≡ m) f fs h))

fees-same : (n m : ℕ) (old new : List Fee) → n < m → Adds m old new → fees_in n new ≡ fees_in n old
fees-same n m old new l h =
    ap (fees_in n) h.is ∙ (filter-append (λ (f : Fee). eqb f.cycle n) old h.rest ∙ (ap (λ xs. fees_in n old ++ xs) (no_fees n m h.rest l h.of_cycle) ∙ append-nil (fees_in n old)))

-- ---- the book of every day
abbrev HasItsFees : List Fee → Cycle → Type 0
HasItsFees fs c = c.fees ≡ fees_in c.number fs

pub record Settled (b : Book) : Type 0 where
  pub numbers : AreNumbered 1 b.cycles
  pub fees : All (λ (c : Cycle). c.fees ≡ fees_in c.number b.fees) b.cycles

still : (cs : List Cycle) (old new : List Fee) (m : ℕ) → Adds m old new → All (λ (c : Cycle). c.number < m) cs → All (HasItsFees old) cs → All (HasItsFees new) cs
still [] old new m d l h = All-nil (HasItsFees new)
still (c ∷ cs) old new m d l h =
    All-cons (HasItsFees new) c cs (All-head (HasItsFees old) c cs h ∙ sym (fees-same c.number m old new (All-head (λ (c : Cycle). c.number < m) c cs l) d))
    (still cs old new m d (All-tail (λ (c : Cycle). c.number < m) c cs l) (All-tail (HasItsFees old) c cs h))

close-settled : (issued : Option IssuedRow) (a : Account) (seen : Seen) (b : Book) → Settled b → Settled (close issued a seen b)
unfolding close
close-settled issued a seen b h =
    let c = closed_cycle issued a seen b (closing_interest issued a seen b) in
    record {
      numbers = numbered-push 1 (present_cycle b) b.cycles c refl refl h.numbers;
      fees = All-push (HasItsFees b.fees) b.cycles c h.fees refl;
    }

chosen : (t : Bool) (new other : Book) → Settled new → Settled other → Settled (cond t new other)
chosen true new other g h = g
chosen false new other g h = h

day-settled : (issued : Option IssuedRow) (a : Account) (seen : Seen) (b : Book) → Settled b → Settled (day_after issued a seen b)
unfolding day_after
day-settled issued a seen b h =
    let n = present_cycle b in
    let due = on_due issued a seen b (last_cycle b.cycles) in
    let posted = after_posts issued a seen (posts_on seen) due in
    let due_cycles : due.cycles ≡ b.cycles = due-cycles issued a seen b (last_cycle b.cycles) in
    let cycles : posted.cycles ≡ b.cycles = posts-cycles issued a seen (posts_on seen) due ∙ due_cycles in
    let added = adds_then n b.fees due.fees posted.fees (due-adds issued a seen b (last_cycle b.cycles)) (posts-add issued a seen (posts_on seen) due n (ap (λ (cs : List Cycle). length cs + 1) due_cycles)) in
    let settled : Settled posted = record {
      numbers = subst (AreNumbered 1) (sym cycles) h.numbers;
      fees = subst (λ cs. All (HasItsFees posted.fees) cs) (sym cycles) (still b.cycles b.fees posted.fees n added (numbered-below 1 n b.cycles (omega arith) h.numbers) h.fees);
    } in
    chosen (eqb (day_of_month seen.day) a.anchor.close_day) _ _ (close-settled issued a seen posted settled) settled

pub book-settled : (rows : List IssuedRow) (a : Account) (seen : ℕ → Seen) (n : ℕ) → Settled (book_after rows a seen n)
unfolding book_after
book-settled rows a seen zero = record { numbers = tt; fees = All-nil (HasItsFees []) }
book-settled rows a seen (suc n) =
    let before = book_after rows a seen n in
    day-settled (row_for (present_cycle before) rows) a (seen (a.anchor.opened + n)) before (book-settled rows a seen n)
