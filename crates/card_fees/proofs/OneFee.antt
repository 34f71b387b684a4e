-- In the book of every day no due date has two fees.
use Rattle.std.proofs.Common.{◌≡◌, ℕ, zero, suc, ◌+◌, Bool, true, false, cond, eqb, List, [], ◌∷◌, Option, Some, None, refl, ap, ◌∙◌, arith}
use Rattle.card_events.specs.Civil.{day_of_month}
use Rattle.card_events.specs.History.{CorrectedPost}
use Rattle.card_events.specs.declared.post.Post.{Post}
use Rattle.card_events.specs.declared.post.Post.TheVariants as post
use Rattle.card_model.specs.Books.{Account, Book, present_cycle}
use Rattle.card_model.specs.Caps.{capped_by, row_for}
use Rattle.card_model.specs.Closing.{close}
use Rattle.card_model.specs.Cycles.{Cycle, IssuedRow, Seen, last_cycle, posts_on}
use Rattle.card_model.specs.DueDates.{after_due_date, on_due}
use Rattle.card_model.specs.Effects.{after_posts, effect, meant_for, payment_at, returned, returned_fee}
use Rattle.card_model.specs.Fees.{charged_fee, fee_cents, fee_for, is_charged_for, issued_fee, late_fee, penalty_fee, with_fee}
use Rattle.card_model.specs.Folds.{book, book_after, day_after}
use Rattle.card_model.specs.Payments.{met}
use Rattle.card_model.specs.declared.fee.Fee.{Fee}
use Rattle.card_model.specs.declared.fee.FeeKind.{FeeKind}
use Rattle.card_model.specs.declared.fee.FeeKind.TheVariants as fee
use Rattle.card_model.proofs.Caps.{above-is}
use Rattle.card_fees.specs.Laws.{AreOneEach, DueDatesHaveOneFee}
use Rattle.card_fees.proofs.Charges.{charged-parts, one-more-each}

-- no fee was charged for the due date of this one
abbrev IsFirst : List Fee → Fee → Type 0
IsFirst fees f = is_charged_for f.due_cycle fees ≡ false

fee-first : (seen : Seen) (cs : List Cycle) (fees : List Fee) (n : ℕ) (k : FeeKind) (c : Cycle) (f : Fee) → fee_for seen cs fees n k c ≡ Some f → IsFirst fees f
fee-first seen cs fees n k c f h = let p = charged-parts _ fees _ _ _ f h in ap (λ m. is_charged_for m fees) p.for_it ∙ p.first

charged-first : (issued : Option IssuedRow) (fees : List Fee) (o : Option Fee) → ((f : Fee) → o ≡ Some f → IsFirst fees f) → (g : Fee) → charged_fee issued o ≡ Some g → IsFirst fees g
charged-first issued fees None first g h = absurd (cc)
charged-first issued fees (Some f) first g h =
    let is = above-is (capped_by (issued_fee f.due_cycle) issued (fee_cents f)) f g h in
    ap (λ (x : Fee). is_charged_for x.due_cycle fees) is ∙ first f refl

penalty-first : (issued : Option IssuedRow) (seen : Seen) (b : Book) (k : FeeKind) (c : Cycle) (g : Fee) → penalty_fee issued seen b k c ≡ Some g → IsFirst b.fees g
penalty-first issued seen b k c g h = charged-first issued b.fees _ (fee-first seen b.cycles b.fees (present_cycle b) k c) g h

late-first : (issued : Option IssuedRow) (seen : Seen) (b : Book) (c : Cycle) (g : Fee) → late_fee issued seen b c ≡ Some g → IsFirst b.fees g
late-first issued seen b c g h = by (met seen c) h
  where
    by : (t : Bool) → cond t None (penalty_fee issued seen b fee.Late c) ≡ Some g → IsFirst b.fees g
    by true e = absurd (cc)
    by false e = penalty-first issued seen b fee.Late c g e

returned-first : (issued : Option IssuedRow) (seen : Seen) (b : Book) (c : Option Cycle) (g : Fee) → returned_fee issued seen b c ≡ Some g → IsFirst b.fees g
returned-first issued seen b None g h = absurd (cc)
returned-first issued seen b (Some c) g h = penalty-first issued seen b fee.Returned c g h

with_fee-one : (a : Account) (seen : Seen) (n : ℕ) (o : Option Fee) (b : Book) → ((g : Fee) → o ≡ Some g → IsFirst b.fees g) → AreOneEach b.fees → AreOneEach (with_fee a seen n o b).fees
with_fee-one a seen n None b h one = one
with_fee-one a seen n (Some f) b h one = one-more-each b.fees f one (h f refl)

effect-one : (issued : Option IssuedRow) (a : Account) (seen : Seen) (s : CorrectedPost) (p : Post) (b : Book) → AreOneEach b.fees → AreOneEach (effect issued a seen s p b).fees
unfolding effect
effect-one issued a seen s (post.Charge d p n) b h = h
effect-one issued a seen s (post.Payment d m c n) b h = h
effect-one issued a seen s (post.Credit d p n) b h = h
effect-one issued a seen s (post.Return d target) b h =
    let c = meant_for b.cycles (payment_at target seen.posts) in
    with_fee-one a seen s.number (returned_fee issued seen b c) (returned a seen s.number target b) (returned-first issued seen b c) h
effect-one issued a seen s (post.Dispute d target claim) b h = h
effect-one issued a seen s (post.Resolve d target c) b h = h
effect-one issued a seen s (post.Refund n) b h = h
effect-one issued a seen s post.Penalty b h = h
effect-one issued a seen s (post.Open d t) b h = h
effect-one issued a seen s (post.OpenVariable d t) b h = h
effect-one issued a seen s (post.Plan d k r e f) b h = h
effect-one issued a seen s (post.Notice d c r e) b h = h
effect-one issued a seen s (post.Lower d c r) b h = h
effect-one issued a seen s (post.Review d f) b h = h
effect-one issued a seen s (post.Ack d t) b h = h
effect-one issued a seen s (post.AskRefund d) b h = h
effect-one issued a seen s (post.Amend t d c) b h = h
effect-one issued a seen s (post.Bill c) b h = h

posts-one : (issued : Option IssuedRow) (a : Account) (seen : Seen) (ss : List CorrectedPost) (b : Book) → AreOneEach b.fees → AreOneEach (after_posts issued a seen ss b).fees
unfolding after_posts
posts-one issued a seen [] b h = h
posts-one issued a seen (s ∷ ss) b h = posts-one issued a seen ss (effect issued a seen s s.post b) (effect-one issued a seen s s.post b h)

chosen-one : (t : Bool) (new other : Book) → AreOneEach new.fees → AreOneEach other.fees → AreOneEach (cond t new other).fees
chosen-one true new other g h = g
chosen-one false new other g h = h

due-one : (issued : Option IssuedRow) (a : Account) (seen : Seen) (b : Book) (c : Option Cycle) → AreOneEach b.fees → AreOneEach (on_due issued a seen b c).fees
unfolding on_due
due-one issued a seen b None h = h
due-one issued a seen b (Some c) h = chosen-one (eqb seen.day (c.due + 1)) (after_due_date issued a seen b c) b (with_fee-one a seen 0 (late_fee issued seen b c) b (late-first issued seen b c) h) h

close-one : (issued : Option IssuedRow) (a : Account) (seen : Seen) (b : Book) → AreOneEach b.fees → AreOneEach (close issued a seen b).fees
unfolding close
close-one issued a seen b h = h

day-one : (issued : Option IssuedRow) (a : Account) (seen : Seen) (b : Book) → AreOneEach b.fees → AreOneEach (day_after issued a seen b).fees
unfolding day_after
day-one issued a seen b h =
    let posted = after_posts issued a seen (posts_on seen) (on_due issued a seen b (last_cycle b.cycles)) in
    let one : AreOneEach posted.fees = posts-one issued a seen (posts_on seen) (on_due issued a seen b (last_cycle b.cycles)) (due-one issued a seen b (last_cycle b.cycles) h) in
    chosen-one (eqb (day_of_month seen.day) a.anchor.close_day) (close issued a seen posted) posted (close-one issued a seen posted one) one

book-one : (rows : List IssuedRow) (a : Account) (seen : ℕ → Seen) (n : ℕ) → AreOneEach (book_after rows a seen n).fees
unfolding book_after
book-one rows a seen zero = λ k. omega arith
book-one rows a seen (suc n) = day-one (row_for (present_cycle (book_after rows a seen n)) rows) a (seen (a.anchor.opened + n)) (book_after rows a seen n) (book-one rows a seen n)

pub one-fee-each : DueDatesHaveOneFee
unfolding book
one-fee-each history issued shared day = book-one issued _ _ _
