-- Nothing that was entered is taken back: entries, cycles and fees only grow.
use Rattle.std.proofs.Common.{◌≡◌, ℕ, zero, suc, ◌+◌, Bool, true, false, cond, List, [], ◌∷◌, ◌++◌, refl, sym, ap, ◌∙◌, arith, Option, Some, None, append_assoc, eqb}
use Rattle.std.proofs.lemmas.List.{append-nil}
use Rattle.std.specs.List.{filter}
use Rattle.card_events.specs.History.{CorrectedPost}
use Rattle.card_events.specs.declared.post.Post.{Post}
use Rattle.card_model.specs.Books.{Account, Book, note_of, present_cycle, with_entries}
use Rattle.card_model.specs.Caps.{row_for}
use Rattle.card_model.specs.Closing.{Posting, close, closing_interest, post_interest, post_one, posted_for}
use Rattle.card_model.specs.Cycles.{Cycle, IssuedRow, Seen, last_cycle, posts_on}
use Rattle.card_model.specs.DueDates.{after_due_date, on_due}
use Rattle.card_model.specs.Effects.{after_posts, effect, is_part_of, meant_for, payment_at, put_back, returned, returned_fee, size}
use Rattle.card_model.specs.Entries.{credit_balance, debit}
use Rattle.card_model.specs.Fees.{late_fee, with_fee}
use Rattle.card_model.specs.Folds.{book_after, day_after}
use Rattle.card_model.specs.Segments.{SegmentTerms, newest}
use Rattle.card_model.specs.declared.entry.Entry.{Entry}
use Rattle.card_model.specs.declared.entry.Note.{Note}
use Rattle.card_model.specs.declared.fee.Fee.{Fee}
use Rattle.card_events.specs.declared.post.Post.TheVariants as post
use Rattle.card_model.specs.declared.entry.EntryKind.TheVariants as kind

-- the one list begins with the other
pub record Extends {X : Type 0} (old new : List X) : Type 0 where
  pub rest : List X
  pub is : new ≡ old ++ rest

pub same : {X : Type 0} (xs : List X) → Extends xs xs
same xs = record { rest = []; is = sym (append-nil xs) }

pub more : {X : Type 0} (xs ys : List X) → Extends xs (xs ++ ys)
more xs ys = record { rest = ys; is = refl }

pub then : {X : Type 0} (xs ys zs : List X) → Extends xs ys → Extends ys zs → Extends xs zs
then xs ys zs a b = record { rest = a.rest ++ b.rest; is = b.is ∙ (ap (λ l. l ++ b.rest) a.is ∙ append_assoc xs a.rest b.rest) }

pub record Grows (old new : Book) : Type 0 where
  pub entries : Extends old.entries new.entries
  pub cycles : Extends old.cycles new.cycles
  pub fees : Extends old.fees new.fees

pub grows_same : (b : Book) → Grows b b
grows_same b = record { entries = same b.entries; cycles = same b.cycles; fees = same b.fees }

pub grows_then : (a b c : Book) → Grows a b → Grows b c → Grows a c
grows_then a b c f g = record {
  entries = then a.entries b.entries c.entries f.entries g.entries;
  cycles = then a.cycles b.cycles c.cycles f.cycles g.cycles;
  fees = then a.fees b.fees c.fees f.fees g.fees;
}

pub grows_with : (es : List Entry) (b : Book) → Grows b (with_entries es b)
grows_with es b = record { entries = more b.entries es; cycles = same b.cycles; fees = same b.fees }

pub grows_fee : (a : Account) (seen : Seen) (n : ℕ) (f : Option Fee) (b : Book) → Grows b (with_fee a seen n f b)
grows_fee a seen n None b = grows_same b
grows_fee a seen n (Some f) b = record { entries = more b.entries _; cycles = same b.cycles; fees = more b.fees (f ∷ []) }

put_back-grows : (note : Note) (newest : ℕ) (parts es : List Entry) → Extends es (put_back note newest parts es)
put_back-grows note newest [] es = same es
put_back-grows note newest (p ∷ ps) es =
    let next = es ++ debit note (cond (eqb p.segment 0) newest p.segment) (size p.cents) (credit_balance es) in
    then es next (put_back note newest ps next) (more es _) (put_back-grows note newest ps next)

pub effect-grows : (issued : Option IssuedRow) (a : Account) (seen : Seen) (s : CorrectedPost) (p : Post) (b : Book) → Grows b (effect issued a seen s p b)
unfolding effect
effect-grows issued a seen s (post.Charge d p n) b = grows_with _ b
effect-grows issued a seen s (post.Payment d m c n) b = grows_with _ b
effect-grows issued a seen s (post.Credit d p n) b = grows_with _ b
effect-grows issued a seen s (post.Return d target) b =
    grows_then b (returned a seen s.number target b) _ (record { entries = put_back-grows (note_of seen kind.Return s.number) _ (filter (is_part_of target) b.entries) b.entries; cycles = same b.cycles; fees = same b.fees })
    (grows_fee a seen s.number (returned_fee issued seen b (meant_for b.cycles (payment_at target seen.posts))) (returned a seen s.number target b))
effect-grows issued a seen s (post.Dispute d target claim) b = grows_with _ b
effect-grows issued a seen s (post.Resolve d target c) b = grows_with _ b
effect-grows issued a seen s (post.Refund n) b = grows_with _ b
effect-grows issued a seen s post.Penalty b = record { entries = same b.entries; cycles = same b.cycles; fees = same b.fees }
effect-grows issued a seen s (post.Open d t) b = grows_same b
effect-grows issued a seen s (post.OpenVariable d t) b = grows_same b
effect-grows issued a seen s (post.Plan d k r e f) b = grows_same b
effect-grows issued a seen s (post.Notice d c r e) b = grows_same b
effect-grows issued a seen s (post.Lower d c r) b = grows_same b
effect-grows issued a seen s (post.Review d f) b = grows_same b
effect-grows issued a seen s (post.Ack d t) b = grows_same b
effect-grows issued a seen s (post.AskRefund d) b = grows_same b
effect-grows issued a seen s (post.Amend t d c) b = grows_same b
effect-grows issued a seen s (post.Bill c) b = grows_same b

pub posts-grow : (issued : Option IssuedRow) (a : Account) (seen : Seen) (ss : List CorrectedPost) (b : Book) → Grows b (after_posts issued a seen ss b)
unfolding after_posts
posts-grow issued a seen [] b = grows_same b
posts-grow issued a seen (s ∷ ss) b = grows_then b (effect issued a seen s s.post b) _ (effect-grows issued a seen s s.post b) (posts-grow issued a seen ss (effect issued a seen s s.post b))

pub either : (t : Bool) (b new other : Book) → Grows b new → Grows b other → Grows b (cond t new other)
either true b new other g h = g
either false b new other g h = h

pub due-grows : (issued : Option IssuedRow) (a : Account) (seen : Seen) (b : Book) (c : Cycle) → Grows b (after_due_date issued a seen b c)
due-grows issued a seen b c =
    let g = grows_fee a seen 0 (late_fee issued seen b c) b in
    record { entries = g.entries; cycles = g.cycles; fees = g.fees }

pub on_due-grows : (issued : Option IssuedRow) (a : Account) (seen : Seen) (b : Book) (c : Option Cycle) → Grows b (on_due issued a seen b c)
unfolding on_due
on_due-grows issued a seen b None = grows_same b
on_due-grows issued a seen b (Some c) = either (eqb seen.day (c.due + 1)) b _ b (due-grows issued a seen b c) (grows_same b)

interest-grows : (issued : Option IssuedRow) (seen : Seen) (amount : Book → SegmentTerms → ℕ) (gs : List SegmentTerms) (p : Posting) → Grows p.book (post_interest issued seen amount gs p).book
unfolding post_interest
interest-grows issued seen amount [] p = grows_same p.book
interest-grows issued seen amount (g ∷ gs) p =
    grows_then p.book (post_one seen g (posted_for issued amount g p) p).book _ (grows_with _ p.book) (interest-grows issued seen amount gs (post_one seen g (posted_for issued amount g p) p))

pub close-grows : (issued : Option IssuedRow) (a : Account) (seen : Seen) (b : Book) → Grows b (close issued a seen b)
unfolding close closing_interest
close-grows issued a seen b =
    let once = interest-grows issued seen _ _ (record { amounts = []; book = b }) in
    let twice = interest-grows issued seen _ _ _ in
    record { entries = then b.entries _ _ once.entries twice.entries; cycles = more b.cycles _; fees = same b.fees }

pub day-grows : (issued : Option IssuedRow) (a : Account) (seen : Seen) (b : Book) → Grows b (day_after issued a seen b)
unfolding day_after
day-grows issued a seen b =
    let due = on_due-grows issued a seen b (last_cycle b.cycles) in
    let posts = grows_then b _ _ due (posts-grow issued a seen (posts_on seen) (on_due issued a seen b (last_cycle b.cycles))) in
    either _ b _ _ (grows_then b _ _ posts (close-grows issued a seen _)) posts

pub book-grows : (rows : List IssuedRow) (a : Account) (seen : ℕ → Seen) (m n : ℕ) → Grows (book_after rows a seen m) (book_after rows a seen (n + m))
unfolding book_after
book-grows rows a seen m zero = let e : 0 + m ≡ m = omega arith in rw e (grows_same (book_after rows a seen m))
book-grows rows a seen m (suc n) =
    let e : suc n + m ≡ suc (n + m) = omega arith in
    let before = book_after rows a seen (n + m) in
    rw e (grows_then _ before _ (book-grows rows a seen m n) (day-grows (row_for (present_cycle before) rows) a (seen (a.anchor.opened + (n + m))) before))
