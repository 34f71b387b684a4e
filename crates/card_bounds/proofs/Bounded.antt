-- Balances lie within what was moved, interest apart, and 10^13.
use Rattle.std.proofs.Common.{◌≡◌, ℕ, zero, suc, ◌+◌, ◌-◌, ◌≤◌, Bool, true, false, cond, List, [], ◌∷◌, ◌++◌, refl, sym, ap, ◌∙◌, subst, arith, ℤ, pos, negsuc, ◌+ℤ◌, Option, Some, None, eqb}
use Rattle.std.specs.Prelude.{◌≤ℤ◌, neg_ℤ}
use Rattle.std.specs.List.{filter}
use Rattle.std.proofs.lemmas.Int.{ints}
use Rattle.std.proofs.lemmas.Bool.{eqb-true}
use Rattle.std.proofs.lemmas.List.Sums.{sum_by-append}
use Rattle.std.specs.Prelude.{nat_abs}
use Rattle.std.specs.Prelude.{min}
use Rattle.card_bounds.specs.Bounds.{AreBounded, BalancesBounded, moved, moves}
use Rattle.card_events.specs.Civil.{day_of_month}
use Rattle.card_events.specs.History.{CorrectedPost}
use Rattle.card_events.specs.declared.post.Post.{Post}
use Rattle.card_model.specs.Books.{Account, Book, present_cycle}
use Rattle.card_model.specs.Caps.{capped_by, issued_interest, row_for}
use Rattle.card_model.specs.Closing.{Posting, close, closing_interest, post_interest, post_one, posted_for, within_limit}
use Rattle.card_model.specs.Cycles.{Cycle, IssuedRow, Seen, last_cycle, posts_on}
use Rattle.card_model.specs.DueDates.{after_due_date, on_due}
use Rattle.card_model.specs.Effects.{after_posts, credit_parts, disputed_cents, effect, is_part_of, meant_for, moved_by, parts_entries, payment_at, payment_parts, put_back, returned, returned_fee, size}
use Rattle.card_model.specs.Entries.{at_least_zero, balance, credit_balance, debit, entry_of, holds, is_kind, lowers, negated, owing, raises, releases}
use Rattle.card_model.specs.Fees.{fee_cents, late_fee, with_fee}
use Rattle.card_model.specs.Folds.{book, book_after, day_after}
use Rattle.card_model.specs.Segments.{SegmentTerms, newest}
use Rattle.card_model.specs.declared.entry.Entry.{Entry}
use Rattle.card_model.specs.declared.entry.EntryKind.{EntryKind}
use Rattle.card_model.specs.declared.fee.Fee.{Fee}
use Rattle.card_events.specs.declared.post.Post.TheVariants as post
use Rattle.card_model.specs.declared.entry.EntryKind.TheVariants as kind
use Rattle.card_model.proofs.EntryFacts.{balance-append, balance-debit}
use Rattle.card_model.proofs.PartsSum.{parts_sum}
use Rattle.card_model.proofs.Posted.{balance-entry_of}

pub moved-append : (xs ys : List Entry) → moved (xs ++ ys) ≡ moved xs + moved ys
unfolding moved
moved-append xs ys = sum_by-append moves xs ys

-- entries that move so much, no interest among them
pub record Piece (xs : List Entry) (m : ℕ) : Type 0 where
  pub moves : moved xs ≡ m
  pub high : (s : ℕ) → balance s xs ≤ℤ pos m
  pub low : (s : ℕ) → neg_ℤ (pos m) ≤ℤ balance s xs

piece-nil : Piece [] 0
unfolding moved
piece-nil = record { moves = refl; high = λ s. omega (arith, ints); low = λ s. omega (arith, ints) }

piece-append : (xs ys : List Entry) (m n : ℕ) → Piece xs m → Piece ys n → Piece (xs ++ ys) (m + n)
piece-append xs ys m n a b = record {
  moves = moved-append xs ys ∙ omega (arith, a.moves, b.moves);
  high = λ s. rw (balance-append s xs ys) (highs (balance s xs) (balance s ys) m n (a.high s) (b.high s));
  low = λ s. rw (balance-append s xs ys) (lows (balance s xs) (balance s ys) m n (a.low s) (b.low s));
}
  where
    highs : (y z : ℤ) (m n : ℕ) → y ≤ℤ pos m → z ≤ℤ pos n → (y +ℤ z) ≤ℤ pos (m + n)
    highs y z m n a b = omega (arith, ints)

    lows : (y z : ℤ) (m n : ℕ) → neg_ℤ (pos m) ≤ℤ y → neg_ℤ (pos n) ≤ℤ z → neg_ℤ (pos (m + n)) ≤ℤ (y +ℤ z)
    lows y z m n a b = omega (arith, ints)

moved-entry : (day n s : ℕ) (k : EntryKind) (z : ℤ) → is_kind kind.Interest k ≡ false → moved (entry_of (record { day = day; kind = k; post = n }) s z) ≡ nat_abs z
unfolding moved
moved-entry day n s k (pos zero) h = refl
moved-entry day n s k (pos (suc a)) h = rw h (omega arith)
moved-entry day n s k (negsuc a) h = rw h (omega arith)

piece-entry : (day n s : ℕ) (k : EntryKind) (z : ℤ) → is_kind kind.Interest k ≡ false → Piece (entry_of (record { day = day; kind = k; post = n }) s z) (nat_abs z)
piece-entry day n s k z h = record {
  moves = moved-entry day n s k z h;
  high = λ t. rw (balance-entry_of (record { day = day; kind = k; post = n }) s z t) (highs z (eqb s t));
  low = λ t. rw (balance-entry_of (record { day = day; kind = k; post = n }) s z t) (lows z (eqb s t));
}
  where
    highs : (z : ℤ) (t : Bool) → cond t z (pos 0) ≤ℤ pos (nat_abs z)
    highs z false = omega (arith, ints)
    highs (pos a) true = omega (arith, ints)
    highs (negsuc a) true = omega (arith, ints)

    lows : (z : ℤ) (t : Bool) → neg_ℤ (pos (nat_abs z)) ≤ℤ cond t z (pos 0)
    lows z false = omega (arith, ints)
    lows (pos a) true = omega (arith, ints)
    lows (negsuc a) true = omega (arith, ints)

same_piece : (xs : List Entry) (m n : ℕ) → m ≡ n → Piece xs m → Piece xs n
same_piece xs m n e p = subst (Piece xs) e p

piece-raises : (day n s x : ℕ) (k : EntryKind) → is_kind kind.Interest k ≡ false → Piece (raises (record { day = day; kind = k; post = n }) s x) x
piece-raises day n s x k h = piece-entry day n s k (pos x) h

piece-lowers : (day n s x : ℕ) (k : EntryKind) → is_kind kind.Interest k ≡ false → Piece (lowers (record { day = day; kind = k; post = n }) s x) x
piece-lowers day n s x k h = same_piece _ (nat_abs (negated x)) x (by x) (piece-entry day n s k (negated x) h)
  where
    by : (x : ℕ) → nat_abs (negated x) ≡ x
    by zero = refl
    by (suc x) = refl

pub piece-debit : (day n s x credit : ℕ) (k : EntryKind) → is_kind kind.Interest k ≡ false → Piece (debit (record { day = day; kind = k; post = n }) s x credit) x
unfolding debit
piece-debit day n s x credit k h = same_piece _ (min x credit + (x - credit)) x (omega arith) (piece-append _ _ _ _ (piece-raises day n 0 (min x credit) k h) (piece-raises day n s (x - credit) k h))

pub piece-holds : (day n s h : ℕ) → Piece (holds (record { day = day; kind = kind.Hold; post = n }) s h) (h + h)
piece-holds day n s h = piece-append _ _ h h (piece-lowers day n s h kind.Hold refl) (piece-raises day n 1 h kind.Hold refl)

pub piece-releases : (day n s h credit : ℕ) → Piece (releases (record { day = day; kind = kind.Hold; post = n }) s h credit) (h + h)
piece-releases day n s h credit = piece-append _ _ h h (piece-lowers day n 1 h kind.Hold refl) (piece-debit day n s h credit kind.Hold refl)

pub piece-parts : (day n : ℕ) (k : EntryKind) → is_kind kind.Interest k ≡ false → (ps : List (ℕ × ℕ)) → Piece (parts_entries (record { day = day; kind = k; post = n }) ps) (parts_sum ps)
piece-parts day n k h [] = piece-nil
piece-parts day n k h (p ∷ ps) = piece-append _ _ p.1 (parts_sum ps) (piece-lowers day n p.0 p.1 k h) (piece-parts day n k h ps)

-- ---- entries that are bounded, with a piece more
pub bounded-piece : (es xs : List Entry) (m : ℕ) → AreBounded es → Piece xs m → AreBounded (es ++ xs)
bounded-piece es xs m h p s = record {
  high = rw (moved-append es xs, balance-append s es xs, p.moves) (highs (balance s es) (balance s xs) (moved es) m (h s).high (p.high s));
  low = rw (moved-append es xs, balance-append s es xs, p.moves) (lows (balance s es) (balance s xs) (moved es) m (h s).low (p.low s));
}
  where
    highs : (y z : ℤ) (m n : ℕ) → y ≤ℤ pos (10000000000000 + m) → z ≤ℤ pos n → (y +ℤ z) ≤ℤ pos (10000000000000 + (m + n))
    highs y z m n a b = omega (arith, ints)

    lows : (y z : ℤ) (m n : ℕ) → neg_ℤ (pos m) ≤ℤ y → neg_ℤ (pos n) ≤ℤ z → neg_ℤ (pos (m + n)) ≤ℤ (y +ℤ z)
    lows y z m n a b = omega (arith, ints)

-- ---- interest
-- of the balance of a segment, that of Credit, and that of the segment debited
interest_high : (z z0 zg : ℤ) (x m : ℕ) (t0 tg : Bool) → (t0 ≡ true → z ≡ z0) → (tg ≡ true → z ≡ zg) → x ≤ 10000000000000 - at_least_zero zg → z ≤ℤ pos (10000000000000 + m)
    → (z +ℤ (cond t0 (pos (min x (at_least_zero (neg_ℤ z0)))) (pos 0) +ℤ cond tg (pos (x - at_least_zero (neg_ℤ z0))) (pos 0))) ≤ℤ pos (10000000000000 + m)
interest_high z z0 zg x m false false p q l h = omega (arith, ints)
interest_high z (pos a) zg x m true false p q l h = let e = p refl in let none : at_least_zero (neg_ℤ (pos a)) ≡ 0 = nothing a in rw none (omega (arith, ints))
  where
    nothing : (a : ℕ) → at_least_zero (neg_ℤ (pos a)) ≡ 0
    nothing zero = refl
    nothing (suc a) = refl
interest_high z (negsuc a) zg x m true false p q l h = let e = p refl in omega (arith, ints)
interest_high z z0 (pos a) x m false true p q l h = let e = q refl in omega (arith, ints)
interest_high z z0 (negsuc a) x m false true p q l h = let e = q refl in omega (arith, ints)
interest_high z z0 (pos a) x m true true p q l h = let e = q refl in omega (arith, ints)
interest_high z z0 (negsuc a) x m true true p q l h = let e = q refl in omega (arith, ints)

interest_low : (z : ℤ) (a b m : ℕ) (t0 tg : Bool) → neg_ℤ (pos m) ≤ℤ z → neg_ℤ (pos m) ≤ℤ (z +ℤ (cond t0 (pos a) (pos 0) +ℤ cond tg (pos b) (pos 0)))
interest_low z a b m false false h = omega (arith, ints)
interest_low z a b m true false h = omega (arith, ints)
interest_low z a b m false true h = omega (arith, ints)
interest_low z a b m true true h = omega (arith, ints)

none : (day n s x : ℕ) → moved (raises (record { day = day; kind = kind.Interest; post = n }) s x) ≡ 0
unfolding moved
none day n s zero = refl
none day n s (suc x) = refl

pub moved-interest : (day n g x credit : ℕ) → moved (debit (record { day = day; kind = kind.Interest; post = n }) g x credit) ≡ 0
unfolding debit
moved-interest day n g x credit = moved-append _ _ ∙ (ap (λ y. y + moved (raises (record { day = day; kind = kind.Interest; post = n }) g (x - credit))) (none day n 0 (min x credit)) ∙ (rw (none day n g (x - credit)) refl))

pub bounded-interest : (es : List Entry) (day n g x : ℕ) → AreBounded es → x ≤ 10000000000000 - owing g es → AreBounded (es ++ debit (record { day = day; kind = kind.Interest; post = n }) g x (credit_balance es))
bounded-interest es day n g x h l s =
    let xs = debit (record { day = day; kind = kind.Interest; post = n }) g x (credit_balance es) in
    let still : moved (es ++ xs) ≡ moved es = moved-append es xs ∙ omega (arith, moved-interest day n g x (credit_balance es)) in
    let sum : balance s (es ++ xs) ≡ balance s es +ℤ (cond (eqb 0 s) (pos (min x (credit_balance es))) (pos 0) +ℤ cond (eqb g s) (pos (x - credit_balance es)) (pos 0))
    = balance-append s es xs ∙ ap (λ y. balance s es +ℤ y) (balance-debit (record { day = day; kind = kind.Interest; post = n }) g x (credit_balance es) s) in
    record {
      high = rw (still, sum) (interest_high (balance s es) (balance 0 es) (balance g es) x (moved es) (eqb 0 s) (eqb g s)
          (λ e. ap (λ t. balance t es) (sym (eqb-true 0 s e))) (λ e. ap (λ t. balance t es) (sym (eqb-true g s e))) l (h s).high);
      low = rw (still, sum) (interest_low (balance s es) (min x (credit_balance es)) (x - credit_balance es) (moved es) (eqb 0 s) (eqb g s) (h s).low);
    }

-- ---- the steps of the fold
pub put_back-bounded : (day n newest : ℕ) (ps es : List Entry) → AreBounded es → AreBounded (put_back (record { day = day; kind = kind.Return; post = n }) newest ps es)
put_back-bounded day n newest [] es h = h
put_back-bounded day n newest (p ∷ ps) es h = put_back-bounded day n newest ps _ (bounded-piece es _ (size p.cents) h (piece-debit day n _ (size p.cents) (credit_balance es) kind.Return refl))

pub fee-bounded : (a : Account) (seen : Seen) (n : ℕ) (f : Option Fee) (b : Book) → AreBounded b.entries → AreBounded (with_fee a seen n f b).entries
fee-bounded a seen n None b h = h
fee-bounded a seen n (Some f) b h = bounded-piece b.entries _ (fee_cents f) h (piece-debit seen.day n _ (fee_cents f) (credit_balance b.entries) kind.Fee refl)

pub effect-bounded : (issued : Option IssuedRow) (a : Account) (seen : Seen) (s : CorrectedPost) (p : Post) (b : Book) → AreBounded b.entries → AreBounded (effect issued a seen s p b).entries
unfolding effect
effect-bounded issued a seen s (post.Charge d p n) b h = bounded-piece b.entries _ s.cents h (piece-debit seen.day s.number _ s.cents _ kind.Charge refl)
effect-bounded issued a seen s (post.Payment d m c n) b h = bounded-piece b.entries _ (parts_sum (payment_parts a seen s b)) h (piece-parts seen.day s.number kind.Payment refl (payment_parts a seen s b))
effect-bounded issued a seen s (post.Credit d p n) b h = bounded-piece b.entries _ (parts_sum (credit_parts a seen s p b)) h (piece-parts seen.day s.number kind.Credit refl (credit_parts a seen s p b))
effect-bounded issued a seen s (post.Return d target) b h =
    fee-bounded a seen s.number (returned_fee issued seen b (meant_for b.cycles (payment_at target seen.posts))) (returned a seen s.number target b)
    (put_back-bounded seen.day s.number _ (filter (is_part_of target) b.entries) b.entries h)
effect-bounded issued a seen s (post.Dispute d target claim) b h = bounded-piece b.entries _ (disputed_cents a seen target claim b + disputed_cents a seen target claim b) h (piece-holds seen.day s.number _ (disputed_cents a seen target claim b))
effect-bounded issued a seen s (post.Resolve d target c) b h = bounded-piece b.entries _ (moved_by target b.entries + moved_by target b.entries) h (piece-releases seen.day s.number _ (moved_by target b.entries) (credit_balance b.entries))
effect-bounded issued a seen s (post.Refund n) b h = bounded-piece b.entries _ s.cents h (piece-debit seen.day s.number _ s.cents _ kind.Refund refl)
effect-bounded issued a seen s post.Penalty b h = h
effect-bounded issued a seen s (post.Open d t) b h = h
effect-bounded issued a seen s (post.OpenVariable d t) b h = h
effect-bounded issued a seen s (post.Plan d k r e f) b h = h
effect-bounded issued a seen s (post.Notice d c r e) b h = h
effect-bounded issued a seen s (post.Lower d c r) b h = h
effect-bounded issued a seen s (post.Review d f) b h = h
effect-bounded issued a seen s (post.Ack d t) b h = h
effect-bounded issued a seen s (post.AskRefund d) b h = h
effect-bounded issued a seen s (post.Amend t d c) b h = h
effect-bounded issued a seen s (post.Bill c) b h = h

pub posts-bounded : (issued : Option IssuedRow) (a : Account) (seen : Seen) (ss : List CorrectedPost) (b : Book) → AreBounded b.entries → AreBounded (after_posts issued a seen ss b).entries
unfolding after_posts
posts-bounded issued a seen [] b h = h
posts-bounded issued a seen (s ∷ ss) b h = posts-bounded issued a seen ss (effect issued a seen s s.post b) (effect-bounded issued a seen s s.post b h)

chosen : (t : Bool) (new other : Book) → AreBounded new.entries → AreBounded other.entries → AreBounded (cond t new other).entries
chosen true new other g h = g
chosen false new other g h = h

pub due-bounded : (issued : Option IssuedRow) (a : Account) (seen : Seen) (b : Book) (c : Option Cycle) → AreBounded b.entries → AreBounded (on_due issued a seen b c).entries
unfolding on_due
due-bounded issued a seen b None h = h
due-bounded issued a seen b (Some c) h = chosen (eqb seen.day (c.due + 1)) (after_due_date issued a seen b c) b (fee-bounded a seen 0 (late_fee issued seen b c) b h) h

pub limited : (f : IssuedRow → ℕ) (o : Option IssuedRow) (n m : ℕ) → n ≤ m → capped_by f o n ≤ m
limited f None n m l = l
limited f (Some r) n m l = omega arith

pub interest-bounded : (issued : Option IssuedRow) (seen : Seen) (amount : Book → SegmentTerms → ℕ) (gs : List SegmentTerms) (p : Posting) → AreBounded p.book.entries → AreBounded (post_interest issued seen amount gs p).book.entries
unfolding post_interest
interest-bounded issued seen amount [] p h = h
interest-bounded issued seen amount (g ∷ gs) p h =
    interest-bounded issued seen amount gs (post_one seen g (posted_for issued amount g p) p)
    (bounded-interest p.book.entries seen.day 0 g.id (posted_for issued amount g p) h
    (limited (issued_interest g.id p.amounts) issued (within_limit (owing g.id p.book.entries) (amount p.book g)) (10000000000000 - owing g.id p.book.entries) (omega arith)))

close-bounded : (issued : Option IssuedRow) (a : Account) (seen : Seen) (b : Book) → AreBounded b.entries → AreBounded (close issued a seen b).entries
unfolding close closing_interest
close-bounded issued a seen b h = interest-bounded issued seen _ _ _ (interest-bounded issued seen _ _ _ h)

day-bounded : (issued : Option IssuedRow) (a : Account) (seen : Seen) (b : Book) → AreBounded b.entries → AreBounded (day_after issued a seen b).entries
unfolding day_after
day-bounded issued a seen b h =
    let posts = posts-bounded issued a seen (posts_on seen) _ (due-bounded issued a seen b (last_cycle b.cycles) h) in
    chosen (eqb (day_of_month seen.day) a.anchor.close_day) _ _ (close-bounded issued a seen _ posts) posts

bounded-nil : AreBounded []
unfolding moved
bounded-nil s = record { high = omega (arith, ints); low = omega (arith, ints) }

pub book-bounded : (rows : List IssuedRow) (a : Account) (seen : ℕ → Seen) (n : ℕ) → AreBounded (book_after rows a seen n).entries
unfolding book_after
book-bounded rows a seen zero = bounded-nil
book-bounded rows a seen (suc n) =
    let before = book_after rows a seen n in
    day-bounded (row_for (present_cycle before) rows) a (seen (a.anchor.opened + n)) before (book-bounded rows a seen n)

pub balances_bounded : BalancesBounded
unfolding book
balances_bounded history issued shared day = book-bounded issued _ _ _
