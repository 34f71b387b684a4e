-- Owed is charges, interest, fees, refunds and returned payments, less payments and credits.
use Rattle.std.proofs.Common.{◌≡◌, ℕ, zero, suc, ◌+◌, ◌-◌, Bool, true, false, cond, List, [], ◌∷◌, ◌++◌, refl, ap, ◌∙◌, subst, arith, ℤ, pos, ◌+ℤ◌, Option, Some, None, eqb}
use Rattle.std.specs.List.{filter}
use Rattle.std.proofs.lemmas.Int.{ints}
use Rattle.std.proofs.lemmas.List.Sums.{sum_by-append}
use Rattle.std.specs.Prelude.{min}
use Rattle.card_events.specs.Civil.{day_of_month}
use Rattle.card_events.specs.History.{CorrectedPost}
use Rattle.card_events.specs.declared.post.Post.{Post}
use Rattle.card_model.specs.Books.{Account, Book, present_cycle}
use Rattle.card_model.specs.Caps.{row_for}
use Rattle.card_model.specs.Closing.{Posting, close, closing_interest, post_interest, post_one, posted_for}
use Rattle.card_model.specs.Cycles.{Cycle, IssuedRow, Seen, last_cycle, posts_on}
use Rattle.card_model.specs.DueDates.{after_due_date, on_due}
use Rattle.card_model.specs.Effects.{after_posts, credit_parts, effect, is_part_of, meant_for, parts_entries, payment_at, payment_parts, put_back, returned, returned_fee, size}
use Rattle.card_model.specs.Entries.{credit_balance, debit, holds, is_kind, lowers, negated, owed, raises, releases, sum_of}
use Rattle.card_model.specs.Fees.{fee_cents, late_fee, with_fee}
use Rattle.card_model.specs.Folds.{book, book_after, day_after}
use Rattle.card_model.specs.Laws.{BalanceIdentity, IsBalanced, total}
use Rattle.card_model.specs.Segments.{SegmentTerms, newest}
use Rattle.card_model.specs.declared.entry.Entry.{Entry}
use Rattle.card_model.specs.declared.entry.EntryKind.{EntryKind}
use Rattle.card_model.specs.declared.fee.Fee.{Fee}
use Rattle.card_events.specs.declared.post.Post.TheVariants as post
use Rattle.card_model.specs.declared.entry.EntryKind.TheVariants as kind
use Rattle.card_model.proofs.Posted.{sum_of-append}

total-append : (k : EntryKind) (xs ys : List Entry) → total k (xs ++ ys) ≡ total k xs + total k ys
unfolding total
total-append k xs ys = sum_by-append _ xs ys

-- entries that are balanced but for z, which is what their holds sum to
pub record Off (es : List Entry) (z : ℤ) : Type 0 where
  pub owed : owed es +ℤ pos (total kind.Payment es + total kind.Credit es)
      ≡ pos (total kind.Charge es + total kind.Interest es + total kind.Fee es + total kind.Refund es + total kind.Return es) +ℤ z
  pub holds : sum_of (λ e. is_kind kind.Hold e.kind) es ≡ z

off-nil : Off [] (pos 0)
unfolding total
off-nil = record { owed = refl; holds = refl }

off-append : (xs ys : List Entry) (y z : ℤ) → Off xs y → Off ys z → Off (xs ++ ys) (y +ℤ z)
off-append xs ys y z a b =
    let o : owed (xs ++ ys) ≡ owed xs +ℤ owed ys = sum_of-append (λ e. true) xs ys in
    let h : sum_of (λ e. is_kind kind.Hold e.kind) (xs ++ ys) ≡ sum_of (λ e. is_kind kind.Hold e.kind) xs +ℤ sum_of (λ e. is_kind kind.Hold e.kind) ys = sum_of-append _ xs ys in
    record {
      owed = rw (o, total-append kind.Payment xs ys, total-append kind.Credit xs ys, total-append kind.Charge xs ys, total-append kind.Interest xs ys, total-append kind.Fee xs ys, total-append kind.Refund xs ys, total-append kind.Return xs ys)
          (sums (owed xs) (owed ys) y z _ _ _ _ _ _ _ _ _ _ _ _ _ _ a.owed b.owed);
      holds = h ∙ (ap (λ u. u +ℤ sum_of (λ e. is_kind kind.Hold e.kind) ys) a.holds ∙ ap (λ u. y +ℤ u) b.holds);
    }
  where
    sums : (u v y z : ℤ) (p q c c' d d' e e' f f' g g' h h' : ℕ) → u +ℤ pos (p + c) ≡ pos (d + e + f + g + h) +ℤ y → v +ℤ pos (q + c') ≡ pos (d' + e' + f' + g' + h') +ℤ z
        → (u +ℤ v) +ℤ pos ((p + q) + (c + c')) ≡ pos ((d + d') + (e + e') + (f + f') + (g + g') + (h + h')) +ℤ (y +ℤ z)
    sums u v y z p q c c' d d' e e' f f' g g' h h' s t = omega (arith, ints)

joined : (xs ys : List Entry) → Off xs (pos 0) → Off ys (pos 0) → Off (xs ++ ys) (pos 0)
joined xs ys a b = off-append xs ys (pos 0) (pos 0) a b

-- kinds that raise what is owed, and those that lower it
abbrev raising : EntryKind → Bool
raising kind.Charge = true
raising kind.Interest = true
raising kind.Fee = true
raising kind.Refund = true
raising kind.Return = true
raising _ = false

raised : (day n s x : ℕ) (k : EntryKind) → raising k ≡ true → Off (raises (record { day = day; kind = k; post = n }) s x) (pos 0)
unfolding total
raised day n s zero k h = record { owed = refl; holds = refl }
raised day n s (suc x) kind.Charge h = record { owed = omega (arith, ints); holds = refl }
raised day n s (suc x) kind.Interest h = record { owed = omega (arith, ints); holds = refl }
raised day n s (suc x) kind.Fee h = record { owed = omega (arith, ints); holds = refl }
raised day n s (suc x) kind.Refund h = record { owed = omega (arith, ints); holds = refl }
raised day n s (suc x) kind.Return h = record { owed = omega (arith, ints); holds = refl }
raised day n s (suc x) kind.Credit h = cc
raised day n s (suc x) kind.Payment h = cc
raised day n s (suc x) kind.Hold h = cc

abbrev lowering : EntryKind → Bool
lowering kind.Payment = true
lowering kind.Credit = true
lowering _ = false

lowered : (day n s x : ℕ) (k : EntryKind) → lowering k ≡ true → Off (lowers (record { day = day; kind = k; post = n }) s x) (pos 0)
unfolding total
lowered day n s zero k h = record { owed = refl; holds = refl }
lowered day n s (suc x) kind.Payment h = record { owed = omega (arith, ints); holds = refl }
lowered day n s (suc x) kind.Credit h = record { owed = omega (arith, ints); holds = refl }
lowered day n s (suc x) kind.Charge h = cc
lowered day n s (suc x) kind.Interest h = cc
lowered day n s (suc x) kind.Fee h = cc
lowered day n s (suc x) kind.Refund h = cc
lowered day n s (suc x) kind.Return h = cc
lowered day n s (suc x) kind.Hold h = cc

hold_raised : (day n s x : ℕ) → Off (raises (record { day = day; kind = kind.Hold; post = n }) s x) (pos x)
unfolding total
hold_raised day n s zero = record { owed = refl; holds = refl }
hold_raised day n s (suc x) = record { owed = omega (arith, ints); holds = omega (arith, ints) }

hold_lowered : (day n s x : ℕ) → Off (lowers (record { day = day; kind = kind.Hold; post = n }) s x) (negated x)
unfolding total
hold_lowered day n s zero = record { owed = refl; holds = refl }
hold_lowered day n s (suc x) = record { owed = omega (arith, ints); holds = omega (arith, ints) }

same_off : (es : List Entry) (y z : ℤ) → y ≡ z → Off es y → Off es z
same_off es y z e o = subst (Off es) e o

debit-off : (day n s x credit : ℕ) (k : EntryKind) → raising k ≡ true → Off (debit (record { day = day; kind = k; post = n }) s x credit) (pos 0)
unfolding debit
debit-off day n s x credit k h = joined _ _ (raised day n 0 (min x credit) k h) (raised day n s (x - credit) k h)

split_least : (x credit : ℕ) → min x credit + (x - credit) ≡ x
split_least x credit = omega arith

cancels : (x credit : ℕ) → negated x +ℤ (pos (min x credit) +ℤ pos (x - credit)) ≡ pos 0
cancels x credit = let e = split_least x credit in rw e (zeroed x)
  where
    zeroed : (x : ℕ) → negated x +ℤ pos x ≡ pos 0
    zeroed zero = refl
    zeroed (suc x) = omega (arith, ints)

holds-off : (day n s h : ℕ) → Off (holds (record { day = day; kind = kind.Hold; post = n }) s h) (pos 0)
holds-off day n s h = same_off _ _ _ (zeroed h) (off-append _ _ _ _ (hold_lowered day n s h) (hold_raised day n 1 h))
  where
    zeroed : (x : ℕ) → negated x +ℤ pos x ≡ pos 0
    zeroed zero = refl
    zeroed (suc x) = omega (arith, ints)

releases-off : (day n s h credit : ℕ) → Off (releases (record { day = day; kind = kind.Hold; post = n }) s h credit) (pos 0)
unfolding debit
releases-off day n s h credit =
    same_off _ _ _ (cancels h credit)
    (off-append _ _ _ _ (hold_lowered day n 1 h) (off-append _ _ _ _ (hold_raised day n 0 (min h credit)) (hold_raised day n s (h - credit))))

parts-off : (day n : ℕ) (k : EntryKind) → lowering k ≡ true → (ps : List (ℕ × ℕ)) → Off (parts_entries (record { day = day; kind = k; post = n }) ps) (pos 0)
parts-off day n k h [] = off-nil
parts-off day n k h (p ∷ ps) = joined _ _ (lowered day n p.0 p.1 k h) (parts-off day n k h ps)

put_back-off : (day n newest : ℕ) (ps es : List Entry) → Off es (pos 0) → Off (put_back (record { day = day; kind = kind.Return; post = n }) newest ps es) (pos 0)
put_back-off day n newest [] es h = h
put_back-off day n newest (p ∷ ps) es h = put_back-off day n newest ps _ (joined es _ h (debit-off day n _ (size p.cents) (credit_balance es) kind.Return refl))

abbrev Balanced : Book → Type 0
Balanced b = Off b.entries (pos 0)

fee-off : (a : Account) (seen : Seen) (n : ℕ) (f : Option Fee) (b : Book) → Off b.entries (pos 0) → Off (with_fee a seen n f b).entries (pos 0)
fee-off a seen n None b h = h
fee-off a seen n (Some f) b h = joined b.entries _ h (debit-off seen.day n _ (fee_cents f) (credit_balance b.entries) kind.Fee refl)

effect-off : (issued : Option IssuedRow) (a : Account) (seen : Seen) (s : CorrectedPost) (p : Post) (b : Book) → Off b.entries (pos 0) → Off (effect issued a seen s p b).entries (pos 0)
unfolding effect
effect-off issued a seen s (post.Charge d p n) b h = joined b.entries _ h (debit-off seen.day s.number _ s.cents _ kind.Charge refl)
effect-off issued a seen s (post.Payment d m c n) b h = joined b.entries _ h (parts-off seen.day s.number kind.Payment refl (payment_parts a seen s b))
effect-off issued a seen s (post.Credit d p n) b h = joined b.entries _ h (parts-off seen.day s.number kind.Credit refl (credit_parts a seen s p b))
effect-off issued a seen s (post.Return d target) b h =
    fee-off a seen s.number (returned_fee issued seen b (meant_for b.cycles (payment_at target seen.posts))) (returned a seen s.number target b)
    (put_back-off seen.day s.number _ (filter (is_part_of target) b.entries) b.entries h)
effect-off issued a seen s (post.Dispute d target claim) b h = joined b.entries _ h (holds-off seen.day s.number _ _)
effect-off issued a seen s (post.Resolve d target c) b h = joined b.entries _ h (releases-off seen.day s.number _ _ _)
effect-off issued a seen s (post.Refund n) b h = joined b.entries _ h (debit-off seen.day s.number _ s.cents _ kind.Refund refl)
effect-off issued a seen s post.Penalty b h = h
effect-off issued a seen s (post.Open d t) b h = h
effect-off issued a seen s (post.OpenVariable d t) b h = h
effect-off issued a seen s (post.Plan d k r e f) b h = h
effect-off issued a seen s (post.Notice d c r e) b h = h
effect-off issued a seen s (post.Lower d c r) b h = h
effect-off issued a seen s (post.Review d f) b h = h
effect-off issued a seen s (post.Ack d t) b h = h
effect-off issued a seen s (post.AskRefund d) b h = h
effect-off issued a seen s (post.Amend t d c) b h = h
effect-off issued a seen s (post.Bill c) b h = h

posts-off : (issued : Option IssuedRow) (a : Account) (seen : Seen) (ss : List CorrectedPost) (b : Book) → Off b.entries (pos 0) → Off (after_posts issued a seen ss b).entries (pos 0)
unfolding after_posts
posts-off issued a seen [] b h = h
posts-off issued a seen (s ∷ ss) b h = posts-off issued a seen ss (effect issued a seen s s.post b) (effect-off issued a seen s s.post b h)

chosen : (t : Bool) (new other : Book) → Off new.entries (pos 0) → Off other.entries (pos 0) → Off (cond t new other).entries (pos 0)
chosen true new other g h = g
chosen false new other g h = h

due-off : (issued : Option IssuedRow) (a : Account) (seen : Seen) (b : Book) (c : Option Cycle) → Off b.entries (pos 0) → Off (on_due issued a seen b c).entries (pos 0)
unfolding on_due
due-off issued a seen b None h = h
due-off issued a seen b (Some c) h = chosen (eqb seen.day (c.due + 1)) (after_due_date issued a seen b c) b (fee-off a seen 0 (late_fee issued seen b c) b h) h

interest-off : (issued : Option IssuedRow) (seen : Seen) (amount : Book → SegmentTerms → ℕ) (gs : List SegmentTerms) (p : Posting) → Off p.book.entries (pos 0) → Off (post_interest issued seen amount gs p).book.entries (pos 0)
unfolding post_interest
interest-off issued seen amount [] p h = h
interest-off issued seen amount (g ∷ gs) p h =
    interest-off issued seen amount gs (post_one seen g (posted_for issued amount g p) p)
    (joined p.book.entries _ h (debit-off seen.day 0 g.id (posted_for issued amount g p) (credit_balance p.book.entries) kind.Interest refl))

close-off : (issued : Option IssuedRow) (a : Account) (seen : Seen) (b : Book) → Off b.entries (pos 0) → Off (close issued a seen b).entries (pos 0)
unfolding close closing_interest
close-off issued a seen b h = interest-off issued seen _ _ _ (interest-off issued seen _ _ _ h)

day-off : (issued : Option IssuedRow) (a : Account) (seen : Seen) (b : Book) → Off b.entries (pos 0) → Off (day_after issued a seen b).entries (pos 0)
unfolding day_after
day-off issued a seen b h =
    let posts = posts-off issued a seen (posts_on seen) _ (due-off issued a seen b (last_cycle b.cycles) h) in
    chosen (eqb (day_of_month seen.day) a.anchor.close_day) _ _ (close-off issued a seen _ posts) posts

book-off : (rows : List IssuedRow) (a : Account) (seen : ℕ → Seen) (n : ℕ) → Off (book_after rows a seen n).entries (pos 0)
unfolding book_after
book-off rows a seen zero = off-nil
book-off rows a seen (suc n) =
    let before = book_after rows a seen n in
    day-off (row_for (present_cycle before) rows) a (seen (a.anchor.opened + n)) before (book-off rows a seen n)

balanced : (es : List Entry) → Off es (pos 0) → IsBalanced es
balanced es h = record { owed = omega (arith, ints, h.owed); holds = h.holds }

pub balance_identity : BalanceIdentity
unfolding book
balance_identity history issued shared day = balanced _ (book-off issued _ _ _)
