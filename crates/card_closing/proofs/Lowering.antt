-- Payments and credits lower what is owed, in the book of every day.
use Rattle.std.proofs.Common.{◌≡◌, ℕ, zero, suc, ◌+◌, ◌-◌, Bool, true, false, cond, ◌||◌, List, [], ◌∷◌, ◌++◌, arith, pos, negsuc, ◌≤ℤ◌, eqb, Option, Some, None}
use Rattle.std.specs.List.{All, filter}
use Rattle.std.proofs.lemmas.Int.{ints}
use Rattle.std.proofs.lemmas.List.Elements.{All-nil, All-cons, All-append}
use Rattle.card_events.specs.Civil.{day_of_month}
use Rattle.card_events.specs.History.{CorrectedPost, anchor_of}
use Rattle.card_events.specs.declared.post.Post.{Post}
use Rattle.card_events.specs.declared.post.Post.TheVariants as post
use Rattle.card_closing.specs.BookRows.{AreLowering}
use Rattle.card_closing.specs.Growth.{RepaymentsLower}
use Rattle.card_model.specs.Books.{Account, Book, account_of, all_segments, present_cycle}
use Rattle.card_model.specs.Caps.{row_for}
use Rattle.card_model.specs.Closing.{Posting, close, closing_interest, post_interest, post_one, posted_for}
use Rattle.card_model.specs.Cycles.{Cycle, IssuedRow, Seen, last_cycle, post_at, posts_on, seen_on}
use Rattle.card_model.specs.DueDates.{after_due_date, on_due}
use Rattle.card_model.specs.Effects.{after_posts, credit_parts, disputed_cents, disputed_charge, disputed_segment, effect, is_part_of, meant_for, moved_by, parts_entries, payment_at, payment_parts, put_back, returned, returned_fee, size}
use Rattle.card_model.specs.Entries.{credit_balance, debit, entry_of, is_kind, negated}
use Rattle.card_model.specs.Fees.{fee_cents, late_fee, with_fee}
use Rattle.card_model.specs.Folds.{book, book_after, day_after}
use Rattle.card_model.specs.Segments.{SegmentTerms, newest, segment_at}
use Rattle.card_model.specs.declared.entry.Entry.{Entry}
use Rattle.card_model.specs.declared.entry.EntryKind.{EntryKind}
use Rattle.card_model.specs.declared.entry.EntryKind.TheVariants as kind
use Rattle.card_model.specs.declared.fee.Fee.{Fee}
use Rattle.card_model.specs.declared.segment.Sort.TheVariants as sort
use Rattle.card_model.proofs.EntryFacts.{Notes, all-debit, all-holds, all-releases}

-- an entry of a payment or a credit isn't above 0
abbrev Lowers : Entry → Type 0
Lowers e = (is_kind kind.Credit e.kind || is_kind kind.Payment e.kind) ≡ true → e.cents ≤ℤ pos 0

below : (x : ℕ) → negsuc x ≤ℤ pos 0
below x = omega (arith, ints)

lowers-entry : (day n s x : ℕ) (k : EntryKind) → All Lowers (entry_of (record { day = day; kind = k; post = n }) s (negated x))
lowers-entry day n s zero k = All-nil Lowers
lowers-entry day n s (suc x) k = All-cons Lowers _ [] (λ e. below x) (All-nil Lowers)

lowers-parts : (day n : ℕ) (k : EntryKind) (ps : List (ℕ × ℕ)) → All Lowers (parts_entries (record { day = day; kind = k; post = n }) ps)
lowers-parts day n k [] = All-nil Lowers
lowers-parts day n k (x ∷ ps) = All-append Lowers _ _ (lowers-entry day n x.0 x.1 k) (lowers-parts day n k ps)

-- a debit is no repayment
debited : (es : List Entry) (day n s x credit : ℕ) (k : EntryKind) → Notes Lowers day k n → All Lowers es → All Lowers (es ++ debit (record { day = day; kind = k; post = n }) s x credit)
debited es day n s x credit k h all = All-append Lowers es _ all (all-debit Lowers day n s x credit k h)

put_back-lowers : (day n newest : ℕ) (ps es : List Entry) → All Lowers es → All Lowers (put_back (record { day = day; kind = kind.Return; post = n }) newest ps es)
put_back-lowers day n newest [] es h = h
put_back-lowers day n newest (x ∷ ps) es h =
    put_back-lowers day n newest ps _ (debited es day n (cond (eqb x.segment 0) newest x.segment) (size x.cents) (credit_balance es) kind.Return (λ s z e. cc) h)

fee-lowers : (a : Account) (seen : Seen) (n : ℕ) (o : Option Fee) (b : Book) → All Lowers b.entries → All Lowers (with_fee a seen n o b).entries
fee-lowers a seen n None b h = h
fee-lowers a seen n (Some f) b h = debited b.entries seen.day n (newest sort.Purchase seen.day (all_segments a seen)) (fee_cents f) (credit_balance b.entries) kind.Fee (λ s z e. cc) h

effect-lowers : (issued : Option IssuedRow) (a : Account) (seen : Seen) (s : CorrectedPost) (p : Post) (b : Book) → All Lowers b.entries → All Lowers (effect issued a seen s p b).entries
unfolding effect
effect-lowers issued a seen s (post.Charge d p n) b h = debited b.entries seen.day s.number (segment_at p seen.day (all_segments a seen)) s.cents (credit_balance b.entries) kind.Charge (λ s z e. cc) h
effect-lowers issued a seen s (post.Payment d m y n) b h = All-append Lowers b.entries _ h (lowers-parts seen.day s.number kind.Payment (payment_parts a seen s b))
effect-lowers issued a seen s (post.Credit d p n) b h = All-append Lowers b.entries _ h (lowers-parts seen.day s.number kind.Credit (credit_parts a seen s p b))
effect-lowers issued a seen s (post.Return d target) b h =
    fee-lowers a seen s.number (returned_fee issued seen b (meant_for b.cycles (payment_at target seen.posts))) (returned a seen s.number target b)
    (put_back-lowers seen.day s.number (newest sort.Purchase seen.day (all_segments a seen)) (filter (is_part_of target) b.entries) b.entries h)
effect-lowers issued a seen s (post.Dispute d target claim) b h =
    All-append Lowers b.entries _ h (all-holds Lowers seen.day s.number (disputed_segment a seen target) (disputed_cents a seen target claim b) (λ s z e. cc))
effect-lowers issued a seen s (post.Resolve d target n) b h =
    All-append Lowers b.entries _ h
    (all-releases Lowers seen.day s.number (disputed_segment a seen (disputed_charge (post_at target seen.posts))) (moved_by target b.entries) (credit_balance b.entries) (λ s z e. cc))
effect-lowers issued a seen s (post.Refund n) b h = debited b.entries seen.day s.number (newest sort.Purchase seen.day (all_segments a seen)) s.cents (credit_balance b.entries) kind.Refund (λ s z e. cc) h
effect-lowers issued a seen s post.Penalty b h = h
effect-lowers issued a seen s (post.Open d t) b h = h
effect-lowers issued a seen s (post.OpenVariable d t) b h = h
effect-lowers issued a seen s (post.Plan d k r e f) b h = h
effect-lowers issued a seen s (post.Notice d y r e) b h = h
effect-lowers issued a seen s (post.Lower d y r) b h = h
effect-lowers issued a seen s (post.Review d f) b h = h
effect-lowers issued a seen s (post.Ack d t) b h = h
effect-lowers issued a seen s (post.AskRefund d) b h = h
effect-lowers issued a seen s (post.Amend t d n) b h = h
effect-lowers issued a seen s (post.Bill n) b h = h

-- after each front of a day's posts
pub posts-lower : (issued : Option IssuedRow) (a : Account) (seen : Seen) (ss : List CorrectedPost) (b : Book) → AreLowering b.entries → AreLowering (after_posts issued a seen ss b).entries
unfolding after_posts
posts-lower issued a seen [] b h = h
posts-lower issued a seen (s ∷ ss) b h = posts-lower issued a seen ss (effect issued a seen s s.post b) (effect-lowers issued a seen s s.post b h)

pub due-lowers : (issued : Option IssuedRow) (a : Account) (seen : Seen) (b : Book) (c : Option Cycle) → AreLowering b.entries → AreLowering (on_due issued a seen b c).entries
unfolding on_due
due-lowers issued a seen b None h = h
due-lowers issued a seen b (Some c) h = by (eqb seen.day (c.due + 1)) (fee-lowers a seen 0 (late_fee issued seen b c) b h)
  where
    by : (t : Bool) → All Lowers (after_due_date issued a seen b c).entries → All Lowers (cond t (after_due_date issued a seen b c) b).entries
    by true k = k
    by false k = h

pub interest-lowers : (issued : Option IssuedRow) (seen : Seen) (amount : Book → SegmentTerms → ℕ) (gs : List SegmentTerms) (p : Posting) → AreLowering p.book.entries → AreLowering (post_interest issued seen amount gs p).book.entries
unfolding post_interest
interest-lowers issued seen amount [] p h = h
interest-lowers issued seen amount (g ∷ gs) p h =
    let x = posted_for issued amount g p in
    interest-lowers issued seen amount gs (post_one seen g x p) (debited p.book.entries seen.day 0 g.id x (credit_balance p.book.entries) kind.Interest (λ s z e. cc) h)

close-lowers : (issued : Option IssuedRow) (a : Account) (seen : Seen) (b : Book) → All Lowers b.entries → All Lowers (close issued a seen b).entries
unfolding close closing_interest
close-lowers issued a seen b h = interest-lowers issued seen _ _ _ (interest-lowers issued seen _ _ (record { amounts = []; book = b }) h)

pub day-lowers : (issued : Option IssuedRow) (a : Account) (seen : Seen) (b : Book) → AreLowering b.entries → AreLowering (day_after issued a seen b).entries
unfolding day_after
day-lowers issued a seen b h =
    let due = on_due issued a seen b (last_cycle b.cycles) in
    let posted = after_posts issued a seen (posts_on seen) due in
    let all = posts-lower issued a seen (posts_on seen) due (due-lowers issued a seen b (last_cycle b.cycles) h) in
    by (eqb (day_of_month seen.day) a.anchor.close_day) posted all (close-lowers issued a seen posted all)
  where
    by : (t : Bool) (posted : Book) → All Lowers posted.entries → All Lowers (close issued a seen posted).entries → All Lowers (cond t (close issued a seen posted) posted).entries
    by true posted h k = k
    by false posted h k = h

pub book_after-lowers : (rows : List IssuedRow) (a : Account) (s : ℕ → Seen) (n : ℕ) → AreLowering (book_after rows a s n).entries
unfolding book_after
book_after-lowers rows a s zero = All-nil Lowers
book_after-lowers rows a s (suc n) =
    let before = book_after rows a s n in
    day-lowers (row_for (present_cycle before) rows) a (s (a.anchor.opened + n)) before (book_after-lowers rows a s n)

pub repayments_lower : RepaymentsLower
unfolding book
repayments_lower history issued shared day = book_after-lowers issued (account_of history) (seen_on (anchor_of history) shared history issued) (day + 1 - (anchor_of history).opened)
