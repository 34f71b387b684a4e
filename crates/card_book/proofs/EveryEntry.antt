-- What holds of every entry that a day adds holds of all entries of a book.
use Rattle.std.proofs.Common.{◌≡◌, ℕ, zero, suc, ◌+◌, ◌-◌, Bool, true, false, cond, ◌&&◌, not, List, [], ◌∷◌, ◌++◌, refl, ℤ, pos, negsuc, Option, Some, None, eqb, leb}
use Rattle.std.specs.List.{All, filter, filter_map, find, cons_option}
use Rattle.std.proofs.lemmas.List.Elements.{All-nil, All-cons, All-head, All-tail, All-append, All-map}
use Rattle.std.specs.Prelude.{min}
use Rattle.std.specs.Option.{option_or}
use Rattle.card_bounds.proofs.OnSegments.{Holds, IsPart, paid-there, parts-there, takes-there}
use Rattle.card_events.specs.Civil.{day_of_month}
use Rattle.card_events.specs.History.{CorrectedPost}
use Rattle.card_events.specs.declared.post.Place.{Place}
use Rattle.card_events.specs.declared.post.Post.{Post}
use Rattle.card_model.specs.Allocation.{Paying, excess_rule, minimum_rule, paid_at, paid_on, part_of, parts, pay, place_rule, takes, untouched}
use Rattle.card_model.specs.Books.{Account, Book, all_segments, newest_purchase, note_of, present_cycle}
use Rattle.card_model.specs.Caps.{row_for}
use Rattle.card_model.specs.Closing.{Posting, close, closing_interest, interest_note, post_interest, post_one, posted_for}
use Rattle.card_model.specs.Cycles.{Cycle, IssuedRow, Seen, last_cycle, post_at, posts_on}
use Rattle.card_model.specs.DueDates.{after_due_date, on_due}
use Rattle.card_model.specs.Effects.{after_posts, credit_parts, disputed_cents, disputed_charge, disputed_segment, effect, holding, holdings, is_part_of, meant_for, moved_by, parts_entries, payment_at, payment_parts, put_back, returned, returned_fee, size}
use Rattle.card_model.specs.Entries.{credit_balance, debit, entry_of, holds, is_kind, lowers, negated, raises, releases}
use Rattle.card_model.specs.Fees.{fee_cents, late_fee, with_fee}
use Rattle.card_model.specs.Folds.{book_after, day_after}
use Rattle.card_model.specs.Payments.{minimum_left}
use Rattle.card_model.specs.Segments.{SegmentTerms, id_of, is_plan, is_sort, last_that, segment_at}
use Rattle.card_model.specs.declared.entry.Entry.{Entry}
use Rattle.card_model.specs.declared.entry.EntryKind.{EntryKind}
use Rattle.card_model.specs.declared.entry.Note.{Note}
use Rattle.card_model.specs.declared.fee.Fee.{Fee}
use Rattle.card_model.specs.declared.holding.Holding.{Holding}
use Rattle.card_events.specs.declared.post.Post.TheVariants as post
use Rattle.card_events.specs.declared.post.Place.TheVariants as place
use Rattle.card_model.specs.declared.entry.EntryKind.TheVariants as kind
use Rattle.card_model.specs.declared.segment.Sort.TheVariants as sort

-- a kind that is neither of a charge nor of a dispute
abbrev pub is_other : EntryKind → Bool
is_other k = not (is_kind kind.Charge k) && not (is_kind kind.Hold k)

-- what a day adds passes: entries of other kinds on Credit and on segments that pass, of disputes on any, and of charges on the
-- segments of their places
pub record Adds (p : ℕ → Type 0) (q : Entry → Type 0) (a : Account) (seen : Seen) : Type 0 where
  pub credit : p 0
  pub purchase : p 2
  pub each : All (λ (g : SegmentTerms). p g.id) (all_segments a seen)
  pub other : (k : EntryKind) (n s : ℕ) (z : ℤ) → is_other k ≡ true → p s → q (record { day = seen.day; segment = s; kind = k; post = n; cents = z })
  pub hold : (n s : ℕ) (z : ℤ) → q (record { day = seen.day; segment = s; kind = kind.Hold; post = n; cents = z })
  pub charge : (at : Place) (n : ℕ) (z : ℤ) → q (record { day = seen.day; segment = segment_at at seen.day (all_segments a seen); kind = kind.Charge; post = n; cents = z })
  pub used : (n : ℕ) (z : ℤ) → q (record { day = seen.day; segment = 0; kind = kind.Charge; post = n; cents = z })
  pub part : (e : Entry) → q e → is_kind kind.Payment e.kind ≡ true → p e.segment

-- ---- entries of a note
abbrev OnSegment : (Entry → Type 0) → Note → ℕ → Type 0
OnSegment q note s = (z : ℤ) → q (record { day = note.day; segment = s; kind = note.kind; post = note.post; cents = z })

of-entry : (q : Entry → Type 0) (note : Note) (s : ℕ) (z : ℤ) → OnSegment q note s → All q (entry_of note s z)
of-entry q note s (pos zero) h = All-nil q
of-entry q note s (pos (suc n)) h = All-cons q _ [] (h (pos (suc n))) (All-nil q)
of-entry q note s (negsuc n) h = All-cons q _ [] (h (negsuc n)) (All-nil q)

of-debit : (q : Entry → Type 0) (note : Note) (s x credit : ℕ) → OnSegment q note 0 → OnSegment q note s → All q (debit note s x credit)
unfolding debit
of-debit q note s x credit c h = All-append q (raises note 0 (min x credit)) (raises note s (x - credit)) (of-entry q note 0 (pos (min x credit)) c) (of-entry q note s (pos (x - credit)) h)

of-holds : (q : Entry → Type 0) (note : Note) (s x : ℕ) → OnSegment q note 1 → OnSegment q note s → All q (holds note s x)
of-holds q note s x c h = All-append q (lowers note s x) (raises note 1 x) (of-entry q note s (negated x) h) (of-entry q note 1 (pos x) c)

of-releases : (q : Entry → Type 0) (note : Note) (s x credit : ℕ) → OnSegment q note 0 → OnSegment q note 1 → OnSegment q note s → All q (releases note s x credit)
of-releases q note s x credit c held h = All-append q (lowers note 1 x) (debit note s x credit) (of-entry q note 1 (negated x) held) (of-debit q note s x credit c h)

of-parts : (p : ℕ → Type 0) (q : Entry → Type 0) (note : Note) (xs : List (ℕ × ℕ)) → ((s : ℕ) → p s → OnSegment q note s) → All (IsPart p) xs → All q (parts_entries note xs)
of-parts p q note [] f h = All-nil q
of-parts p q note (x ∷ xs) f h = All-append q (lowers note x.0 x.1) (parts_entries note xs) (of-entry q note x.0 (negated x.1) (f x.0 (All-head (IsPart p) x xs h))) (of-parts p q note xs f (All-tail (IsPart p) x xs h))

paid_at-there : (p : ℕ → Type 0) (id n : ℕ) (hs : List Holding) → All (Holds p) hs → All (Holds p) (paid_at id n hs)
unfolding paid_at
paid_at-there p id n [] a = All-nil (Holds p)
paid_at-there p id n (h ∷ hs) a = All-cons (Holds p) (cond (eqb h.id id) (paid_on n h) h) (paid_at id n hs) (by (eqb h.id id) (All-head (Holds p) h hs a)) (paid_at-there p id n hs (All-tail (Holds p) h hs a))
  where
    by : (t : Bool) → p h.id → p (cond t (paid_on n h) h).id
    by true m = m
    by false m = m

pay-there : (p : ℕ → Type 0) (rule : List Holding → Option Holding) (n : ℕ) (s : Paying) → All (Holds p) s.left → All (Holds p) (pay rule n s).left
unfolding pay
pay-there p rule zero s a = a
pay-there p rule (suc n) s a = pay-there p rule n (takes 1 s (rule s.left)) (takes-there p 1 s (rule s.left) a)

payment-there : (p : ℕ → Type 0) (q : Entry → Type 0) (a : Account) (seen : Seen) (s : CorrectedPost) (b : Book) → Adds p q a seen → All (IsPart p) (payment_parts a seen s b)
unfolding payment_parts
payment-there p q a seen s b h =
    let hs = holdings a seen b None in
    let minimum = min s.cents (minimum_left seen s (last_cycle b.cycles)) in
    let start : All (Holds p) hs = All-map (Holds p) (holding a seen b None) (all_segments a seen) h.each in
    parts-there p (pay excess_rule (s.cents - minimum) (pay minimum_rule minimum (untouched hs))) h.credit
    (pay-there p excess_rule (s.cents - minimum) (pay minimum_rule minimum (untouched hs)) (pay-there p minimum_rule minimum (untouched hs) start))

credit-there : (p : ℕ → Type 0) (q : Entry → Type 0) (a : Account) (seen : Seen) (s : CorrectedPost) (at : Place) (b : Book) → Adds p q a seen → All (IsPart p) (credit_parts a seen s at b)
unfolding credit_parts
credit-there p q a seen s at b h =
    let hs = holdings a seen b (Some at) in
    let start : All (Holds p) hs = All-map (Holds p) (holding a seen b (Some at)) (all_segments a seen) h.each in
    parts-there p (pay place_rule s.cents (untouched hs)) h.credit (pay-there p place_rule s.cents (untouched hs) start)

-- ---- the segments of places
pub last-there : (p : ℕ → Type 0) (test : SegmentTerms → Bool) (gs : List SegmentTerms) → p 2 → All (λ (g : SegmentTerms). p g.id) gs → p (id_of (last_that test gs))
last-there p test [] two h = two
last-there p test (g ∷ gs) two h = by (last_that test gs) (test g) (All-head (λ (g : SegmentTerms). p g.id) g gs h) (last-there p test gs two (All-tail (λ (g : SegmentTerms). p g.id) g gs h))
  where
    by : (o : Option SegmentTerms) (t : Bool) → p g.id → p (id_of o) → p (id_of (option_or o (cond t (Some g) None)))
    by (Some x) t l m = m
    by None true l m = l
    by None false l m = m

find-there : (p : ℕ → Type 0) (test : SegmentTerms → Bool) (gs : List SegmentTerms) → p 2 → All (λ (g : SegmentTerms). p g.id) gs → p (id_of (find test gs))
find-there p test [] two h = two
find-there p test (g ∷ gs) two h = by (test g) (All-head (λ (g : SegmentTerms). p g.id) g gs h) (find-there p test gs two (All-tail (λ (g : SegmentTerms). p g.id) g gs h))
  where
    by : (t : Bool) → p g.id → p (id_of (find test gs)) → p (id_of (cond t (Some g) (find test gs)))
    by true l m = l
    by false l m = m

pub segment_at-there : (p : ℕ → Type 0) (at : Place) (day : ℕ) (gs : List SegmentTerms) → p 2 → All (λ (g : SegmentTerms). p g.id) gs → p (segment_at at day gs)
segment_at-there p place.Purchase day gs two h = last-there p (λ g. is_sort sort.Purchase g.sort && leb g.begins day) gs two h
segment_at-there p place.Cash day gs two h = last-there p (λ g. is_sort sort.Cash g.sort && leb g.begins day) gs two h
segment_at-there p place.Transfer day gs two h = last-there p (λ g. is_sort sort.Transfer g.sort && leb g.begins day) gs two h
segment_at-there p (place.Plan n) day gs two h = find-there p (λ g. eqb g.post n && is_plan g) gs two h

newest-there : (p : ℕ → Type 0) (q : Entry → Type 0) (a : Account) (seen : Seen) → Adds p q a seen → p (newest_purchase a seen)
newest-there p q a seen h = last-there p (λ g. is_sort sort.Purchase g.sort && leb g.begins seen.day) (all_segments a seen) h.purchase h.each

-- ---- the steps of the fold
put_back-there : (p : ℕ → Type 0) (q : Entry → Type 0) (note : Note) (new : ℕ) (xs es : List Entry) → ((s : ℕ) → p s → OnSegment q note s) → p 0 → p new
    → All (λ (e : Entry). p e.segment) xs → All q es → All q (put_back note new xs es)
put_back-there p q note new [] es f c n a h = h
put_back-there p q note new (x ∷ xs) es f c n a h =
    let g = cond (eqb x.segment 0) new x.segment in
    put_back-there p q note new xs (es ++ debit note g (size x.cents) (credit_balance es)) f c n (All-tail (λ (e : Entry). p e.segment) x xs a)
    (All-append q es (debit note g (size x.cents) (credit_balance es)) h (of-debit q note g (size x.cents) (credit_balance es) (f 0 c) (f g (by (eqb x.segment 0) (All-head (λ (e : Entry). p e.segment) x xs a)))))
  where
    by : (t : Bool) → p x.segment → p (cond t new x.segment)
    by true m = n
    by false m = m

pub and-right : (x y : Bool) → x && y ≡ true → y ≡ true
and-right true y e = e
and-right false y e = cc

parts-of : (p : ℕ → Type 0) (q : Entry → Type 0) (n : ℕ) (es : List Entry) → ((e : Entry) → q e → is_kind kind.Payment e.kind ≡ true → p e.segment) → All q es → All (λ (e : Entry). p e.segment) (filter (is_part_of n) es)
parts-of p q n [] f h = All-nil (λ (e : Entry). p e.segment)
parts-of p q n (e ∷ es) f h = by (is_part_of n e) refl (parts-of p q n es f (All-tail q e es h))
  where
    by : (t : Bool) → is_part_of n e ≡ t → All (λ (e : Entry). p e.segment) (filter (is_part_of n) es) → All (λ (e : Entry). p e.segment) (cond t (e ∷ filter (is_part_of n) es) (filter (is_part_of n) es))
    by true i r = All-cons (λ (e : Entry). p e.segment) e (filter (is_part_of n) es) (f e (All-head q e es h) (and-right (eqb e.post n) (is_kind kind.Payment e.kind) i)) r
    by false i r = r

fee-there : (p : ℕ → Type 0) (q : Entry → Type 0) (a : Account) (seen : Seen) (n : ℕ) (o : Option Fee) (b : Book) → Adds p q a seen → All q b.entries → All q (with_fee a seen n o b).entries
fee-there p q a seen n None b t h = h
fee-there p q a seen n (Some f) b t h =
    All-append q b.entries _ h
    (of-debit q (note_of seen kind.Fee n) (newest_purchase a seen) (fee_cents f) (credit_balance b.entries) (λ z. t.other kind.Fee n 0 z refl t.credit) (λ z. t.other kind.Fee n (newest_purchase a seen) z refl (newest-there p q a seen t)))

effect-there : (p : ℕ → Type 0) (q : Entry → Type 0) (issued : Option IssuedRow) (a : Account) (seen : Seen) (s : CorrectedPost) (x : Post) (b : Book) → Adds p q a seen → All q b.entries → All q (effect issued a seen s x b).entries
unfolding effect
effect-there p q issued a seen s (post.Charge d at n) b t h =
    All-append q b.entries _ h (of-debit q (note_of seen kind.Charge s.number) (segment_at at seen.day (all_segments a seen)) s.cents (credit_balance b.entries) (t.used s.number) (t.charge at s.number))
effect-there p q issued a seen s (post.Payment d m y n) b t h =
    All-append q b.entries _ h (of-parts p q (note_of seen kind.Payment s.number) (payment_parts a seen s b) (λ g i z. t.other kind.Payment s.number g z refl i) (payment-there p q a seen s b t))
effect-there p q issued a seen s (post.Credit d at n) b t h =
    All-append q b.entries _ h (of-parts p q (note_of seen kind.Credit s.number) (credit_parts a seen s at b) (λ g i z. t.other kind.Credit s.number g z refl i) (credit-there p q a seen s at b t))
effect-there p q issued a seen s (post.Return d target) b t h =
    fee-there p q a seen s.number (returned_fee issued seen b (meant_for b.cycles (payment_at target seen.posts))) (returned a seen s.number target b) t
    (put_back-there p q (note_of seen kind.Return s.number) (newest_purchase a seen) (filter (is_part_of target) b.entries) b.entries (λ g i z. t.other kind.Return s.number g z refl i) t.credit (newest-there p q a seen t)
    (parts-of p q target b.entries t.part h) h)
effect-there p q issued a seen s (post.Dispute d target claim) b t h =
    All-append q b.entries _ h (of-holds q (note_of seen kind.Hold s.number) (disputed_segment a seen target) (disputed_cents a seen target claim b) (t.hold s.number 1) (t.hold s.number (disputed_segment a seen target)))
effect-there p q issued a seen s (post.Resolve d target n) b t h =
    let g = disputed_segment a seen (disputed_charge (post_at target seen.posts)) in
    All-append q b.entries _ h (of-releases q (note_of seen kind.Hold s.number) g (moved_by target b.entries) (credit_balance b.entries) (t.hold s.number 0) (t.hold s.number 1) (t.hold s.number g))
effect-there p q issued a seen s (post.Refund n) b t h =
    All-append q b.entries _ h (of-debit q (note_of seen kind.Refund s.number) (newest_purchase a seen) s.cents (credit_balance b.entries) (λ z. t.other kind.Refund s.number 0 z refl t.credit) (λ z. t.other kind.Refund s.number (newest_purchase a seen) z refl (newest-there p q a seen t)))
effect-there p q issued a seen s post.Penalty b t h = h
effect-there p q issued a seen s (post.Open d u) b t h = h
effect-there p q issued a seen s (post.OpenVariable d u) b t h = h
effect-there p q issued a seen s (post.Plan d k r e f) b t h = h
effect-there p q issued a seen s (post.Notice d y r e) b t h = h
effect-there p q issued a seen s (post.Lower d y r) b t h = h
effect-there p q issued a seen s (post.Review d f) b t h = h
effect-there p q issued a seen s (post.Ack d u) b t h = h
effect-there p q issued a seen s (post.AskRefund d) b t h = h
effect-there p q issued a seen s (post.Amend u d n) b t h = h
effect-there p q issued a seen s (post.Bill n) b t h = h

posts-there : (p : ℕ → Type 0) (q : Entry → Type 0) (issued : Option IssuedRow) (a : Account) (seen : Seen) (ss : List CorrectedPost) (b : Book) → Adds p q a seen → All q b.entries → All q (after_posts issued a seen ss b).entries
unfolding after_posts
posts-there p q issued a seen [] b t h = h
posts-there p q issued a seen (s ∷ ss) b t h = posts-there p q issued a seen ss (effect issued a seen s s.post b) t (effect-there p q issued a seen s s.post b t h)

chosen : (q : Entry → Type 0) (t : Bool) (new other : Book) → All q new.entries → All q other.entries → All q (cond t new other).entries
chosen q true new other g h = g
chosen q false new other g h = h

due-there : (p : ℕ → Type 0) (q : Entry → Type 0) (issued : Option IssuedRow) (a : Account) (seen : Seen) (b : Book) (c : Option Cycle) → Adds p q a seen → All q b.entries → All q (on_due issued a seen b c).entries
unfolding on_due
due-there p q issued a seen b None t h = h
due-there p q issued a seen b (Some c) t h = chosen q (eqb seen.day (c.due + 1)) (after_due_date issued a seen b c) b (fee-there p q a seen 0 (late_fee issued seen b c) b t h) h

interest-there : (p : ℕ → Type 0) (q : Entry → Type 0) (issued : Option IssuedRow) (a : Account) (seen : Seen) (amount : Book → SegmentTerms → ℕ) (gs : List SegmentTerms) (s : Posting) → Adds p q a seen → All (λ (g : SegmentTerms). p g.id) gs
    → All q s.book.entries → All q (post_interest issued seen amount gs s).book.entries
unfolding post_interest
interest-there p q issued a seen amount [] s t l h = h
interest-there p q issued a seen amount (g ∷ gs) s t l h =
    interest-there p q issued a seen amount gs (post_one seen g (posted_for issued amount g s) s) t (All-tail (λ (g : SegmentTerms). p g.id) g gs l)
    (All-append q s.book.entries _ h
    (of-debit q (interest_note seen) g.id (posted_for issued amount g s) (credit_balance s.book.entries) (λ z. t.other kind.Interest 0 0 z refl t.credit) (λ z. t.other kind.Interest 0 g.id z refl (All-head (λ (g : SegmentTerms). p g.id) g gs l))))

close-there : (p : ℕ → Type 0) (q : Entry → Type 0) (issued : Option IssuedRow) (a : Account) (seen : Seen) (b : Book) → Adds p q a seen → All q b.entries → All q (close issued a seen b).entries
unfolding close closing_interest
close-there p q issued a seen b t h = interest-there p q issued a seen _ (all_segments a seen) _ t t.each (interest-there p q issued a seen _ (all_segments a seen) _ t t.each h)

day-there : (p : ℕ → Type 0) (q : Entry → Type 0) (issued : Option IssuedRow) (a : Account) (seen : Seen) (b : Book) → Adds p q a seen → All q b.entries → All q (day_after issued a seen b).entries
unfolding day_after
day-there p q issued a seen b t h =
    let posts = posts-there p q issued a seen (posts_on seen) _ t (due-there p q issued a seen b (last_cycle b.cycles) t h) in
    chosen q (eqb (day_of_month seen.day) a.anchor.close_day) _ _ (close-there p q issued a seen _ t posts) posts

-- so of every book
pub of_every_entry : (p : ℕ → Type 0) (q : Entry → Type 0) (rows : List IssuedRow) (a : Account) (seen : ℕ → Seen) (n : ℕ) → ((d : ℕ) → Adds p q a (seen d)) → All q (book_after rows a seen n).entries
unfolding book_after
of_every_entry p q rows a seen zero t = All-nil q
of_every_entry p q rows a seen (suc n) t =
    let b = book_after rows a seen n in
    day-there p q (row_for (present_cycle b) rows) a (seen (a.anchor.opened + n)) b (t (a.anchor.opened + n)) (of_every_entry p q rows a seen n t)
