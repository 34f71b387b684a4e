-- Every entry lies on Credit, on Held or on a segment that is there by the day.
use Rattle.std.proofs.Common.{◌≡◌, ℕ, zero, suc, ◌+◌, ◌-◌, ◌<◌, ◌≤◌, Bool, true, false, cond, ◌&&◌, List, [], ◌∷◌, ◌++◌, refl, ap, subst, arith, ℤ, pos, negsuc, Option, Some, None, eqb, leb, map, get_or}
use Rattle.std.specs.List.{All, Contains, filter, filter_map, find, cons_option}
use Rattle.std.proofs.lemmas.Bool.{ne_eqb}
use Rattle.std.proofs.lemmas.Bool.Decides.{nat_tests}
use Rattle.std.proofs.lemmas.List.Elements.{All-nil, All-cons, All-head, All-tail, All-append, All-filter, All-map, All-weaker, All-contains, All-contains_itself, filter_passes}
use Rattle.std.specs.Prelude.{min}
use Rattle.std.specs.Option.{option_or}
use Rattle.card_bounds.specs.Places.{EntriesHaveSegments, LieOn, numbers_of, segments_by}
use Rattle.card_events.specs.Civil.{day_of_month}
use Rattle.card_events.specs.declared.anchor.Anchor.{Anchor}
use Rattle.card_events.specs.History.{CorrectedPost, anchor_of, folded}
use Rattle.card_events.specs.SharedRows.{SharedRows}
use Rattle.card_events.specs.declared.kept.Kept.{Kept}
use Rattle.card_events.specs.declared.post.Place.{Place}
use Rattle.card_events.specs.declared.post.Post.{Post}
use Rattle.card_events.specs.declared.post.Terms.{Terms}
use Rattle.card_model.specs.Allocation.{Paying, excess_rule, minimum_rule, paid_at, paid_on, part_of, parts, pay, place_rule, takes, untouched}
use Rattle.card_model.specs.Books.{Account, Book, account_of, all_segments, newest_purchase, note_of, present_cycle}
use Rattle.card_model.specs.Caps.{row_for}
use Rattle.card_model.specs.Closing.{Posting, close, closing_interest, interest_note, post_interest, post_one, posted_for}
use Rattle.card_model.specs.Cycles.{Cycle, IssuedRow, Seen, last_cycle, post_at, posts_on, seen_on}
use Rattle.card_model.specs.DueDates.{after_due_date, on_due}
use Rattle.card_model.specs.Effects.{after_posts, charge_at, charge_segment, credit_parts, disputed_cents, disputed_charge, disputed_segment, effect, holding, holdings, is_part_of, meant_for, moved_by, parts_entries, payment_at, payment_parts, place_charged, place_segment, put_back, returned, returned_fee, size}
use Rattle.card_model.specs.Entries.{balance, credit_balance, debit, entry_of, holds, lowers, negated, raises, releases}
use Rattle.card_model.specs.Fees.{fee_cents, late_fee, with_fee}
use Rattle.card_model.specs.Folds.{book, book_after, day_after}
use Rattle.card_model.specs.Payments.{minimum_left}
use Rattle.card_model.specs.Segments.{SegmentTerms, id_of, is_plan, is_sort, last_that, opening_vintage, opening_vintages, segment_at, segment_of, segments}
use Rattle.card_model.specs.declared.entry.Entry.{Entry}
use Rattle.card_model.specs.declared.entry.Note.{Note}
use Rattle.card_model.specs.declared.fee.Fee.{Fee}
use Rattle.card_model.specs.declared.holding.Holding.{Holding}
use Rattle.card_events.specs.declared.post.Post.TheVariants as post
use Rattle.card_events.specs.declared.post.Place.TheVariants as place
use Rattle.card_model.specs.declared.entry.EntryKind.TheVariants as kind
use Rattle.card_model.specs.declared.segment.Sort.TheVariants as sort
use Rattle.card_model.proofs.Past.{filter_implied}

-- ---- segments that are there
abbrev Among : (ℕ → Type 0) → SegmentTerms → Type 0
Among p g = p g.id

abbrev On : (ℕ → Type 0) → Entry → Type 0
On p e = p e.segment

-- Credit, Held, the opening Purchase vintage and these
record AreThere (p : ℕ → Type 0) (gs : List SegmentTerms) : Type 0 where
  pub credit : p 0
  pub held : p 1
  pub purchase : p 2
  pub each : All (Among p) gs

last-there : (p : ℕ → Type 0) (test : SegmentTerms → Bool) (gs : List SegmentTerms) → p 2 → All (Among p) gs → p (id_of (last_that test gs))
last-there p test [] two h = two
last-there p test (g ∷ gs) two h = by (last_that test gs) (test g) (All-head (Among p) g gs h) (last-there p test gs two (All-tail (Among p) g gs h))
  where
    by : (o : Option SegmentTerms) (t : Bool) → p g.id → p (id_of o) → p (id_of (option_or o (cond t (Some g) None)))
    by (Some x) t l m = m
    by None true l m = l
    by None false l m = m

find-there : (p : ℕ → Type 0) (test : SegmentTerms → Bool) (gs : List SegmentTerms) → p 2 → All (Among p) gs → p (id_of (find test gs))
find-there p test [] two h = two
find-there p test (g ∷ gs) two h = by (test g) (All-head (Among p) g gs h) (find-there p test gs two (All-tail (Among p) g gs h))
  where
    by : (t : Bool) → p g.id → p (id_of (find test gs)) → p (id_of (cond t (Some g) (find test gs)))
    by true l m = l
    by false l m = m

segment_at-there : (p : ℕ → Type 0) (at : Place) (day : ℕ) (gs : List SegmentTerms) → AreThere p gs → p (segment_at at day gs)
segment_at-there p place.Purchase day gs h = last-there p (λ g. is_sort sort.Purchase g.sort && leb g.begins day) gs h.purchase h.each
segment_at-there p place.Cash day gs h = last-there p (λ g. is_sort sort.Cash g.sort && leb g.begins day) gs h.purchase h.each
segment_at-there p place.Transfer day gs h = last-there p (λ g. is_sort sort.Transfer g.sort && leb g.begins day) gs h.purchase h.each
segment_at-there p (place.Plan n) day gs h = find-there p (λ g. eqb g.post n && is_plan g) gs h.purchase h.each

newest-there : (p : ℕ → Type 0) (a : Account) (seen : Seen) → AreThere p (all_segments a seen) → p (newest_purchase a seen)
newest-there p a seen h = last-there p (λ g. is_sort sort.Purchase g.sort && leb g.begins seen.day) (all_segments a seen) h.purchase h.each

charge-there : (p : ℕ → Type 0) (gs : List SegmentTerms) (o : Option CorrectedPost) → AreThere p gs → p (charge_segment gs o)
charge-there p gs None h = h.purchase
charge-there p gs (Some s) h = by (place_charged s.post)
  where
    by : (o : Option Place) → p (place_segment s.day gs o)
    by None = h.purchase
    by (Some x) = segment_at-there p x s.day gs h

-- ---- entries of a note
on-entry : (p : ℕ → Type 0) (note : Note) (s : ℕ) (z : ℤ) → p s → All (On p) (entry_of note s z)
on-entry p note s (pos zero) h = All-nil (On p)
on-entry p note s (pos (suc n)) h = All-cons (On p) _ [] h (All-nil (On p))
on-entry p note s (negsuc n) h = All-cons (On p) _ [] h (All-nil (On p))

on-debit : (p : ℕ → Type 0) (note : Note) (s x credit : ℕ) → p 0 → p s → All (On p) (debit note s x credit)
unfolding debit
on-debit p note s x credit c h = All-append (On p) (raises note 0 (min x credit)) (raises note s (x - credit)) (on-entry p note 0 (pos (min x credit)) c) (on-entry p note s (pos (x - credit)) h)

on-holds : (p : ℕ → Type 0) (note : Note) (s x : ℕ) → p 1 → p s → All (On p) (holds note s x)
on-holds p note s x c h = All-append (On p) (lowers note s x) (raises note 1 x) (on-entry p note s (negated x) h) (on-entry p note 1 (pos x) c)

on-releases : (p : ℕ → Type 0) (note : Note) (s x credit : ℕ) → p 0 → p 1 → p s → All (On p) (releases note s x credit)
on-releases p note s x credit c held h = All-append (On p) (lowers note 1 x) (debit note s x credit) (on-entry p note 1 (negated x) held) (on-debit p note s x credit c h)

-- ---- parts
abbrev pub Holds : (ℕ → Type 0) → Holding → Type 0
Holds p h = p h.id

abbrev pub IsPart : (ℕ → Type 0) → ℕ × ℕ → Type 0
IsPart p x = p x.0

on-parts : (p : ℕ → Type 0) (note : Note) (xs : List (ℕ × ℕ)) → All (IsPart p) xs → All (On p) (parts_entries note xs)
on-parts p note [] h = All-nil (On p)
on-parts p note (x ∷ xs) h = All-append (On p) (lowers note x.0 x.1) (parts_entries note xs) (on-entry p note x.0 (negated x.1) (All-head (IsPart p) x xs h)) (on-parts p note xs (All-tail (IsPart p) x xs h))

paid_at-there : (p : ℕ → Type 0) (id n : ℕ) (hs : List Holding) → All (Holds p) hs → All (Holds p) (paid_at id n hs)
unfolding paid_at
paid_at-there p id n [] a = All-nil (Holds p)
paid_at-there p id n (h ∷ hs) a = All-cons (Holds p) (cond (eqb h.id id) (paid_on n h) h) (paid_at id n hs) (by (eqb h.id id) (All-head (Holds p) h hs a)) (paid_at-there p id n hs (All-tail (Holds p) h hs a))
  where
    by : (t : Bool) → p h.id → p (cond t (paid_on n h) h).id
    by true m = m
    by false m = m

pub takes-there : (p : ℕ → Type 0) (n : ℕ) (s : Paying) (o : Option Holding) → All (Holds p) s.left → All (Holds p) (takes n s o).left
takes-there p n s None a = a
takes-there p n s (Some h) a = paid_at-there p h.id n s.left a

pay-there : (p : ℕ → Type 0) (rule : List Holding → Option Holding) (n : ℕ) (s : Paying) → All (Holds p) s.left → All (Holds p) (pay rule n s).left
unfolding pay
pay-there p rule zero s a = a
pay-there p rule (suc n) s a = pay-there p rule n (takes 1 s (rule s.left)) (takes-there p 1 s (rule s.left) a)

pub paid-there : (p : ℕ → Type 0) (hs : List Holding) → All (Holds p) hs → All (IsPart p) (filter_map part_of hs)
paid-there p [] a = All-nil (IsPart p)
paid-there p (h ∷ hs) a = by (eqb h.paid 0) (All-head (Holds p) h hs a) (paid-there p hs (All-tail (Holds p) h hs a))
  where
    by : (t : Bool) → p h.id → All (IsPart p) (filter_map part_of hs) → All (IsPart p) (cons_option (cond t None (Some (h.id, h.paid))) (filter_map part_of hs))
    by true m r = r
    by false m r = All-cons (IsPart p) (h.id, h.paid) (filter_map part_of hs) m r

pub parts-there : (p : ℕ → Type 0) (s : Paying) → p 0 → All (Holds p) s.left → All (IsPart p) (parts s)
parts-there p s c a = by (eqb s.credit 0)
  where
    by : (t : Bool) → All (IsPart p) (cond t (filter_map part_of s.left) ((0, s.credit) ∷ filter_map part_of s.left))
    by true = paid-there p s.left a
    by false = All-cons (IsPart p) (0, s.credit) (filter_map part_of s.left) c (paid-there p s.left a)

payment-there : (p : ℕ → Type 0) (a : Account) (seen : Seen) (s : CorrectedPost) (b : Book) → AreThere p (all_segments a seen) → All (IsPart p) (payment_parts a seen s b)
unfolding payment_parts
payment-there p a seen s b h =
    let hs = holdings a seen b None in
    let minimum = min s.cents (minimum_left seen s (last_cycle b.cycles)) in
    let start : All (Holds p) hs = All-map (Holds p) (holding a seen b None) (all_segments a seen) h.each in
    parts-there p (pay excess_rule (s.cents - minimum) (pay minimum_rule minimum (untouched hs))) h.credit
    (pay-there p excess_rule (s.cents - minimum) (pay minimum_rule minimum (untouched hs)) (pay-there p minimum_rule minimum (untouched hs) start))

credit-there : (p : ℕ → Type 0) (a : Account) (seen : Seen) (s : CorrectedPost) (at : Place) (b : Book) → AreThere p (all_segments a seen) → All (IsPart p) (credit_parts a seen s at b)
unfolding credit_parts
credit-there p a seen s at b h =
    let hs = holdings a seen b (Some at) in
    let start : All (Holds p) hs = All-map (Holds p) (holding a seen b (Some at)) (all_segments a seen) h.each in
    parts-there p (pay place_rule s.cents (untouched hs)) h.credit (pay-there p place_rule s.cents (untouched hs) start)

-- ---- the steps of the fold
put_back-there : (p : ℕ → Type 0) (note : Note) (new : ℕ) (xs es : List Entry) → p 0 → p new → All (On p) xs → All (On p) es → All (On p) (put_back note new xs es)
put_back-there p note new [] es c n a h = h
put_back-there p note new (x ∷ xs) es c n a h =
    let g = cond (eqb x.segment 0) new x.segment in
    put_back-there p note new xs (es ++ debit note g (size x.cents) (credit_balance es)) c n (All-tail (On p) x xs a)
    (All-append (On p) es (debit note g (size x.cents) (credit_balance es)) h (on-debit p note g (size x.cents) (credit_balance es) c (by (eqb x.segment 0) (All-head (On p) x xs a))))
  where
    by : (t : Bool) → p x.segment → p (cond t new x.segment)
    by true m = n
    by false m = m

fee-there : (p : ℕ → Type 0) (a : Account) (seen : Seen) (n : ℕ) (o : Option Fee) (b : Book) → AreThere p (all_segments a seen) → All (On p) b.entries → All (On p) (with_fee a seen n o b).entries
fee-there p a seen n None b t h = h
fee-there p a seen n (Some f) b t h = All-append (On p) b.entries _ h (on-debit p (note_of seen kind.Fee n) (newest_purchase a seen) (fee_cents f) (credit_balance b.entries) t.credit (newest-there p a seen t))

effect-there : (p : ℕ → Type 0) (issued : Option IssuedRow) (a : Account) (seen : Seen) (s : CorrectedPost) (x : Post) (b : Book) → AreThere p (all_segments a seen) → All (On p) b.entries → All (On p) (effect issued a seen s x b).entries
unfolding effect
effect-there p issued a seen s (post.Charge d at n) b t h =
    All-append (On p) b.entries _ h (on-debit p (note_of seen kind.Charge s.number) (segment_at at seen.day (all_segments a seen)) s.cents (credit_balance b.entries) t.credit (segment_at-there p at seen.day (all_segments a seen) t))
effect-there p issued a seen s (post.Payment d m y n) b t h =
    All-append (On p) b.entries _ h (on-parts p (note_of seen kind.Payment s.number) (payment_parts a seen s b) (payment-there p a seen s b t))
effect-there p issued a seen s (post.Credit d at n) b t h =
    All-append (On p) b.entries _ h (on-parts p (note_of seen kind.Credit s.number) (credit_parts a seen s at b) (credit-there p a seen s at b t))
effect-there p issued a seen s (post.Return d target) b t h =
    fee-there p a seen s.number (returned_fee issued seen b (meant_for b.cycles (payment_at target seen.posts))) (returned a seen s.number target b) t
    (put_back-there p (note_of seen kind.Return s.number) (newest_purchase a seen) (filter (is_part_of target) b.entries) b.entries t.credit (newest-there p a seen t) (All-filter (is_part_of target) (On p) b.entries h) h)
effect-there p issued a seen s (post.Dispute d target claim) b t h =
    All-append (On p) b.entries _ h (on-holds p (note_of seen kind.Hold s.number) (disputed_segment a seen target) (disputed_cents a seen target claim b) t.held (charge-there p (all_segments a seen) (charge_at target seen.posts) t))
effect-there p issued a seen s (post.Resolve d target n) b t h =
    let g = disputed_segment a seen (disputed_charge (post_at target seen.posts)) in
    All-append (On p) b.entries _ h (on-releases p (note_of seen kind.Hold s.number) g (moved_by target b.entries) (credit_balance b.entries) t.credit t.held (charge-there p (all_segments a seen) (charge_at (disputed_charge (post_at target seen.posts)) seen.posts) t))
effect-there p issued a seen s (post.Refund n) b t h =
    All-append (On p) b.entries _ h (on-debit p (note_of seen kind.Refund s.number) (newest_purchase a seen) s.cents (credit_balance b.entries) t.credit (newest-there p a seen t))
effect-there p issued a seen s post.Penalty b t h = h
effect-there p issued a seen s (post.Open d u) b t h = h
effect-there p issued a seen s (post.OpenVariable d u) b t h = h
effect-there p issued a seen s (post.Plan d k r e f) b t h = h
effect-there p issued a seen s (post.Notice d y r e) b t h = h
effect-there p issued a seen s (post.Lower d y r) b t h = h
effect-there p issued a seen s (post.Review d f) b t h = h
effect-there p issued a seen s (post.Ack d u) b t h = h
effect-there p issued a seen s (post.AskRefund d) b t h = h
effect-there p issued a seen s (post.Amend u d n) b t h = h
effect-there p issued a seen s (post.Bill n) b t h = h

posts-there : (p : ℕ → Type 0) (issued : Option IssuedRow) (a : Account) (seen : Seen) (ss : List CorrectedPost) (b : Book) → AreThere p (all_segments a seen) → All (On p) b.entries → All (On p) (after_posts issued a seen ss b).entries
unfolding after_posts
posts-there p issued a seen [] b t h = h
posts-there p issued a seen (s ∷ ss) b t h = posts-there p issued a seen ss (effect issued a seen s s.post b) t (effect-there p issued a seen s s.post b t h)

chosen : (p : ℕ → Type 0) (t : Bool) (new other : Book) → All (On p) new.entries → All (On p) other.entries → All (On p) (cond t new other).entries
chosen p true new other g h = g
chosen p false new other g h = h

due-there : (p : ℕ → Type 0) (issued : Option IssuedRow) (a : Account) (seen : Seen) (b : Book) (c : Option Cycle) → AreThere p (all_segments a seen) → All (On p) b.entries → All (On p) (on_due issued a seen b c).entries
unfolding on_due
due-there p issued a seen b None t h = h
due-there p issued a seen b (Some c) t h = chosen p (eqb seen.day (c.due + 1)) (after_due_date issued a seen b c) b (fee-there p a seen 0 (late_fee issued seen b c) b t h) h

interest-there : (p : ℕ → Type 0) (issued : Option IssuedRow) (seen : Seen) (amount : Book → SegmentTerms → ℕ) (gs : List SegmentTerms) (s : Posting) → p 0 → All (Among p) gs → All (On p) s.book.entries → All (On p) (post_interest issued seen amount gs s).book.entries
unfolding post_interest
interest-there p issued seen amount [] s c a h = h
interest-there p issued seen amount (g ∷ gs) s c a h =
    interest-there p issued seen amount gs (post_one seen g (posted_for issued amount g s) s) c (All-tail (Among p) g gs a)
    (All-append (On p) s.book.entries _ h (on-debit p (interest_note seen) g.id (posted_for issued amount g s) (credit_balance s.book.entries) c (All-head (Among p) g gs a)))

close-there : (p : ℕ → Type 0) (issued : Option IssuedRow) (a : Account) (seen : Seen) (b : Book) → AreThere p (all_segments a seen) → All (On p) b.entries → All (On p) (close issued a seen b).entries
unfolding close closing_interest
close-there p issued a seen b t h = interest-there p issued seen _ (all_segments a seen) _ t.credit t.each (interest-there p issued seen _ (all_segments a seen) _ t.credit t.each h)

day-there : (p : ℕ → Type 0) (issued : Option IssuedRow) (a : Account) (seen : Seen) (b : Book) → AreThere p (all_segments a seen) → All (On p) b.entries → All (On p) (day_after issued a seen b).entries
unfolding day_after
day-there p issued a seen b t h =
    let posts = posts-there p issued a seen (posts_on seen) _ t (due-there p issued a seen b (last_cycle b.cycles) t h) in
    chosen p (eqb (day_of_month seen.day) a.anchor.close_day) _ _ (close-there p issued a seen _ t posts) posts

book-there : (p : ℕ → Type 0) (rows : List IssuedRow) (a : Account) (seen : ℕ → Seen) (n : ℕ) → ((k : ℕ) → k < n → AreThere p (all_segments a (seen (a.anchor.opened + k)))) → All (On p) (book_after rows a seen n).entries
unfolding book_after
book-there p rows a seen zero t = All-nil (On p)
book-there p rows a seen (suc n) t =
    let b = book_after rows a seen n in
    day-there p (row_for (present_cycle b) rows) a (seen (a.anchor.opened + n)) b (t n (omega arith)) (book-there p rows a seen n (λ k l. t k (omega arith)))

-- ---- the segments of a day stay on later ones
rest-of : {Y : Type 0} (p : Y → Type 0) (o : Option Y) (ys : List Y) → All p (cons_option o ys) → All p ys
rest-of p None ys a = a
rest-of p (Some y) ys a = All-tail p y ys a

front-of : {Y : Type 0} (p : Y → Type 0) (o : Option Y) (ys zs : List Y) → All p (cons_option o ys) → All p zs → All p (cons_option o zs)
front-of p None ys zs a r = r
front-of p (Some y) ys zs a r = All-cons p y zs (All-head p y ys a) r

some-kept : {X Y : Type 0} (p : Y → Type 0) (f : X → Option Y) (test : X → Bool) (xs : List X) → All p (filter_map f xs) → All p (filter_map f (filter test xs))
some-kept p f test [] a = All-nil p
some-kept p f test (x ∷ xs) a = by (test x) a (some-kept p f test xs (rest-of p (f x) (filter_map f xs) a))
  where
    by : (t : Bool) → All p (cons_option (f x) (filter_map f xs)) → All p (filter_map f (filter test xs)) → All p (filter_map f (cond t (x ∷ filter test xs) (filter test xs)))
    by true a r = front-of p (f x) (filter_map f xs) (filter_map f (filter test xs)) a r
    by false a r = r

after-front : {X : Type 0} (p : X → Type 0) (xs ys zs : List X) → (All p ys → All p zs) → All p (xs ++ ys) → All p (xs ++ zs)
after-front p [] ys zs f a = f a
after-front p (x ∷ xs) ys zs f a = All-cons p x (xs ++ zs) (All-head p x (xs ++ ys) a) (after-front p xs ys zs f (All-tail p x (xs ++ ys) a))

-- the segment that a corrected post adds
abbrev added : CorrectedPost → Option SegmentTerms
added p = segment_of p.segment p.number p.post

fewer-posts : (p : ℕ → Type 0) (a : Anchor) (terms : Terms) (test : CorrectedPost → Bool) (ps : List CorrectedPost) → All (Among p) (segments a terms ps) → All (Among p) (segments a terms (filter test ps))
unfolding segments
fewer-posts p a terms test ps h = after-front (Among p) (opening_vintages a.opened terms) (filter_map added ps) (filter_map added (filter test ps)) (some-kept (Among p) added test ps) h

by-later : (n x d : ℕ) → x ≤ d → leb n x ≡ true → leb n d ≡ true
by-later n x d h e = grind (arith, nat_tests)

earlier-there : (p : ℕ → Type 0) (acc : Account) (a : Anchor) (shared : SharedRows) (history : List Kept) (issued : List IssuedRow) (day later : ℕ) → day ≤ later
    → AreThere p (all_segments acc (seen_on a shared history issued later)) → AreThere p (all_segments acc (seen_on a shared history issued day))
earlier-there p acc a shared history issued day later l t =
    let ps = folded a shared.holidays history in
    let same = filter_implied (λ (s : CorrectedPost). leb s.day day) (λ s. leb s.day later) (λ s. by-later s.day day later l) ps in
    let fewer = fewer-posts p acc.anchor acc.terms (λ (s : CorrectedPost). leb s.day day) (filter (λ (s : CorrectedPost). leb s.day later) ps) t.each in
    record { credit = t.credit; held = t.held; purchase = t.purchase; each = subst (λ xs. All (Among p) (segments acc.anchor acc.terms xs)) same fewer }

-- ---- one of the numbers of a day's segments
unmapped : {X Y : Type 0} (p : Y → Type 0) (f : X → Y) (xs : List X) → All p (map f xs) → All (λ x. p (f x)) xs
unmapped p f [] h = All-nil (λ x. p (f x))
unmapped p f (x ∷ xs) h = All-cons (λ x. p (f x)) x xs (All-head p (f x) (map f xs) h) (unmapped p f xs (All-tail p (f x) (map f xs) h))

first-vintage : (p : ℕ → Type 0) (a : Anchor) (terms : Terms) (ps : List CorrectedPost) → All (Among p) (segments a terms ps) → p 2
unfolding segments
first-vintage p a terms ps h =
    let purchase = opening_vintage 2 sort.Purchase a.opened terms.purchase in
    let cash = opening_vintage 3 sort.Cash a.opened terms.cash in
    let transfer = opening_vintage 4 sort.Transfer a.opened terms.transfer in
    All-head (Among p) purchase (cash ∷ transfer ∷ filter_map added ps) h

numbers-there : (acc : Account) (seen : Seen) → AreThere (Contains (numbers_of (all_segments acc seen))) (all_segments acc seen)
numbers-there acc seen =
    let gs = all_segments acc seen in
    let ids : List ℕ = map (λ (g : SegmentTerms). g.id) gs in
    let p : ℕ → Type 0 = Contains (numbers_of gs) in
    let all = All-contains_itself (numbers_of gs) in
    let two = All-tail p 0 (1 ∷ ids) all in
    let each : All (Among p) gs = unmapped p (λ (g : SegmentTerms). g.id) gs (All-tail p 1 ids two) in
    record {
      credit = All-head p 0 (1 ∷ ids) all;
      held = All-head p 1 ids two;
      purchase = first-vintage p acc.anchor acc.terms seen.posts each;
      each = each;
    }

-- ---- the law
there-on : (history : List Kept) (issued : List IssuedRow) (shared : SharedRows) (day later : ℕ) → day ≤ later
    → AreThere (Contains (numbers_of (segments_by history issued shared later))) (segments_by history issued shared day)
there-on history issued shared day later l =
    let acc = account_of history in
    let a = anchor_of history in
    earlier-there (Contains (numbers_of (segments_by history issued shared later))) acc a shared history issued day later l (numbers-there acc (seen_on a shared history issued later))

fold-there : (history : List Kept) (issued : List IssuedRow) (shared : SharedRows) (n later : ℕ) → ((k : ℕ) → k < n → (anchor_of history).opened + k ≤ later)
    → LieOn (segments_by history issued shared later) (book_after issued (account_of history) (seen_on (anchor_of history) shared history issued) n).entries
fold-there history issued shared n later l =
    book-there (Contains (numbers_of (segments_by history issued shared later))) issued (account_of history) (seen_on (anchor_of history) shared history issued) n
    (λ k less. there-on history issued shared ((anchor_of history).opened + k) later (l k less))

days_lie : (history : List Kept) (issued : List IssuedRow) (shared : SharedRows) (day later : ℕ) → day ≤ later → LieOn (segments_by history issued shared later) (book history issued shared day).entries
unfolding book
days_lie history issued shared day later l = fold-there history issued shared (day + 1 - (anchor_of history).opened) later (λ k less. omega arith)

not-there : (segments : List SegmentTerms) (entries : List Entry) (s : ℕ) → LieOn segments entries → 2 ≤ s → All (λ (g : SegmentTerms). eqb g.id s ≡ false) segments → All (λ (e : Entry). eqb e.segment s ≡ false) entries
not-there segments entries s h l other =
    let ids : List ℕ = map (λ (g : SegmentTerms). g.id) segments in
    let IsOther : ℕ → Type 0 = λ n. eqb n s ≡ false in
    let of_these = All-map IsOther (λ (g : SegmentTerms). g.id) segments other in
    let others = All-cons IsOther 0 (1 ∷ ids) (ne_eqb 0 s (λ e. omega arith)) (All-cons IsOther 1 ids (ne_eqb 1 s (λ e. omega arith)) of_these) in
    All-weaker (λ (e : Entry). Contains (numbers_of segments) e.segment) (λ (e : Entry). eqb e.segment s ≡ false) (λ e c. All-contains IsOther (numbers_of segments) e.segment others c) entries h

none-of : (s : ℕ) (es : List Entry) → All (λ (e : Entry). eqb e.segment s ≡ false) es → balance s es ≡ pos 0
none-of s [] h = refl
none-of s (e ∷ es) h =
    let here = All-head (λ (e : Entry). eqb e.segment s ≡ false) e es h in
    let rest = none-of s es (All-tail (λ (e : Entry). eqb e.segment s ≡ false) e es h) in
    rw (here, rest) refl

-- of some segments of a list in which no two have one number
unseen-apart : (all : List SegmentTerms) (sees : SegmentTerms → Bool) (g : SegmentTerms) → sees g ≡ false → ((h : SegmentTerms) → Contains all h → h.id ≡ g.id → h ≡ g) → All (λ (h : SegmentTerms). eqb h.id g.id ≡ false) (filter sees all)
unseen-apart all sees g unseen only k d l =
    let h = get_or (filter sees all) k d in
    let among = All-filter sees (Contains all) all (All-contains_itself all) k d l in
    let passes : sees h ≡ true = filter_passes sees all k d l in
    ne_eqb h.id g.id (λ q. absurd (differ (sees h) (sees g) (ap sees (only h among q)) passes unseen))
  where
    differ : (t u : Bool) → t ≡ u → t ≡ true → u ≡ false → ⊥
    differ true true a b c = cc
    differ true false a b c = cc
    differ false u a b c = cc

pub entries_have_segments : EntriesHaveSegments
entries_have_segments = record {
  days = days_lie;
  before = λ history issued shared n later l. fold-there history issued shared n later (λ k less. omega arith);
  posts = λ history issued shared n later done l.
      let acc = account_of history in
      let seen = seen_on (anchor_of history) shared history issued ((anchor_of history).opened + n) in
      let b = book_after issued acc (seen_on (anchor_of history) shared history issued) n in
      let p : ℕ → Type 0 = Contains (numbers_of (segments_by history issued shared later)) in
      let there = there-on history issued shared ((anchor_of history).opened + n) later l in
      posts-there p (row_for (present_cycle b) issued) acc seen done _ there
      (due-there p (row_for (present_cycle b) issued) acc seen b (last_cycle b.cycles) there (fold-there history issued shared n later (λ k less. omega arith)));
  without = not-there;
  unseen = λ all sees g entries h l unseen only. not-there (filter sees all) entries g.id h l (unseen-apart all sees g unseen only);
  none = λ entries s h. none-of s entries h;
}
