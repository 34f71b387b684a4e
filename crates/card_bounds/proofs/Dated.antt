-- The row of a day is the balance after its posts, whatever came later.
use Rattle.std.proofs.Common.{◌≡◌, ℕ, zero, suc, ◌+◌, ◌-◌, ◌*◌, ◌<◌, ◌≤◌, Bool, true, false, cond, ◌&&◌, ◌||◌, not, List, [], ◌∷◌, ◌++◌, refl, sym, ap, ◌∙◌, subst, arith, ℤ, pos, negsuc, ◌+ℤ◌, Option, Some, None, eqb, ltb, append_assoc}
use Rattle.std.specs.List.{filter, All}
use Rattle.std.proofs.lemmas.Int.{ints}
use Rattle.std.proofs.lemmas.Bool.{ne_eqb, eq-eqb}
use Rattle.std.proofs.lemmas.Bool.Decides.{nat_tests}
use Rattle.std.proofs.lemmas.List.{append-nil}
use Rattle.std.proofs.lemmas.List.Elements.{All-nil, All-head, All-tail, All-weaker, All-append}
use Rattle.std.specs.Prelude.{◌≤ℤ◌}
use Rattle.std.proofs.lemmas.List.Sums.{sum_by-cons}
use Rattle.std.proofs.Math.Nat.{mul-le-mul_right, mul-le-mul_left, suc-mul}
use Rattle.std.specs.List.{range_with_len}
use Rattle.card_bounds.specs.Bounds.{IsRateSum, RowsOfPastDays, RowsSmall, SumsSmall, most_moved, most_owing, moved, rate_sum}
use Rattle.card_events.specs.Civil.{day_of_month}
use Rattle.card_events.specs.History.{CorrectedPost, anchor_of}
use Rattle.card_events.specs.declared.post.Post.{Post}
use Rattle.card_model.specs.Books.{Account, Book, account_of, all_segments, present_cycle}
use Rattle.card_model.specs.Caps.{row_for}
use Rattle.card_model.specs.Closing.{Posting, close, closing_interest, post_interest, post_one, posted_for}
use Rattle.card_model.specs.Cycles.{Cycle, IssuedRow, Seen, last_cycle, post_at, posts_on, seen_on}
use Rattle.card_model.specs.DueDates.{after_due_date, on_due}
use Rattle.card_model.specs.Effects.{after_posts, credit_parts, disputed_cents, disputed_charge, disputed_segment, effect, is_part_of, meant_for, moved_by, payment_at, payment_parts, put_back, returned, returned_fee, size}
use Rattle.card_model.specs.Entries.{at_least_zero, balance, credit_balance, debit, is_kind, owing, sum_of}
use Rattle.card_model.specs.Fees.{fee_cents, late_fee, with_fee}
use Rattle.card_model.specs.Folds.{book, book_after, day_after}
use Rattle.card_model.specs.Interest.{row}
use Rattle.card_model.specs.Segments.{SegmentTerms, newest, segment_at}
use Rattle.card_model.specs.declared.entry.Entry.{Entry}
use Rattle.card_model.specs.declared.fee.Fee.{Fee}
use Rattle.card_events.specs.Money.{daily, rate_limit}
use Rattle.card_events.specs.declared.post.Post.TheVariants as post
use Rattle.card_model.specs.declared.entry.EntryKind.TheVariants as kind
use Rattle.card_model.specs.declared.segment.Sort.TheVariants as sort
use Rattle.card_bounds.proofs.Bounded.{book-bounded, posts-bounded, due-bounded, moved-append}
use Rattle.card_bounds.proofs.Whole.{moved_of-small}
use Rattle.card_model.proofs.Posted.{sum_of-append}
use Rattle.card_model.proofs.EntryFacts.{Notes, all-debit, all-parts, all-holds, all-releases}

-- entries that were added, each of some kind
pub record Added (p : Entry → Type 0) (es new : List Entry) : Type 0 where
  pub rest : List Entry
  pub is : new ≡ es ++ rest
  pub all : All p rest

pub added-none : (p : Entry → Type 0) (es : List Entry) → Added p es es
added-none p es = record { rest = []; is = sym (append-nil es); all = All-nil p }

pub added-list : (p : Entry → Type 0) (es xs : List Entry) → All p xs → Added p es (es ++ xs)
added-list p es xs h = record { rest = xs; is = refl; all = h }

pub added-then : (p : Entry → Type 0) (xs ys zs : List Entry) → Added p xs ys → Added p ys zs → Added p xs zs
added-then p xs ys zs a b = record { rest = a.rest ++ b.rest; is = b.is ∙ (ap (λ l. l ++ b.rest) a.is ∙ append_assoc xs a.rest b.rest); all = All-append p a.rest b.rest a.all b.all }

put_back-added : (p : Entry → Type 0) (day n newest : ℕ) (ps es : List Entry) → Notes p day kind.Return n → Added p es (put_back (record { day = day; kind = kind.Return; post = n }) newest ps es)
put_back-added p day n newest [] es h = added-none p es
put_back-added p day n newest (x ∷ ps) es h =
    let g = cond (eqb x.segment 0) newest x.segment in
    let xs = debit (record { day = day; kind = kind.Return; post = n }) g (size x.cents) (credit_balance es) in
    added-then p es (es ++ xs) _ (added-list p es xs (all-debit p day n g (size x.cents) (credit_balance es) kind.Return h)) (put_back-added p day n newest ps (es ++ xs) h)

-- dated so, and no interest
abbrev pub IsPlain : ℕ → Entry → Type 0
IsPlain d e = (e.day ≡ d) × (is_kind kind.Interest e.kind ≡ false)

abbrev pub IsInterest : ℕ → Entry → Type 0
IsInterest d e = (e.day ≡ d) × (is_kind kind.Interest e.kind ≡ true)

fee-added : (a : Account) (seen : Seen) (n : ℕ) (o : Option Fee) (b : Book) → Added (IsPlain seen.day) b.entries (with_fee a seen n o b).entries
fee-added a seen n None b = added-none (IsPlain seen.day) b.entries
fee-added a seen n (Some f) b = added-list (IsPlain seen.day) b.entries _ (all-debit (IsPlain seen.day) seen.day n (newest sort.Purchase seen.day (all_segments a seen)) (fee_cents f) (credit_balance b.entries) kind.Fee (λ s z. (refl, refl)))

effect-added : (issued : Option IssuedRow) (a : Account) (seen : Seen) (s : CorrectedPost) (p : Post) (b : Book) → Added (IsPlain seen.day) b.entries (effect issued a seen s p b).entries
unfolding effect
effect-added issued a seen s (post.Charge d p n) b = added-list (IsPlain seen.day) b.entries _ (all-debit (IsPlain seen.day) seen.day s.number (segment_at p seen.day (all_segments a seen)) s.cents (credit_balance b.entries) kind.Charge (λ s z. (refl, refl)))
effect-added issued a seen s (post.Payment d m y n) b = added-list (IsPlain seen.day) b.entries _ (all-parts (IsPlain seen.day) seen.day s.number kind.Payment (payment_parts a seen s b) (λ s z. (refl, refl)))
effect-added issued a seen s (post.Credit d p n) b = added-list (IsPlain seen.day) b.entries _ (all-parts (IsPlain seen.day) seen.day s.number kind.Credit (credit_parts a seen s p b) (λ s z. (refl, refl)))
effect-added issued a seen s (post.Return d target) b =
    added-then (IsPlain seen.day) b.entries (returned a seen s.number target b).entries _
    (put_back-added (IsPlain seen.day) seen.day s.number (newest sort.Purchase seen.day (all_segments a seen)) (filter (is_part_of target) b.entries) b.entries (λ s z. (refl, refl)))
    (fee-added a seen s.number (returned_fee issued seen b (meant_for b.cycles (payment_at target seen.posts))) (returned a seen s.number target b))
effect-added issued a seen s (post.Dispute d target claim) b = added-list (IsPlain seen.day) b.entries _ (all-holds (IsPlain seen.day) seen.day s.number (disputed_segment a seen target) (disputed_cents a seen target claim b) (λ s z. (refl, refl)))
effect-added issued a seen s (post.Resolve d target n) b = added-list (IsPlain seen.day) b.entries _ (all-releases (IsPlain seen.day) seen.day s.number (disputed_segment a seen (disputed_charge (post_at target seen.posts))) (moved_by target b.entries) (credit_balance b.entries) (λ s z. (refl, refl)))
effect-added issued a seen s (post.Refund n) b = added-list (IsPlain seen.day) b.entries _ (all-debit (IsPlain seen.day) seen.day s.number (newest sort.Purchase seen.day (all_segments a seen)) s.cents (credit_balance b.entries) kind.Refund (λ s z. (refl, refl)))
effect-added issued a seen s post.Penalty b = added-none (IsPlain seen.day) b.entries
effect-added issued a seen s (post.Open d t) b = added-none (IsPlain seen.day) b.entries
effect-added issued a seen s (post.OpenVariable d t) b = added-none (IsPlain seen.day) b.entries
effect-added issued a seen s (post.Plan d k r e f) b = added-none (IsPlain seen.day) b.entries
effect-added issued a seen s (post.Notice d y r e) b = added-none (IsPlain seen.day) b.entries
effect-added issued a seen s (post.Lower d y r) b = added-none (IsPlain seen.day) b.entries
effect-added issued a seen s (post.Review d f) b = added-none (IsPlain seen.day) b.entries
effect-added issued a seen s (post.Ack d t) b = added-none (IsPlain seen.day) b.entries
effect-added issued a seen s (post.AskRefund d) b = added-none (IsPlain seen.day) b.entries
effect-added issued a seen s (post.Amend t d n) b = added-none (IsPlain seen.day) b.entries
effect-added issued a seen s (post.Bill n) b = added-none (IsPlain seen.day) b.entries

pub posts-added : (issued : Option IssuedRow) (a : Account) (seen : Seen) (ss : List CorrectedPost) (b : Book) → Added (IsPlain seen.day) b.entries (after_posts issued a seen ss b).entries
unfolding after_posts
posts-added issued a seen [] b = added-none (IsPlain seen.day) b.entries
posts-added issued a seen (s ∷ ss) b = added-then (IsPlain seen.day) b.entries (effect issued a seen s s.post b).entries _ (effect-added issued a seen s s.post b) (posts-added issued a seen ss (effect issued a seen s s.post b))

pub due-added : (issued : Option IssuedRow) (a : Account) (seen : Seen) (b : Book) (c : Option Cycle) → Added (IsPlain seen.day) b.entries (on_due issued a seen b c).entries
unfolding on_due
due-added issued a seen b None = added-none (IsPlain seen.day) b.entries
due-added issued a seen b (Some c) = by (eqb seen.day (c.due + 1)) (fee-added a seen 0 (late_fee issued seen b c) b)
  where
    by : (t : Bool) → Added (IsPlain seen.day) b.entries (after_due_date issued a seen b c).entries → Added (IsPlain seen.day) b.entries (cond t (after_due_date issued a seen b c) b).entries
    by true h = h
    by false h = added-none (IsPlain seen.day) b.entries

-- the book after the posts of a day
abbrev pub posted_on : Option IssuedRow → Account → Seen → Book → Book
posted_on issued a seen b = after_posts issued a seen (posts_on seen) (on_due issued a seen b (last_cycle b.cycles))

pub posted-added : (issued : Option IssuedRow) (a : Account) (seen : Seen) (b : Book) → Added (IsPlain seen.day) b.entries (posted_on issued a seen b).entries
posted-added issued a seen b =
    let due = on_due issued a seen b (last_cycle b.cycles) in
    added-then (IsPlain seen.day) b.entries due.entries _ (due-added issued a seen b (last_cycle b.cycles)) (posts-added issued a seen (posts_on seen) due)

pub interest-added : (issued : Option IssuedRow) (seen : Seen) (amount : Book → SegmentTerms → ℕ) (gs : List SegmentTerms) (p : Posting) → Added (IsInterest seen.day) p.book.entries (post_interest issued seen amount gs p).book.entries
unfolding post_interest
interest-added issued seen amount [] p = added-none (IsInterest seen.day) p.book.entries
interest-added issued seen amount (g ∷ gs) p =
    let x = posted_for issued amount g p in
    let next = post_one seen g x p in
    added-then (IsInterest seen.day) p.book.entries next.book.entries _ (added-list (IsInterest seen.day) p.book.entries _ (all-debit (IsInterest seen.day) seen.day 0 g.id x (credit_balance p.book.entries) kind.Interest (λ s z. (refl, refl)))) (interest-added issued seen amount gs next)

pub close-added : (issued : Option IssuedRow) (a : Account) (seen : Seen) (b : Book) → Added (IsInterest seen.day) b.entries (close issued a seen b).entries
unfolding close closing_interest
close-added issued a seen b =
    added-then (IsInterest seen.day) b.entries _ _ (interest-added issued seen _ _ (record { amounts = []; book = b })) (interest-added issued seen _ _ _)

-- what a day adds after its posts
pub day-added : (issued : Option IssuedRow) (a : Account) (seen : Seen) (b : Book) → Added (IsInterest seen.day) (posted_on issued a seen b).entries (day_after issued a seen b).entries
unfolding day_after
day-added issued a seen b = by (eqb (day_of_month seen.day) a.anchor.close_day) (close-added issued a seen (posted_on issued a seen b))
  where
    by : (t : Bool) → Added (IsInterest seen.day) (posted_on issued a seen b).entries (close issued a seen (posted_on issued a seen b)).entries
        → Added (IsInterest seen.day) (posted_on issued a seen b).entries (cond t (close issued a seen (posted_on issued a seen b)) (posted_on issued a seen b)).entries
    by true h = h
    by false h = added-none (IsInterest seen.day) (posted_on issued a seen b).entries

-- ---- rows
abbrev in_row : ℕ → ℕ → Entry → Bool
in_row s x e = (eqb e.segment s) && (ltb e.day x || (eqb e.day x && not (is_kind kind.Interest e.kind)))

-- an entry counts in the row of a day, or comes too late for it
abbrev pub Counts : ℕ → Entry → Type 0
Counts x e = (ltb e.day x || (eqb e.day x && not (is_kind kind.Interest e.kind))) ≡ true

abbrev pub TooLate : ℕ → Entry → Type 0
TooLate x e = (ltb e.day x || (eqb e.day x && not (is_kind kind.Interest e.kind))) ≡ false

and-true : (t : Bool) → (t && true) ≡ t
and-true true = refl
and-true false = refl

pub and-false : (t : Bool) → (t && false) ≡ false
and-false true = refl
and-false false = refl

sum-counts : (s x : ℕ) (es : List Entry) → All (Counts x) es → sum_of (in_row s x) es ≡ balance s es
sum-counts s x [] h = refl
sum-counts s x (e ∷ es) h =
    let here = All-head (Counts x) e es h in
    let rest = sum-counts s x es (All-tail (Counts x) e es h) in
    rw (here, and-true (eqb e.segment s), rest) refl

sum-late : (s x : ℕ) (es : List Entry) → All (TooLate x) es → sum_of (in_row s x) es ≡ pos 0
sum-late s x [] h = refl
sum-late s x (e ∷ es) h =
    let here = All-head (TooLate x) e es h in
    let rest = sum-late s x es (All-tail (TooLate x) e es h) in
    rw (here, and-false (eqb e.segment s), rest) refl

-- the row of a day is the balance of what stood after its posts
pub row-front : (s x : ℕ) (es new : List Entry) → All (Counts x) es → Added (TooLate x) es new → row new s x ≡ owing s es
unfolding row
row-front s x es new h a =
    let split = sum_of-append (in_row s x) es a.rest in
    let first = sum-counts s x es h in
    let second = sum-late s x a.rest a.all in
    let whole : sum_of (in_row s x) (es ++ a.rest) ≡ balance s es = split ∙ rw (first, second) (plus (balance s es)) in
    ap (λ l. at_least_zero (sum_of (in_row s x) l)) a.is ∙ ap at_least_zero whole
  where
    plus : (z : ℤ) → z +ℤ pos 0 ≡ z
    plus z = omega (arith, ints)

-- ---- days in the fold
pub added-weaker : (p q : Entry → Type 0) (es new : List Entry) → ((e : Entry) → p e → q e) → Added p es new → Added q es new
added-weaker p q es new h a = record { rest = a.rest; is = a.is; all = All-weaker p q h a.rest a.all }

pub front-all : (p : Entry → Type 0) (es new : List Entry) → All p es → Added p es new → All p new
front-all p es new h a = subst (All p) (sym a.is) (All-append p es a.rest h a.all)

abbrev pub Before : ℕ → Entry → Type 0
Before d e = e.day < d

day-dates : (issued : Option IssuedRow) (a : Account) (seen : Seen) (b : Book) (d : ℕ) → seen.day ≡ d → All (Before d) b.entries → All (Before (suc d)) (day_after issued a seen b).entries
day-dates issued a seen b d day h =
    let posted = front-all (Before (suc d)) b.entries (posted_on issued a seen b).entries (All-weaker (Before d) (Before (suc d)) (λ e l. omega arith) b.entries h)
    (added-weaker (IsPlain seen.day) (Before (suc d)) b.entries (posted_on issued a seen b).entries (λ e q. let w = q.0 in omega arith) (posted-added issued a seen b)) in
    front-all (Before (suc d)) (posted_on issued a seen b).entries (day_after issued a seen b).entries posted
    (added-weaker (IsInterest seen.day) (Before (suc d)) (posted_on issued a seen b).entries (day_after issued a seen b).entries (λ e q. let w = q.0 in omega arith) (day-added issued a seen b))

pub book-dates : (rows : List IssuedRow) (a : Account) (s : ℕ → Seen) (n : ℕ) → ((d : ℕ) → (s d).day ≡ d) → All (Before (a.anchor.opened + n)) (book_after rows a s n).entries
unfolding book_after
book-dates rows a s zero day = All-nil (Before (a.anchor.opened + 0))
book-dates rows a s (suc n) day =
    let shift : a.anchor.opened + suc n ≡ suc (a.anchor.opened + n) = omega arith in
    rw shift (day-dates (row_for (present_cycle (book_after rows a s n)) rows) a (s (a.anchor.opened + n)) (book_after rows a s n) (a.anchor.opened + n) (day (a.anchor.opened + n)) (book-dates rows a s n day))

before-counts : (d : ℕ) (e : Entry) → e.day < d → Counts d e
before-counts d e l = let t : ltb e.day d ≡ true = grind (arith, nat_tests) in rw t refl

plain-counts : (d : ℕ) (e : Entry) → IsPlain d e → Counts d e
plain-counts d e q =
    let t : ltb e.day d ≡ false = let w = q.0 in grind (arith, nat_tests) in
    let u : eqb e.day d ≡ true = eq-eqb e.day d q.0 in
    let i = q.1 in
    rw (t, u, i) refl

interest-late : (d : ℕ) (e : Entry) → IsInterest d e → TooLate d e
interest-late d e q =
    let t : ltb e.day d ≡ false = let w = q.0 in grind (arith, nat_tests) in
    let u : eqb e.day d ≡ true = eq-eqb e.day d q.0 in
    let i = q.1 in
    rw (t, u, i) refl

later-late : (d : ℕ) (e : Entry) → d < e.day → TooLate d e
later-late d e l =
    let t : ltb e.day d ≡ false = grind (arith, nat_tests) in
    let u : eqb e.day d ≡ false = ne_eqb e.day d (λ q. omega arith) in
    rw (t, u) refl

pub posted-counts : (issued : Option IssuedRow) (a : Account) (seen : Seen) (b : Book) (d : ℕ) → seen.day ≡ d → All (Before d) b.entries → All (Counts d) (posted_on issued a seen b).entries
posted-counts issued a seen b d day h =
    front-all (Counts d) b.entries (posted_on issued a seen b).entries (All-weaker (Before d) (Counts d) (before-counts d) b.entries h)
    (added-weaker (IsPlain seen.day) (Counts d) b.entries (posted_on issued a seen b).entries (λ e q. plain-counts d e (q.0 ∙ day, q.1)) (posted-added issued a seen b))

-- the book after the posts of the n-th day
abbrev pub posted_after : List IssuedRow → Account → (ℕ → Seen) → ℕ → Book
posted_after rows a s n = posted_on (row_for (present_cycle (book_after rows a s n)) rows) a (s (a.anchor.opened + n)) (book_after rows a s n)

days-late : (rows : List IssuedRow) (a : Account) (s : ℕ → Seen) (n j : ℕ) → ((d : ℕ) → (s d).day ≡ d) → Added (TooLate (a.anchor.opened + n)) (posted_after rows a s n).entries (book_after rows a s (j + suc n)).entries
unfolding book_after
days-late rows a s n zero day =
    let e : 0 + suc n ≡ suc n = omega arith in
    let b = book_after rows a s n in
    let seen = s (a.anchor.opened + n) in
    let issued = row_for (present_cycle b) rows in
    rw e (added-weaker (IsInterest seen.day) (TooLate (a.anchor.opened + n)) (posted_on issued a seen b).entries (day_after issued a seen b).entries (λ e q. interest-late (a.anchor.opened + n) e (q.0 ∙ day (a.anchor.opened + n), q.1)) (day-added issued a seen b))
days-late rows a s n (suc j) day =
    let e : suc j + suc n ≡ suc (j + suc n) = omega arith in
    let x = a.anchor.opened + n in
    let b = book_after rows a s (j + suc n) in
    let seen = s (a.anchor.opened + (j + suc n)) in
    let issued = row_for (present_cycle b) rows in
    let now = day (a.anchor.opened + (j + suc n)) in
    let posted = added-weaker (IsPlain seen.day) (TooLate x) b.entries (posted_on issued a seen b).entries (λ e q. later-late x e (let w = q.0 in omega arith)) (posted-added issued a seen b) in
    let closed = added-weaker (IsInterest seen.day) (TooLate x) (posted_on issued a seen b).entries (day_after issued a seen b).entries (λ e q. later-late x e (let w = q.0 in omega arith)) (day-added issued a seen b) in
    rw e (added-then (TooLate x) (posted_after rows a s n).entries b.entries (day_after issued a seen b).entries (days-late rows a s n j day) (added-then (TooLate x) b.entries (posted_on issued a seen b).entries (day_after issued a seen b).entries posted closed))

-- the row of a day, in the book of that day or any later one
pub row-is : (rows : List IssuedRow) (a : Account) (s : ℕ → Seen) (n j g : ℕ) → ((d : ℕ) → (s d).day ≡ d) → row (book_after rows a s (j + suc n)).entries g (a.anchor.opened + n) ≡ owing g (posted_after rows a s n).entries
row-is rows a s n j g day =
    row-front g (a.anchor.opened + n) (posted_after rows a s n).entries (book_after rows a s (j + suc n)).entries
    (posted-counts (row_for (present_cycle (book_after rows a s n)) rows) a (s (a.anchor.opened + n)) (book_after rows a s n) (a.anchor.opened + n) (day (a.anchor.opened + n)) (book-dates rows a s n day))
    (days-late rows a s n j day)

-- ---- sizes
high-held : (z : ℤ) (m posts : ℕ) → z ≤ℤ pos (10000000000000 + m) → m ≤ most_moved posts → at_least_zero z ≤ most_owing posts
high-held (pos n) m posts h l = omega (arith, ints)
high-held (negsuc n) m posts h l = omega arith

pub posted-moved : (issued : Option IssuedRow) (a : Account) (seen : Seen) (b : Book) → moved (posted_on issued a seen b).entries ≤ moved (day_after issued a seen b).entries
posted-moved issued a seen b =
    let d = day-added issued a seen b in
    let e = ap moved d.is ∙ moved-append (posted_on issued a seen b).entries d.rest in
    omega arith

pub next : (rows : List IssuedRow) (a : Account) (s : ℕ → Seen) (n m : ℕ) → moved (book_after rows a s (suc n)).entries ≤ m → moved (day_after (row_for (present_cycle (book_after rows a s n)) rows) a (s (a.anchor.opened + n)) (book_after rows a s n)).entries ≤ m
unfolding book_after
next rows a s n m h = h

pub rows_of_past_days : RowsOfPastDays
unfolding book
rows_of_past_days history issued shared day n j s e =
    let total : day + 1 - (anchor_of history).opened ≡ j + suc n = omega arith in
    rw total (row-is issued (account_of history) (seen_on (anchor_of history) shared history issued) n j s (λ d. refl))

pub rows_small : RowsSmall
unfolding book
rows_small posts history issued shared day n j l e s =
    let a = account_of history in
    let seen = seen_on (anchor_of history) shared history issued in
    let b = book_after issued a seen n in
    let now = row_for (present_cycle b) issued in
    let today = seen (a.anchor.opened + n) in
    let total : day + 1 - (anchor_of history).opened ≡ j + suc n = omega arith in
    let same = row-is issued a seen n j s (λ d. refl) in
    let bounds = posts-bounded now a today (posts_on today) (on_due now a today b (last_cycle b.cycles)) (due-bounded now a today b (last_cycle b.cycles) (book-bounded issued a seen n)) s in
    let small = moved_of-small posts history issued shared (suc n) day l (omega (arith, l.days)) in
    let less = posted-moved now a today b in
    let few = chain (moved (posted_on now a today b).entries) _ (most_moved posts) less (next issued a seen n (most_moved posts) small) in
    rw (total, same) (high-held (balance s (posted_on now a today b).entries) (moved (posted_on now a today b).entries) posts bounds.high few)
  where
    chain : (x y z : ℕ) → x ≤ y → y ≤ z → x ≤ z
    chain x y z a b = omega arith

-- ---- sums of rows times rates
daily-small : (bp : ℕ) → bp ≤ rate_limit → daily bp ≤ 2739452
unfolding daily
daily-small bp l = omega arith

product-small : (x y m n : ℕ) → x ≤ m → y ≤ n → x * y ≤ m * n
product-small x y m n a b = chain (x * y) (m * y) (m * n) (mul-le-mul_right y a) (mul-le-mul_left m b)
  where
    chain : (x y z : ℕ) → x ≤ y → y ≤ z → x ≤ z
    chain x y z a b = omega arith

-- days of at most c each
sum-small : (f rate : ℕ → ℕ) (m c : ℕ) → m * 2739452 ≡ c → (first n : ℕ) → ((x : ℕ) → first ≤ x → x < first + n → f x ≤ m) → ((x : ℕ) → rate x ≤ rate_limit) → rate_sum f rate first n ≤ n * c
sum-small f rate m c e first zero h r = omega arith
sum-small f rate m c e first (suc n) h r =
    let here = product-small (f first) (daily (rate first)) m 2739452 (h first (omega arith) (omega arith)) (daily-small (rate first) (r first)) in
    let rest = sum-small f rate m c e (first + 1) n (λ x a b. h x (omega arith) (omega arith)) r in
    let split = sum_by-cons (λ x. f x * daily (rate x)) first (range_with_len (first + 1) n) in
    rw split (sums (f first * daily (rate first)) _ n (rw (← e) here) rest)
  where
    more : (n : ℕ) → suc n * c ≡ n * c + c
    more n = suc-mul n c

    sums : (x y n : ℕ) → x ≤ c → y ≤ n * c → x + y ≤ suc n * c
    sums x y n a b = rw (more n) (omega arith)

any-small : (posts : ℕ) (f rate : ℕ → ℕ) (first n : ℕ) → IsRateSum posts f rate first n → rate_sum f rate first n ≤ n * (most_owing posts * 2739452)
any-small posts f rate first n h = sum-small f rate (most_owing posts) (most_owing posts * 2739452) refl first n h.amounts h.rates

-- n days of at most m posts
times : (s n k posts most : ℕ) → s ≤ n * (most_owing posts * 2739452) → n ≤ k → posts ≤ most → s ≤ k * (most_owing most * 2739452)
times s n k posts most h l m =
    let each : most_owing posts * 2739452 ≤ most_owing most * 2739452 = omega arith in
    chain s _ _ h (product-small n (most_owing posts * 2739452) k (most_owing most * 2739452) l each)
  where
    chain : (x y z : ℕ) → x ≤ y → y ≤ z → x ≤ z
    chain x y z a b = omega arith

pub sums_small : SumsSmall
sums_small = record {
  any = any-small;
  cycle = λ posts f rate first n h few days. let s = times _ n 31 posts 200000 (any-small posts f rate first n h) days few in omega arith;
  accrual = λ posts f rate first n h few days. let s = times _ n 40000 posts 200000 (any-small posts f rate first n h) days few in omega arith;
}
