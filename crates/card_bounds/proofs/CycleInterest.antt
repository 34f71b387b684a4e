-- A closed cycle's interest is the sum of the interest entries of its closing.
use Rattle.std.proofs.Common.{◌≡◌, ℕ, zero, suc, ◌+◌, ◌-◌, ◌≤◌, ◌<◌, Bool, true, false, cond, List, [], ◌∷◌, ◌++◌, refl, sym, ap, ◌∙◌, subst, arith, Option, Some, None, eqb, leb}
use Rattle.std.specs.List.{All, filter, cons_option}
use Rattle.std.proofs.lemmas.Bool.{eqb-true, ne_eqb, eq-eqb}
use Rattle.std.proofs.lemmas.List.Sums.{sum_by-append, sum_by-cons}
use Rattle.std.proofs.lemmas.List.Elements.{All-nil, All-cons, All-head, All-tail, All-push, All-weaker, filter-append}
use Rattle.std.specs.Prelude.{min}
use Rattle.card_bounds.specs.Bounds.{CyclesHaveTheirInterest, interest_on}
use Rattle.card_events.specs.Civil.{day_of_month}
use Rattle.card_events.specs.declared.anchor.Anchor.{Anchor}
use Rattle.card_events.specs.History.{anchor_of, corrected, folded, is_folded}
use Rattle.card_events.specs.SharedRows.{SharedRows}
use Rattle.card_events.specs.declared.kept.Kept.{Kept}
use Rattle.card_model.specs.Books.{Account, Book, account_of, all_segments, present_cycle}
use Rattle.card_model.specs.Caps.{row_for}
use Rattle.card_model.specs.Closing.{Posting, by_segment, close, closed_cycle, closing_interest, first_day_of, interest_note, post_interest, post_one, posted_for, purchase_case_in}
use Rattle.card_model.specs.Cycles.{Cycle, IssuedRow, Seen, amount_at, amounts_sum, last_cycle, posts_on, seen_on}
use Rattle.card_model.specs.Deadlines.{has}
use Rattle.card_model.specs.Entries.{credit_balance, debit, is_kind, posted, raises}
use Rattle.card_model.specs.Folds.{book, book_after, day_after}
use Rattle.card_model.specs.Interest.{cycle_interest, deferred_interest}
use Rattle.card_model.specs.Laws.{size_of, total}
use Rattle.card_model.specs.Segments.{SegmentTerms}
use Rattle.card_model.specs.declared.entry.Entry.{Entry}
use Rattle.card_model.specs.declared.entry.EntryKind.TheVariants as kind
use Rattle.card_model.proofs.Caps.{posts-cycles, due-cycles}
use Rattle.card_model.proofs.PartsSum.{Rises, SegmentsAscend, rises-filter, slots-rise, segments-ascend}
use Rattle.card_bounds.proofs.Dated.{Added, IsPlain, IsInterest, posted_on, posted-added, close-added, book-dates}

-- ---- the interest of entries
total-append : (xs ys : List Entry) → total kind.Interest (xs ++ ys) ≡ total kind.Interest xs + total kind.Interest ys
unfolding total
total-append xs ys = sum_by-append _ xs ys

on-append : (d : ℕ) (xs ys : List Entry) → interest_on d (xs ++ ys) ≡ interest_on d xs + interest_on d ys
on-append d xs ys = ap (total kind.Interest) (filter-append (λ (e : Entry). eqb e.day d) xs ys) ∙ total-append (filter (λ e. eqb e.day d) xs) (filter (λ e. eqb e.day d) ys)

-- entries of other days, or of other kinds
abbrev IsNone : ℕ → Entry → Type 0
IsNone d e = e.day ≡ d → is_kind kind.Interest e.kind ≡ false

none-on : (d : ℕ) (xs : List Entry) → All (IsNone d) xs → interest_on d xs ≡ 0
unfolding total
none-on d [] h = refl
none-on d (e ∷ xs) h = by (eqb e.day d) refl (All-head (IsNone d) e xs h) (none-on d xs (All-tail (IsNone d) e xs h))
  where
    by : (t : Bool) → eqb e.day d ≡ t → IsNone d e → interest_on d xs ≡ 0 → total kind.Interest (cond t (e ∷ filter (λ e. eqb e.day d) xs) (filter (λ e. eqb e.day d) xs)) ≡ 0
    by true q o i =
        let kind_is = o (eqb-true e.day d q) in
        sum_by-cons (size_of kind.Interest) e (filter (λ e. eqb e.day d) xs) ∙ rw (kind_is, i) refl
    by false q o i = i

one-on : (d s n : ℕ) → interest_on d (raises (record { day = d; kind = kind.Interest; post = 0 }) s n) ≡ n
unfolding total
one-on d s zero = refl
one-on d s (suc n) = rw (eq-eqb d d refl) (omega arith)

debit-on : (d s x credit : ℕ) → interest_on d (debit (record { day = d; kind = kind.Interest; post = 0 }) s x credit) ≡ x
unfolding debit
debit-on d s x credit =
    let first = one-on d 0 (min x credit) in
    let second = one-on d s (x - credit) in
    on-append d (raises (record { day = d; kind = kind.Interest; post = 0 }) 0 (min x credit)) (raises (record { day = d; kind = kind.Interest; post = 0 }) s (x - credit)) ∙ (rw (first, second) (omega arith))

-- ---- what a closing posts
pub sum-push : (s x : ℕ) (xs : List (ℕ × ℕ)) → amounts_sum (xs ++ (s, x) ∷ []) ≡ amounts_sum xs + x
sum-push s x xs = sum_by-append _ xs ((s, x) ∷ []) ∙ omega arith

posted-on : (issued : Option IssuedRow) (seen : Seen) (amount : Book → SegmentTerms → ℕ) (gs : List SegmentTerms) (p : Posting)
    → interest_on seen.day (post_interest issued seen amount gs p).book.entries + amounts_sum p.amounts ≡ interest_on seen.day p.book.entries + amounts_sum (post_interest issued seen amount gs p).amounts
unfolding post_interest
posted-on issued seen amount [] p = refl
posted-on issued seen amount (g ∷ gs) p =
    let x = posted_for issued amount g p in
    let next = post_one seen g x p in
    let rest = posted-on issued seen amount gs next in
    let entries = on-append seen.day p.book.entries (debit (interest_note seen) g.id x (credit_balance p.book.entries)) in
    let one = debit-on seen.day g.id x (credit_balance p.book.entries) in
    sums _ (interest_on seen.day next.book.entries) (interest_on seen.day p.book.entries) (amounts_sum p.amounts) (amounts_sum next.amounts) _ x rest (entries ∙ ap (λ n. interest_on seen.day p.book.entries + n) one) (sum-push g.id x p.amounts)
  where
    sums : (a b c m n k x : ℕ) → a + n ≡ b + k → b ≡ c + x → n ≡ m + x → a + m ≡ c + k
    sums a b c m n k x e f g = omega arith

-- ---- amounts by segment
abbrev seg_sum : (SegmentTerms → ℕ) → List SegmentTerms → ℕ
seg_sum f [] = 0
seg_sum f (g ∷ gs) = f g + seg_sum f gs

by_segment-sum : (f : SegmentTerms → ℕ) (gs : List SegmentTerms) → amounts_sum (by_segment f gs) ≡ seg_sum f gs
by_segment-sum f [] = refl
by_segment-sum f (g ∷ gs) = by (eqb (f g) 0) refl (by_segment-sum f gs)
  where
    by : (t : Bool) → eqb (f g) 0 ≡ t → amounts_sum (by_segment f gs) ≡ seg_sum f gs → amounts_sum (cons_option (cond t None (Some (g.id, f g))) (by_segment f gs)) ≡ f g + seg_sum f gs
    by true q i = let none = eqb-true (f g) 0 q in i ∙ omega arith
    by false q i = sum_by-cons (λ (x : ℕ × ℕ). x.1) (g.id, f g) (by_segment f gs) ∙ ap (λ n. f g + n) i

seg-none : (f : SegmentTerms → ℕ) (gs : List SegmentTerms) → All (λ (g : SegmentTerms). f g ≡ 0) gs → seg_sum f gs ≡ 0
seg-none f [] h = refl
seg-none f (g ∷ gs) h = let a = All-head (λ (g : SegmentTerms). f g ≡ 0) g gs h in let b = seg-none f gs (All-tail (λ (g : SegmentTerms). f g ≡ 0) g gs h) in omega arith

seg-add : (f h : SegmentTerms → ℕ) (gs : List SegmentTerms) → seg_sum (λ g. f g + h g) gs ≡ seg_sum f gs + seg_sum h gs
seg-add f h [] = omega arith
seg-add f h (g ∷ gs) = let r = seg-add f h gs in omega arith

-- a number that just one of the segments has
abbrev Covers : List SegmentTerms → ℕ → Type 0
Covers gs k = (x : ℕ) → seg_sum (λ g. cond (eqb k g.id) x 0) gs ≡ x

ids-above : (low : ℕ) (gs : List SegmentTerms) → SegmentsAscend low gs → All (λ (g : SegmentTerms). low ≤ g.id) gs
ids-above low [] h = All-nil (λ (g : SegmentTerms). low ≤ g.id)
ids-above low (g ∷ gs) h = All-cons (λ (g : SegmentTerms). low ≤ g.id) g gs h.0 (All-weaker (λ (t : SegmentTerms). g.id + 1 ≤ t.id) (λ (t : SegmentTerms). low ≤ t.id) (λ t l. let m = h.0 in omega arith) gs (ids-above (g.id + 1) gs h.1))

all-cover : (low : ℕ) (gs : List SegmentTerms) → SegmentsAscend low gs → All (λ (g : SegmentTerms). Covers gs g.id) gs
all-cover low [] h = All-nil (λ (g : SegmentTerms). Covers [] g.id)
all-cover low (g ∷ gs) h =
    let above = ids-above (g.id + 1) gs h.1 in
    let rest = all-cover (g.id + 1) gs h.1 in
    All-cons (λ (t : SegmentTerms). Covers (g ∷ gs) t.id) g gs
    (λ x. let none = seg-none (λ t. cond (eqb g.id t.id) x 0) gs (All-weaker (λ (t : SegmentTerms). g.id + 1 ≤ t.id) (λ (t : SegmentTerms). cond (eqb g.id t.id) x 0 ≡ 0) (λ t l. apart g.id t.id x l) gs above) in rw (eq-eqb g.id g.id refl, none) (omega arith))
    (λ k d l x. let a = above k d l in let r = rest k d l x in later _ _ x a r)
  where
    apart : (m n x : ℕ) → m + 1 ≤ n → cond (eqb m n) x 0 ≡ 0
    apart m n x l = let e : eqb m n ≡ false = ne_eqb m n (λ q. omega arith) in rw e refl

    later : (n : ℕ) (s : ℕ) (x : ℕ) → g.id + 1 ≤ n → s ≡ x → cond (eqb n g.id) x 0 + s ≡ x
    later n s x l e = let q : eqb n g.id ≡ false = ne_eqb n g.id (λ r. omega arith) in rw q (omega arith)

amounts-sum : (gs : List SegmentTerms) (xs : List (ℕ × ℕ)) → All (λ (x : ℕ × ℕ). Covers gs x.0) xs → seg_sum (λ g. amount_at g.id xs) gs ≡ amounts_sum xs
amounts-sum gs [] h = zeros gs
  where
    zeros : (gs : List SegmentTerms) → seg_sum (λ g. 0) gs ≡ 0
    zeros [] = refl
    zeros (g ∷ gs) = let r = zeros gs in omega arith
amounts-sum gs (x ∷ xs) h =
    same gs ∙ (seg-add (λ g. cond (eqb x.0 g.id) x.1 0) (λ g. amount_at g.id xs) gs
    ∙ (rw (All-head (λ (x : ℕ × ℕ). Covers gs x.0) x xs h x.1, amounts-sum gs xs (All-tail (λ (x : ℕ × ℕ). Covers gs x.0) x xs h)) (sym (sum_by-cons (λ (x : ℕ × ℕ). x.1) x xs))))
  where
    same : (ts : List SegmentTerms) → seg_sum (λ g. amount_at g.id (x ∷ xs)) ts ≡ seg_sum (λ g. cond (eqb x.0 g.id) x.1 0 + amount_at g.id xs) ts
    same [] = refl
    same (t ∷ ts) = let a = sum_by-cons (λ (p : ℕ × ℕ). cond (eqb p.0 t.id) p.1 0) x xs in let r = same ts in omega arith

posted-covered : (all : List SegmentTerms) (issued : Option IssuedRow) (seen : Seen) (amount : Book → SegmentTerms → ℕ) (gs : List SegmentTerms) (p : Posting) → All (λ (g : SegmentTerms). Covers all g.id) gs → All (λ (x : ℕ × ℕ). Covers all x.0) p.amounts
    → All (λ (x : ℕ × ℕ). Covers all x.0) (post_interest issued seen amount gs p).amounts
unfolding post_interest
posted-covered all issued seen amount [] p h g = g
posted-covered all issued seen amount (t ∷ ts) p h g =
    posted-covered all issued seen amount ts _ (All-tail (λ (g : SegmentTerms). Covers all g.id) t ts h) (All-push (λ (x : ℕ × ℕ). Covers all x.0) p.amounts (t.id, posted_for issued amount t p) g (All-head (λ (g : SegmentTerms). Covers all g.id) t ts h))

-- the amounts of the closing's cycle are together what was posted
pub listed-interest : (issued : Option IssuedRow) (a : Account) (seen : Seen) (b : Book) → Rises 5 seen.posts
    → amounts_sum (closed_cycle issued a seen b (closing_interest issued a seen b)).interest ≡ amounts_sum (closing_interest issued a seen b).amounts
unfolding closing_interest
listed-interest issued a seen b r =
    let all = all_segments a seen in
    let start : Posting = record { amounts = []; book = b } in
    let amount = cycle_interest a seen (purchase_case_in seen b) (first_day_of a b) in
    let once = post_interest issued seen amount all start in
    let cover = all-cover 2 all (segments-ascend a seen r) in
    let covered = posted-covered all issued seen (deferred_interest seen) all once cover (posted-covered all issued seen amount all start cover (All-nil (λ (x : ℕ × ℕ). Covers all x.0))) in
    let twice = post_interest issued seen (deferred_interest seen) all once in
    by_segment-sum (λ g. amount_at g.id twice.amounts) all ∙ amounts-sum all twice.amounts covered

-- the closing's cycle has what was posted
closed-interest : (issued : Option IssuedRow) (a : Account) (seen : Seen) (b : Book) → Rises 5 seen.posts → interest_on seen.day b.entries ≡ 0
    → amounts_sum (closed_cycle issued a seen b (closing_interest issued a seen b)).interest ≡ interest_on seen.day (close issued a seen b).entries
unfolding close closing_interest
closed-interest issued a seen b r none =
    let all = all_segments a seen in
    let start : Posting = record { amounts = []; book = b } in
    let amount = cycle_interest a seen (purchase_case_in seen b) (first_day_of a b) in
    let once = post_interest issued seen amount all start in
    let cover = all-cover 2 all (segments-ascend a seen r) in
    let covered = posted-covered all issued seen (deferred_interest seen) all once cover (posted-covered all issued seen amount all start cover (All-nil (λ (x : ℕ × ℕ). Covers all x.0))) in
    let twice = post_interest issued seen (deferred_interest seen) all once in
    let listed = by_segment-sum (λ g. amount_at g.id twice.amounts) all ∙ amounts-sum all twice.amounts covered in
    listed ∙ sums _ _ _ _ _ (posted-on issued seen amount all start) (posted-on issued seen (deferred_interest seen) all once) none
  where
    sums : (e0 e1 e2 a1 a2 : ℕ) → e1 + 0 ≡ e0 + a1 → e2 + a1 ≡ e1 + a2 → e0 ≡ 0 → a2 ≡ e2
    sums e0 e1 e2 a1 a2 f g h = omega arith

-- ---- days
abbrev HasInterest : List Entry → Cycle → Type 0
HasInterest es c = amounts_sum c.interest ≡ interest_on c.closing es

pub record Interested (d : ℕ) (b : Book) : Type 0 where
  pub has : All (λ (c : Cycle). amounts_sum c.interest ≡ interest_on c.closing b.entries) b.cycles
  pub before : All (λ (c : Cycle). c.closing < d) b.cycles

-- entries of a later day
kept-interest : (d : ℕ) (cs : List Cycle) (es new : List Entry) → Added (λ e. e.day ≡ d) es new → All (λ (c : Cycle). c.closing < d) cs → All (HasInterest es) cs → All (HasInterest new) cs
kept-interest d [] es new a l h = All-nil (HasInterest new)
kept-interest d (c ∷ cs) es new a l h =
    let early = All-head (λ (c : Cycle). c.closing < d) c cs l in
    let none = none-on c.closing a.rest (All-weaker (λ (e : Entry). e.day ≡ d) (IsNone c.closing) (λ e q s. absurd (omega arith)) a.rest a.all) in
    let same = ap (interest_on c.closing) a.is ∙ (on-append c.closing es a.rest ∙ omega arith) in
    All-cons (HasInterest new) c cs (All-head (HasInterest es) c cs h ∙ sym same) (kept-interest d cs es new a (All-tail (λ (c : Cycle). c.closing < d) c cs l) (All-tail (HasInterest es) c cs h))

-- none of today's interest stands before the closing
none-before : (issued : Option IssuedRow) (a : Account) (seen : Seen) (b : Book) → All (λ (e : Entry). e.day < seen.day) b.entries → interest_on seen.day (posted_on issued a seen b).entries ≡ 0
none-before issued a seen b early =
    let added = posted-added issued a seen b in
    let first = none-on seen.day b.entries (All-weaker (λ (e : Entry). e.day < seen.day) (IsNone seen.day) (λ e l s. absurd (omega arith)) b.entries early) in
    let second = none-on seen.day added.rest (All-weaker (IsPlain seen.day) (IsNone seen.day) (λ e q s. q.1) added.rest added.all) in
    ap (interest_on seen.day) added.is ∙ (on-append seen.day b.entries added.rest ∙ omega arith)

pub close-last : (issued : Option IssuedRow) (a : Account) (seen : Seen) (b : Book) → (close issued a seen b).cycles ≡ b.cycles ++ closed_cycle issued a seen b (closing_interest issued a seen b) ∷ []
unfolding close
close-last issued a seen b = refl

-- an added list of one day's entries
of-day : (p : Entry → Type 0) (d : ℕ) (es new : List Entry) → ((e : Entry) → p e → e.day ≡ d) → Added p es new → Added (λ e. e.day ≡ d) es new
of-day p d es new h a = record { rest = a.rest; is = a.is; all = All-weaker p (λ (e : Entry). e.day ≡ d) h a.rest a.all }

day-interested : (issued : Option IssuedRow) (a : Account) (seen : Seen) (b : Book) (d : ℕ) → seen.day ≡ d → Rises 5 seen.posts → All (λ (e : Entry). e.day < d) b.entries → Interested d b → Interested (suc d) (day_after issued a seen b)
unfolding day_after
day-interested issued a seen b d today r early h =
    let posted = posted_on issued a seen b in
    let cycles : posted.cycles ≡ b.cycles = posts-cycles issued a seen (posts_on seen) _ ∙ due-cycles issued a seen b (last_cycle b.cycles) in
    let added = of-day (IsPlain seen.day) d b.entries posted.entries (λ e q. q.0 ∙ today) (posted-added issued a seen b) in
    let has = kept-interest d b.cycles b.entries posted.entries added h.before h.has in
    let none = none-before issued a seen b (subst (λ n. All (λ (e : Entry). e.day < n) b.entries) (sym today) early) in
    by (eqb (day_of_month seen.day) a.anchor.close_day) posted (subst (λ cs. All (HasInterest posted.entries) cs) (sym cycles) has) (subst (λ cs. All (λ (c : Cycle). c.closing < d) cs) (sym cycles) h.before) none
  where
    later : (cs : List Cycle) → All (λ (c : Cycle). c.closing < d) cs → All (λ (c : Cycle). c.closing < suc d) cs
    later cs l = All-weaker (λ (c : Cycle). c.closing < d) (λ (c : Cycle). c.closing < suc d) (λ c m. omega arith) cs l

    closed : (posted : Book) → All (HasInterest posted.entries) posted.cycles → All (λ (c : Cycle). c.closing < d) posted.cycles → interest_on seen.day posted.entries ≡ 0 → Interested (suc d) (close issued a seen posted)
    closed posted has before none =
        let added = of-day (IsInterest seen.day) d posted.entries (close issued a seen posted).entries (λ e q. q.0 ∙ today) (close-added issued a seen posted) in
        let old = kept-interest d posted.cycles posted.entries (close issued a seen posted).entries added before has in
        let c = closed_cycle issued a seen posted (closing_interest issued a seen posted) in
        let new : HasInterest (close issued a seen posted).entries c = closed-interest issued a seen posted r none in
        let late : seen.day < suc d = omega arith in
        record {
          has = subst (λ cs. All (HasInterest (close issued a seen posted).entries) cs) (sym (close-last issued a seen posted)) (All-push (HasInterest (close issued a seen posted).entries) posted.cycles c old new);
          before = subst (λ cs. All (λ (c : Cycle). c.closing < suc d) cs) (sym (close-last issued a seen posted)) (All-push (λ (c : Cycle). c.closing < suc d) posted.cycles c (later posted.cycles before) late);
        }

    by : (t : Bool) (posted : Book) → All (HasInterest posted.entries) posted.cycles → All (λ (c : Cycle). c.closing < d) posted.cycles → interest_on seen.day posted.entries ≡ 0 → Interested (suc d) (cond t (close issued a seen posted) posted)
    by true posted has before none = closed posted has before none
    by false posted has before none = record { has = has; before = later posted.cycles before }

fold-interested : (rows : List IssuedRow) (acc : Account) (a : Anchor) (shared : SharedRows) (history : List Kept) (issued : List IssuedRow) (n : ℕ) → Interested (acc.anchor.opened + n) (book_after rows acc (seen_on a shared history issued) n)
unfolding book_after
fold-interested rows acc a shared history issued zero = record { has = All-nil (HasInterest []); before = All-nil (λ (c : Cycle). c.closing < acc.anchor.opened + 0) }
fold-interested rows acc a shared history issued (suc n) =
    let b = book_after rows acc (seen_on a shared history issued) n in
    let d = acc.anchor.opened + n in
    let next : suc d ≡ acc.anchor.opened + suc n = omega arith in
    let rises = rises-filter (λ s. leb s.day d) 5 (folded a shared.holidays history) (rises-filter (λ s. is_folded s.post) 5 (corrected a shared.holidays history) (slots-rise a shared.holidays history 1 5 history)) in
    subst (λ m. Interested m (day_after (row_for (present_cycle b) rows) acc (seen_on a shared history issued d) b)) next
    (day-interested (row_for (present_cycle b) rows) acc (seen_on a shared history issued d) b d refl rises (book-dates rows acc (seen_on a shared history issued) n (λ x. refl)) (fold-interested rows acc a shared history issued n))

pub cycles_have_their_interest : CyclesHaveTheirInterest
unfolding book
cycles_have_their_interest history issued shared day = (fold-interested issued (account_of history) (anchor_of history) shared history issued (day + 1 - (anchor_of history).opened)).has
