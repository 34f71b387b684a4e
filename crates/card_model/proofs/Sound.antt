-- Credit is never above 0, and no segment but Held below, in every book.
use Rattle.std.proofs.Common.{◌≡◌, ℕ, zero, suc, ◌+◌, ◌-◌, ◌≤◌, Bool, true, false, cond, ◌&&◌, List, [], ◌∷◌, ◌++◌, refl, sym, ap, ◌∙◌, subst, arith, ℤ, pos, negsuc, ◌+ℤ◌, Option, Some, None, eqb, leb}
use Rattle.std.specs.Prelude.{◌≤ℤ◌, neg_ℤ}
use Rattle.std.specs.List.{filter, filter_map, find, All}
use Rattle.std.proofs.lemmas.Int.{ints}
use Rattle.std.proofs.lemmas.Bool.{eqb-true, ne_eqb, eq-eqb}
use Rattle.std.proofs.lemmas.List.Elements.{All-nil, All-cons, All-head, All-tail, All-append, All-filter, filter_passes}
use Rattle.std.specs.List.{cons_option}
use Rattle.std.proofs.lemmas.List.Elements.{All-map}
use Rattle.std.specs.Prelude.{min}
use Rattle.std.specs.Option.{option_or}
use Rattle.card_events.specs.Civil.{day_of_month}
use Rattle.card_events.specs.declared.anchor.Anchor.{Anchor}
use Rattle.card_events.specs.History.{CorrectedPost, anchor_of, corrected, folded, is_folded}
use Rattle.card_events.specs.SharedRows.{SharedRows}
use Rattle.card_events.specs.declared.kept.Kept.{Kept}
use Rattle.card_events.specs.declared.post.Place.{Place}
use Rattle.card_events.specs.declared.post.Post.{Post}
use Rattle.card_model.specs.Allocation.{Ascends, Paying, excess_rule, minimum_rule, part_of, parts, pay, place_rule, untouched}
use Rattle.card_model.specs.Books.{Account, Book, account_of, all_segments, present_cycle}
use Rattle.card_model.specs.Caps.{row_for}
use Rattle.card_model.specs.Closing.{Posting, close, closing_interest, post_interest, post_one, posted_for}
use Rattle.card_model.specs.Cycles.{Cycle, IssuedRow, Seen, last_cycle, post_at, posts_on, seen_on}
use Rattle.card_model.specs.DueDates.{after_due_date, on_due}
use Rattle.card_model.specs.Effects.{after_posts, charge_at, charge_segment, corrected_cents, credit_parts, disputed_cents, disputed_charge, disputed_segment, effect, holding, holdings, is_part_of, meant_for, moved_by, parts_entries, payment_at, payment_parts, place_charged, place_segment, put_back, returned, returned_fee, size}
use Rattle.card_model.specs.Entries.{at_least_zero, balance, credit_balance, debit, entry_of, holds, lowers, negated, owed, owing, raises, releases}
use Rattle.card_model.specs.Fees.{fee_cents, late_fee, with_fee}
use Rattle.card_model.specs.Folds.{book, book_after, day_after}
use Rattle.card_model.specs.Laws.{Signs, SignsHold}
use Rattle.card_model.specs.Payments.{minimum_left}
use Rattle.card_model.specs.Segments.{SegmentTerms, id_of, is_plan, is_sort, last_that, newest, segment_at}
use Rattle.card_model.specs.declared.entry.Entry.{Entry}
use Rattle.card_model.specs.declared.entry.EntryKind.{EntryKind}
use Rattle.card_model.specs.declared.entry.Note.{Note}
use Rattle.card_model.specs.declared.fee.Fee.{Fee}
use Rattle.card_model.specs.declared.holding.Holding.{Holding}
use Rattle.card_events.specs.declared.post.Post.TheVariants as post
use Rattle.card_events.specs.declared.post.Place.TheVariants as place
use Rattle.card_model.specs.declared.entry.EntryKind.TheVariants as kind
use Rattle.card_model.specs.declared.segment.Sort.TheVariants as sort
use Rattle.card_model.proofs.Posted.{balance-entry_of}
use Rattle.card_model.proofs.EntryFacts.{Notes, all-debit, all-holds, all-releases, balance-append, balance-debit}
use Rattle.card_model.proofs.PartsSum.{Rises, rises-filter, slots-rise, SegmentsAscend, segments-ascend, holdings-ascend}
use Rattle.card_model.proofs.Signs.{pay-within, parts_at, parts_at-within, minimum-chooses, excess-chooses, place-chooses}

-- ---- segments that can be debited
ids-high : (low : ℕ) (gs : List SegmentTerms) → 2 ≤ low → SegmentsAscend low gs → All (λ (g : SegmentTerms). 2 ≤ g.id) gs
ids-high low [] l h = All-nil (λ (g : SegmentTerms). 2 ≤ g.id)
ids-high low (g ∷ gs) l h = All-cons (λ (g : SegmentTerms). 2 ≤ g.id) g gs (let m = h.0 in omega arith) (ids-high (g.id + 1) gs (let m = h.0 in omega arith) h.1)

last-high : (p : SegmentTerms → Bool) (gs : List SegmentTerms) → All (λ (g : SegmentTerms). 2 ≤ g.id) gs → 2 ≤ id_of (last_that p gs)
last-high p [] h = omega arith
last-high p (g ∷ gs) h = by (last_that p gs) (p g) (All-head (λ (g : SegmentTerms). 2 ≤ g.id) g gs h) (last-high p gs (All-tail (λ (g : SegmentTerms). 2 ≤ g.id) g gs h))
  where
    by : (o : Option SegmentTerms) (t : Bool) → 2 ≤ g.id → 2 ≤ id_of o → 2 ≤ id_of (option_or o (cond t (Some g) None))
    by (Some x) t l m = m
    by None true l m = l
    by None false l m = omega arith

find-high : (p : SegmentTerms → Bool) (gs : List SegmentTerms) → All (λ (g : SegmentTerms). 2 ≤ g.id) gs → 2 ≤ id_of (find p gs)
find-high p [] h = omega arith
find-high p (g ∷ gs) h = by (p g) (All-head (λ (g : SegmentTerms). 2 ≤ g.id) g gs h) (find-high p gs (All-tail (λ (g : SegmentTerms). 2 ≤ g.id) g gs h))
  where
    by : (t : Bool) → 2 ≤ g.id → 2 ≤ id_of (find p gs) → 2 ≤ id_of (cond t (Some g) (find p gs))
    by true l m = l
    by false l m = m

pub segment_at-high : (p : Place) (day : ℕ) (gs : List SegmentTerms) → All (λ (g : SegmentTerms). 2 ≤ g.id) gs → 2 ≤ segment_at p day gs
segment_at-high place.Purchase day gs h = last-high (λ g. is_sort sort.Purchase g.sort && leb g.begins day) gs h
segment_at-high place.Cash day gs h = last-high (λ g. is_sort sort.Cash g.sort && leb g.begins day) gs h
segment_at-high place.Transfer day gs h = last-high (λ g. is_sort sort.Transfer g.sort && leb g.begins day) gs h
segment_at-high (place.Plan n) day gs h = find-high (λ g. eqb g.post n && is_plan g) gs h

pub charge-high : (gs : List SegmentTerms) (o : Option CorrectedPost) → All (λ (g : SegmentTerms). 2 ≤ g.id) gs → 2 ≤ charge_segment gs o
charge-high gs None h = omega arith
charge-high gs (Some s) h = by (place_charged s.post)
  where
    by : (o : Option Place) → 2 ≤ place_segment s.day gs o
    by None = omega arith
    by (Some p) = segment_at-high p s.day gs h

-- ---- entries
-- no payment reached Held
abbrev OffHeld : Entry → Type 0
OffHeld e = (n : ℕ) → is_part_of n e ≡ true → e.segment ≡ 1 → ⊥

pub record Sound (es : List Entry) : Type 0 where
  pub credit : balance 0 es ≤ℤ pos 0
  pub owing : (s : ℕ) → 2 ≤ s → pos 0 ≤ℤ balance s es
  pub off : All OffHeld es

no-part : (t : Bool) → (t && false) ≡ true → ⊥
no-part true e = cc
no-part false e = cc

-- entries more, of which the sums are known
sound-more : (es xs : List Entry) (c : ℤ) → Sound es → balance 0 xs ≡ c → (balance 0 es +ℤ c) ≤ℤ pos 0 → ((s : ℕ) → 2 ≤ s → pos 0 ≤ℤ (balance s es +ℤ balance s xs)) → All OffHeld xs → Sound (es ++ xs)
sound-more es xs c h e l o a = record {
  credit = rw (balance-append 0 es xs, e) l;
  owing = λ s m. rw (balance-append s es xs) (o s m);
  off = All-append OffHeld es xs h.off a;
}

debit-low : (z : ℤ) (x : ℕ) → z ≤ℤ pos 0 → (z +ℤ pos (min x (at_least_zero (neg_ℤ z)))) ≤ℤ pos 0
debit-low (pos zero) x h = omega (arith, ints)
debit-low (pos (suc a)) x h = omega (arith, ints)
debit-low (negsuc a) x h = omega (arith, ints)

plus-more : (y : ℤ) (a b : ℕ) (t u : Bool) → pos 0 ≤ℤ y → pos 0 ≤ℤ (y +ℤ (cond t (pos a) (pos 0) +ℤ cond u (pos b) (pos 0)))
plus-more y a b true true h = omega (arith, ints)
plus-more y a b true false h = omega (arith, ints)
plus-more y a b false true h = omega (arith, ints)
plus-more y a b false false h = omega (arith, ints)

credit-of-debit : (note : Note) (g x credit : ℕ) → 2 ≤ g → balance 0 (debit note g x credit) ≡ pos (min x credit)
credit-of-debit note g x credit l =
    let other : eqb g 0 ≡ false = ne_eqb g 0 (λ e. omega arith) in
    balance-debit note g x credit 0 ∙ rw other (omega (arith, ints))

pub sound-debit : (day n g x : ℕ) (k : EntryKind) (es : List Entry) → Notes OffHeld day k n → 2 ≤ g → Sound es → Sound (es ++ debit (record { day = day; kind = k; post = n }) g x (credit_balance es))
sound-debit day n g x k es p l h =
    let note : Note = record { day = day; kind = k; post = n } in
    sound-more es (debit note g x (credit_balance es)) (pos (min x (credit_balance es))) h (credit-of-debit note g x (credit_balance es) l) (debit-low (balance 0 es) x h.credit)
    (λ s m. rw (balance-debit note g x (credit_balance es) s) (plus-more (balance s es) (min x (credit_balance es)) (x - credit_balance es) (eqb 0 s) (eqb g s) (h.owing s m)))
    (all-debit OffHeld day n g x (credit_balance es) k p)

balance-lowers : (note : Note) (g x s : ℕ) → balance s (lowers note g x) ≡ cond (eqb g s) (negated x) (pos 0)
balance-lowers note g x s = balance-entry_of note g (negated x) s

sound-holds : (day n g x : ℕ) (es : List Entry) → 2 ≤ g → x ≤ owing g es → Sound es → Sound (es ++ holds (record { day = day; kind = kind.Hold; post = n }) g x)
sound-holds day n g x es l m h =
    let note : Note = record { day = day; kind = kind.Hold; post = n } in
    let other : eqb g 0 ≡ false = ne_eqb g 0 (λ e. omega arith) in
    let sum = λ (s : ℕ). balance-append s (lowers note g x) (raises note 1 x) ∙ (ap (λ y. y +ℤ balance s (raises note 1 x)) (balance-lowers note g x s) ∙ ap (λ y. cond (eqb g s) (negated x) (pos 0) +ℤ y) (balance-entry_of note 1 (pos x) s)) in
    sound-more es (holds note g x) (pos 0) h (sum 0 ∙ rw other refl) (let c = h.credit in omega (arith, ints))
    (λ s k. rw (sum s) (by s (eqb g s) refl (eqb 1 s) refl k (h.owing s k))) (all-holds OffHeld day n g x (λ s z m e. absurd (no-part (eqb n m) e)))
  where
    minus : (z : ℤ) (x : ℕ) → x ≤ at_least_zero z → pos 0 ≤ℤ z → pos 0 ≤ℤ (z +ℤ (negated x +ℤ pos 0))
    minus (pos a) zero l h = omega (arith, ints)
    minus (pos a) (suc x) l h = omega (arith, ints)
    minus (negsuc a) x l h = omega (arith, ints)

    by : (s : ℕ) (t : Bool) → eqb g s ≡ t → (u : Bool) → eqb 1 s ≡ u → 2 ≤ s → pos 0 ≤ℤ balance s es → pos 0 ≤ℤ (balance s es +ℤ (cond t (negated x) (pos 0) +ℤ cond u (pos x) (pos 0)))
    by s t e true f k o = absurd (let q = eqb-true 1 s f in omega arith)
    by s true e false f k o = minus (balance s es) x (subst (λ i. x ≤ owing i es) (eqb-true g s e) m) o
    by s false e false f k o = omega (arith, ints)

sound-releases : (day n g x : ℕ) (es : List Entry) → 2 ≤ g → Sound es → Sound (es ++ releases (record { day = day; kind = kind.Hold; post = n }) g x (credit_balance es))
sound-releases day n g x es l h =
    let note : Note = record { day = day; kind = kind.Hold; post = n } in
    let c = credit_balance es in
    let sum = λ (s : ℕ). balance-append s (lowers note 1 x) (debit note g x c) ∙ ap (λ y. y +ℤ balance s (debit note g x c)) (balance-lowers note 1 x s) in
    sound-more es (releases note g x c) (pos (min x c)) h (sum 0 ∙ (rw (credit-of-debit note g x c l) (omega (arith, ints)))) (debit-low (balance 0 es) x h.credit)
    (λ s k. let other : eqb 1 s ≡ false = ne_eqb 1 s (λ e. omega arith) in
    rw (sum s, other, balance-debit note g x c s) (shift (balance s es) _ (plus-more (balance s es) (min x c) (x - c) (eqb 0 s) (eqb g s) (h.owing s k))))
    (all-releases OffHeld day n g x c (λ s z m e. absurd (no-part (eqb n m) e)))
  where
    shift : (y z : ℤ) → pos 0 ≤ℤ (y +ℤ z) → pos 0 ≤ℤ (y +ℤ (pos 0 +ℤ z))
    shift y z h = omega (arith, ints)

-- ---- parts
balance-parts : (note : Note) (ps : List (ℕ × ℕ)) (s : ℕ) → balance s (parts_entries note ps) +ℤ pos (parts_at s ps) ≡ pos 0
balance-parts note [] s = refl
balance-parts note (p ∷ ps) s =
    let split = balance-append s (lowers note p.0 p.1) (parts_entries note ps) in
    let here = balance-lowers note p.0 p.1 s in
    by (balance s (parts_entries note (p ∷ ps))) (balance s (lowers note p.0 p.1)) (balance s (parts_entries note ps)) (parts_at s ps) p.1 (eqb p.0 s) split here (balance-parts note ps s)
  where
    by : (w y z : ℤ) (m n : ℕ) (t : Bool) → w ≡ y +ℤ z → y ≡ cond t (negated n) (pos 0) → z +ℤ pos m ≡ pos 0 → w +ℤ pos (cond t n 0 + m) ≡ pos 0
    by w y z m zero true e f g = omega (arith, ints)
    by w y z m (suc n) true e f g = omega (arith, ints)
    by w y z m n false e f g = omega (arith, ints)

abbrev NotHeld : ℕ × ℕ → Type 0
NotHeld p = p.0 ≡ 1 → ⊥

parts-off_held : (day n : ℕ) (k : EntryKind) (ps : List (ℕ × ℕ)) → All NotHeld ps → All OffHeld (parts_entries (record { day = day; kind = k; post = n }) ps)
parts-off_held day n k [] h = All-nil OffHeld
parts-off_held day n k (p ∷ ps) h = All-append OffHeld _ _ (one p.0 (negated p.1) (All-head NotHeld p ps h)) (parts-off_held day n k ps (All-tail NotHeld p ps h))
  where
    one : (s : ℕ) (z : ℤ) → (s ≡ 1 → ⊥) → All OffHeld (entry_of (record { day = day; kind = k; post = n }) s z)
    one s (pos zero) h = All-nil OffHeld
    one s (pos (suc a)) h = All-cons OffHeld _ [] (λ m e q. h q) (All-nil OffHeld)
    one s (negsuc a) h = All-cons OffHeld _ [] (λ m e q. h q) (All-nil OffHeld)

sound-parts : (day n : ℕ) (k : EntryKind) (ps : List (ℕ × ℕ)) (es : List Entry) → All NotHeld ps → ((s : ℕ) → 2 ≤ s → parts_at s ps ≤ owing s es) → Sound es → Sound (es ++ parts_entries (record { day = day; kind = k; post = n }) ps)
sound-parts day n k ps es a l h =
    let note : Note = record { day = day; kind = k; post = n } in
    sound-more es (parts_entries note ps) (balance 0 (parts_entries note ps)) h refl (low (balance 0 es) _ (parts_at 0 ps) h.credit (balance-parts note ps 0))
    (λ s m. high (balance s es) (balance s (parts_entries note ps)) (parts_at s ps) (h.owing s m) (balance-parts note ps s) (l s m)) (parts-off_held day n k ps a)
  where
    low : (y z : ℤ) (m : ℕ) → y ≤ℤ pos 0 → z +ℤ pos m ≡ pos 0 → (y +ℤ z) ≤ℤ pos 0
    low y z m h e = omega (arith, ints)

    high : (y z : ℤ) (m : ℕ) → pos 0 ≤ℤ y → z +ℤ pos m ≡ pos 0 → m ≤ at_least_zero y → pos 0 ≤ℤ (y +ℤ z)
    high (pos a) z m h e l = omega (arith, ints)
    high (negsuc a) z m h e l = omega (arith, ints)

-- ---- the parts of a payment
ids-not_held : (low : ℕ) (hs : List Holding) → 2 ≤ low → Ascends low hs → All NotHeld (filter_map part_of hs)
ids-not_held low [] l a = All-nil NotHeld
ids-not_held low (h ∷ hs) l a = by (eqb h.paid 0) (λ e. let m = a.0 in omega arith) (ids-not_held (h.id + 1) hs (let m = a.0 in omega arith) a.1)
  where
    by : (t : Bool) → (h.id ≡ 1 → ⊥) → All NotHeld (filter_map part_of hs) → All NotHeld (cons_option (cond t None (Some (h.id, h.paid))) (filter_map part_of hs))
    by true n r = r
    by false n r = All-cons NotHeld (h.id, h.paid) (filter_map part_of hs) n r

pub record GoodParts (owed : ℕ → ℕ) (ps : List (ℕ × ℕ)) : Type 0 where
  pub few : (s : ℕ) → 2 ≤ s → parts_at s ps ≤ owed s
  pub off : All NotHeld ps

good-parts : (owed : ℕ → ℕ) (p : Paying) → Ascends 2 p.left → All (λ (h : Holding). h.paid + h.balance ≤ owed h.id) p.left → GoodParts owed (parts p)
good-parts owed p a h = by (eqb p.credit 0)
  where
    by : (t : Bool) → GoodParts owed (cond t (filter_map part_of p.left) ((0, p.credit) ∷ filter_map part_of p.left))
    by true = record { few = λ s l. parts_at-within owed s 2 p.left a h; off = ids-not_held 2 p.left (omega arith) a }
    by false = record {
      few = λ s l. let other : eqb 0 s ≡ false = ne_eqb 0 s (λ e. omega arith) in let m = parts_at-within owed s 2 p.left a h in rw other (omega arith);
      off = All-cons NotHeld (0, p.credit) (filter_map part_of p.left) (λ e. absurd (omega arith)) (ids-not_held 2 p.left (omega arith) a);
    }

start-within : (a : Account) (seen : Seen) (b : Book) (p : Option Place) → All (λ (h : Holding). h.paid + h.balance ≤ owing h.id b.entries) (holdings a seen b p)
start-within a seen b p = All-map (λ (h : Holding). h.paid + h.balance ≤ owing h.id b.entries) (holding a seen b p) (all_segments a seen) (λ k d l. omega arith)

pub payment-good : (a : Account) (seen : Seen) (s : CorrectedPost) (b : Book) → Rises 5 seen.posts → GoodParts (λ id. owing id b.entries) (payment_parts a seen s b)
unfolding payment_parts
payment-good a seen s b r =
    let owed = λ (id : ℕ). owing id b.entries in
    let hs = holdings a seen b None in
    let asc = holdings-ascend a seen b None 2 (all_segments a seen) (segments-ascend a seen r) in
    let minimum = min s.cents (minimum_left seen s (last_cycle b.cycles)) in
    let one = pay-within owed minimum_rule minimum-chooses minimum 2 (untouched hs) asc (start-within a seen b None) in
    let two = pay-within owed excess_rule excess-chooses (s.cents - minimum) 2 (pay minimum_rule minimum (untouched hs)) one.1 one.0 in
    good-parts owed (pay excess_rule (s.cents - minimum) (pay minimum_rule minimum (untouched hs))) two.1 two.0

pub credit-good : (a : Account) (seen : Seen) (s : CorrectedPost) (p : Place) (b : Book) → Rises 5 seen.posts → GoodParts (λ id. owing id b.entries) (credit_parts a seen s p b)
unfolding credit_parts
credit-good a seen s p b r =
    let owed = λ (id : ℕ). owing id b.entries in
    let hs = holdings a seen b (Some p) in
    let asc = holdings-ascend a seen b (Some p) 2 (all_segments a seen) (segments-ascend a seen r) in
    let one = pay-within owed place_rule place-chooses s.cents 2 (untouched hs) asc (start-within a seen b (Some p)) in
    good-parts owed (pay place_rule s.cents (untouched hs)) one.1 one.0

-- ---- the steps of the fold
sound-put_back : (day n newest target : ℕ) (ps es : List Entry) → 2 ≤ newest → All OffHeld ps → All (λ e. is_part_of target e ≡ true) ps → Sound es → Sound (put_back (record { day = day; kind = kind.Return; post = n }) newest ps es)
sound-put_back day n newest target [] es l a t h = h
sound-put_back day n newest target (p ∷ ps) es l a t h =
    let other = All-head OffHeld p ps a target (All-head (λ e. is_part_of target e ≡ true) p ps t) in
    sound-put_back day n newest target ps _ l (All-tail OffHeld p ps a) (All-tail (λ e. is_part_of target e ≡ true) p ps t)
    (sound-debit day n (cond (eqb p.segment 0) newest p.segment) (size p.cents) kind.Return es (λ s z m e. absurd (no-part (eqb n m) e)) (by (eqb p.segment 0) refl other) h)
  where
    false-true : false ≡ true → ⊥
    false-true e = cc

    apart : (x : ℕ) → (x ≡ 0 → ⊥) → (x ≡ 1 → ⊥) → 2 ≤ x
    apart zero f g = absurd (f refl)
    apart (suc zero) f g = absurd (g refl)
    apart (suc (suc x)) f g = omega arith

    by : (u : Bool) → eqb p.segment 0 ≡ u → (p.segment ≡ 1 → ⊥) → 2 ≤ cond u newest p.segment
    by true e o = l
    by false e o = apart p.segment (λ q. false-true (sym e ∙ eq-eqb p.segment 0 q)) o

pub highs : (a : Account) (seen : Seen) → Rises 5 seen.posts → All (λ (g : SegmentTerms). 2 ≤ g.id) (all_segments a seen)
highs a seen r = ids-high 2 (all_segments a seen) (omega arith) (segments-ascend a seen r)

pub newest-high : (a : Account) (seen : Seen) → Rises 5 seen.posts → 2 ≤ newest sort.Purchase seen.day (all_segments a seen)
newest-high a seen r = last-high (λ g. is_sort sort.Purchase g.sort && leb g.begins seen.day) (all_segments a seen) (highs a seen r)

sound-fee : (a : Account) (seen : Seen) (n : ℕ) (o : Option Fee) (b : Book) → Rises 5 seen.posts → Sound b.entries → Sound (with_fee a seen n o b).entries
sound-fee a seen n None b r h = h
sound-fee a seen n (Some f) b r h = sound-debit seen.day n (newest sort.Purchase seen.day (all_segments a seen)) (fee_cents f) kind.Fee b.entries (λ s z m e. absurd (no-part (eqb n m) e)) (newest-high a seen r) h

min-three : (x y z : ℕ) → min x (min y z) ≤ z
min-three x y z = omega arith

sound-effect : (issued : Option IssuedRow) (a : Account) (seen : Seen) (s : CorrectedPost) (p : Post) (b : Book) → Rises 5 seen.posts → Sound b.entries → Sound (effect issued a seen s p b).entries
unfolding effect
sound-effect issued a seen s (post.Charge d p n) b r h = sound-debit seen.day s.number (segment_at p seen.day (all_segments a seen)) s.cents kind.Charge b.entries (λ i z m e. absurd (no-part (eqb s.number m) e)) (segment_at-high p seen.day (all_segments a seen) (highs a seen r)) h
sound-effect issued a seen s (post.Payment d m y n) b r h =
    let good = payment-good a seen s b r in
    sound-parts seen.day s.number kind.Payment (payment_parts a seen s b) b.entries good.off good.few h
sound-effect issued a seen s (post.Credit d p n) b r h =
    let good = credit-good a seen s p b r in
    sound-parts seen.day s.number kind.Credit (credit_parts a seen s p b) b.entries good.off good.few h
sound-effect issued a seen s (post.Return d target) b r h =
    sound-fee a seen s.number (returned_fee issued seen b (meant_for b.cycles (payment_at target seen.posts))) (returned a seen s.number target b) r
    (sound-put_back seen.day s.number (newest sort.Purchase seen.day (all_segments a seen)) target (filter (is_part_of target) b.entries) b.entries (newest-high a seen r) (All-filter (is_part_of target) OffHeld b.entries h.off) (filter_passes (is_part_of target) b.entries) h)
sound-effect issued a seen s (post.Dispute d target claim) b r h =
    sound-holds seen.day s.number (disputed_segment a seen target) (disputed_cents a seen target claim b) b.entries (charge-high (all_segments a seen) (charge_at target seen.posts) (highs a seen r))
    (min-three claim (corrected_cents (charge_at target seen.posts)) (owing (disputed_segment a seen target) b.entries)) h
sound-effect issued a seen s (post.Resolve d target n) b r h =
    sound-releases seen.day s.number (disputed_segment a seen (disputed_charge (post_at target seen.posts))) (moved_by target b.entries) b.entries (charge-high (all_segments a seen) (charge_at (disputed_charge (post_at target seen.posts)) seen.posts) (highs a seen r)) h
sound-effect issued a seen s (post.Refund n) b r h = sound-debit seen.day s.number (newest sort.Purchase seen.day (all_segments a seen)) s.cents kind.Refund b.entries (λ i z m e. absurd (no-part (eqb s.number m) e)) (newest-high a seen r) h
sound-effect issued a seen s post.Penalty b r h = h
sound-effect issued a seen s (post.Open d t) b r h = h
sound-effect issued a seen s (post.OpenVariable d t) b r h = h
sound-effect issued a seen s (post.Plan d k g e f) b r h = h
sound-effect issued a seen s (post.Notice d y g e) b r h = h
sound-effect issued a seen s (post.Lower d y g) b r h = h
sound-effect issued a seen s (post.Review d f) b r h = h
sound-effect issued a seen s (post.Ack d t) b r h = h
sound-effect issued a seen s (post.AskRefund d) b r h = h
sound-effect issued a seen s (post.Amend t d n) b r h = h
sound-effect issued a seen s (post.Bill n) b r h = h

pub sound-posts : (issued : Option IssuedRow) (a : Account) (seen : Seen) (ss : List CorrectedPost) (b : Book) → Rises 5 seen.posts → Sound b.entries → Sound (after_posts issued a seen ss b).entries
unfolding after_posts
sound-posts issued a seen [] b r h = h
sound-posts issued a seen (s ∷ ss) b r h = sound-posts issued a seen ss (effect issued a seen s s.post b) r (sound-effect issued a seen s s.post b r h)

chosen : (t : Bool) (new other : Book) → Sound new.entries → Sound other.entries → Sound (cond t new other).entries
chosen true new other g h = g
chosen false new other g h = h

sound-due : (issued : Option IssuedRow) (a : Account) (seen : Seen) (b : Book) (c : Option Cycle) → Rises 5 seen.posts → Sound b.entries → Sound (on_due issued a seen b c).entries
unfolding on_due
sound-due issued a seen b None r h = h
sound-due issued a seen b (Some c) r h = chosen (eqb seen.day (c.due + 1)) (after_due_date issued a seen b c) b (sound-fee a seen 0 (late_fee issued seen b c) b r h) h

sound-interest : (issued : Option IssuedRow) (seen : Seen) (amount : Book → SegmentTerms → ℕ) (gs : List SegmentTerms) (p : Posting) → All (λ (g : SegmentTerms). 2 ≤ g.id) gs → Sound p.book.entries → Sound (post_interest issued seen amount gs p).book.entries
unfolding post_interest
sound-interest issued seen amount [] p l h = h
sound-interest issued seen amount (g ∷ gs) p l h =
    sound-interest issued seen amount gs (post_one seen g (posted_for issued amount g p) p) (All-tail (λ (g : SegmentTerms). 2 ≤ g.id) g gs l)
    (sound-debit seen.day 0 g.id (posted_for issued amount g p) kind.Interest p.book.entries (λ s z m e. absurd (no-part (eqb 0 m) e)) (All-head (λ (g : SegmentTerms). 2 ≤ g.id) g gs l) h)

sound-close : (issued : Option IssuedRow) (a : Account) (seen : Seen) (b : Book) → Rises 5 seen.posts → Sound b.entries → Sound (close issued a seen b).entries
unfolding close closing_interest
sound-close issued a seen b r h = sound-interest issued seen _ (all_segments a seen) _ (highs a seen r) (sound-interest issued seen _ (all_segments a seen) _ (highs a seen r) h)

sound-day : (issued : Option IssuedRow) (a : Account) (seen : Seen) (b : Book) → Rises 5 seen.posts → Sound b.entries → Sound (day_after issued a seen b).entries
unfolding day_after
sound-day issued a seen b r h =
    let posts = sound-posts issued a seen (posts_on seen) _ r (sound-due issued a seen b (last_cycle b.cycles) r h) in
    chosen (eqb (day_of_month seen.day) a.anchor.close_day) _ _ (sound-close issued a seen _ r posts) posts

pub sound-book : (rows : List IssuedRow) (acc : Account) (a : Anchor) (shared : SharedRows) (history : List Kept) (issued : List IssuedRow) (n : ℕ) → Sound (book_after rows acc (seen_on a shared history issued) n).entries
unfolding book_after
sound-book rows acc a shared history issued zero = record { credit = omega (arith, ints); owing = λ s l. omega (arith, ints); off = All-nil OffHeld }
sound-book rows acc a shared history issued (suc n) =
    let b = book_after rows acc (seen_on a shared history issued) n in
    let d = acc.anchor.opened + n in
    sound-day (row_for (present_cycle b) rows) acc (seen_on a shared history issued d) b
    (rises-filter (λ s. leb s.day d) 5 (folded a shared.holidays history) (rises-filter (λ s. is_folded s.post) 5 (corrected a shared.holidays history) (slots-rise a shared.holidays history 1 5 history)))
    (sound-book rows acc a shared history issued n)

signs-of : (es : List Entry) → Sound es → SignsHold es
signs-of es h = record { credit = h.credit; owing = h.owing }

pub signs : Signs
unfolding book
signs history issued shared day = signs-of _ (sound-book issued (account_of history) (anchor_of history) shared history issued (day + 1 - (anchor_of history).opened))
