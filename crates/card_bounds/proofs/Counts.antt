-- How many entries each step of the fold adds.
use Rattle.std.proofs.Common.{◌≡◌, ℕ, zero, suc, ◌+◌, ◌-◌, ◌*◌, ◌<◌, ◌≤◌, Bool, true, false, cond, ◌&&◌, List, [], ◌∷◌, ◌++◌, length, length-append, refl, sym, ap, ◌∙◌, subst, arith, ℤ, pos, negsuc, ◌+ℤ◌, Option, Some, None, eqb, leb, ltb, ◌⊎◌, inl, inr}
use Rattle.std.specs.Prelude.{◌≤ℤ◌, min, neg_ℤ, not}
use Rattle.std.specs.List.{All, cons_option, filter, filter_map}
use Rattle.std.proofs.lemmas.Bool.{cases_lt, eqb-true}
use Rattle.std.proofs.lemmas.Bool.Decides.{nat_tests}
use Rattle.std.proofs.lemmas.Int.{ints}
use Rattle.std.proofs.lemmas.List.{length-map}
use Rattle.std.proofs.lemmas.List.Elements.{All-weaker, filter-append}
use Rattle.card_events.specs.declared.anchor.Anchor.{Anchor}
use Rattle.card_events.specs.Money.{interest}
use Rattle.card_events.specs.History.{CorrectedPost}
use Rattle.card_events.specs.declared.post.Category.{Category}
use Rattle.card_events.specs.declared.post.Category.TheVariants as category
use Rattle.card_events.specs.declared.post.Place.{Place}
use Rattle.card_events.specs.declared.post.Post.{Post}
use Rattle.card_events.specs.declared.post.Post.TheVariants as post
use Rattle.card_events.specs.declared.post.Terms.{Terms}
use Rattle.card_model.proofs.EntryFacts.{all-debit, all-holds, all-parts, all-releases, balance-append, balance-debit}
use Rattle.card_model.specs.Allocation.{Paying, excess_rule, minimum_rule, paid_at, part_of, parts, pay, place_rule, takes, untouched}
use Rattle.card_model.specs.Books.{Account, Book, all_segments, newest_purchase, note_of}
use Rattle.card_model.specs.Caps.{issued_interest}
use Rattle.card_model.specs.Closing.{Posting, close, closing_interest, interest_note, post_interest, post_one, posted_for, within_limit}
use Rattle.card_model.specs.Cycles.{Cycle, IssuedRow, Seen, last_cycle, post_at}
use Rattle.card_model.specs.DueDates.{after_due_date, on_due}
use Rattle.card_model.specs.Effects.{credit_parts, disputed_cents, disputed_charge, disputed_segment, effect, holding, holdings, is_part_of, meant_for, moved_by, parts_entries, payment_at, payment_parts, put_back, returned, returned_fee, size}
use Rattle.card_model.specs.Entries.{at_least_zero, balance, credit_balance, debit, holds, is_kind, lowers, owing, raises, releases}
use Rattle.card_model.specs.Fees.{fee_cents, late_fee, with_fee}
use Rattle.card_model.specs.Interest.{accrual, deferred_interest, ends_today}
use Rattle.card_model.specs.Payments.{minimum_left}
use Rattle.card_model.specs.Segments.{SegmentTerms, is_sort, segment_at, segment_of, segments, sort_of_category, sort_of_plan}
use Rattle.card_model.specs.declared.entry.Entry.{Entry}
use Rattle.card_model.specs.declared.entry.EntryKind.TheVariants as kind
use Rattle.card_model.specs.declared.entry.Note.{Note}
use Rattle.card_model.specs.declared.fee.Fee.{Fee}
use Rattle.card_model.specs.declared.holding.Holding.{Holding}
use Rattle.card_model.specs.declared.segment.Sort.TheVariants as sort
use Rattle.card_bounds.proofs.Bounded.{limited}
use Rattle.card_bounds.proofs.Reached.{kept-parts, no-parts, none-of}
use Rattle.card_bounds.proofs.Whole.{filter-shorter}

-- ---- what a debit adds
-- 1 for what isn't 0
abbrev pub one : ℕ → ℕ
one zero = 0
one (suc n) = 1

-- 1 for what is so
abbrev pub tally : Bool → ℕ
tally t = cond t 1 0

-- The number of entries, and one more where there is a credit balance. A debit has two entries only where it uses that up
abbrev pub weight : List Entry → ℕ
weight es = length es + one (credit_balance es)

one-most : (n : ℕ) → one n ≤ 1
one-most zero = omega arith
one-most (suc n) = omega arith

one-less : (m n : ℕ) → m ≤ n → one m ≤ one n
one-less zero n l = omega arith
one-less (suc m) zero l = absurd (omega arith)
one-less (suc m) (suc n) l = omega arith

length-raises : (note : Note) (s x : ℕ) → length (raises note s x) ≡ one x
length-raises note s zero = refl
length-raises note s (suc x) = refl

length-lowers : (note : Note) (s x : ℕ) → length (lowers note s x) ≤ 1
length-lowers note s zero = omega arith
length-lowers note s (suc x) = omega arith

length-debit : (note : Note) (s x credit : ℕ) → length (debit note s x credit) ≡ one (min x credit) + one (x - credit)
unfolding debit
length-debit note s x credit =
    let first = length-raises note 0 (min x credit) in
    let second = length-raises note s (x - credit) in
    length-append (raises note 0 (min x credit)) (raises note s (x - credit)) ∙ omega (arith, first, second)

-- a debit of x where the credit balance is c and a is left of it
debit-pieces : (x c a : ℕ) → a ≤ c - x → (one (min x c) + one (x - c)) + one a ≤ one c + one x
debit-pieces zero c a l =
    let first : one (min 0 c) ≡ 0 = ap one (none c) in
    let second : one (0 - c) ≡ 0 = ap one (nothing c) in
    let last = one-less a c (omega arith) in
    omega arith
  where
    none : (c : ℕ) → min 0 c ≡ 0
    none c = omega arith

    nothing : (c : ℕ) → 0 - c ≡ 0
    nothing c = omega arith
debit-pieces (suc x) zero a l =
    let first : one (min (suc x) 0) ≡ 0 = ap one (none x) in
    let second = one-most (suc x - 0) in
    let last = one-less a 0 (omega arith) in
    omega arith
  where
    none : (x : ℕ) → min (suc x) 0 ≡ 0
    none x = omega arith
debit-pieces (suc x) (suc c) a l = by (cases_lt (suc c) (suc x))
  where
    by : ((suc c) < (suc x)) ⊎ ((suc x) ≤ (suc c)) → (one (min (suc x) (suc c)) + one (suc x - suc c)) + one a ≤ 2
    by (inl less) =
        let first = one-most (min (suc x) (suc c)) in
        let second = one-most (suc x - suc c) in
        let last = one-less a 0 (omega arith) in
        omega arith
    by (inr more) =
        let first = one-most (min (suc x) (suc c)) in
        let second = one-less (suc x - suc c) 0 (omega arith) in
        let last = one-most a in
        omega arith

-- what is left of the credit balance
credit-left : (z : ℤ) (x : ℕ) (t : Bool)
    → at_least_zero (neg_ℤ (z +ℤ (pos (min x (at_least_zero (neg_ℤ z))) +ℤ cond t (pos (x - at_least_zero (neg_ℤ z))) (pos 0)))) ≤ at_least_zero (neg_ℤ z) - x
credit-left z x t = below _ _ (by z t)
  where
    below : (w : ℤ) (k : ℕ) → neg_ℤ (pos k) ≤ℤ w → at_least_zero (neg_ℤ w) ≤ k
    below (pos zero) k l = omega arith
    below (pos (suc n)) k l = omega arith
    below (negsuc n) k l = omega (arith, ints)

    by : (z : ℤ) (t : Bool) → neg_ℤ (pos (at_least_zero (neg_ℤ z) - x)) ≤ℤ (z +ℤ (pos (min x (at_least_zero (neg_ℤ z))) +ℤ cond t (pos (x - at_least_zero (neg_ℤ z))) (pos 0)))
    by (pos zero) true = omega (arith, ints)
    by (pos zero) false = omega (arith, ints)
    by (pos (suc n)) true = omega (arith, ints)
    by (pos (suc n)) false = omega (arith, ints)
    by (negsuc n) true = omega (arith, ints)
    by (negsuc n) false = omega (arith, ints)

pub debit-weight : (note : Note) (s x : ℕ) (es : List Entry) → weight (es ++ debit note s x (credit_balance es)) ≤ weight es + one x
debit-weight note s x es =
    let c = credit_balance es in
    let xs = debit note s x c in
    let long = length-append es xs in
    let few = length-debit note s x c in
    let sum : balance 0 (es ++ xs) ≡ balance 0 es +ℤ (pos (min x c) +ℤ cond (eqb s 0) (pos (x - c)) (pos 0)) = balance-append 0 es xs ∙ ap (λ y. balance 0 es +ℤ y) (balance-debit note s x c 0) in
    let left : credit_balance (es ++ xs) ≤ c - x = subst (λ z. at_least_zero (neg_ℤ z) ≤ c - x) (sym sum) (credit-left (balance 0 es) x (eqb s 0)) in
    adds (length es) _ _ _ _ _ _ long few (debit-pieces x c (credit_balance (es ++ xs)) left)
  where
    adds : (n m k p r u v : ℕ) → m ≡ n + k → k ≡ p → p + r ≤ u + v → m + r ≤ (n + u) + v
    adds n m k p r u v e f l = omega arith

-- ---- entries that are no payment's
abbrev pub parts_of : ℕ → List Entry → ℕ
parts_of n es = length (filter (is_part_of n) es)

abbrev NoPayment : Entry → Type 0
NoPayment e = is_kind kind.Payment e.kind ≡ false

-- such entries leave the parts of each payment as they are
abbrev pub KeepsParts : List Entry → List Entry → Type 0
KeepsParts es new = (n : ℕ) → parts_of n new ≤ parts_of n es

parts-kept : (es xs : List Entry) → All NoPayment xs → KeepsParts es (es ++ xs)
parts-kept es xs all n =
    let none = none-of n xs (All-weaker NoPayment (λ (e : Entry). is_part_of n e ≡ false) (λ e q. no-parts n e q) xs all) in
    let same : parts_of n (es ++ xs) ≡ parts_of n es = ap length (kept-parts n es xs none) in
    omega arith

parts-same : (es : List Entry) → KeepsParts es es
parts-same es n = omega arith

-- entries more weigh one more than they are at most
added-weight : (es xs : List Entry) (m : ℕ) → length xs ≤ m → weight (es ++ xs) ≤ weight es + (m + 1)
added-weight es xs m l =
    let long = length-append es xs in
    let last = one-most (credit_balance (es ++ xs)) in
    adds (length es) (length (es ++ xs)) (length xs) m (one (credit_balance (es ++ xs))) (one (credit_balance es)) long l last
  where
    adds : (n k x m a b : ℕ) → k ≡ n + x → x ≤ m → a ≤ 1 → k + a ≤ (n + b) + (m + 1)
    adds n k x m a b e l h = omega arith

-- ---- how many parts an amount has
paid_at-length : (id n : ℕ) (hs : List Holding) → length (paid_at id n hs) ≡ length hs
unfolding paid_at
paid_at-length id n [] = refl
paid_at-length id n (h ∷ hs) = ap suc (paid_at-length id n hs)

takes-length : (s : Paying) (o : Option Holding) → length (takes 1 s o).left ≡ length s.left
takes-length s None = refl
takes-length s (Some h) = paid_at-length h.id 1 s.left

pay-length : (rule : List Holding → Option Holding) (n : ℕ) (s : Paying) → length (pay rule n s).left ≡ length s.left
unfolding pay
pay-length rule zero s = refl
pay-length rule (suc n) s = pay-length rule n (takes 1 s (rule s.left)) ∙ takes-length s (rule s.left)

pub filter_map-shorter : {X Y : Type 0} (f : X → Option Y) (xs : List X) → length (filter_map f xs) ≤ length xs
filter_map-shorter f [] = omega arith
filter_map-shorter {X = X} {Y = Y} f (x ∷ xs) = by (f x) (filter_map-shorter f xs)
  where
    by : (o : Option Y) → length (filter_map f xs) ≤ length xs → length (cons_option o (filter_map f xs)) ≤ suc (length xs)
    by None h = omega arith
    by (Some y) h = omega arith

parts-length : (s : Paying) → length (parts s) ≤ length s.left + 1
parts-length s = by (eqb s.credit 0) (filter_map-shorter part_of s.left)
  where
    by : (t : Bool) → length (filter_map part_of s.left) ≤ length s.left → length (cond t (filter_map part_of s.left) ((0, s.credit) ∷ filter_map part_of s.left)) ≤ length s.left + 1
    by true h = omega arith
    by false h = omega arith

payment-length : (a : Account) (seen : Seen) (s : CorrectedPost) (b : Book) → length (payment_parts a seen s b) ≤ length (all_segments a seen) + 1
unfolding payment_parts
payment-length a seen s b =
    let hs = holdings a seen b None in
    let minimum = min s.cents (minimum_left seen s (last_cycle b.cycles)) in
    let first = pay minimum_rule minimum (untouched hs) in
    let all = pay excess_rule (s.cents - minimum) first in
    let few = parts-length all in
    let same = pay-length excess_rule (s.cents - minimum) first ∙ (pay-length minimum_rule minimum (untouched hs) ∙ length-map (all_segments a seen) (holding a seen b None)) in
    bound _ _ _ few same
  where
    bound : (n m k : ℕ) → n ≤ m + 1 → m ≡ k → n ≤ k + 1
    bound n m k l e = omega arith

credit-length : (a : Account) (seen : Seen) (s : CorrectedPost) (at : Place) (b : Book) → length (credit_parts a seen s at b) ≤ length (all_segments a seen) + 1
unfolding credit_parts
credit-length a seen s at b =
    let hs = holdings a seen b (Some at) in
    let all = pay place_rule s.cents (untouched hs) in
    let few = parts-length all in
    let same = pay-length place_rule s.cents (untouched hs) ∙ length-map (all_segments a seen) (holding a seen b (Some at)) in
    bound _ _ _ few same
  where
    bound : (n m k : ℕ) → n ≤ m + 1 → m ≡ k → n ≤ k + 1
    bound n m k l e = omega arith

entries-length : (note : Note) (ps : List (ℕ × ℕ)) → length (parts_entries note ps) ≤ length ps
entries-length note [] = omega arith
entries-length note (p ∷ ps) =
    let long = length-append (lowers note p.0 p.1) (parts_entries note ps) in
    let here = length-lowers note p.0 p.1 in
    let rest = entries-length note ps in
    omega arith

-- ---- what a post adds
-- 1 for a Plan whose period ends on a day or later
abbrev pub promise : ℕ → Post → ℕ
promise day (post.Plan _ _ _ end _) = tally (leb day end)
promise day _ = 0

pub record Step (s : CorrectedPost) (p : Post) (day : ℕ) (es new : List Entry) : Type 0 where
  pub few : weight new + promise day p ≤ weight es + 64
  pub parts : (n : ℕ) → parts_of n new ≤ parts_of n es + 63 * tally (eqb s.number n)

plain-step : (s : CorrectedPost) (p : Post) (day : ℕ) (es new : List Entry) → weight new + promise day p ≤ weight es + 64 → KeepsParts es new → Step s p day es new
plain-step s p day es new l h = record { few = l; parts = λ n. let k = h n in omega arith }

-- a few entries of one kind that is no payment
few-step : (s : CorrectedPost) (p : Post) (day : ℕ) (es xs : List Entry) → promise day p ≡ 0 → length xs ≤ 63 → All NoPayment xs → Step s p day es (es ++ xs)
few-step s p day es xs none l all = plain-step s p day es (es ++ xs) (let w = added-weight es xs 63 l in omega arith) (parts-kept es xs all)

debit-most : (note : Note) (s x credit : ℕ) → length (debit note s x credit) ≤ 2
debit-most note s x credit =
    let few = length-debit note s x credit in
    let first = one-most (min x credit) in
    let second = one-most (x - credit) in
    omega arith

holds-most : (note : Note) (s x : ℕ) → length (holds note s x) ≤ 2
holds-most note s x =
    let long = length-append (lowers note s x) (raises note 1 x) in
    let first = length-lowers note s x in
    let second = length-raises note 1 x in
    let last = one-most x in
    omega arith

releases-most : (note : Note) (s x credit : ℕ) → length (releases note s x credit) ≤ 3
releases-most note s x credit =
    let long = length-append (lowers note 1 x) (debit note s x credit) in
    let first = length-lowers note 1 x in
    let second = debit-most note s x credit in
    omega arith

-- each part that is put back weighs one
put_back-weight : (note : Note) (new : ℕ) (xs es : List Entry) → weight (put_back note new xs es) ≤ weight es + length xs
put_back-weight note new [] es = omega arith
put_back-weight note new (x ∷ xs) es =
    let g = cond (eqb x.segment 0) new x.segment in
    let here = debit-weight note g (size x.cents) es in
    let few = one-most (size x.cents) in
    let rest = put_back-weight note new xs (es ++ debit note g (size x.cents) (credit_balance es)) in
    chain _ _ _ _ _ here few rest
  where
    chain : (a b c k n : ℕ) → b ≤ a + k → k ≤ 1 → c ≤ b + n → c ≤ a + suc n
    chain a b c k n h f r = omega arith

put_back-parts : (day n new : ℕ) (xs es : List Entry) → KeepsParts es (put_back (record { day = day; kind = kind.Return; post = n }) new xs es)
put_back-parts day n new [] es m = omega arith
put_back-parts day n new (x ∷ xs) es m =
    let g = cond (eqb x.segment 0) new x.segment in
    let ys = debit (record { day = day; kind = kind.Return; post = n }) g (size x.cents) (credit_balance es) in
    let here = parts-kept es ys (all-debit NoPayment day n g (size x.cents) (credit_balance es) kind.Return (λ s z. refl)) m in
    let rest = put_back-parts day n new xs (es ++ ys) m in
    omega arith

fee-weight : (a : Account) (seen : Seen) (n : ℕ) (o : Option Fee) (b : Book) → weight (with_fee a seen n o b).entries ≤ weight b.entries + 1
fee-weight a seen n None b = omega arith
fee-weight a seen n (Some f) b =
    let here = debit-weight (note_of seen kind.Fee n) (newest_purchase a seen) (fee_cents f) b.entries in
    let few = one-most (fee_cents f) in
    omega arith

fee-parts : (a : Account) (seen : Seen) (n : ℕ) (o : Option Fee) (b : Book) → KeepsParts b.entries (with_fee a seen n o b).entries
fee-parts a seen n None b = parts-same b.entries
fee-parts a seen n (Some f) b =
    parts-kept b.entries _ (all-debit NoPayment seen.day n (newest_purchase a seen) (fee_cents f) (credit_balance b.entries) kind.Fee (λ s z. refl))

payment-step : (s : CorrectedPost) (p : Post) (day : ℕ) (es : List Entry) (ps : List (ℕ × ℕ)) → promise day p ≡ 0 → length ps ≤ 63 → Step s p day es (es ++ parts_entries (record { day = day; kind = kind.Payment; post = s.number }) ps)
payment-step s p day es ps none l = record {
  few = let w = added-weight es xs 63 short in omega arith;
  parts = λ n. by n (eqb s.number n) refl;
}
  where
    xs : List Entry
    xs = parts_entries (record { day = day; kind = kind.Payment; post = s.number }) ps

    short : length xs ≤ 63
    short = let e = entries-length (record { day = day; kind = kind.Payment; post = s.number }) ps in omega arith

    by : (n : ℕ) (t : Bool) → eqb s.number n ≡ t → parts_of n (es ++ xs) ≤ parts_of n es + 63 * tally t
    by n false q =
        let none = none-of n xs (all-parts (λ (e : Entry). is_part_of n e ≡ false) day s.number kind.Payment ps (λ g z. rw q refl)) in
        let same : parts_of n (es ++ xs) ≡ parts_of n es = ap length (kept-parts n es xs none) in
        omega arith
    by n true q =
        let whole : parts_of n (es ++ xs) ≡ length (filter (is_part_of n) es ++ filter (is_part_of n) xs) = ap length (filter-append (is_part_of n) es xs) in
        let long = length-append (filter (is_part_of n) es) (filter (is_part_of n) xs) in
        let fewer = filter-shorter (is_part_of n) xs in
        let few = short in
        omega arith

pub effect-step : (issued : Option IssuedRow) (a : Account) (seen : Seen) (s : CorrectedPost) (p : Post) (b : Book) → length (all_segments a seen) ≤ 62 → ((n : ℕ) → parts_of n b.entries ≤ 63) → Step s p seen.day b.entries (effect issued a seen s p b).entries
unfolding effect
effect-step issued a seen s (post.Charge d at n) b l m =
    let g = segment_at at seen.day (all_segments a seen) in
    few-step s _ seen.day b.entries _ refl (let e = debit-most (note_of seen kind.Charge s.number) g s.cents (credit_balance b.entries) in omega arith) (all-debit NoPayment seen.day s.number g s.cents (credit_balance b.entries) kind.Charge (λ s z. refl))
effect-step issued a seen s (post.Payment d mi y n) b l m = payment-step s _ seen.day b.entries (payment_parts a seen s b) refl (let e = payment-length a seen s b in omega arith)
effect-step issued a seen s (post.Credit d at n) b l m =
    few-step s _ seen.day b.entries _ refl (let e = credit-length a seen s at b in let f = entries-length (note_of seen kind.Credit s.number) (credit_parts a seen s at b) in omega arith)
    (all-parts NoPayment seen.day s.number kind.Credit (credit_parts a seen s at b) (λ s z. refl))
effect-step issued a seen s (post.Return d target) b l m =
    let ps = filter (is_part_of target) b.entries in
    let back = returned a seen s.number target b in
    let fee = returned_fee issued seen b (meant_for b.cycles (payment_at target seen.posts)) in
    let first = put_back-weight (note_of seen kind.Return s.number) (newest_purchase a seen) ps b.entries in
    let second = fee-weight a seen s.number fee back in
    let few = m target in
    plain-step s (post.Return d target) seen.day b.entries (with_fee a seen s.number fee back).entries (sums _ _ _ _ first second few)
    (λ n. let k = put_back-parts seen.day s.number (newest_purchase a seen) ps b.entries n in let f = fee-parts a seen s.number fee back n in less _ _ _ k f)
  where
    sums : (x y z n : ℕ) → y ≤ x + n → z ≤ y + 1 → n ≤ 63 → z + 0 ≤ x + 64
    sums x y z n a b c = omega arith

    less : (x y z : ℕ) → y ≤ x → z ≤ y → z ≤ x
    less x y z a b = omega arith
effect-step issued a seen s (post.Dispute d target claim) b l m =
    let g = disputed_segment a seen target in
    let x = disputed_cents a seen target claim b in
    few-step s _ seen.day b.entries _ refl (let e = holds-most (note_of seen kind.Hold s.number) g x in omega arith) (all-holds NoPayment seen.day s.number g x (λ s z. refl))
effect-step issued a seen s (post.Resolve d target n) b l m =
    let g = disputed_segment a seen (disputed_charge (post_at target seen.posts)) in
    let x = moved_by target b.entries in
    few-step s _ seen.day b.entries _ refl (let e = releases-most (note_of seen kind.Hold s.number) g x (credit_balance b.entries) in omega arith) (all-releases NoPayment seen.day s.number g x (credit_balance b.entries) (λ s z. refl))
effect-step issued a seen s (post.Refund n) b l m =
    few-step s _ seen.day b.entries _ refl (let e = debit-most (note_of seen kind.Refund s.number) (newest_purchase a seen) s.cents (credit_balance b.entries) in omega arith)
    (all-debit NoPayment seen.day s.number (newest_purchase a seen) s.cents (credit_balance b.entries) kind.Refund (λ s z. refl))
effect-step issued a seen s (post.Plan d k r e f) b l m = plain-step s (post.Plan d k r e f) seen.day b.entries b.entries (by (leb seen.day e)) (parts-same b.entries)
  where
    by : (t : Bool) → weight b.entries + tally t ≤ weight b.entries + 64
    by true = omega arith
    by false = omega arith
effect-step issued a seen s post.Penalty b l m = plain-step s post.Penalty seen.day b.entries b.entries (omega arith) (parts-same b.entries)
effect-step issued a seen s (post.Open d u) b l m = plain-step s (post.Open d u) seen.day b.entries b.entries (omega arith) (parts-same b.entries)
effect-step issued a seen s (post.OpenVariable d u) b l m = plain-step s (post.OpenVariable d u) seen.day b.entries b.entries (omega arith) (parts-same b.entries)
effect-step issued a seen s (post.Notice d y r e) b l m = plain-step s (post.Notice d y r e) seen.day b.entries b.entries (omega arith) (parts-same b.entries)
effect-step issued a seen s (post.Lower d y r) b l m = plain-step s (post.Lower d y r) seen.day b.entries b.entries (omega arith) (parts-same b.entries)
effect-step issued a seen s (post.Review d f) b l m = plain-step s (post.Review d f) seen.day b.entries b.entries (omega arith) (parts-same b.entries)
effect-step issued a seen s (post.Ack d u) b l m = plain-step s (post.Ack d u) seen.day b.entries b.entries (omega arith) (parts-same b.entries)
effect-step issued a seen s (post.AskRefund d) b l m = plain-step s (post.AskRefund d) seen.day b.entries b.entries (omega arith) (parts-same b.entries)
effect-step issued a seen s (post.Amend u d n) b l m = plain-step s (post.Amend u d n) seen.day b.entries b.entries (omega arith) (parts-same b.entries)
effect-step issued a seen s (post.Bill n) b l m = plain-step s (post.Bill n) seen.day b.entries b.entries (omega arith) (parts-same b.entries)

-- ---- a due date
-- 1 while the due date of the last closed cycle isn't over
abbrev pub waiting : ℕ → Option Cycle → ℕ
waiting day None = 0
waiting day (Some c) = tally (leb day (c.due + 1))

pub waiting-most : (day : ℕ) (o : Option Cycle) → waiting day o ≤ 1
waiting-most day None = omega arith
waiting-most day (Some c) = by (leb day (c.due + 1))
  where
    by : (t : Bool) → tally t ≤ 1
    by true = omega arith
    by false = omega arith

pub record Due (day : ℕ) (c : Option Cycle) (es new : List Entry) : Type 0 where
  pub few : weight new + waiting (suc day) c ≤ weight es + waiting day c
  pub parts : KeepsParts es new

pub due-step : (issued : Option IssuedRow) (a : Account) (seen : Seen) (b : Book) (c : Option Cycle) → Due seen.day c b.entries (on_due issued a seen b c).entries
unfolding on_due
due-step issued a seen b None = record { few = omega arith; parts = parts-same b.entries }
due-step issued a seen b (Some c) = by (eqb seen.day (c.due + 1)) refl
  where
    later : Book
    later = after_due_date issued a seen b c

    passed : (d x : ℕ) → d ≡ x → tally (leb d x) ≡ 1
    passed d x e = let t : leb d x ≡ true = grind (arith, nat_tests) in rw t refl

    over : (d x : ℕ) → d ≡ x → tally (leb (suc d) x) ≡ 0
    over d x e = let t : leb (suc d) x ≡ false = grind (arith, nat_tests) in rw t refl

    fewer : (d x : ℕ) → tally (leb (suc d) x) ≤ tally (leb d x)
    fewer d x = go (leb (suc d) x) (leb d x) (λ e. grind (arith, nat_tests))
      where
        go : (t u : Bool) → (t ≡ true → u ≡ true) → tally t ≤ tally u
        go true true f = omega arith
        go true false f = let e : false ≡ true = f refl in cc
        go false true f = omega arith
        go false false f = omega arith

    by : (t : Bool) → eqb seen.day (c.due + 1) ≡ t → Due seen.day (Some c) b.entries (cond t later b).entries
    by true q =
        let same = eqb-true seen.day (c.due + 1) q in
        let was = passed seen.day (c.due + 1) same in
        let is = over seen.day (c.due + 1) same in
        let fee = fee-weight a seen 0 (late_fee issued seen b c) b in
        record { few = sums _ _ _ _ fee was is; parts = fee-parts a seen 0 (late_fee issued seen b c) b }
      where
        sums : (x y w v : ℕ) → y ≤ x + 1 → w ≡ 1 → v ≡ 0 → y + v ≤ x + w
        sums x y w v a b c = omega arith
    by false q = record { few = let l = fewer seen.day (c.due + 1) in omega arith; parts = parts-same b.entries }

-- ---- a closing
interest-weight : (issued : Option IssuedRow) (seen : Seen) (amount : Book → SegmentTerms → ℕ) (gs : List SegmentTerms) (p : Posting) → weight (post_interest issued seen amount gs p).book.entries ≤ weight p.book.entries + length gs
unfolding post_interest
interest-weight issued seen amount [] p = omega arith
interest-weight issued seen amount (g ∷ gs) p =
    let x = posted_for issued amount g p in
    let here = debit-weight (interest_note seen) g.id x p.book.entries in
    let few = one-most x in
    let rest = interest-weight issued seen amount gs (post_one seen g x p) in
    chain _ _ _ _ (length gs) here few rest
  where
    chain : (a b c k n : ℕ) → b ≤ a + k → k ≤ 1 → c ≤ b + n → c ≤ a + suc n
    chain a b c k n h f r = omega arith

interest-parts : (issued : Option IssuedRow) (seen : Seen) (amount : Book → SegmentTerms → ℕ) (gs : List SegmentTerms) (p : Posting) → KeepsParts p.book.entries (post_interest issued seen amount gs p).book.entries
unfolding post_interest
interest-parts issued seen amount [] p n = omega arith
interest-parts issued seen amount (g ∷ gs) p n =
    let x = posted_for issued amount g p in
    let ys = debit (interest_note seen) g.id x (credit_balance p.book.entries) in
    let here = parts-kept p.book.entries ys (all-debit NoPayment seen.day 0 g.id x (credit_balance p.book.entries) kind.Interest (λ s z. refl)) n in
    let rest = interest-parts issued seen amount gs (post_one seen g x p) n in
    less _ _ _ here rest
  where
    less : (x y z : ℕ) → y ≤ x → z ≤ y → z ≤ x
    less x y z a b = omega arith

-- how many periods end today
abbrev pub ending : Seen → List SegmentTerms → ℕ
ending seen [] = 0
ending seen (g ∷ gs) = tally (ends_today seen g) + ending seen gs

deferred-one : (issued : Option IssuedRow) (seen : Seen) (g : SegmentTerms) (p : Posting) → one (posted_for issued (deferred_interest seen) g p) ≤ tally (ends_today seen g)
deferred-one issued seen g p =
    let accrued = interest (accrual seen p.book g) in
    let most = limited (issued_interest g.id p.amounts) issued (within_limit (owing g.id p.book.entries) (deferred_interest seen p.book g)) (deferred_interest seen p.book g) (omega arith) in
    let fewer = one-less (posted_for issued (deferred_interest seen) g p) (deferred_interest seen p.book g) most in
    less _ _ _ fewer (by (ends_today seen g) (ltb 0 (owing g.id p.book.entries)) accrued)
  where
    by : (t u : Bool) (n : ℕ) → one (cond (t && u) n 0) ≤ tally t
    by true true n = one-most n
    by true false n = omega arith
    by false u n = omega arith

    less : (x y z : ℕ) → x ≤ y → y ≤ z → x ≤ z
    less x y z a b = omega arith

deferred-weight : (issued : Option IssuedRow) (seen : Seen) (gs : List SegmentTerms) (p : Posting) → weight (post_interest issued seen (deferred_interest seen) gs p).book.entries ≤ weight p.book.entries + ending seen gs
unfolding post_interest
deferred-weight issued seen [] p = omega arith
deferred-weight issued seen (g ∷ gs) p =
    let x = posted_for issued (deferred_interest seen) g p in
    let here = debit-weight (interest_note seen) g.id x p.book.entries in
    let few = deferred-one issued seen g p in
    let rest = deferred-weight issued seen gs (post_one seen g x p) in
    chain _ _ _ _ _ (ending seen gs) here few rest
  where
    chain : (a b c k t n : ℕ) → b ≤ a + k → k ≤ t → c ≤ b + n → c ≤ a + (t + n)
    chain a b c k t n h f r = omega arith

pub record Closed (a : Account) (seen : Seen) (es new : List Entry) : Type 0 where
  pub few : weight new ≤ weight es + length (all_segments a seen) + ending seen (all_segments a seen)
  pub parts : KeepsParts es new

pub close-step : (issued : Option IssuedRow) (a : Account) (seen : Seen) (b : Book) → Closed a seen b.entries (close issued a seen b).entries
unfolding close closing_interest
close-step issued a seen b =
    let gs = all_segments a seen in
    let once = interest-weight issued seen _ gs (record { amounts = []; book = b }) in
    let twice = deferred-weight issued seen gs _ in
    record {
      few = sums _ _ _ (length gs) (ending seen gs) once twice;
      parts = λ n. less _ _ _ (interest-parts issued seen _ gs (record { amounts = []; book = b }) n) (interest-parts issued seen (deferred_interest seen) gs _ n);
    }
  where
    sums : (x y z n m : ℕ) → y ≤ x + n → z ≤ y + m → z ≤ x + n + m
    sums x y z n m a b = omega arith

    less : (x y z : ℕ) → y ≤ x → z ≤ y → z ≤ x
    less x y z a b = omega arith

-- ---- plans, whose periods end once
-- the segment that a corrected post adds
abbrev pub added : CorrectedPost → Option SegmentTerms
added s = segment_of s.segment s.number s.post

-- what posts promise
abbrev pub promised : ℕ → List CorrectedPost → ℕ
promised day [] = 0
promised day (s ∷ ss) = promise day s.post + promised day ss

-- a Plan's promise is kept once, on the day on which its period ends
ends-once : (d e : ℕ) (begun : Bool) (t : Bool) → tally ((t && begun && not (ltb e d)) && ltb e (d + 1)) + tally (leb (suc d) e) ≤ tally (leb d e)
ends-once d e begun t = by (cases_lt e d) (cases_lt d e)
  where
    most : (t u v : Bool) → tally ((t && u && v) && true) ≤ 1
    most true true true = omega arith
    most true true false = omega arith
    most true false v = omega arith
    most false u v = omega arith

    ended : (t u v : Bool) → tally ((t && u && false) && v) ≡ 0
    ended true true v = refl
    ended true false v = refl
    ended false u v = refl

    not-yet : (t u v : Bool) → tally ((t && u && v) && false) ≡ 0
    not-yet true true true = refl
    not-yet true true false = refl
    not-yet true false v = refl
    not-yet false u v = refl

    by : (e < d) ⊎ (d ≤ e) → (d < e) ⊎ (e ≤ d) → tally ((t && begun && not (ltb e d)) && ltb e (d + 1)) + tally (leb (suc d) e) ≤ tally (leb d e)
    by (inl l) u =
        let a : ltb e d ≡ true = grind (arith, nat_tests) in
        let b : leb (suc d) e ≡ false = grind (arith, nat_tests) in
        let none = ended t begun (ltb e (d + 1)) in
        rw (a, b) (let n = none in omega arith)
    by (inr l) (inl u) =
        let a : ltb e (d + 1) ≡ false = grind (arith, nat_tests) in
        let b : leb (suc d) e ≡ true = grind (arith, nat_tests) in
        let c : leb d e ≡ true = grind (arith, nat_tests) in
        let none = not-yet t begun (not (ltb e d)) in
        rw (a, b, c) (let n = none in omega arith)
    by (inr l) (inr u) =
        let a : ltb e (d + 1) ≡ true = grind (arith, nat_tests) in
        let b : leb (suc d) e ≡ false = grind (arith, nat_tests) in
        let c : leb d e ≡ true = grind (arith, nat_tests) in
        let few = most t begun (not (ltb e d)) in
        rw (a, b, c) (let n = few in omega arith)

ending-one : Seen → Option SegmentTerms → ℕ
ending-one seen None = 0
ending-one seen (Some g) = tally (ends_today seen g)

not-deferred : (c : Category) → is_sort sort.Deferred (sort_of_category c) ≡ false
not-deferred category.Purchase = refl
not-deferred category.Cash = refl
not-deferred category.Transfer = refl

one-promise : (seen : Seen) (id n : ℕ) (p : Post) → ending-one seen (segment_of id n p) + promise (suc seen.day) p ≤ promise seen.day p
unfolding ending-one
one-promise seen id n (post.Plan d k r e f) = ends-once seen.day e (leb d seen.day) (is_sort sort.Deferred (sort_of_plan k))
one-promise seen id n (post.Notice d y r e) = rw (not-deferred y) (omega arith)
one-promise seen id n (post.Open d u) = omega arith
one-promise seen id n (post.OpenVariable d u) = omega arith
one-promise seen id n (post.Charge d at x) = omega arith
one-promise seen id n (post.Credit d at x) = omega arith
one-promise seen id n (post.Payment d m y x) = omega arith
one-promise seen id n (post.Return d t) = omega arith
one-promise seen id n (post.Lower d y r) = omega arith
one-promise seen id n post.Penalty = omega arith
one-promise seen id n (post.Review d f) = omega arith
one-promise seen id n (post.Dispute d t c) = omega arith
one-promise seen id n (post.Ack d u) = omega arith
one-promise seen id n (post.Resolve d t c) = omega arith
one-promise seen id n (post.AskRefund d) = omega arith
one-promise seen id n (post.Refund c) = omega arith
one-promise seen id n (post.Amend u d c) = omega arith
one-promise seen id n (post.Bill c) = omega arith

ending-cons : (seen : Seen) (o : Option SegmentTerms) (gs : List SegmentTerms) → ending seen (cons_option o gs) ≡ ending-one seen o + ending seen gs
unfolding ending-one
ending-cons seen None gs = omega arith
ending-cons seen (Some g) gs = refl

ending-added : (seen : Seen) (ss : List CorrectedPost) → ending seen (filter_map added ss) + promised (suc seen.day) ss ≤ promised seen.day ss
ending-added seen [] = omega arith
ending-added seen (s ∷ ss) =
    let here = one-promise seen s.segment s.number s.post in
    let rest = ending-added seen ss in
    let all = ending-cons seen (added s) (filter_map added ss) in
    sums _ _ _ _ _ _ _ all here rest
  where
    sums : (x a b p q u v : ℕ) → x ≡ a + b → a + p ≤ u → b + q ≤ v → x + (p + q) ≤ u + v
    sums x a b p q u v e h r = omega arith

-- the periods that end today are promised for today, and not for tomorrow
pub ending-promised : (seen : Seen) (a : Anchor) (terms : Terms) (ss : List CorrectedPost) → ending seen (segments a terms ss) + promised (suc seen.day) ss ≤ promised seen.day ss
unfolding segments
ending-promised seen a terms ss = let h = ending-added seen ss in omega (arith, h)
