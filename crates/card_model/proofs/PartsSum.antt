-- The parts of a payment are no more than its cents, and segments ascend.
use Rattle.std.proofs.Common.{◌≡◌, ℕ, zero, suc, ◌+◌, ◌-◌, ◌≤◌, Bool, true, false, cond, List, [], ◌∷◌, refl, subst, arith, Option, Some, None, eqb, map}
use Rattle.std.specs.List.{filter, filter_map, cons_option}
use Rattle.std.proofs.lemmas.Bool.{eqb-true}
use Rattle.std.specs.Prelude.{min}
use Rattle.card_events.specs.declared.anchor.Anchor.{Anchor}
use Rattle.card_events.specs.History.{CorrectedPost, adds_segment, corrected_from, corrected_post, next_segment}
use Rattle.card_events.specs.declared.kept.Kept.{Kept}
use Rattle.card_events.specs.declared.post.Place.{Place}
use Rattle.card_events.specs.declared.post.Post.{Post}
use Rattle.card_model.specs.Allocation.{Ascends, Paying, allocated, excess_rule, minimum_rule, paid_at, paid_on, part_of, parts, pay, place_rule, placed, takes, untouched}
use Rattle.card_model.specs.Books.{Account, Book, all_segments}
use Rattle.card_model.specs.Cycles.{Seen, last_cycle}
use Rattle.card_model.specs.Effects.{credit_parts, holding, holdings, payment_parts}
use Rattle.card_model.specs.Payments.{minimum_left}
use Rattle.card_model.specs.Segments.{SegmentTerms, segment_of, segments}
use Rattle.card_model.specs.declared.holding.Holding.{Holding}
use Rattle.card_events.specs.declared.post.Post.TheVariants as post
use Rattle.card_model.proofs.WholeParts.{paid_at-other, paid_at-ascends}

-- the cents of parts
abbrev pub parts_sum : List (ℕ × ℕ) → ℕ
parts_sum [] = 0
parts_sum (p ∷ ps) = p.1 + parts_sum ps

abbrev pub paid_sum : List Holding → ℕ
paid_sum [] = 0
paid_sum (h ∷ hs) = h.paid + paid_sum hs

paid_at-sum : (id n low : ℕ) (hs : List Holding) → Ascends low hs → paid_sum (paid_at id n hs) ≤ paid_sum hs + n
unfolding paid_at
paid_at-sum id n low [] a = omega arith
paid_at-sum id n low (h ∷ hs) a = by (eqb h.id id) refl (paid_at-sum id n (h.id + 1) hs a.1)
  where
    by : (t : Bool) → eqb h.id id ≡ t → paid_sum (paid_at id n hs) ≤ paid_sum hs + n → paid_sum (cond t (paid_on n h) h ∷ paid_at id n hs) ≤ h.paid + paid_sum hs + n
    by true e i =
        let same : h.id ≡ id = eqb-true h.id id e in
        let rest : paid_at id n hs ≡ hs = paid_at-other id n (h.id + 1) hs (omega arith) a.1 in
        rw rest (omega arith)
    by false e i = omega arith

abbrev total_of : Paying → ℕ
total_of s = s.credit + paid_sum s.left

takes-sum : (low : ℕ) (s : Paying) (o : Option Holding) → Ascends low s.left → (total_of (takes 1 s o) ≤ total_of s + 1) × Ascends low (takes 1 s o).left
takes-sum low s None a = (omega arith, a)
takes-sum low s (Some h) a = (let l = paid_at-sum h.id 1 low s.left a in omega arith, paid_at-ascends h.id 1 low s.left a)

pay-sum : (rule : List Holding → Option Holding) (n low : ℕ) (s : Paying) → Ascends low s.left → (total_of (pay rule n s) ≤ total_of s + n) × Ascends low (pay rule n s).left
unfolding pay
pay-sum rule zero low s a = (omega arith, a)
pay-sum rule (suc n) low s a =
    let one = takes-sum low s (rule s.left) a in
    let rest = pay-sum rule n low (takes 1 s (rule s.left)) one.1 in
    (chain (total_of s) (total_of (takes 1 s (rule s.left))) _ n one.0 rest.0, rest.1)
  where
    chain : (x y z n : ℕ) → y ≤ x + 1 → z ≤ y + n → z ≤ x + suc n
    chain x y z n l m = omega arith

parts_of-sum : (hs : List Holding) → parts_sum (filter_map part_of hs) ≡ paid_sum hs
parts_of-sum [] = refl
parts_of-sum (h ∷ hs) = by (eqb h.paid 0) refl (parts_of-sum hs)
  where
    by : (t : Bool) → eqb h.paid 0 ≡ t → parts_sum (filter_map part_of hs) ≡ paid_sum hs → parts_sum (cons_option (cond t None (Some (h.id, h.paid))) (filter_map part_of hs)) ≡ h.paid + paid_sum hs
    by true e i = let none : h.paid ≡ 0 = eqb-true h.paid 0 e in omega arith
    by false e i = omega arith

parts-sum : (s : Paying) → parts_sum (parts s) ≡ total_of s
parts-sum s = by (eqb s.credit 0) refl
  where
    by : (t : Bool) → eqb s.credit 0 ≡ t → parts_sum (cond t (filter_map part_of s.left) ((0, s.credit) ∷ filter_map part_of s.left)) ≡ s.credit + paid_sum s.left
    by true e = let none : s.credit ≡ 0 = eqb-true s.credit 0 e in omega (arith, parts_of-sum s.left)
    by false e = omega (arith, parts_of-sum s.left)

pub allocated-sum : (minimum amount low : ℕ) (hs : List Holding) → Ascends low hs → paid_sum hs ≡ 0 → minimum ≤ amount → parts_sum (allocated minimum amount hs) ≤ amount
allocated-sum minimum amount low hs a z l =
    let first = pay-sum minimum_rule minimum low (untouched hs) a in
    let s = pay minimum_rule minimum (untouched hs) in
    let second = pay-sum excess_rule (amount - minimum) low s first.1 in
    let sum = parts-sum (pay excess_rule (amount - minimum) s) in
    close-up (paid_sum hs) (total_of s) (total_of (pay excess_rule (amount - minimum) s)) _ minimum amount z first.0 second.0 sum l
  where
    close-up : (p x y q m n : ℕ) → p ≡ 0 → x ≤ 0 + p + m → y ≤ x + (n - m) → q ≡ y → m ≤ n → q ≤ n
    close-up p x y q m n z a b c l = omega arith

pub placed-sum : (amount low : ℕ) (hs : List Holding) → Ascends low hs → paid_sum hs ≡ 0 → parts_sum (placed amount hs) ≤ amount
placed-sum amount low hs a z =
    let first = pay-sum place_rule amount low (untouched hs) a in
    let sum = parts-sum (pay place_rule amount (untouched hs)) in
    close-up (paid_sum hs) (total_of (pay place_rule amount (untouched hs))) _ amount z first.0 sum
  where
    close-up : (p x q n : ℕ) → p ≡ 0 → x ≤ 0 + p + n → q ≡ x → q ≤ n
    close-up p x q n z a c = omega arith

-- ---- segments ascend
abbrev pub SegmentsAscend : ℕ → List SegmentTerms → Type 0
SegmentsAscend low [] = Unit {0}
SegmentsAscend low (g ∷ gs) = (low ≤ g.id) × SegmentsAscend (g.id + 1) gs

pub holdings-ascend : (a : Account) (seen : Seen) (b : Book) (p : Option Place) (low : ℕ) (gs : List SegmentTerms) → SegmentsAscend low gs → Ascends low (map (holding a seen b p) gs)
holdings-ascend a seen b p low [] h = tt
holdings-ascend a seen b p low (g ∷ gs) h = (h.0, holdings-ascend a seen b p (g.id + 1) gs h.1)

unpaid : (a : Account) (seen : Seen) (b : Book) (p : Option Place) (gs : List SegmentTerms) → paid_sum (map (holding a seen b p) gs) ≡ 0
unpaid a seen b p [] = refl
unpaid a seen b p (g ∷ gs) = omega (arith, unpaid a seen b p gs)

-- the posts that add segments have ascending numbers of segments
abbrev pub Rises : ℕ → List CorrectedPost → Type 0
Rises low [] = Unit {0}
Rises low (s ∷ ss) = (adds_segment s.post ≡ true → (low ≤ s.segment) × Rises (s.segment + 1) ss) × (adds_segment s.post ≡ false → Rises low ss)

rises-later : (low more : ℕ) (ss : List CorrectedPost) → low ≤ more → Rises more ss → Rises low ss
rises-later low more [] l h = tt
rises-later low more (s ∷ ss) l h = (λ e. let r = h.0 e in (let m = r.0 in omega arith, r.1), λ e. rises-later low more ss l (h.1 e))

pub rises-filter : (p : CorrectedPost → Bool) (low : ℕ) (ss : List CorrectedPost) → Rises low ss → Rises low (filter p ss)
rises-filter p low [] h = tt
rises-filter p low (s ∷ ss) h = by (p s) (adds_segment s.post) refl (λ e. let r = h.0 e in (r.0, rises-filter p (s.segment + 1) ss r.1)) (λ e. rises-filter p low ss (h.1 e))
  where
    by : (t u : Bool) → adds_segment s.post ≡ u → (adds_segment s.post ≡ true → (low ≤ s.segment) × Rises (s.segment + 1) (filter p ss)) → (adds_segment s.post ≡ false → Rises low (filter p ss)) → Rises low (cond t (s ∷ filter p ss) (filter p ss))
    by true u e f g = (f, g)
    by false true e f g = let r = f e in let m = r.0 in rises-later low (s.segment + 1) (filter p ss) (omega arith) r.1
    by false false e f g = g e

pub slots-rise : (a : Anchor) (holidays : List ℕ) (history : List Kept) (n id : ℕ) (ks : List Kept) → Rises id (corrected_from a holidays history n id ks)
unfolding corrected_from corrected_post
slots-rise a holidays history n id [] = tt
slots-rise a holidays history n id (k ∷ ks) =
    let rest = slots-rise a holidays history (suc n) (next_segment id k.post) ks in
    (λ e. (omega arith, subst (λ u. Rises (cond u (id + 1) id) (corrected_from a holidays history (suc n) (next_segment id k.post) ks)) e rest), λ e. subst (λ u. Rises (cond u (id + 1) id) (corrected_from a holidays history (suc n) (next_segment id k.post) ks)) e rest)

added-ascend : (low : ℕ) (ss : List CorrectedPost) → Rises low ss → SegmentsAscend low (filter_map (λ s. segment_of s.segment s.number s.post) ss)
added-ascend low [] h = tt
added-ascend low (s ∷ ss) h = by s.post (λ e. let r = h.0 e in (r.0, added-ascend (s.segment + 1) ss r.1)) (λ e. added-ascend low ss (h.1 e))
  where
    rest : List SegmentTerms
    rest = filter_map (λ s. segment_of s.segment s.number s.post) ss

    by : (p : Post) → (adds_segment p ≡ true → (low ≤ s.segment) × SegmentsAscend (s.segment + 1) rest) → (adds_segment p ≡ false → SegmentsAscend low rest) → SegmentsAscend low (cons_option (segment_of s.segment s.number p) rest)
    by (post.Plan d k r e f) t u = t refl
    by (post.Notice d c r e) t u = t refl
    by (post.Open d t') t u = u refl
    by (post.OpenVariable d t') t u = u refl
    by (post.Charge d p c) t u = u refl
    by (post.Credit d p c) t u = u refl
    by (post.Payment d m y c) t u = u refl
    by (post.Return d t') t u = u refl
    by (post.Lower d c r) t u = u refl
    by post.Penalty t u = u refl
    by (post.Review d f) t u = u refl
    by (post.Dispute d t' c) t u = u refl
    by (post.Ack d t') t u = u refl
    by (post.Resolve d t' c) t u = u refl
    by (post.AskRefund d) t u = u refl
    by (post.Refund c) t u = u refl
    by (post.Amend t' d c) t u = u refl
    by (post.Bill c) t u = u refl

pub segments-ascend : (a : Account) (seen : Seen) → Rises 5 seen.posts → SegmentsAscend 2 (all_segments a seen)
unfolding segments
segments-ascend a seen h = (omega arith, (omega arith, (omega arith, added-ascend 5 seen.posts h)))

pub payment_parts-sum : (a : Account) (seen : Seen) (s : CorrectedPost) (b : Book) → Rises 5 seen.posts → parts_sum (payment_parts a seen s b) ≤ s.cents
unfolding payment_parts
payment_parts-sum a seen s b h =
    allocated-sum (min s.cents (minimum_left seen s (last_cycle b.cycles))) s.cents 2 (holdings a seen b None) (holdings-ascend a seen b None 2 (all_segments a seen) (segments-ascend a seen h)) (unpaid a seen b None (all_segments a seen)) (omega arith)

pub credit_parts-sum : (a : Account) (seen : Seen) (s : CorrectedPost) (p : Place) (b : Book) → Rises 5 seen.posts → parts_sum (credit_parts a seen s p b) ≤ s.cents
unfolding credit_parts
credit_parts-sum a seen s p b h =
    placed-sum s.cents 2 (holdings a seen b (Some p)) (holdings-ascend a seen b (Some p) 2 (all_segments a seen) (segments-ascend a seen h)) (unpaid a seen b (Some p) (all_segments a seen))
