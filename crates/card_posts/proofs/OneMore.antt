-- What one more post changes.
use Rattle.std.proofs.Common.{◌≡◌, ℕ, zero, suc, ◌+◌, ◌<◌, ◌≤◌, max, false, cond, List, [], ◌∷◌, ◌++◌, length, refl, ap, ◌∙◌, subst, arith, Option, Some, None}
use Rattle.std.specs.List.{sum_by}
use Rattle.std.specs.Option.{option_or}
use Rattle.std.specs.Prelude.{slice_get}
use Rattle.std.proofs.lemmas.List.Sums.{sum_by-append, sum_by-cons}
use Rattle.card_events.specs.Business.{credit_day, is_mail}
use Rattle.card_events.specs.declared.anchor.Anchor.{Anchor}
use Rattle.card_events.specs.History.{amend_of, amended_cents, amended_day, at_number, cents_of, charge_day, confirmed, confirms, dispute_day, dispute_names, effective_day, last_amend, payment_day}
use Rattle.card_events.specs.declared.kept.Kept.{Kept}
use Rattle.card_events.specs.declared.post.Post.{Post}
use Rattle.card_events.specs.declared.post.Post.TheVariants as post
use Rattle.card_events.proofs.OneMore.{more, number-more}
use Rattle.card_posts.specs.Corrections.{corrects}
use Rattle.card_posts.specs.Effect.{effect_of, effects_from}
use Rattle.card_posts.specs.Posted.{target_of}
use Rattle.card_posts.specs.Stored.{NameEarlier}

pub last_amend-more : (n : ℕ) (h : List Kept) (k : Kept) → last_amend n (more h k) ≡ option_or (amend_of n k.post) (last_amend n h)
unfolding last_amend
last_amend-more n [] k = none (amend_of n k.post)
  where
    none : (o : Option (ℕ × ℕ)) → option_or None o ≡ option_or o None
    none None = refl
    none (Some x) = refl
last_amend-more n (q ∷ h) k = ap (λ o. option_or o (amend_of n q.post)) (last_amend-more n h k) ∙ assoc (amend_of n k.post) (last_amend n h) (amend_of n q.post)
  where
    assoc : (a b c : Option (ℕ × ℕ)) → option_or (option_or a b) c ≡ option_or a (option_or b c)
    assoc None b c = refl
    assoc (Some x) b c = refl

confirms-more : (n : ℕ) (h : List Kept) (k : Kept) (p : Post) → target_of p ≤ length h → confirms n (more h k) p ≡ confirms n h p
confirms-more n h k (post.Open d t) l = refl
confirms-more n h k (post.OpenVariable d t) l = refl
confirms-more n h k (post.Charge d p c) l = refl
confirms-more n h k (post.Credit d p c) l = refl
confirms-more n h k (post.Payment d i y c) l = refl
confirms-more n h k (post.Return d t) l = refl
confirms-more n h k (post.Plan d v r w f) l = refl
confirms-more n h k (post.Notice d y r w) l = refl
confirms-more n h k (post.Lower d y r) l = refl
confirms-more n h k post.Penalty l = refl
confirms-more n h k (post.Review d f) l = refl
confirms-more n h k (post.Dispute d t c) l = refl
confirms-more n h k (post.Ack d t) l = refl
confirms-more n h k (post.Resolve d t c) l = ap (λ o. cond (dispute_names n o) c 0) (number-more t h k l)
confirms-more n h k (post.AskRefund d) l = refl
confirms-more n h k (post.Refund c) l = refl
confirms-more n h k (post.Amend t d c) l = refl
confirms-more n h k (post.Bill c) l = refl

sum-more : (n m : ℕ) (h : List Kept) (k : Kept) (ks : List Kept) → NameEarlier m ks → m + length ks ≤ length h + 1 → sum_by (λ (q : Kept). confirms n (more h k) q.post) ks ≡ sum_by (λ (q : Kept). confirms n h q.post) ks
unfolding NameEarlier
sum-more n m h k [] e l = refl
sum-more n m h k (q ∷ ks) e l =
    let one : confirms n (more h k) q.post ≡ confirms n h q.post = confirms-more n h k q.post (omega (arith, e.0, l)) in
    let rest : sum_by (λ (q : Kept). confirms n (more h k) q.post) ks ≡ sum_by (λ (q : Kept). confirms n h q.post) ks = sum-more n (suc m) h k ks e.1 (omega (arith, l)) in
    let left : sum_by (λ (q : Kept). confirms n (more h k) q.post) (q ∷ ks) ≡ confirms n (more h k) q.post + sum_by (λ (q : Kept). confirms n (more h k) q.post) ks = sum_by-cons (λ (q : Kept). confirms n (more h k) q.post) q ks in
    let right : sum_by (λ (q : Kept). confirms n h q.post) (q ∷ ks) ≡ confirms n h q.post + sum_by (λ (q : Kept). confirms n h q.post) ks = sum_by-cons (λ (q : Kept). confirms n h q.post) q ks in
    omega (arith, one, rest, left, right)

pub confirmed-more : (n : ℕ) (h : List Kept) (k : Kept) → NameEarlier 1 h → target_of k.post ≤ length h → confirmed n (more h k) ≡ confirmed n h + confirms n h k.post
unfolding confirmed
confirmed-more n h k e l =
    let add : sum_by (λ (q : Kept). confirms n (more h k) q.post) (h ++ k ∷ []) ≡ sum_by (λ (q : Kept). confirms n (more h k) q.post) h + sum_by (λ (q : Kept). confirms n (more h k) q.post) (k ∷ []) = sum_by-append (λ (q : Kept). confirms n (more h k) q.post) h (k ∷ []) in
    let rest : sum_by (λ (q : Kept). confirms n (more h k) q.post) h ≡ sum_by (λ (q : Kept). confirms n h q.post) h = sum-more n 1 h k h e (omega arith) in
    let one : confirms n (more h k) k.post ≡ confirms n h k.post = confirms-more n h k k.post l in
    let last : sum_by (λ (q : Kept). confirms n (more h k) q.post) (k ∷ []) ≡ confirms n (more h k) k.post = omega arith in
    omega (arith, add, rest, one, last)

pub plain-amend : (n : ℕ) (h : List Kept) (k : Kept) → corrects k.post ≡ false → last_amend n (more h k) ≡ last_amend n h
plain-amend n h k e = last_amend-more n h k ∙ at k.post e
  where
    at : (p : Post) → corrects p ≡ false → option_or (amend_of n p) (last_amend n h) ≡ last_amend n h
    at (post.Open d t) e = refl
    at (post.OpenVariable d t) e = refl
    at (post.Charge d p c) e = refl
    at (post.Credit d p c) e = refl
    at (post.Payment d i y c) e = refl
    at (post.Return d t) e = refl
    at (post.Plan d v r w f) e = refl
    at (post.Notice d y r w) e = refl
    at (post.Lower d y r) e = refl
    at post.Penalty e = refl
    at (post.Review d f) e = refl
    at (post.Dispute d t c) e = refl
    at (post.Ack d t) e = refl
    at (post.Resolve d t c) e = absurd (cc)
    at (post.AskRefund d) e = refl
    at (post.Refund c) e = refl
    at (post.Amend t d c) e = absurd (cc)
    at (post.Bill c) e = refl

pub plain-confirmed : (n : ℕ) (h : List Kept) (k : Kept) → NameEarlier 1 h → target_of k.post ≤ length h → corrects k.post ≡ false → confirmed n (more h k) ≡ confirmed n h
plain-confirmed n h k e l f = let m = confirmed-more n h k e l in let z : confirms n h k.post ≡ 0 = at k.post f in omega (arith, m, z)
  where
    at : (p : Post) → corrects p ≡ false → confirms n h p ≡ 0
    at (post.Open d t) e = refl
    at (post.OpenVariable d t) e = refl
    at (post.Charge d p c) e = refl
    at (post.Credit d p c) e = refl
    at (post.Payment d i y c) e = refl
    at (post.Return d t) e = refl
    at (post.Plan d v r w f) e = refl
    at (post.Notice d y r w) e = refl
    at (post.Lower d y r) e = refl
    at post.Penalty e = refl
    at (post.Review d f) e = refl
    at (post.Dispute d t c) e = refl
    at (post.Ack d t) e = refl
    at (post.Resolve d t c) e = absurd (cc)
    at (post.AskRefund d) e = refl
    at (post.Refund c) e = refl
    at (post.Amend t d c) e = refl
    at (post.Bill c) e = refl

-- two histories in which the same stands for each post up to a number
pub record Agree (h k : List Kept) (top : ℕ) : Type 0 where
  pub amends : (n : ℕ) → last_amend n h ≡ last_amend n k
  pub confirms : (n : ℕ) → confirmed n h ≡ confirmed n k
  pub posts : (n : ℕ) → n ≤ top → at_number n h ≡ at_number n k

charge-agree : (h g : List Kept) (n : ℕ) → last_amend n h ≡ last_amend n g → (o : Option Kept) → charge_day h n o ≡ charge_day g n o
charge-agree h g n a None = refl
charge-agree h g n a (Some k) = by k.post
  where
    by : (p : Post) → charge_day h n (Some (record { number = k.number; key = k.key; accepted = k.accepted; post = p })) ≡ charge_day g n (Some (record { number = k.number; key = k.key; accepted = k.accepted; post = p }))
    by (post.Open d t) = refl
    by (post.OpenVariable d t) = refl
    by (post.Charge d p c) = ap (λ o. amended_day o d) a
    by (post.Credit d p c) = refl
    by (post.Payment d i y c) = refl
    by (post.Return d t) = refl
    by (post.Plan d v r w f) = refl
    by (post.Notice d y r w) = refl
    by (post.Lower d y r) = refl
    by post.Penalty = refl
    by (post.Review d f) = refl
    by (post.Dispute d t c) = refl
    by (post.Ack d t) = refl
    by (post.Resolve d t c) = refl
    by (post.AskRefund d) = refl
    by (post.Refund c) = refl
    by (post.Amend t d c) = refl
    by (post.Bill c) = refl

payment-agree : (a : Anchor) (holidays : List ℕ) (h g : List Kept) (n : ℕ) → last_amend n h ≡ last_amend n g → (o : Option Kept) → payment_day a holidays h n o ≡ payment_day a holidays g n o
payment-agree a holidays h g n e None = refl
payment-agree a holidays h g n e (Some k) = by k.post
  where
    by : (p : Post) → payment_day a holidays h n (Some (record { number = k.number; key = k.key; accepted = k.accepted; post = p })) ≡ payment_day a holidays g n (Some (record { number = k.number; key = k.key; accepted = k.accepted; post = p }))
    by (post.Open d t) = refl
    by (post.OpenVariable d t) = refl
    by (post.Charge d p c) = refl
    by (post.Credit d p c) = refl
    by (post.Payment d i y c) = ap (λ o. credit_day a holidays (amended_day o d) i (is_mail y)) e
    by (post.Return d t) = refl
    by (post.Plan d v r w f) = refl
    by (post.Notice d y r w) = refl
    by (post.Lower d y r) = refl
    by post.Penalty = refl
    by (post.Review d f) = refl
    by (post.Dispute d t c) = refl
    by (post.Ack d t) = refl
    by (post.Resolve d t c) = refl
    by (post.AskRefund d) = refl
    by (post.Refund c) = refl
    by (post.Amend t d c) = refl
    by (post.Bill c) = refl

-- the target of an earlier post lies below it
target-place : (i n : ℕ) (h : List Kept) (k : Kept) → NameEarlier n h → slice_get h i ≡ Some k → target_of k.post < n + i
unfolding NameEarlier
target-place i n [] k e f = let no : None ≡ Some k = f in absurd (cc)
target-place zero n (q ∷ h) k e f = let same : q ≡ k = some q k f in subst (λ (u : Kept). target_of u.post < n + 0) same (omega (arith, e.0))
  where
    some : (x y : Kept) → Some x ≡ Some y → x ≡ y
    some x y e = cc
target-place (suc i) n (q ∷ h) k e f = let r = target-place i (suc n) h k e.1 f in omega (arith, r)

pub target-below : (t : ℕ) (h : List Kept) (k : Kept) → NameEarlier 1 h → at_number t h ≡ Some k → target_of k.post < t
target-below zero h k e f = let no : None ≡ Some k = f in absurd (cc)
target-below (suc t) h k e f = let r = target-place t 1 h k e f in omega (arith, r)

dispute-agree : (h g : List Kept) (top t : ℕ) → Agree h g top → NameEarlier 1 g → t ≤ top → (o : Option Kept) → at_number t g ≡ o → dispute_day h o ≡ dispute_day g o
dispute-agree h g top t a e l None f = refl
dispute-agree h g top t a e l (Some k) f = by k.post (target-below t g k e f)
  where
    by : (p : Post) → target_of p < t → dispute_day h (Some (record { number = k.number; key = k.key; accepted = k.accepted; post = p })) ≡ dispute_day g (Some (record { number = k.number; key = k.key; accepted = k.accepted; post = p }))
    by (post.Open d t) b = refl
    by (post.OpenVariable d t) b = refl
    by (post.Charge d p c) b = refl
    by (post.Credit d p c) b = refl
    by (post.Payment d i y c) b = refl
    by (post.Return d t) b = refl
    by (post.Plan d v r w f) b = refl
    by (post.Notice d y r w) b = refl
    by (post.Lower d y r) b = refl
    by post.Penalty b = refl
    by (post.Review d f) b = refl
    by (post.Dispute d u c) b = ap (λ x. max d x) (ap (charge_day h u) (a.posts u (omega (arith, b, l))) ∙ charge-agree h g u (a.amends u) (at_number u g))
    by (post.Ack d t) b = refl
    by (post.Resolve d t c) b = refl
    by (post.AskRefund d) b = refl
    by (post.Refund c) b = refl
    by (post.Amend t d c) b = refl
    by (post.Bill c) b = refl

pub day-agree : (a : Anchor) (holidays : List ℕ) (h g : List Kept) (top : ℕ) → Agree h g top → NameEarlier 1 g → (n accepted : ℕ) (p : Post) → target_of p ≤ top → effective_day a holidays h n accepted p ≡ effective_day a holidays g n accepted p
unfolding effective_day
day-agree a holidays h g top s e n accepted (post.Open d t) l = refl
day-agree a holidays h g top s e n accepted (post.OpenVariable d t) l = refl
day-agree a holidays h g top s e n accepted (post.Charge d p c) l = ap (λ o. amended_day o d) (s.amends n)
day-agree a holidays h g top s e n accepted (post.Credit d p c) l = ap (λ o. amended_day o d) (s.amends n)
day-agree a holidays h g top s e n accepted (post.Payment d i y c) l = ap (λ o. credit_day a holidays (amended_day o d) i (is_mail y)) (s.amends n)
day-agree a holidays h g top s e n accepted (post.Return d t) l = ap (λ x. max d x) (ap (payment_day a holidays h t) (s.posts t l) ∙ payment-agree a holidays h g t (s.amends t) (at_number t g))
day-agree a holidays h g top s e n accepted (post.Plan d v r w f) l = refl
day-agree a holidays h g top s e n accepted (post.Notice d y r w) l = refl
day-agree a holidays h g top s e n accepted (post.Lower d y r) l = refl
day-agree a holidays h g top s e n accepted post.Penalty l = refl
day-agree a holidays h g top s e n accepted (post.Review d f) l = refl
day-agree a holidays h g top s e n accepted (post.Dispute d t c) l = ap (λ x. max d x) (ap (charge_day h t) (s.posts t l) ∙ charge-agree h g t (s.amends t) (at_number t g))
day-agree a holidays h g top s e n accepted (post.Ack d t) l = refl
day-agree a holidays h g top s e n accepted (post.Resolve d t c) l = ap (λ x. max d x) (ap (dispute_day h) (s.posts t l) ∙ dispute-agree h g top t s e l (at_number t g) refl)
day-agree a holidays h g top s e n accepted (post.AskRefund d) l = refl
day-agree a holidays h g top s e n accepted (post.Refund c) l = refl
day-agree a holidays h g top s e n accepted (post.Amend t d c) l = refl
day-agree a holidays h g top s e n accepted (post.Bill c) l = refl

pub cents-agree : (h g : List Kept) (n : ℕ) (p : Post) → last_amend n h ≡ last_amend n g → confirmed n h ≡ confirmed n g → cents_of h n p ≡ cents_of g n p
unfolding cents_of
cents-agree h g n (post.Open d t) f e = refl
cents-agree h g n (post.OpenVariable d t) f e = refl
cents-agree h g n (post.Charge d p c) f e = rw (f, e) refl
cents-agree h g n (post.Credit d p c) f e = ap (λ o. amended_cents o c) f
cents-agree h g n (post.Payment d i y c) f e = ap (λ o. amended_cents o c) f
cents-agree h g n (post.Return d t) f e = refl
cents-agree h g n (post.Plan d v r w s) f e = refl
cents-agree h g n (post.Notice d y r w) f e = refl
cents-agree h g n (post.Lower d y r) f e = refl
cents-agree h g n post.Penalty f e = refl
cents-agree h g n (post.Review d s) f e = refl
cents-agree h g n (post.Dispute d t c) f e = refl
cents-agree h g n (post.Ack d t) f e = refl
cents-agree h g n (post.Resolve d t c) f e = refl
cents-agree h g n (post.AskRefund d) f e = refl
cents-agree h g n (post.Refund c) f e = refl
cents-agree h g n (post.Amend t d c) f e = refl
cents-agree h g n (post.Bill c) f e = refl

pub effects-agree : (a : Anchor) (holidays : List ℕ) (h g : List Kept) (top : ℕ) → Agree h g top → NameEarlier 1 g → (n : ℕ) (ks : List Kept) → NameEarlier n ks → n + length ks ≤ top + 1 → effects_from a holidays h n ks ≡ effects_from a holidays g n ks
unfolding effects_from NameEarlier
effects-agree a holidays h g top s e n [] f l = refl
effects-agree a holidays h g top s e n (k ∷ ks) f l =
    let day : effective_day a holidays h n k.accepted k.post ≡ effective_day a holidays g n k.accepted k.post = day-agree a holidays h g top s e n k.accepted k.post (omega (arith, f.0, l)) in
    let cents : cents_of h n k.post ≡ cents_of g n k.post = cents-agree h g n k.post (s.amends n) (s.confirms n) in
    let rest : effects_from a holidays h (suc n) ks ≡ effects_from a holidays g (suc n) ks = effects-agree a holidays h g top s e (suc n) ks f.1 (omega (arith, l)) in
    rw (day, cents, rest) refl

-- a post that corrects nothing leaves what stands for the others
pub plain-agree : (h : List Kept) (k : Kept) → NameEarlier 1 h → target_of k.post ≤ length h → corrects k.post ≡ false → Agree (more h k) h (length h)
plain-agree h k e l f = record {
  amends = λ n. plain-amend n h k f;
  confirms = λ n. plain-confirmed n h k e l f;
  posts = λ n m. number-more n h k m;
}

-- and so what counts for them
pub plain-effects : (a : Anchor) (holidays : List ℕ) (h : List Kept) (k : Kept) → NameEarlier 1 h → target_of k.post ≤ length h → corrects k.post ≡ false → effects_from a holidays (more h k) 1 h ≡ effects_from a holidays h 1 h
plain-effects a holidays h k e l f = effects-agree a holidays (more h k) h (length h) (plain-agree h k e l f) e 1 h e (omega arith)

pub effects-append : (a : Anchor) (holidays : List ℕ) (h : List Kept) (n : ℕ) (ks : List Kept) (k : Kept) → effects_from a holidays h n (ks ++ k ∷ []) ≡ effects_from a holidays h n ks ++ effect_of a holidays h (n + length ks) k ∷ []
unfolding effects_from
effects-append a holidays h n [] k = let e : n ≡ n + 0 = omega arith in ap (λ m. effect_of a holidays h m k ∷ []) e
effects-append a holidays h n (q ∷ ks) k = let e : suc n + length ks ≡ n + suc (length ks) = omega arith in ap (λ u. effect_of a holidays h n q ∷ u) (effects-append a holidays h (suc n) ks k ∙ ap (λ m. effects_from a holidays h (suc n) ks ++ effect_of a holidays h m k ∷ []) e)

pub effects-length : (a : Anchor) (holidays : List ℕ) (h : List Kept) (n : ℕ) (ks : List Kept) → length (effects_from a holidays h n ks) ≡ length ks
unfolding effects_from
effects-length a holidays h n [] = refl
effects-length a holidays h n (k ∷ ks) = ap suc (effects-length a holidays h (suc n) ks)

pub names-append : (n : ℕ) (ks : List Kept) (k : Kept) → NameEarlier n ks → target_of k.post < n + length ks → NameEarlier n (ks ++ k ∷ [])
unfolding NameEarlier
names-append n [] k e l = (omega (arith, l), tt)
names-append n (q ∷ ks) k e l = (e.0, names-append (suc n) ks k e.1 (omega (arith, l)))
