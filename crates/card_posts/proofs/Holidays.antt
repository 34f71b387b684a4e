-- Holidays after the last day of acceptance change nothing.
use Rattle.std.proofs.Common.{◌≡◌, ℕ, zero, suc, ◌≤◌, max, Bool, true, false, cond, ◌==◌, List, [], ◌∷◌, refl, ap, subst, arith, Option, Some, None}
use Rattle.std.specs.Option.{option_or}
use Rattle.std.specs.Prelude.{slice_get}
use Rattle.card_events.specs.Business.{AgreeUpTo, credit_day, is_mail}
use Rattle.card_events.specs.declared.anchor.Anchor.{Anchor}
use Rattle.card_events.proofs.Agree.{credit_day-agrees}
use Rattle.card_events.specs.History.{amend_of, amended_day, at_number, corrected_from, corrected_post, effective_day, last_amend, next_segment, payment_day}
use Rattle.card_events.specs.declared.kept.Kept.{Kept}
use Rattle.card_events.specs.declared.post.Post.{Post}
use Rattle.card_events.specs.declared.post.Post.TheVariants as post
use Rattle.card_posts.specs.Posted.{IsReceived, last_accepted}
use Rattle.card_posts.specs.Stored.{AreTimely}

-- the day that an Amend gives, if there is one, is none after a last day
abbrev IsAmendBy : ℕ → Option (ℕ × ℕ) → Type 0
IsAmendBy last None = Unit {0}
IsAmendBy last (Some amend) = amend.0 ≤ last

-- a payment came in by then
abbrev IsPaidBy : ℕ → Post → Type 0
IsPaidBy last (post.Payment day _ _ _) = day ≤ last
IsPaidBy last _ = Unit {0}

-- and so for posts
unfoldable AreBy : ℕ → List Kept → Type 0
AreBy last [] = Unit {0}
AreBy last (k ∷ ks) = IsPaidBy last k.post × ((n : ℕ) → IsAmendBy last (amend_of n k.post)) × AreBy last ks

one-paid : (opened accepted last : ℕ) (p : Post) → IsReceived opened accepted p → accepted ≤ last → IsPaidBy last p
one-paid opened accepted last (post.Open d t) g l = tt
one-paid opened accepted last (post.OpenVariable d t) g l = tt
one-paid opened accepted last (post.Charge d p c) g l = tt
one-paid opened accepted last (post.Credit d p c) g l = tt
one-paid opened accepted last (post.Payment d i y c) g l = omega (arith, g.0.1, l)
one-paid opened accepted last (post.Return d t) g l = tt
one-paid opened accepted last (post.Plan d v r w f) g l = tt
one-paid opened accepted last (post.Notice d y r w) g l = tt
one-paid opened accepted last (post.Lower d y r) g l = tt
one-paid opened accepted last post.Penalty g l = tt
one-paid opened accepted last (post.Review d f) g l = tt
one-paid opened accepted last (post.Dispute d t c) g l = tt
one-paid opened accepted last (post.Ack d t) g l = tt
one-paid opened accepted last (post.Resolve d t c) g l = tt
one-paid opened accepted last (post.AskRefund d) g l = tt
one-paid opened accepted last (post.Refund c) g l = tt
one-paid opened accepted last (post.Amend t d c) g l = tt
one-paid opened accepted last (post.Bill c) g l = tt

if_named : (last d c : ℕ) (b : Bool) → d ≤ last → IsAmendBy last (cond b (Some (d, c)) None)
if_named last d c true l = l
if_named last d c false l = tt

one-amend : (opened accepted last n : ℕ) (p : Post) → IsReceived opened accepted p → accepted ≤ last → IsAmendBy last (amend_of n p)
one-amend opened accepted last n (post.Open d t) g l = tt
one-amend opened accepted last n (post.OpenVariable d t) g l = tt
one-amend opened accepted last n (post.Charge d p c) g l = tt
one-amend opened accepted last n (post.Credit d p c) g l = tt
one-amend opened accepted last n (post.Payment d i y c) g l = tt
one-amend opened accepted last n (post.Return d t) g l = tt
one-amend opened accepted last n (post.Plan d v r w f) g l = tt
one-amend opened accepted last n (post.Notice d y r w) g l = tt
one-amend opened accepted last n (post.Lower d y r) g l = tt
one-amend opened accepted last n post.Penalty g l = tt
one-amend opened accepted last n (post.Review d f) g l = tt
one-amend opened accepted last n (post.Dispute d t c) g l = tt
one-amend opened accepted last n (post.Ack d t) g l = tt
one-amend opened accepted last n (post.Resolve d t c) g l = tt
one-amend opened accepted last n (post.AskRefund d) g l = tt
one-amend opened accepted last n (post.Refund c) g l = tt
one-amend opened accepted last n (post.Amend t d c) g l = if_named last d c (t == n) (omega (arith, g.1, l))
one-amend opened accepted last n (post.Bill c) g l = tt

all-by : (opened last : ℕ) (h : List Kept) → AreTimely opened h → last_accepted h ≤ last → AreBy last h
unfolding AreBy AreTimely last_accepted
all-by opened last [] t l = tt
all-by opened last (k ∷ ks) t l = (
  one-paid opened k.accepted last k.post t.0.received (omega (arith, l)),
  (λ n. one-amend opened k.accepted last n k.post t.0.received (omega (arith, l))),
  all-by opened last ks t.1 (omega (arith, l)),
)

either : (last : ℕ) (x y : Option (ℕ × ℕ)) → IsAmendBy last x → IsAmendBy last y → IsAmendBy last (option_or x y)
either last None y f g = g
either last (Some x) y f g = f

amend-by : (last n : ℕ) (h : List Kept) → AreBy last h → IsAmendBy last (last_amend n h)
unfolding last_amend AreBy
amend-by last n [] b = tt
amend-by last n (k ∷ ks) b = either last (last_amend n ks) (amend_of n k.post) (amend-by last n ks b.2) (b.1 n)

place-by : (last i : ℕ) (h : List Kept) (k : Kept) → AreBy last h → slice_get h i ≡ Some k → IsPaidBy last k.post
unfolding AreBy
place-by last i [] k b e = let no : None ≡ Some k = e in absurd (cc)
place-by last zero (q ∷ h) k b e = at q k e b.0
  where
    at : (q k : Kept) → Some q ≡ Some k → IsPaidBy last q.post → IsPaidBy last k.post
    at q k e p = let same : q ≡ k = cc in subst (λ (u : Kept). IsPaidBy last u.post) same p
place-by last (suc i) (q ∷ h) k b e = place-by last i h k b.2 e

number-by : (last t : ℕ) (h : List Kept) (k : Kept) → AreBy last h → at_number t h ≡ Some k → IsPaidBy last k.post
number-by last zero h k b e = let no : None ≡ Some k = e in absurd (cc)
number-by last (suc t) h k b e = place-by last t h k b e

-- the day of receipt is none after the last day
receipt-by : (last own : ℕ) (o : Option (ℕ × ℕ)) → own ≤ last → IsAmendBy last o → amended_day o own ≤ last
receipt-by last own None l b = l
receipt-by last own (Some amend) l b = b

credited : (a : Anchor) (xs ys : List ℕ) (last receipt minute : ℕ) (mail : Bool) → AgreeUpTo last xs ys → receipt ≤ last → credit_day a xs receipt minute mail ≡ credit_day a ys receipt minute mail
credited a xs ys last receipt minute mail agree l = credit_day-agrees a receipt minute mail xs ys (λ x m. agree x (omega (arith, l, m)))

payment-same : (a : Anchor) (xs ys : List ℕ) (last : ℕ) (h : List Kept) → AgreeUpTo last xs ys → AreBy last h → (t : ℕ) (o : Option Kept) → at_number t h ≡ o → payment_day a xs h t o ≡ payment_day a ys h t o
payment-same a xs ys last h agree all t None e = refl
payment-same a xs ys last h agree all t (Some k) e = by k.post (number-by last t h k all e)
  where
    by : (q : Post) → IsPaidBy last q → payment_day a xs h t (Some (record { number = k.number; key = k.key; accepted = k.accepted; post = q })) ≡ payment_day a ys h t (Some (record { number = k.number; key = k.key; accepted = k.accepted; post = q }))
    by (post.Open d t) b = refl
    by (post.OpenVariable d t) b = refl
    by (post.Charge d p c) b = refl
    by (post.Credit d p c) b = refl
    by (post.Payment d i y c) b = credited a xs ys last (amended_day (last_amend t h) d) i (is_mail y) agree (receipt-by last d (last_amend t h) b (amend-by last t h all))
    by (post.Return d t) b = refl
    by (post.Plan d v r w f) b = refl
    by (post.Notice d y r w) b = refl
    by (post.Lower d y r) b = refl
    by post.Penalty b = refl
    by (post.Review d f) b = refl
    by (post.Dispute d t c) b = refl
    by (post.Ack d t) b = refl
    by (post.Resolve d t c) b = refl
    by (post.AskRefund d) b = refl
    by (post.Refund c) b = refl
    by (post.Amend t d c) b = refl
    by (post.Bill c) b = refl

day-same : (a : Anchor) (xs ys : List ℕ) (last : ℕ) (h : List Kept) → AgreeUpTo last xs ys → AreBy last h → (n accepted : ℕ) (p : Post) → IsPaidBy last p → effective_day a xs h n accepted p ≡ effective_day a ys h n accepted p
unfolding effective_day
day-same a xs ys last h agree all n accepted (post.Open d t) b = refl
day-same a xs ys last h agree all n accepted (post.OpenVariable d t) b = refl
day-same a xs ys last h agree all n accepted (post.Charge d p c) b = refl
day-same a xs ys last h agree all n accepted (post.Credit d p c) b = refl
day-same a xs ys last h agree all n accepted (post.Payment d i y c) b = credited a xs ys last (amended_day (last_amend n h) d) i (is_mail y) agree (receipt-by last d (last_amend n h) b (amend-by last n h all))
day-same a xs ys last h agree all n accepted (post.Return d t) b = ap (λ x. max d x) (payment-same a xs ys last h agree all t (at_number t h) refl)
day-same a xs ys last h agree all n accepted (post.Plan d v r w f) b = refl
day-same a xs ys last h agree all n accepted (post.Notice d y r w) b = refl
day-same a xs ys last h agree all n accepted (post.Lower d y r) b = refl
day-same a xs ys last h agree all n accepted post.Penalty b = refl
day-same a xs ys last h agree all n accepted (post.Review d f) b = refl
day-same a xs ys last h agree all n accepted (post.Dispute d t c) b = refl
day-same a xs ys last h agree all n accepted (post.Ack d t) b = refl
day-same a xs ys last h agree all n accepted (post.Resolve d t c) b = refl
day-same a xs ys last h agree all n accepted (post.AskRefund d) b = refl
day-same a xs ys last h agree all n accepted (post.Refund c) b = refl
day-same a xs ys last h agree all n accepted (post.Amend t d c) b = refl
day-same a xs ys last h agree all n accepted (post.Bill c) b = refl

list-same : (a : Anchor) (xs ys : List ℕ) (last : ℕ) (h : List Kept) → AgreeUpTo last xs ys → AreBy last h → (n segment : ℕ) (ks : List Kept) → AreBy last ks → corrected_from a xs h n segment ks ≡ corrected_from a ys h n segment ks
unfolding corrected_from corrected_post AreBy
list-same a xs ys last h agree all n segment [] b = refl
list-same a xs ys last h agree all n segment (k ∷ ks) b =
    let day : effective_day a xs h n k.accepted k.post ≡ effective_day a ys h n k.accepted k.post = day-same a xs ys last h agree all n k.accepted k.post b.0 in
    let rest : corrected_from a xs h (suc n) (next_segment segment k.post) ks ≡ corrected_from a ys h (suc n) (next_segment segment k.post) ks = list-same a xs ys last h agree all (suc n) (next_segment segment k.post) ks b.2 in
    rw (day, rest) refl

pub same-corrected : (a : Anchor) (xs ys : List ℕ) (h : List Kept) → AreTimely a.opened h → AgreeUpTo (last_accepted h) xs ys → corrected_from a xs h 1 5 h ≡ corrected_from a ys h 1 5 h
same-corrected a xs ys h timely agree =
    let all : AreBy (last_accepted h) h = all-by a.opened (last_accepted h) h timely (omega arith) in
    list-same a xs ys (last_accepted h) h agree all 1 5 h all
