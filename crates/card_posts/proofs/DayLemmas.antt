-- Effective days by a post's own day and that of the post it waits for.
use Rattle.std.proofs.Common.{◌≡◌, ℕ, zero, suc, ◌+◌, ◌<◌, ◌≤◌, max, Bool, true, false, cond, ◌==◌, List, [], ◌∷◌, ◌++◌, length, get_or, refl, ap, arith, Option, Some, None}
use Rattle.std.specs.Option.{option_or}
use Rattle.card_events.specs.Business.{credit_day, is_mail}
use Rattle.card_events.specs.Range.{last_request_day}
use Rattle.card_events.specs.declared.anchor.Anchor.{Anchor}
use Rattle.card_events.specs.History.{amend_of, amended_day, at_number, charge_day, dispute_day, effective_day, last_amend, payment_day}
use Rattle.card_events.specs.declared.kept.Kept.{Kept}
use Rattle.card_events.specs.declared.post.Post.{Post}
use Rattle.card_events.specs.declared.post.Post.TheVariants as post
use Rattle.card_posts.specs.Effect.{IsAmendDated, awaited_day, day_alone}
use Rattle.card_posts.specs.Posted.{target_of, IsReceived}
use Rattle.card_posts.specs.Stored.{AreTimely, IsTimely, NameEarlier}

top : (d : ℕ) → d ≡ max d 0
top d = omega arith

payment : (a : Anchor) (holidays : List ℕ) (h : List Kept) (t d : ℕ) (o : Option Kept) → payment_day a holidays h t o ≡ awaited_day a holidays h (post.Return d t) o
unfolding effective_day
payment a holidays h t d None = refl
payment a holidays h t d (Some k) = by k.post
  where
    by : (q : Post) → payment_day a holidays h t (Some (record { number = k.number; key = k.key; accepted = k.accepted; post = q })) ≡ awaited_day a holidays h (post.Return d t) (Some (record { number = k.number; key = k.key; accepted = k.accepted; post = q }))
    by (post.Open d t) = refl
    by (post.OpenVariable d t) = refl
    by (post.Charge d p c) = refl
    by (post.Credit d p c) = refl
    by (post.Payment d i y c) = refl
    by (post.Return d t) = refl
    by (post.Plan d v r w f) = refl
    by (post.Notice d y r w) = refl
    by (post.Lower d y r) = refl
    by post.Penalty = refl
    by (post.Review d f) = refl
    by (post.Dispute d t c) = refl
    by (post.Ack d t) = refl
    by (post.Resolve d t c) = refl
    by (post.AskRefund d) = refl
    by (post.Refund c) = refl
    by (post.Amend t d c) = refl
    by (post.Bill c) = refl

charge : (a : Anchor) (holidays : List ℕ) (h : List Kept) (t d c : ℕ) (o : Option Kept) → charge_day h t o ≡ awaited_day a holidays h (post.Dispute d t c) o
unfolding effective_day
charge a holidays h t d c None = refl
charge a holidays h t d c (Some k) = by k.post
  where
    by : (q : Post) → charge_day h t (Some (record { number = k.number; key = k.key; accepted = k.accepted; post = q })) ≡ awaited_day a holidays h (post.Dispute d t c) (Some (record { number = k.number; key = k.key; accepted = k.accepted; post = q }))
    by (post.Open d t) = refl
    by (post.OpenVariable d t) = refl
    by (post.Charge d p c) = refl
    by (post.Credit d p c) = refl
    by (post.Payment d i y c) = refl
    by (post.Return d t) = refl
    by (post.Plan d v r w f) = refl
    by (post.Notice d y r w) = refl
    by (post.Lower d y r) = refl
    by post.Penalty = refl
    by (post.Review d f) = refl
    by (post.Dispute d t c) = refl
    by (post.Ack d t) = refl
    by (post.Resolve d t c) = refl
    by (post.AskRefund d) = refl
    by (post.Refund c) = refl
    by (post.Amend t d c) = refl
    by (post.Bill c) = refl

dispute : (a : Anchor) (holidays : List ℕ) (h : List Kept) (t d c : ℕ) (o : Option Kept) → dispute_day h o ≡ awaited_day a holidays h (post.Resolve d t c) o
unfolding effective_day
dispute a holidays h t d c None = refl
dispute a holidays h t d c (Some k) = by k.post
  where
    by : (q : Post) → dispute_day h (Some (record { number = k.number; key = k.key; accepted = k.accepted; post = q })) ≡ awaited_day a holidays h (post.Resolve d t c) (Some (record { number = k.number; key = k.key; accepted = k.accepted; post = q }))
    by (post.Open d t) = refl
    by (post.OpenVariable d t) = refl
    by (post.Charge d p c) = refl
    by (post.Credit d p c) = refl
    by (post.Payment d i y c) = refl
    by (post.Return d t) = refl
    by (post.Plan d v r w f) = refl
    by (post.Notice d y r w) = refl
    by (post.Lower d y r) = refl
    by post.Penalty = refl
    by (post.Review d f) = refl
    by (post.Dispute d t c) = refl
    by (post.Ack d t) = refl
    by (post.Resolve d t c) = refl
    by (post.AskRefund d) = refl
    by (post.Refund c) = refl
    by (post.Amend t d c) = refl
    by (post.Bill c) = refl

amend : (a : Anchor) (holidays : List ℕ) (h : List Kept) (t d c : ℕ) (o : Option Kept) → d ≡ max d (awaited_day a holidays h (post.Amend t d c) o)
amend a holidays h t d c None = top d
amend a holidays h t d c (Some k) = top d

-- an effective day is the later of the post's day by itself and that of the post it waits for
pub day-by-later : (a : Anchor) (holidays : List ℕ) (h : List Kept) (n accepted : ℕ) (q : Post)
    → effective_day a holidays h n accepted q ≡ max (day_alone a holidays (last_amend n h) accepted q) (awaited_day a holidays h q (at_number (target_of q) h))
unfolding effective_day
day-by-later a holidays h n accepted (post.Open d t) = top d
day-by-later a holidays h n accepted (post.OpenVariable d t) = top d
day-by-later a holidays h n accepted (post.Charge d p c) = top (amended_day (last_amend n h) d)
day-by-later a holidays h n accepted (post.Credit d p c) = top (amended_day (last_amend n h) d)
day-by-later a holidays h n accepted (post.Payment d i y c) = top (credit_day a holidays (amended_day (last_amend n h) d) i (is_mail y))
day-by-later a holidays h n accepted (post.Return d t) = ap (λ x. max d x) (payment a holidays h t d (at_number t h))
day-by-later a holidays h n accepted (post.Plan d v r w f) = top d
day-by-later a holidays h n accepted (post.Notice d y r w) = top d
day-by-later a holidays h n accepted (post.Lower d y r) = top d
day-by-later a holidays h n accepted post.Penalty = top accepted
day-by-later a holidays h n accepted (post.Review d f) = top d
day-by-later a holidays h n accepted (post.Dispute d t c) = ap (λ x. max d x) (charge a holidays h t d c (at_number t h))
day-by-later a holidays h n accepted (post.Ack d t) = top d
day-by-later a holidays h n accepted (post.Resolve d t c) = ap (λ x. max d x) (dispute a holidays h t d c (at_number t h))
day-by-later a holidays h n accepted (post.AskRefund d) = top d
day-by-later a holidays h n accepted (post.Refund c) = top accepted
day-by-later a holidays h n accepted (post.Amend t d c) = amend a holidays h t d c (at_number t h)
day-by-later a holidays h n accepted (post.Bill c) = top accepted

-- ---- days of receipt
pub either-dated : (opened : ℕ) (x y : Option (ℕ × ℕ)) → IsAmendDated opened x → IsAmendDated opened y → IsAmendDated opened (option_or x y)
either-dated opened None y f g = g
either-dated opened (Some x) y f g = f

pub amend-one : (opened n : ℕ) (k : Kept) → IsTimely opened k → IsAmendDated opened (amend_of n k.post)
amend-one opened n k h = by k.post k.accepted h.dated h.received
  where
    if_named : (b : Bool) (d c : ℕ) → opened ≤ d → d ≤ last_request_day → IsAmendDated opened (cond b (Some (d, c)) None)
    if_named true d c l m = (l, m)
    if_named false d c l m = tt

    by : (q : Post) (accepted : ℕ) → accepted ≤ last_request_day → IsReceived opened accepted q → IsAmendDated opened (amend_of n q)
    by (post.Open d t) accepted l g = tt
    by (post.OpenVariable d t) accepted l g = tt
    by (post.Charge d p c) accepted l g = tt
    by (post.Credit d p c) accepted l g = tt
    by (post.Payment d i y c) accepted l g = tt
    by (post.Return d t) accepted l g = tt
    by (post.Plan d v r w f) accepted l g = tt
    by (post.Notice d y r w) accepted l g = tt
    by (post.Lower d y r) accepted l g = tt
    by post.Penalty accepted l g = tt
    by (post.Review d f) accepted l g = tt
    by (post.Dispute d t c) accepted l g = tt
    by (post.Ack d t) accepted l g = tt
    by (post.Resolve d t c) accepted l g = tt
    by (post.AskRefund d) accepted l g = tt
    by (post.Refund c) accepted l g = tt
    by (post.Amend t d c) accepted l g = if_named (t == n) d c g.0 (omega (arith, g.1, l))
    by (post.Bill c) accepted l g = tt

pub amend-dated : (opened n : ℕ) (h : List Kept) → AreTimely opened h → IsAmendDated opened (last_amend n h)
unfolding last_amend AreTimely
amend-dated opened n [] h = tt
amend-dated opened n (k ∷ ks) h = either-dated opened (last_amend n ks) (amend_of n k.post) (amend-dated opened n ks h.1) (amend-one opened n k h.0)

pub timely-at : (opened i : ℕ) (h : List Kept) (k : Kept) → AreTimely opened h → i < length h → IsTimely opened (get_or h i k)
unfolding AreTimely
timely-at opened i [] k h l = absurd (omega (arith, l))
timely-at opened zero (q ∷ ks) k h l = h.0
timely-at opened (suc i) (q ∷ ks) k h l = timely-at opened i ks k h.1 (omega (arith, l))

pub timely-append : (opened : ℕ) (h : List Kept) (k : Kept) → AreTimely opened h → IsTimely opened k → AreTimely opened (h ++ k ∷ [])
unfolding AreTimely
timely-append opened [] k h g = (g, tt)
timely-append opened (q ∷ ks) k h g = (h.0, timely-append opened ks k h.1 g)

pub names-at : (n i : ℕ) (h : List Kept) (k : Kept) → NameEarlier n h → i < length h → target_of (get_or h i k).post < n + i
unfolding NameEarlier
names-at n i [] k h l = absurd (omega (arith, l))
names-at n zero (q ∷ ks) k h l = omega (arith, h.0)
names-at n (suc i) (q ∷ ks) k h l = let r = names-at (suc n) i ks k h.1 (omega (arith, l)) in omega (arith, r)
