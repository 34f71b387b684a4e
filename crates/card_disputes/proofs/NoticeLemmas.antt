-- The day of a charge and the Bills that reflect it, in the history and in the corrected list.
use Rattle.std.proofs.Common.{◌≡◌, ℕ, zero, suc, ◌+◌, ◌≤◌, ◌<◌, drop, nat_lt, ◌==◌, Bool, true, false, cond, List, [], ◌∷◌, refl, sym, ap, ◌∙◌, subst, Option, Some, None, arith}
use Rattle.std.specs.Prelude.{slice_get, ◌&&◌}
use Rattle.std.specs.List.{find}
use Rattle.std.specs.Option.{option_map, option_or}
use Rattle.std.proofs.lemmas.List.Elements.{All-head, All-tail}
use Rattle.std.proofs.lemmas.Bool.Decides.{nat_tests}
use Rattle.card_events.specs.Range.{last_request_day}
use Rattle.card_events.specs.declared.anchor.Anchor.{Anchor}
use Rattle.card_events.specs.Billing.{cycle_of}
use Rattle.card_disputes.specs.Notices.{amended_at, charge_day, charge_in, charge_own, notice_end_at}
use Rattle.card_events.specs.Dated.{is_dated_post}
use Rattle.card_events.specs.History.{CorrectedPost, amend_of, amended_day, anchor_of, at_number, corrected, corrected_from, corrected_post, effective_day, last_amend, next_segment, opening_in, slot_of}
use Rattle.card_events.specs.declared.kept.Kept.{Kept}
use Rattle.card_events.specs.declared.post.Post.{Post}
use Rattle.card_events.specs.declared.post.Post.TheVariants as post
use Rattle.card_model.specs.Deadlines.{bills_from, last_notice_day, notice_end, notice_end_of, reflects}
use Rattle.card_model.specs.Effects.{charge_at, is_charge}
use Rattle.card_posts.specs.Posted.{Posted, StandsFor, last_accepted, slot_with}
use Rattle.card_events.specs.declared.kept.Slot.{Slot}
use Rattle.card_rates.specs.Segments.{ArePostsDated}

-- ---- the last Amend
either-day : (a b : Option (ℕ × ℕ)) (own : ℕ) → amended_day (option_or a b) own ≡ amended_day a (amended_day b own)
either-day None b own = refl
either-day (Some x) b own = refl

-- ---- days of requests
amend-dated : (n own : ℕ) (p : Post) → is_dated_post p ≡ true → own ≤ last_request_day → amended_at n p own ≤ last_request_day
unfolding is_dated_post
amend-dated n own (post.Amend t d c) e l = at (t == n)
  where
    at : (b : Bool) → amended_day (cond b (Some (d, c)) None) own ≤ last_request_day
    at true = grind (arith, nat_tests, e)
    at false = l
amend-dated n own (post.Charge d p c) e l = l
amend-dated n own (post.Credit d p c) e l = l
amend-dated n own (post.Payment d m by c) e l = l
amend-dated n own (post.Bill c) e l = l
amend-dated n own (post.Plan d v r w f) e l = l
amend-dated n own (post.Notice d y r w) e l = l
amend-dated n own (post.Lower d y r) e l = l
amend-dated n own post.Penalty e l = l
amend-dated n own (post.Review d f) e l = l
amend-dated n own (post.Dispute d t c) e l = l
amend-dated n own (post.Ack d t) e l = l
amend-dated n own (post.Resolve d t c) e l = l
amend-dated n own (post.AskRefund d) e l = l
amend-dated n own (post.Refund c) e l = l
amend-dated n own (post.Open d t) e l = l
amend-dated n own (post.OpenVariable d t) e l = l
amend-dated n own (post.Return d t) e l = l

last-dated : (n own : ℕ) (ks : List Kept) → ArePostsDated ks → own ≤ last_request_day → amended_day (last_amend n ks) own ≤ last_request_day
unfolding last_amend
last-dated n own [] h l = l
last-dated n own (k ∷ ks) h l =
    subst (λ d. d ≤ last_request_day) (sym (either-day (last_amend n ks) (amend_of n k.post) own))
    (last-dated n (amended_at n k.post own) ks (All-tail (λ (x : Kept). is_dated_post x.post ≡ true) k ks h) (amend-dated n own k.post (All-head (λ (x : Kept). is_dated_post x.post ≡ true) k ks h) l))

own-dated : (p : Post) (day : ℕ) → is_dated_post p ≡ true → charge_own p ≡ Some day → day ≤ last_request_day
unfolding is_dated_post
own-dated (post.Charge d p c) day e s = let same : d ≡ day = cc in subst (λ x. x ≤ last_request_day) same (grind (arith, nat_tests, e))
own-dated (post.Amend t d c) day e s = cc
own-dated (post.Credit d p c) day e s = cc
own-dated (post.Payment d m by c) day e s = cc
own-dated (post.Bill c) day e s = cc
own-dated (post.Plan d v r w f) day e s = cc
own-dated (post.Notice d y r w) day e s = cc
own-dated (post.Lower d y r) day e s = cc
own-dated post.Penalty day e s = cc
own-dated (post.Review d f) day e s = cc
own-dated (post.Dispute d t c) day e s = cc
own-dated (post.Ack d t) day e s = cc
own-dated (post.Resolve d t c) day e s = cc
own-dated (post.AskRefund d) day e s = cc
own-dated (post.Refund c) day e s = cc
own-dated (post.Open d t) day e s = cc
own-dated (post.OpenVariable d t) day e s = cc
own-dated (post.Return d t) day e s = cc

post-dated : (ks : List Kept) (i : ℕ) (k : Kept) → ArePostsDated ks → slice_get ks i ≡ Some k → is_dated_post k.post ≡ true
post-dated [] i k h e = cc
post-dated (q ∷ ks) zero k h e = let same : q ≡ k = cc in subst (λ (x : Kept). is_dated_post x.post ≡ true) same (All-head (λ (x : Kept). is_dated_post x.post ≡ true) q ks h)
post-dated (q ∷ ks) (suc i) k h e = post-dated ks i k (All-tail (λ (x : Kept). is_dated_post x.post ≡ true) q ks h) e

pub number-dated : (ks : List Kept) (n : ℕ) (k : Kept) → ArePostsDated ks → at_number n ks ≡ Some k → is_dated_post k.post ≡ true
number-dated ks zero k h e = cc
number-dated ks (suc n) k h e = post-dated ks n k h e

-- the day in its slot
slot-there : (a : Anchor) (holidays : List ℕ) (history : List Kept) (i m segment : ℕ) (ks : List Kept) (k : Kept) → slice_get ks i ≡ Some k
    → option_map (λ (s : Slot). s.day) (option_map slot_of (find (λ p. p.number == m + i) (corrected_from a holidays history m segment ks))) ≡ Some (effective_day a holidays history (m + i) k.accepted k.post)
unfolding corrected_from corrected_post
slot-there a holidays history i m segment [] k e = cc
slot-there a holidays history zero m segment (q ∷ ks) k e =
    let same : q ≡ k = cc in
    let zeroth : m ≡ m + 0 = omega arith in
    let here : (m == m + 0) ≡ true = grind (arith, nat_tests) in
    rw here (ap (λ n. Some (effective_day a holidays history n q.accepted q.post)) zeroth ∙ ap (λ (x : Kept). Some (effective_day a holidays history (m + 0) x.accepted x.post)) same)
slot-there a holidays history (suc i) m segment (q ∷ ks) k e =
    let next : suc m + i ≡ m + suc i = omega arith in
    let other : (m == m + suc i) ≡ false = grind (arith, nat_tests) in
    rw other
    (subst (λ n. option_map (λ (s : Slot). s.day) (option_map slot_of (find (λ p. p.number == n) (corrected_from a holidays history (suc m) (next_segment segment q.post) ks))) ≡ Some (effective_day a holidays history n k.accepted k.post)) next
    (slot-there a holidays history i (suc m) (next_segment segment q.post) ks k e))

slot-at : (a : Anchor) (holidays : List ℕ) (history : List Kept) (n : ℕ) (k : Kept) → at_number n history ≡ Some k
    → option_map (λ (s : Slot). s.day) (slot_with n (corrected a holidays history)) ≡ Some (effective_day a holidays history n k.accepted k.post)
slot-at a holidays history zero k e = cc
slot-at a holidays history (suc i) k e =
    let one : 1 + i ≡ suc i = omega arith in
    subst (λ n. option_map (λ (s : Slot). s.day) (slot_with n (corrected a holidays history)) ≡ Some (effective_day a holidays history n k.accepted k.post)) one (slot-there a holidays history i 1 5 history k e)

charge-effective : (a : Anchor) (holidays : List ℕ) (history : List Kept) (n accepted own : ℕ) (p : Post) → charge_own p ≡ Some own → effective_day a holidays history n accepted p ≡ amended_day (last_amend n history) own
unfolding effective_day
charge-effective a holidays history n accepted own (post.Charge d p c) e = let same : d ≡ own = cc in ap (amended_day (last_amend n history)) same
charge-effective a holidays history n accepted own (post.Open d t) e = cc
charge-effective a holidays history n accepted own (post.OpenVariable d t) e = cc
charge-effective a holidays history n accepted own (post.Credit d p c) e = cc
charge-effective a holidays history n accepted own (post.Payment d m by c) e = cc
charge-effective a holidays history n accepted own (post.Return d t) e = cc
charge-effective a holidays history n accepted own (post.Bill c) e = cc
charge-effective a holidays history n accepted own (post.Amend t d c) e = cc
charge-effective a holidays history n accepted own (post.Plan d v r w f) e = cc
charge-effective a holidays history n accepted own (post.Notice d y r w) e = cc
charge-effective a holidays history n accepted own (post.Lower d y r) e = cc
charge-effective a holidays history n accepted own post.Penalty e = cc
charge-effective a holidays history n accepted own (post.Review d f) e = cc
charge-effective a holidays history n accepted own (post.Dispute d t c) e = cc
charge-effective a holidays history n accepted own (post.Ack d t) e = cc
charge-effective a holidays history n accepted own (post.Resolve d t c) e = cc
charge-effective a holidays history n accepted own (post.AskRefund d) e = cc
charge-effective a holidays history n accepted own (post.Refund c) e = cc

-- where the corrected list is that of the posts, the slot of a charge has the day that stands
pub slot-stands : (holidays : List ℕ) (p : Posted) (n own : ℕ) (k : Kept) (s : Slot) → StandsFor holidays p → at_number n p.history ≡ Some k → charge_own k.post ≡ Some own → slot_with n p.corrected ≡ Some s
    → s.day ≡ amended_day (last_amend n p.history) own
slot-stands holidays p n own k s stands e o f =
    let a = anchor_of p.history in
    let at : option_map (λ (x : Slot). x.day) (slot_with n p.corrected) ≡ Some (effective_day a holidays p.history n k.accepted k.post) = ap (λ l. option_map (λ (x : Slot). x.day) (slot_with n l)) stands ∙ slot-at a holidays p.history n k e in
    let day : Some s.day ≡ Some (effective_day a holidays p.history n k.accepted k.post) = sym (ap (option_map (λ (x : Slot). x.day)) f) ∙ at in
    let is : s.day ≡ effective_day a holidays p.history n k.accepted k.post = cc in
    is ∙ charge-effective a holidays p.history n k.accepted own k.post o

pub no-slot : (holidays : List ℕ) (p : Posted) (n : ℕ) (k : Kept) → StandsFor holidays p → at_number n p.history ≡ Some k → slot_with n p.corrected ≡ None → ⊥
no-slot holidays p n k stands e f =
    let a = anchor_of p.history in
    let at : option_map (λ (x : Slot). x.day) (slot_with n p.corrected) ≡ Some (effective_day a holidays p.history n k.accepted k.post) = ap (λ l. option_map (λ (x : Slot). x.day) (slot_with n l)) stands ∙ slot-at a holidays p.history n k e in
    let none : option_map (λ (x : Slot). x.day) (slot_with n p.corrected) ≡ None = ap (option_map (λ (x : Slot). x.day)) f in
    cc

-- it is a day of requests
pub stands-dated : (ks : List Kept) (n own : ℕ) (k : Kept) → ArePostsDated ks → at_number n ks ≡ Some k → charge_own k.post ≡ Some own → amended_day (last_amend n ks) own ≤ last_request_day
stands-dated ks n own k h e o = last-dated n own ks h (own-dated k.post own (number-dated ks n k h e) o)

first-dated : (p : Post) → is_dated_post p ≡ true → opening_in p ≤ last_request_day
unfolding is_dated_post
first-dated (post.Open d t) e = grind (arith, nat_tests, e)
first-dated (post.OpenVariable d t) e = grind (arith, nat_tests, e)
first-dated (post.Charge d p c) e = omega arith
first-dated (post.Amend t d c) e = omega arith
first-dated (post.Credit d p c) e = omega arith
first-dated (post.Payment d m by c) e = omega arith
first-dated (post.Bill c) e = omega arith
first-dated (post.Plan d v r w f) e = omega arith
first-dated (post.Notice d y r w) e = omega arith
first-dated (post.Lower d y r) e = omega arith
first-dated post.Penalty e = omega arith
first-dated (post.Review d f) e = omega arith
first-dated (post.Dispute d t c) e = omega arith
first-dated (post.Ack d t) e = omega arith
first-dated (post.Resolve d t c) e = omega arith
first-dated (post.AskRefund d) e = omega arith
first-dated (post.Refund c) e = omega arith
first-dated (post.Return d t) e = omega arith

pub opening-dated : (ks : List Kept) → ArePostsDated ks → (anchor_of ks).opened ≤ last_request_day
opening-dated [] h = omega arith
opening-dated (k ∷ ks) h = first-dated k.post (All-head (λ (x : Kept). is_dated_post x.post ≡ true) k ks h)

pub accepted-dated : (ks : List Kept) (n : ℕ) (k : Kept) → at_number n ks ≡ Some k → k.accepted ≤ last_accepted ks
unfolding last_accepted
accepted-dated ks zero k e = cc
accepted-dated ks (suc n) k e = at ks n e
  where
    at : (ks : List Kept) (n : ℕ) → slice_get ks n ≡ Some k → k.accepted ≤ last_accepted ks
    at [] n e = cc
    at (q ∷ ks) zero e = let same : q.accepted ≡ k.accepted = cc in omega (arith, same)
    at (q ∷ ks) (suc n) e = let rest = at ks n e in omega (arith, rest)

-- ---- the charge with a number, in the corrected list
abbrev pub IsCharge : ℕ → Option CorrectedPost → Option ℕ → Type 0
IsCharge n None None = Unit {0}
IsCharge n None (Some day) = ⊥
IsCharge n (Some p) None = ⊥
IsCharge n (Some p) (Some day) = (p.number ≡ n) × (p.day ≡ day)

-- none of the posts from a later one on
late : (a : Anchor) (holidays : List ℕ) (history : List Kept) (n m segment : ℕ) (ks : List Kept) → n < m → find (λ p. (p.number == n) && is_charge p.post) (corrected_from a holidays history m segment ks) ≡ None
unfolding corrected_from corrected_post
late a holidays history n m segment [] l = refl
late a holidays history n m segment (k ∷ ks) l =
    let other : (m == n) ≡ false = grind (arith, nat_tests, l) in
    rw other (late a holidays history n (suc m) (next_segment segment k.post) ks (omega (arith, l)))

-- one that has the number
this : (a : Anchor) (holidays : List ℕ) (history : List Kept) (n segment : ℕ) (k : Kept) (p : Post) → k.post ≡ p → (rest : Option CorrectedPost) → rest ≡ None
    → IsCharge n (cond (is_charge p) (Some (corrected_post a holidays history n segment k)) rest) (option_map (amended_day (last_amend n history)) (charge_own p))
unfolding corrected_post effective_day
this a holidays history n segment k (post.Charge d p c) e rest none = (refl, ap (λ (x : Post). effective_day a holidays history n k.accepted x) e)
this a holidays history n segment k (post.Amend t d c) e rest none = rw none tt
this a holidays history n segment k (post.Credit d p c) e rest none = rw none tt
this a holidays history n segment k (post.Payment d m by c) e rest none = rw none tt
this a holidays history n segment k (post.Bill c) e rest none = rw none tt
this a holidays history n segment k (post.Plan d v r w f) e rest none = rw none tt
this a holidays history n segment k (post.Notice d y r w) e rest none = rw none tt
this a holidays history n segment k (post.Lower d y r) e rest none = rw none tt
this a holidays history n segment k post.Penalty e rest none = rw none tt
this a holidays history n segment k (post.Review d f) e rest none = rw none tt
this a holidays history n segment k (post.Dispute d t c) e rest none = rw none tt
this a holidays history n segment k (post.Ack d t) e rest none = rw none tt
this a holidays history n segment k (post.Resolve d t c) e rest none = rw none tt
this a holidays history n segment k (post.AskRefund d) e rest none = rw none tt
this a holidays history n segment k (post.Refund c) e rest none = rw none tt
this a holidays history n segment k (post.Open d t) e rest none = rw none tt
this a holidays history n segment k (post.OpenVariable d t) e rest none = rw none tt
this a holidays history n segment k (post.Return d t) e rest none = rw none tt

charge-from : (a : Anchor) (holidays : List ℕ) (history : List Kept) (i m segment : ℕ) (ks : List Kept)
    → IsCharge (m + i) (find (λ p. (p.number == m + i) && is_charge p.post) (corrected_from a holidays history m segment ks)) (charge_in (last_amend (m + i) history) (slice_get ks i))
unfolding corrected_from corrected_post
charge-from a holidays history i m segment [] = tt
charge-from a holidays history zero m segment (k ∷ ks) =
    let here : m + 0 ≡ m = omega arith in
    subst (λ n. IsCharge n (find (λ p. (p.number == n) && is_charge p.post) (corrected_post a holidays history m segment k ∷ corrected_from a holidays history (suc m) (next_segment segment k.post) ks)) (charge_in (last_amend n history) (Some k))) (sym here)
    (first (late a holidays history m (suc m) (next_segment segment k.post) ks (omega arith)))
  where
    unfolding_post : (b : Bool) → b ≡ true → (x : Option CorrectedPost) (rest : Option CorrectedPost) → cond (b && is_charge k.post) x rest ≡ cond (is_charge k.post) x rest
    unfolding_post b e x rest = rw e refl

    first : find (λ p. (p.number == m) && is_charge p.post) (corrected_from a holidays history (suc m) (next_segment segment k.post) ks) ≡ None
        → IsCharge m (cond ((m == m) && is_charge k.post) (Some (corrected_post a holidays history m segment k)) (find (λ p. (p.number == m) && is_charge p.post) (corrected_from a holidays history (suc m) (next_segment segment k.post) ks))) (charge_in (last_amend m history) (Some k))
    first none =
        let same : (m == m) ≡ true = grind (arith, nat_tests) in
        let rest : Option CorrectedPost = find (λ p. (p.number == m) && is_charge p.post) (corrected_from a holidays history (suc m) (next_segment segment k.post) ks) in
        subst (λ o. IsCharge m o (charge_in (last_amend m history) (Some k))) (sym (unfolding_post (m == m) same (Some (corrected_post a holidays history m segment k)) rest))
        (this a holidays history m segment k k.post refl rest none)
charge-from a holidays history (suc i) m segment (k ∷ ks) =
    let next : suc m + i ≡ m + suc i = omega arith in
    let other : (m == m + suc i) ≡ false = grind (arith, nat_tests) in
    subst (λ b. IsCharge (m + suc i) (cond (b && is_charge k.post) (Some (corrected_post a holidays history m segment k)) (find (λ p. (p.number == m + suc i) && is_charge p.post) (corrected_from a holidays history (suc m) (next_segment segment k.post) ks))) (charge_in (last_amend (m + suc i) history) (slice_get ks i))) (sym other)
    (subst (λ n. IsCharge n (find (λ p. (p.number == n) && is_charge p.post) (corrected_from a holidays history (suc m) (next_segment segment k.post) ks)) (charge_in (last_amend n history) (slice_get ks i))) next
    (charge-from a holidays history i (suc m) (next_segment segment k.post) ks))

pub charge-is : (a : Anchor) (holidays : List ℕ) (history : List Kept) (n : ℕ) → IsCharge n (charge_at n (corrected a holidays history)) (charge_day n history)
charge-is a holidays history zero = subst (λ o. IsCharge 0 o None) (sym (late a holidays history 0 1 5 history (omega arith))) tt
charge-is a holidays history (suc i) =
    let one : 1 + i ≡ suc i = omega arith in
    subst (λ n. IsCharge n (charge_at n (corrected a holidays history)) (charge_in (last_amend n history) (slice_get history i))) one (charge-from a holidays history i 1 5 history)

-- ---- the first Bill that reflects it
bills-late : (a : Anchor) (holidays : List ℕ) (history : List Kept) (n cycle m segment : ℕ) (ks : List Kept) → n < m
    → option_map notice_end (find (reflects n cycle) (corrected_from a holidays history m segment ks)) ≡ option_map (λ k. k.accepted + 60) (find (λ k. bills_from cycle k.post) ks)
unfolding corrected_from corrected_post
bills-late a holidays history n cycle m segment [] l = refl
bills-late a holidays history n cycle m segment (k ∷ ks) l =
    let later : nat_lt n m ≡ true = grind (arith, nat_tests, l) in
    rw later (at (bills-late a holidays history n cycle (suc m) (next_segment segment k.post) ks (omega (arith, l))) (bills_from cycle k.post))
  where
    at : option_map notice_end (find (reflects n cycle) (corrected_from a holidays history (suc m) (next_segment segment k.post) ks)) ≡ option_map (λ (x : Kept). x.accepted + 60) (find (λ x. bills_from cycle x.post) ks)
        → (b : Bool) → option_map notice_end (cond b (Some (corrected_post a holidays history m segment k)) (find (reflects n cycle) (corrected_from a holidays history (suc m) (next_segment segment k.post) ks))) ≡ option_map (λ (x : Kept). x.accepted + 60) (cond b (Some k) (find (λ x. bills_from cycle x.post) ks))
    at rest true = refl
    at rest false = rest

bills-from : (a : Anchor) (holidays : List ℕ) (history : List Kept) (i cycle m segment : ℕ) (ks : List Kept)
    → option_map notice_end (find (reflects (m + i) cycle) (corrected_from a holidays history (suc m) segment ks)) ≡ option_map (λ k. k.accepted + 60) (find (λ k. bills_from cycle k.post) (drop i ks))
unfolding corrected_from corrected_post
bills-from a holidays history zero cycle m segment [] = refl
bills-from a holidays history (suc i) cycle m segment [] = refl
bills-from a holidays history zero cycle m segment (k ∷ ks) =
    let here : m + 0 ≡ m = omega arith in
    subst (λ n. option_map notice_end (find (reflects n cycle) (corrected_from a holidays history (suc m) segment (k ∷ ks))) ≡ option_map (λ (x : Kept). x.accepted + 60) (find (λ x. bills_from cycle x.post) (k ∷ ks))) (sym here)
    (bills-late a holidays history m cycle (suc m) segment (k ∷ ks) (omega arith))
bills-from a holidays history (suc i) cycle m segment (k ∷ ks) =
    let next : suc m + i ≡ m + suc i = omega arith in
    let early : nat_lt (m + suc i) (suc m) ≡ false = grind (arith, nat_tests) in
    rw early
    (subst (λ n. option_map notice_end (find (reflects n cycle) (corrected_from a holidays history (suc (suc m)) (next_segment segment k.post) ks)) ≡ option_map (λ (x : Kept). x.accepted + 60) (find (λ x. bills_from cycle x.post) (drop i ks))) next
    (bills-from a holidays history i cycle (suc m) (next_segment segment k.post) ks))

pub bills-are : (a : Anchor) (holidays : List ℕ) (history : List Kept) (n cycle : ℕ) → option_map notice_end (find (reflects n cycle) (corrected a holidays history)) ≡ notice_end_at n cycle history
bills-are a holidays history n cycle =
    let none : 0 + n ≡ n = omega arith in
    ap (λ m. option_map notice_end (find (reflects m cycle) (corrected a holidays history))) (sym none) ∙ bills-from a holidays history n cycle 0 5 history

-- ---- together
pub notice-of : (a b : Anchor) (holidays : List ℕ) (history : List Kept) (n day : ℕ) → charge_day n history ≡ Some day → last_notice_day a (corrected b holidays history) n ≡ notice_end_at n (cycle_of a day) history
unfolding last_notice_day
notice-of a b holidays history n day e = by (charge_at n (corrected b holidays history)) (charge_day n history) e (charge-is b holidays history n)
  where
    by : (o : Option CorrectedPost) (d : Option ℕ) → d ≡ Some day → IsCharge n o d → notice_end_of a (corrected b holidays history) o ≡ notice_end_at n (cycle_of a day) history
    by None None f h = cc
    by None (Some d) f h = absurd h
    by (Some p) None f h = cc
    by (Some p) (Some d) f h =
        let same : d ≡ day = cc in
        ap (λ m. option_map notice_end (find (reflects m (cycle_of a p.day)) (corrected b holidays history))) h.0
        ∙ ap (λ x. option_map notice_end (find (reflects n (cycle_of a x)) (corrected b holidays history))) (h.1 ∙ same)
        ∙ bills-are b holidays history n (cycle_of a day)

pub no-notice : (a b : Anchor) (holidays : List ℕ) (history : List Kept) (n : ℕ) → charge_day n history ≡ None → last_notice_day a (corrected b holidays history) n ≡ None
unfolding last_notice_day
no-notice a b holidays history n e = by (charge_at n (corrected b holidays history)) (charge_day n history) e (charge-is b holidays history n)
  where
    by : (o : Option CorrectedPost) (d : Option ℕ) → d ≡ None → IsCharge n o d → notice_end_of a (corrected b holidays history) o ≡ None
    by None d f h = refl
    by (Some p) None f h = absurd h
    by (Some p) (Some d) f h = cc
