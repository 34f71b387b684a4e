-- Whether a payment is returned, by the posts that wait and by the corrected list.
use Rattle.std.proofs.Common.{◌≡◌, ℕ, zero, suc, ◌+◌, Bool, true, false, cond, eqb, ◌&&◌, ◌||◌, ◌==◌, List, [], ◌∷◌, refl, sym, ap, ◌∙◌, subst, Some, None, arith}
use Rattle.std.specs.Prelude.{option_map, slice_get}
use Rattle.std.specs.List.{find, list_any}
use Rattle.std.proofs.lemmas.Bool.{ne_eqb}
use Rattle.std.proofs.lemmas.Bool.Decides.{nat_tests}
use Rattle.card_events.specs.declared.anchor.Anchor.{Anchor}
use Rattle.card_events.specs.History.{CorrectedPost, corrected, corrected_from, corrected_post, effective_day, next_segment, slot_of}
use Rattle.card_events.specs.declared.kept.Kept.{Kept}
use Rattle.card_events.specs.declared.kept.Slot.{Slot}
use Rattle.card_events.specs.declared.post.Post.{Post}
use Rattle.card_fees.specs.Counting.{is_returned_until, reaches, returns_at, returns_until}
use Rattle.card_fees.specs.declared.returning.Until.{Until}
use Rattle.card_fees.proofs.Payments.{return-shape}
use Rattle.card_model.specs.Payments.{returns}
use Rattle.card_model.specs.Refusals.{holds_of}
use Rattle.card_posts.specs.Posted.{slot_with}
use Rattle.card_waits.specs.Waits.{awaited, first_by, first_from, if_any, waiting_from, waits}

-- a Return waits for its payment
returns-wait : (n : ℕ) (p : Post) → returns n p ≡ true → (waits p ≡ true) × (awaited p ≡ n)
returns-wait n p e = let shape = return-shape n p e in (ap waits shape.is, ap awaited shape.is)

-- a post that waits for another one, or for none, is no Return of the payment
other-returns : (n : ℕ) (p : Post) → (awaited p == n) ≡ false → returns n p ≡ false
other-returns n p e = by (returns n p) refl
  where
    differ : (a : ℕ) → (a == n) ≡ false → a ≡ n → ⊥
    differ a f g = grind (arith, nat_tests)

    by : (b : Bool) → returns n p ≡ b → b ≡ false
    by true f = absurd (differ (awaited p) e (returns-wait n p f).1)
    by false f = refl

none-returns : (n : ℕ) (p : Post) → waits p ≡ false → returns n p ≡ false
none-returns n p e = by (returns n p) refl
  where
    by : (b : Bool) → returns n p ≡ b → b ≡ false
    by true f = let both = (returns-wait n p f).0 in absurd (cc)
    by false f = refl

left-true : (a b : Bool) → (a && b) ≡ true → a ≡ true
left-true true b e = refl
left-true false b e = absurd (cc)

right-true : (a b : Bool) → b ≡ true → (a || b) ≡ true
right-true true b e = refl
right-true false b e = e

-- the rest of a history, without its first post
rest-at : (history : List Kept) (i : ℕ) (k : Kept) (ks : List Kept) → ((m : ℕ) → slice_get history (i + m) ≡ slice_get (k ∷ ks) m) → (m : ℕ) → slice_get history (suc i + m) ≡ slice_get ks m
rest-at history i k ks h m = let on : suc i + m ≡ i + suc m = omega arith in ap (slice_get history) on ∙ h (suc m)

first-at : (history : List Kept) (i : ℕ) (k : Kept) (ks : List Kept) → ((m : ℕ) → slice_get history (i + m) ≡ slice_get (k ∷ ks) m) → slice_get history i ≡ Some k
first-at history i k ks h = let here : i ≡ i + 0 = omega arith in ap (slice_get history) here ∙ h 0

-- ---- by one post that returns it
return-at : (u : Until) (history : List Kept) (posts : List CorrectedPost) (n i j : ℕ) (ks : List Kept) → ((m : ℕ) → slice_get history (i + m) ≡ slice_get ks m) → returns_until u history posts n (suc (i + j)) ≡ true
    → list_any (returns_until u history posts n) (waiting_from (suc i) ks) ≡ true
unfolding waiting_from
return-at u history posts n i j [] h e =
    let there : returns_at n (slice_get history (i + j)) ≡ true = left-true (returns_at n (slice_get history (i + j))) (holds_of (λ (s : Slot). reaches u s.day s.number) (slot_with (suc (i + j)) posts)) e in
    let none : returns_at n (slice_get history (i + j)) ≡ false = ap (returns_at n) (h j) in
    absurd (cc)
return-at u history posts n i zero (k ∷ ks) h e =
    let here : i + 0 ≡ i = omega arith in
    let this : returns_until u history posts n (suc i) ≡ true = sym (ap (λ m. returns_until u history posts n (suc m)) here) ∙ e in
    let there : returns_at n (slice_get history i) ≡ true = left-true (returns_at n (slice_get history i)) (holds_of (λ (s : Slot). reaches u s.day s.number) (slot_with (suc i) posts)) this in
    let gives : returns n k.post ≡ true = sym (ap (returns_at n) (first-at history i k ks h)) ∙ there in
    let waiter = (returns-wait n k.post gives).0 in
    rw waiter (ap (λ b. b || list_any (returns_until u history posts n) (waiting_from (suc (suc i)) ks)) this)
return-at u history posts n i (suc j) (k ∷ ks) h e =
    let on : i + suc j ≡ suc i + j = omega arith in
    let next : returns_until u history posts n (suc (suc i + j)) ≡ true = sym (ap (λ m. returns_until u history posts n (suc m)) on) ∙ e in
    by (waits k.post) (return-at u history posts n (suc i) j ks (rest-at history i k ks h) next)
  where
    by : (b : Bool) → list_any (returns_until u history posts n) (waiting_from (suc (suc i)) ks) ≡ true
        → list_any (returns_until u history posts n) (cond b (suc i ∷ waiting_from (suc (suc i)) ks) (waiting_from (suc (suc i)) ks)) ≡ true
    by true r = right-true (returns_until u history posts n (suc i)) (list_any (returns_until u history posts n) (waiting_from (suc (suc i)) ks)) r
    by false r = r

pub one-returns : (u : Until) (history : List Kept) (posts : List CorrectedPost) (n m : ℕ) → returns_until u history posts n m ≡ true → is_returned_until u history posts n ≡ true
one-returns u history posts n zero e = absurd (cc)
one-returns u history posts n (suc j) e =
    let on : j ≡ 0 + j = omega arith in
    return-at u history posts n 0 j history (λ m. let at : 0 + m ≡ m = omega arith in ap (slice_get history) at) (sym (ap (λ m. returns_until u history posts n (suc m)) on) ∙ e)

-- ---- where none waits for it
none-from : (u : Until) (history : List Kept) (posts : List CorrectedPost) (n i : ℕ) (ks : List Kept) → ((m : ℕ) → slice_get history (i + m) ≡ slice_get ks m) → first_from n (suc i) ks ≡ 0
    → list_any (returns_until u history posts n) (waiting_from (suc i) ks) ≡ false
unfolding waiting_from first_from
none-from u history posts n i [] h e = refl
none-from u history posts n i (k ∷ ks) h e = by (waits k.post) (awaited k.post == n) refl e (none-from u history posts n (suc i) ks (rest-at history i k ks h))
  where
    this : (awaited k.post == n) ≡ false → returns_until u history posts n (suc i) ≡ false
    this f =
        let none : returns_at n (slice_get history i) ≡ false = ap (returns_at n) (first-at history i k ks h) ∙ other-returns n k.post f in
        ap (λ b. b && holds_of (λ (s : Slot). reaches u s.day s.number) (slot_with (suc i) posts)) none

    by : (w a : Bool) → (awaited k.post == n) ≡ a → cond a (suc i) (first_from n (suc (suc i)) ks) ≡ 0
        → (first_from n (suc (suc i)) ks ≡ 0 → list_any (returns_until u history posts n) (waiting_from (suc (suc i)) ks) ≡ false)
        → list_any (returns_until u history posts n) (cond w (suc i ∷ waiting_from (suc (suc i)) ks) (waiting_from (suc (suc i)) ks)) ≡ false
    by w true f g r = absurd (omega (arith, g))
    by true false f g r = ap (λ b. b || list_any (returns_until u history posts n) (waiting_from (suc (suc i)) ks)) (this f) ∙ r g
    by false false f g r = r g

no-number : (x : ℕ) → if_any x ≡ None → x ≡ 0
no-number x e = by (x == 0) refl e
  where
    same : (a : ℕ) → (a == 0) ≡ true → a ≡ 0
    same a f = grind (arith, nat_tests)

    by : (b : Bool) → (x == 0) ≡ b → cond b None (Some x) ≡ None → x ≡ 0
    by true f g = same x f
    by false f g = absurd (cc)

pub none-waits : (u : Until) (history : List Kept) (posts : List CorrectedPost) (n : ℕ) → if_any (first_by n history) ≡ None → is_returned_until u history posts n ≡ false
none-waits u history posts n e = none-from u history posts n 0 history (λ m. let at : 0 + m ≡ m = omega arith in ap (slice_get history) at) (no-number (first_by n history) e)

-- ---- in the corrected list
first-slot : (number : ℕ) (p : CorrectedPost) (ps : List CorrectedPost) → p.number ≡ number → slot_with number (p ∷ ps) ≡ Some (slot_of p)
first-slot number p ps e = by (eqb p.number number) refl
  where
    by : (t : Bool) → eqb p.number number ≡ t → option_map slot_of (cond t (Some p) (find (λ (q : CorrectedPost). eqb q.number number) ps)) ≡ Some (slot_of p)
    by true f = refl
    by false f = absurd (grind (arith, e, f))

later-slot : (number : ℕ) (p : CorrectedPost) (ps : List CorrectedPost) → (p.number ≡ number → ⊥) → slot_with number (p ∷ ps) ≡ slot_with number ps
later-slot number p ps e = let other : eqb p.number number ≡ false = ne_eqb p.number number e in rw other refl

-- the slot of a post is that of its place
slot-at : (a : Anchor) (holidays : List ℕ) (history : List Kept) (j n segment : ℕ) (ks : List Kept)
    → slot_with (n + j) (corrected_from a holidays history n segment ks) ≡ option_map slot_of (slice_get (corrected_from a holidays history n segment ks) j)
unfolding corrected_from corrected_post
slot-at a holidays history j n segment [] = refl
slot-at a holidays history zero n segment (k ∷ ks) =
    let here : n ≡ n + 0 = omega arith in
    first-slot (n + 0) (corrected_post a holidays history n segment k) (corrected_from a holidays history (suc n) (next_segment segment k.post) ks) here
slot-at a holidays history (suc j) n segment (k ∷ ks) =
    let next : suc n + j ≡ n + suc j = omega arith in
    later-slot (n + suc j) (corrected_post a holidays history n segment k) (corrected_from a holidays history (suc n) (next_segment segment k.post) ks) (λ f. omega (arith, f))
    ∙ subst (λ m. slot_with m (corrected_from a holidays history (suc n) (next_segment segment k.post) ks) ≡ option_map slot_of (slice_get (corrected_from a holidays history (suc n) (next_segment segment k.post) ks) j)) next
    (slot-at a holidays history j (suc n) (next_segment segment k.post) ks)

-- the slot of the first of these posts
first-reached : (u : Until) (a : Anchor) (holidays : List ℕ) (history : List Kept) (posts : List CorrectedPost) (i segment : ℕ) (k : Kept) (ks : List Kept)
    → ((m : ℕ) → slot_with (suc i + m) posts ≡ option_map slot_of (slice_get (corrected_from a holidays history (suc i) segment (k ∷ ks)) m))
    → holds_of (λ s. reaches u s.day s.number) (slot_with (suc i) posts) ≡ reaches u (effective_day a holidays history (suc i) k.accepted k.post) (suc i)
unfolding corrected_from corrected_post
first-reached u a holidays history posts i segment k ks s =
    let here : suc i ≡ suc i + 0 = omega arith in
    ap (holds_of (λ (x : Slot). reaches u x.day x.number)) (ap (λ x. slot_with x posts) here ∙ s 0)

-- and what it returns
first-returns : (u : Until) (a : Anchor) (holidays : List ℕ) (history : List Kept) (posts : List CorrectedPost) (n i segment : ℕ) (k : Kept) (ks : List Kept) → slice_get history i ≡ Some k
    → ((m : ℕ) → slot_with (suc i + m) posts ≡ option_map slot_of (slice_get (corrected_from a holidays history (suc i) segment (k ∷ ks)) m))
    → returns_until u history posts n (suc i) ≡ (returns n k.post && reaches u (effective_day a holidays history (suc i) k.accepted k.post) (suc i))
first-returns u a holidays history posts n i segment k ks there s =
    ap (λ o. returns_at n o && holds_of (λ (x : Slot). reaches u x.day x.number) (slot_with (suc i) posts)) there
    ∙ ap (λ b. returns n k.post && b) (first-reached u a holidays history posts i segment k ks s)

by-corrected : (u : Until) (a : Anchor) (holidays : List ℕ) (history : List Kept) (posts : List CorrectedPost) (n i segment : ℕ) (ks : List Kept) → ((m : ℕ) → slice_get history (i + m) ≡ slice_get ks m)
    → ((m : ℕ) → slot_with (suc i + m) posts ≡ option_map slot_of (slice_get (corrected_from a holidays history (suc i) segment ks) m))
    → list_any (returns_until u history posts n) (waiting_from (suc i) ks) ≡ list_any (λ q. returns n q.post && reaches u q.day q.number) (corrected_from a holidays history (suc i) segment ks)
unfolding waiting_from corrected_from corrected_post
by-corrected u a holidays history posts n i segment [] h s = refl
by-corrected u a holidays history posts n i segment (k ∷ ks) h s =
    by (waits k.post) refl (first-returns u a holidays history posts n i segment k ks (first-at history i k ks h) s)
    (by-corrected u a holidays history posts n (suc i) (next_segment segment k.post) ks (rest-at history i k ks h) (λ m. let on : suc (suc i) + m ≡ suc i + suc m = omega arith in ap (λ x. slot_with x posts) on ∙ s (suc m)))
  where
    by : (w : Bool) → waits k.post ≡ w
        → returns_until u history posts n (suc i) ≡ (returns n k.post && reaches u (effective_day a holidays history (suc i) k.accepted k.post) (suc i))
        → list_any (returns_until u history posts n) (waiting_from (suc (suc i)) ks) ≡ list_any (λ q. returns n q.post && reaches u q.day q.number) (corrected_from a holidays history (suc (suc i)) (next_segment segment k.post) ks)
        → list_any (returns_until u history posts n) (cond w (suc i ∷ waiting_from (suc (suc i)) ks) (waiting_from (suc (suc i)) ks))
        ≡ ((returns n k.post && reaches u (effective_day a holidays history (suc i) k.accepted k.post) (suc i)) || list_any (λ q. returns n q.post && reaches u q.day q.number) (corrected_from a holidays history (suc (suc i)) (next_segment segment k.post) ks))
    by true e t r =
        ap (λ b. b || list_any (returns_until u history posts n) (waiting_from (suc (suc i)) ks)) t
        ∙ ap (λ b. (returns n k.post && reaches u (effective_day a holidays history (suc i) k.accepted k.post) (suc i)) || b) r
    by false e t r =
        r ∙ sym (ap (λ b. (b && reaches u (effective_day a holidays history (suc i) k.accepted k.post) (suc i)) || list_any (λ q. returns n q.post && reaches u q.day q.number) (corrected_from a holidays history (suc (suc i)) (next_segment segment k.post) ks)) (none-returns n k.post e))

pub returned-corrected : (u : Until) (a : Anchor) (holidays : List ℕ) (history : List Kept) (n : ℕ)
    → is_returned_until u history (corrected a holidays history) n ≡ list_any (λ q. returns n q.post && reaches u q.day q.number) (corrected a holidays history)
returned-corrected u a holidays history n =
    by-corrected u a holidays history (corrected a holidays history) n 0 5 history (λ m. let at : 0 + m ≡ m = omega arith in ap (slice_get history) at) (λ m. slot-at a holidays history m 1 5 history)
