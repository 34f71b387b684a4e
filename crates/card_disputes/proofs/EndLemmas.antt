-- The posts of the corrected list that end a task are those of the history.
use Rattle.std.proofs.Common.{◌≡◌, ℕ, zero, suc, ◌+◌, ◌<◌, ◌≤◌, ◌⊎◌, inl, inr, drop, nat_lt, Bool, true, false, List, [], ◌∷◌, refl, sym, ap, ◌∙◌, subst, arith}
use Rattle.std.specs.Prelude.{◌||◌, slice_get}
use Rattle.std.specs.List.{list_any}
use Rattle.std.proofs.lemmas.Bool.{cases_lt}
use Rattle.std.proofs.lemmas.Bool.Decides.{nat_tests}
use Rattle.card_events.specs.declared.anchor.Anchor.{Anchor}
use Rattle.card_disputes.proofs.Scans.{any-hit, at_place}
use Rattle.card_events.specs.History.{at_number, corrected, corrected_from, corrected_post, next_segment}
use Rattle.card_events.specs.declared.kept.Kept.{Kept}
use Rattle.card_events.specs.declared.post.Post.{Post}
use Rattle.card_model.specs.Deadlines.{has, has_later}
use Rattle.card_model.specs.Refusals.{holds_of}

any-from : (q : Post → Bool) (a : Anchor) (holidays : List ℕ) (history : List Kept) (n segment : ℕ) (ks : List Kept) → list_any (λ k. q k.post) ks ≡ has q (corrected_from a holidays history n segment ks)
unfolding corrected_from corrected_post
any-from q a holidays history n segment [] = refl
any-from q a holidays history n segment (k ∷ ks) = ap (λ b. q k.post || b) (any-from q a holidays history (suc n) (next_segment segment k.post) ks)

pub any-is : (q : Post → Bool) (a : Anchor) (holidays : List ℕ) (history : List Kept) → list_any (λ k. q k.post) history ≡ has q (corrected a holidays history)
any-is q a holidays history = any-from q a holidays history 1 5 history

late-from : (q : Post → Bool) (a : Anchor) (holidays : List ℕ) (history : List Kept) (m n segment : ℕ) (ks : List Kept) → m < n → list_any (λ k. q k.post) ks ≡ has_later q m (corrected_from a holidays history n segment ks)
unfolding corrected_from corrected_post
late-from q a holidays history m n segment [] l = refl
late-from q a holidays history m n segment (k ∷ ks) l =
    let later : nat_lt m n ≡ true = grind (arith, nat_tests, l) in
    rw later (ap (λ b. q k.post || b) (late-from q a holidays history m (suc n) (next_segment segment k.post) ks (omega (arith, l))))

later-from : (q : Post → Bool) (a : Anchor) (holidays : List ℕ) (history : List Kept) (i m segment : ℕ) (ks : List Kept) → list_any (λ k. q k.post) (drop i ks) ≡ has_later q (m + i) (corrected_from a holidays history (suc m) segment ks)
unfolding corrected_from corrected_post
later-from q a holidays history zero m segment [] = refl
later-from q a holidays history (suc i) m segment [] = refl
later-from q a holidays history zero m segment (k ∷ ks) =
    let here : m + 0 ≡ m = omega arith in
    subst (λ n. list_any (λ x. q x.post) (k ∷ ks) ≡ has_later q n (corrected_from a holidays history (suc m) segment (k ∷ ks))) (sym here)
    (late-from q a holidays history m (suc m) segment (k ∷ ks) (omega arith))
later-from q a holidays history (suc i) m segment (k ∷ ks) =
    let next : suc m + i ≡ m + suc i = omega arith in
    let early : nat_lt (m + suc i) (suc m) ≡ false = grind (arith, nat_tests) in
    rw early
    (subst (λ n. list_any (λ x. q x.post) (drop i ks) ≡ has_later q n (corrected_from a holidays history (suc (suc m)) (next_segment segment k.post) ks)) next
    (later-from q a holidays history i (suc m) (next_segment segment k.post) ks))

pub later-is : (q : Post → Bool) (a : Anchor) (holidays : List ℕ) (history : List Kept) (n : ℕ) → list_any (λ k. q k.post) (drop n history) ≡ has_later q n (corrected a holidays history)
later-is q a holidays history n =
    let none : 0 + n ≡ n = omega arith in
    later-from q a holidays history n 0 5 history ∙ ap (λ m. has_later q m (corrected a holidays history)) none

-- ---- the last post that passes
none-anywhere : (q : Kept → Bool) (n : ℕ) (ks : List Kept) → list_any q ks ≡ false → list_any q (drop n ks) ≡ false
none-anywhere q zero [] e = e
none-anywhere q (suc n) [] e = e
none-anywhere q zero (k ∷ ks) e = e
none-anywhere q (suc n) (k ∷ ks) e = none-anywhere q n ks (rest (q k) (list_any q ks) e)
  where
    rest : (a b : Bool) → (a || b) ≡ false → b ≡ false
    rest true b f = absurd (cc)
    rest false b f = f

none-later : (q : Kept → Bool) (m n : ℕ) (ks : List Kept) → m ≤ n → list_any q (drop m ks) ≡ false → list_any q (drop n ks) ≡ false
none-later q zero n [] l e = none-anywhere q n [] e
none-later q zero n (k ∷ ks) l e = none-anywhere q n (k ∷ ks) e
none-later q (suc m) zero ks l e = absurd (omega (arith, l))
none-later q (suc m) (suc n) [] l e = e
none-later q (suc m) (suc n) (k ∷ ks) l e = none-later q m n ks (omega (arith, l)) e

some-earlier : (q : Kept → Bool) (m n : ℕ) (ks : List Kept) → m ≤ n → list_any q (drop n ks) ≡ true → list_any q (drop m ks) ≡ true
some-earlier q m n ks l e = by (list_any q (drop m ks)) refl
  where
    by : (b : Bool) → list_any q (drop m ks) ≡ b → b ≡ true
    by true f = refl
    by false f = let none = none-later q m n ks l f in absurd (cc)

-- where this post passes, and none behind it
pub last-here : (q : Kept → Bool) (i : ℕ) (ks : List Kept) → holds_of q (at_number (i + 1) ks) ≡ true → list_any q (drop (i + 1) ks) ≡ false → (n : ℕ) → list_any q (drop n ks) ≡ nat_lt n (i + 1)
last-here q i ks e f n = by (cases_lt n (i + 1))
  where
    by : (n < i + 1) ⊎ (i + 1 ≤ n) → list_any q (drop n ks) ≡ nat_lt n (i + 1)
    by (inl l) = let lower : nat_lt n (i + 1) ≡ true = grind (arith, nat_tests, l) in some-earlier q n i ks (omega (arith, l)) (any-hit q i ks e) ∙ sym lower
    by (inr l) = let upper : nat_lt n (i + 1) ≡ false = grind (arith, nat_tests, l) in none-later q (i + 1) n ks l f ∙ sym upper

-- where none does
pub last-none : (q : Kept → Bool) (ks : List Kept) → list_any q (drop 0 ks) ≡ false → (n : ℕ) → list_any q (drop n ks) ≡ nat_lt n 0
last-none q ks e n = let upper : nat_lt n 0 ≡ false = grind (arith, nat_tests) in none-later q 0 n ks (omega arith) e ∙ sym upper

skipped-at : (q : Kept → Bool) (i : ℕ) (ks : List Kept) → holds_of q (slice_get ks i) ≡ false → list_any q (drop i ks) ≡ list_any q (drop (suc i) ks)
skipped-at q zero [] e = refl
skipped-at q (suc i) [] e = refl
skipped-at q zero (k ∷ ks) e = rw e refl
skipped-at q (suc i) (k ∷ ks) e = skipped-at q i ks e

-- where this post doesn't pass, and none behind it
pub none-from : (q : Kept → Bool) (i : ℕ) (ks : List Kept) → holds_of q (at_number (i + 1) ks) ≡ false → list_any q (drop (i + 1) ks) ≡ false → list_any q (drop i ks) ≡ false
none-from q i ks e f =
    let one : suc i ≡ i + 1 = omega arith in
    skipped-at q i ks (sym (ap (holds_of q) (at_place i ks)) ∙ e) ∙ (ap (λ m. list_any q (drop m ks)) one ∙ f)
