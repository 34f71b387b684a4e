-- The corrected list after one more post.
use Rattle.std.proofs.Common.{◌≡◌, ℕ, zero, suc, ◌+◌, ◌<◌, ◌≤◌, min, false, List, [], ◌∷◌, ◌++◌, take, length, length-append, get_or, map, refl, sym, ap, ◌∙◌, subst, arith, pos}
use Rattle.std.proofs.lemmas.List.{take_more}
use Rattle.card_events.specs.Range.{last_calendar_day}
use Rattle.card_events.specs.declared.anchor.Anchor.{Anchor}
use Rattle.card_events.specs.History.{CorrectedPost, anchor_of, cents_of, corrected, corrected_from, corrected_post, effective_day, next_segment, slot_of}
use Rattle.card_events.specs.Limits.{post_limit}
use Rattle.card_events.specs.declared.kept.Kept.{Kept}
use Rattle.card_posts.specs.Change.{IsFirstChange, first_change}
use Rattle.card_posts.specs.Corrections.{corrects}
use Rattle.card_posts.specs.Effect.{corrected_by, corrected_with, effect_of, effects, effects_from, slots_from}
use Rattle.card_posts.specs.Posted.{target_of}
use Rattle.card_posts.specs.Stored.{IsKept, IsTimely, NameEarlier}
use Rattle.card_posts.specs.declared.effect.Effect.{Effect}
use Rattle.card_posts.proofs.Changed.{change-last, first-change-exact}
use Rattle.card_posts.proofs.DayLemmas.{timely-append}
use Rattle.card_posts.proofs.Numbers.{numbered-more}
use Rattle.card_posts.proofs.Ordered.{on-in_order}
use Rattle.card_posts.proofs.SlotLists.{slots-numbered}
use Rattle.card_posts.specs.Order.{in_order, on_day}
use Rattle.card_events.proofs.OneMore.{more}
use Rattle.card_posts.proofs.OneMore.{effects-append, effects-length, names-append, plain-effects}

take-all : (n : ℕ) (xs : List Effect) → length xs ≡ n → take n xs ≡ xs
take-all zero [] e = refl
take-all zero (x ∷ xs) e = absurd (omega (arith, e))
take-all (suc n) [] e = absurd (omega (arith, e))
take-all (suc n) (x ∷ xs) e = ap (λ u. x ∷ u) (take-all n xs (omega (arith, e)))

pub front-length : (i : ℕ) (xs : List Effect) → i ≤ length xs → length (take i xs) ≡ i
front-length zero xs l = refl
front-length (suc i) [] l = absurd (omega (arith, l))
front-length (suc i) (x ∷ xs) l = ap suc (front-length i xs (omega (arith, l)))

-- what counts for the earlier posts and for the last one is all
pub whole : (n : ℕ) (xs : List Effect) (d : Effect) → length xs ≡ n + 1 → take n xs ++ get_or xs n d ∷ [] ≡ xs
whole n xs d e = let l : n < length xs = omega (arith, e) in sym (take_more xs n d l) ∙ take-all (n + 1) xs e

pub take-front : (n : ℕ) (xs ys : List Effect) → length xs ≡ n → take n (xs ++ ys) ≡ xs
take-front zero [] ys e = refl
take-front zero (x ∷ xs) ys e = absurd (omega (arith, e))
take-front (suc n) [] ys e = absurd (omega (arith, e))
take-front (suc n) (x ∷ xs) ys e = ap (λ u. x ∷ u) (take-front n xs ys (omega (arith, e)))

-- a post that corrects nothing leaves the front
pub plain-front : (a : Anchor) (holidays : List ℕ) (h : List Kept) (k : Kept) → NameEarlier 1 h → target_of k.post ≤ length h → corrects k.post ≡ false
    → effects a holidays h ≡ take (length (effects a holidays h)) (effects a holidays (more h k))
plain-front a holidays h k e l f =
    let same = plain-effects a holidays h k e l f in
    let there : effects a holidays (more h k) ≡ effects_from a holidays (more h k) 1 h ++ _ = effects-append a holidays (more h k) 1 h k in
    let long : length (effects_from a holidays (more h k) 1 h) ≡ length (effects a holidays h) = ap length same in
    sym (ap (take (length (effects a holidays h))) there ∙ (take-front (length (effects a holidays h)) (effects_from a holidays (more h k) 1 h) _ long ∙ same))

-- the day of a push is exact
pub push-from : (ks : List Kept) (k : Kept) (es fs : List Effect) (e : Effect) (from : ℕ) → length ks ≡ length es → length es ≡ length fs → e.day ≤ last_calendar_day → from ≡ min e.day (first_change last_calendar_day es fs)
    → IsFirstChange from (corrected_with 1 5 ks es) (corrected_with 1 5 (ks ++ k ∷ []) (fs ++ e ∷ []))
push-from ks k es fs e from j l b is =
    let low : min e.day last_calendar_day ≡ e.day = omega (arith, b) in
    let day : from ≡ first_change e.day es fs = is ∙ (change-last e.day last_calendar_day es fs ∙ ap (λ m. first_change m es fs) low) in
    subst (λ m. IsFirstChange m (corrected_with 1 5 ks es) (corrected_with 1 5 (ks ++ k ∷ []) (fs ++ e ∷ []))) (sym day) (first-change-exact ks k es fs e j l)

-- ---- the corrected list by what is kept by number
with-is : (a : Anchor) (holidays : List ℕ) (h : List Kept) (n segment : ℕ) (ks : List Kept) → corrected_with n segment ks (effects_from a holidays h n ks) ≡ corrected_from a holidays h n segment ks
unfolding corrected_with effects_from corrected_from corrected_post
with-is a holidays h n segment [] = refl
with-is a holidays h n segment (k ∷ ks) = ap (λ u. corrected_post a holidays h n segment k ∷ u) (with-is a holidays h (suc n) (next_segment segment k.post) ks)

pub corrected-is : (a : Anchor) (holidays : List ℕ) (h : List Kept) → corrected_with 1 5 h (effects a holidays h) ≡ corrected a holidays h
corrected-is a holidays h = with-is a holidays h 1 5 h

abbrev effect_by : ℕ → ℕ → Effect
effect_by d c = record { day = d; cents = c }

-- and back
with-back : (a : Anchor) (holidays : List ℕ) (h : List Kept) (n segment : ℕ) (ks : List Kept) (es : List Effect) → length es ≡ length ks → corrected_with n segment ks es ≡ corrected_from a holidays h n segment ks → es ≡ effects_from a holidays h n ks
unfolding corrected_with effects_from corrected_from corrected_post
with-back a holidays h n segment [] [] l e = refl
with-back a holidays h n segment [] (x ∷ es) l e = absurd (omega (arith, l))
with-back a holidays h n segment (k ∷ ks) [] l e = absurd (omega (arith, l))
with-back a holidays h n segment (k ∷ ks) (x ∷ es) l e =
    let after : ℕ = next_segment segment k.post in
    let head : corrected_by n segment k x ≡ corrected_post a holidays h n segment k = first _ _ _ _ e in
    let day : x.day ≡ effective_day a holidays h n k.accepted k.post = ap (λ (p : CorrectedPost). p.day) head in
    let cents : x.cents ≡ cents_of h n k.post = ap (λ (p : CorrectedPost). p.cents) head in
    let rest : es ≡ effects_from a holidays h (suc n) ks = with-back a holidays h (suc n) after ks es (omega (arith, l)) (others _ _ _ _ e) in
    pair x (effect_of a holidays h n k) es (effects_from a holidays h (suc n) ks) (parts x.day x.cents _ _ day cents) rest
  where
    first : (p q : CorrectedPost) (ps qs : List CorrectedPost) → p ∷ ps ≡ q ∷ qs → p ≡ q
    first p q ps qs e = cc

    others : (p q : CorrectedPost) (ps qs : List CorrectedPost) → p ∷ ps ≡ q ∷ qs → ps ≡ qs
    others p q ps qs e = cc

    pair : (x y : Effect) (xs ys : List Effect) → x ≡ y → xs ≡ ys → x ∷ xs ≡ y ∷ ys
    pair x y xs ys e f = rw (e, f) refl

    parts : (d c m b : ℕ) → d ≡ m → c ≡ b → effect_by d c ≡ effect_by m b
    parts d c m b e f = rw (e, f) refl

pub effects-back : (a : Anchor) (holidays : List ℕ) (h : List Kept) (es : List Effect) → length es ≡ length h → corrected_with 1 5 h es ≡ corrected a holidays h → es ≡ effects a holidays h
effects-back a holidays h es l e = with-back a holidays h 1 5 h es l e

pub slots-of : (n segment : ℕ) (ks : List Kept) (es : List Effect) → length es ≡ length ks → map slot_of (corrected_with n segment ks es) ≡ slots_from n es
unfolding corrected_with slots_from
slots-of n segment [] [] l = refl
slots-of n segment [] (x ∷ es) l = absurd (omega (arith, l))
slots-of n segment (k ∷ ks) [] l = absurd (omega (arith, l))
slots-of n segment (k ∷ ks) (x ∷ es) l = ap (λ u. record { day = x.day; number = n; cents = pos x.cents } ∷ u) (slots-of (suc n) (next_segment segment k.post) ks es (omega (arith, l)))

-- ---- a history that may be kept
pub same-anchor : (h : List Kept) (k : Kept) → 1 ≤ length h → anchor_of h ≡ anchor_of (more h k)
same-anchor [] k l = absurd (omega (arith, l))
same-anchor (q ∷ h) k l = refl

pub kept-more : (a : Anchor) (h : List Kept) (k : Kept) → IsKept a h → length h < post_limit → k.number ≡ length h + 1 → target_of k.post ≤ length h → IsTimely a.opened k → IsKept a (more h k)
kept-more a h k kept few number earlier timely =
    let long : length (more h k) ≡ length h + 1 = length-append h (k ∷ []) in
    record {
      few = omega (arith, long, few);
      some = omega (arith, long);
      anchor = kept.anchor ∙ same-anchor h k kept.some;
      close_day = kept.close_day;
      numbered = numbered-more 1 h k kept.numbered (omega (arith, number));
      names = names-append 1 h k kept.names (omega (arith, earlier));
      timely = timely-append a.opened h k kept.timely timely;
    }

-- the slots of a day stand in order of acceptance
pub days-in-order : (a : Anchor) (holidays : List ℕ) (h : List Kept) (day : ℕ) → on_day day (in_order (map slot_of (corrected a holidays h))) ≡ on_day day (map slot_of (corrected a holidays h))
days-in-order a holidays h day =
    let es : List Effect = effects a holidays h in
    let slots : map slot_of (corrected a holidays h) ≡ slots_from 1 es = sym (ap (map slot_of) (corrected-is a holidays h)) ∙ slots-of 1 5 h es (effects-length a holidays h 1 h) in
    rw slots (on-in_order 1 day (slots_from 1 es) (slots-numbered 1 es))
