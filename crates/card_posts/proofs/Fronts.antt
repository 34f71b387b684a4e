-- A history without its last post, and what is kept beside it.
use Rattle.std.proofs.Common.{◌≡◌, ℕ, zero, suc, ◌+◌, ◌-◌, ◌<◌, ◌≤◌, false, List, [], ◌∷◌, ◌++◌, take, drop, length, length-append, refl, sym, ap, ◌∙◌, arith, add-one}
use Rattle.std.proofs.lemmas.List.{length-take-le, take_at}
use Rattle.std.proofs.lemmas.List.Elements.{All-take}
use Rattle.card_events.specs.declared.anchor.Anchor.{Anchor}
use Rattle.card_events.specs.History.{corrected, next_segment}
use Rattle.card_events.specs.declared.kept.Kept.{Kept}
use Rattle.card_events.specs.declared.kept.Slot.{Slot}
use Rattle.card_posts.specs.Corrections.{correction_of, corrections_from, corrects}
use Rattle.card_posts.specs.Effect.{corrected_by, corrected_with, effects, slot_by, slots_from}
use Rattle.card_posts.specs.Order.{in_order, without}
use Rattle.card_posts.specs.Posted.{AreNumbered, target_of}
use Rattle.card_posts.specs.Stored.{AreBeside, AreTimely, IsKept, NameEarlier}
use Rattle.card_posts.specs.declared.correction.Correction.{Correction}
use Rattle.card_posts.specs.declared.effect.Effect.{Effect}
use Rattle.card_posts.proofs.Following.{corrected-is, plain-front, same-anchor}
use Rattle.card_posts.proofs.Noted.{corrections-append, corrections-length, plain-kept}
use Rattle.card_events.proofs.OneMore.{more}
use Rattle.card_posts.proofs.OneMore.{effects-length}

pub pop-front : (h : List Kept) (k : Kept) (n : ℕ) → n ≡ length (more h k) → take (n - 1) (more h k) ≡ h
pop-front h k n e =
    let long : length (more h k) ≡ length h + 1 = length-append h (k ∷ []) in
    let count : n - 1 ≡ length h = omega (arith, long, e) in
    ap (λ m. take m (more h k)) count ∙ take_at h (k ∷ []) (length h) refl

-- ---- what holds of each post holds of the first ones
numbered-front : (n : ℕ) (ks : List Kept) (k : Kept) → AreNumbered n (ks ++ k ∷ []) → AreNumbered n ks
unfolding AreNumbered
numbered-front n [] k h = tt
numbered-front n (q ∷ ks) k h = (h.0, numbered-front (suc n) ks k h.1)

pub names-front : (n : ℕ) (ks : List Kept) (k : Kept) → NameEarlier n (ks ++ k ∷ []) → NameEarlier n ks
unfolding NameEarlier
names-front n [] k h = tt
names-front n (q ∷ ks) k h = (h.0, names-front (suc n) ks k h.1)

names-last : (n : ℕ) (ks : List Kept) (k : Kept) → NameEarlier n (ks ++ k ∷ []) → target_of k.post < n + length ks
unfolding NameEarlier
names-last n [] k h = omega (arith, h.0)
names-last n (q ∷ ks) k h = let r = names-last (suc n) ks k h.1 in omega (arith, r)

pub target-last : (h : List Kept) (k : Kept) → NameEarlier 1 (more h k) → target_of k.post ≤ length h
target-last h k e = let r = names-last 1 h k e in omega (arith, r)

timely-front : (opened : ℕ) (ks : List Kept) (k : Kept) → AreTimely opened (ks ++ k ∷ []) → AreTimely opened ks
unfolding AreTimely
timely-front opened [] k h = tt
timely-front opened (q ∷ ks) k h = (h.0, timely-front opened ks k h.1)

pub kept-front : (a : Anchor) (h : List Kept) (k : Kept) → 1 ≤ length h → IsKept a (more h k) → IsKept a h
kept-front a h k some kept =
    let long : length (more h k) ≡ length h + 1 = length-append h (k ∷ []) in
    record {
      few = omega (arith, long, kept.few);
      some = some;
      anchor = kept.anchor ∙ sym (same-anchor h k some);
      close_day = kept.close_day;
      numbered = numbered-front 1 h k kept.numbered;
      names = names-front 1 h k kept.names;
      timely = timely-front a.opened h k kept.timely;
    }

-- ---- the corrected list of the first posts
pub with-front : (n segment : ℕ) (ks : List Kept) (k : Kept) (es : List Effect) → take (length ks) (corrected_with n segment (ks ++ k ∷ []) es) ≡ corrected_with n segment ks (take (length ks) es)
unfolding corrected_with
with-front n segment [] k es = refl
with-front n segment (q ∷ ks) k [] = refl
with-front n segment (q ∷ ks) k (e ∷ es) = ap (λ u. corrected_by n segment q e ∷ u) (with-front (suc n) (next_segment segment q.post) ks k es)

-- a post that corrects nothing leaves it
pub plain-corrected : (a : Anchor) (holidays : List ℕ) (h : List Kept) (k : Kept) → NameEarlier 1 h → target_of k.post ≤ length h → corrects k.post ≡ false → take (length h) (corrected a holidays (more h k)) ≡ corrected a holidays h
plain-corrected a holidays h k e l f =
    let long : length h ≡ length (effects a holidays h) = sym (effects-length a holidays h 1 h) in
    let front : take (length h) (effects a holidays (more h k)) ≡ effects a holidays h = ap (λ n. take n (effects a holidays (more h k))) long ∙ sym (plain-front a holidays h k e l f) in
    ap (take (length h)) (sym (corrected-is a holidays (more h k)))
    ∙ (with-front 1 5 h k (effects a holidays (more h k)) ∙ (ap (corrected_with 1 5 h) front ∙ corrected-is a holidays h))

-- ---- what is kept beside them
slots-last : (m n : ℕ) (es : List Effect) → length es ≡ suc n → take n (slots_from m es) ++ drop (suc n) (slots_from m es) ≡ slots_from m (take n es)
unfolding slots_from
slots-last m n [] l = absurd (omega (arith, l))
slots-last m zero (e ∷ []) l = refl
slots-last m zero (e ∷ f ∷ es) l = absurd (omega (arith, l))
slots-last m (suc n) (e ∷ es) l = ap (λ u. slot_by m e ∷ u) (slots-last (suc m) n es (omega (arith, l)))

-- the slots without the last one
pub without-last : (n : ℕ) (es : List Effect) → length es ≡ n + 1 → without n (slots_from 1 es) ≡ slots_from 1 (take n es)
without-last n es l = rw add-one (slots-last 1 n es (omega (arith, l)))

corrections-front : (h : List Kept) (k : Kept) → NameEarlier 1 h → target_of k.post ≤ length h → corrects k.post ≡ false → take (length h) (corrections_from (more h k) 1 (more h k)) ≡ corrections_from h 1 h
corrections-front h k e l f =
    ap (take (length h)) (corrections-append (more h k) 1 h k)
    ∙ (take_at (corrections_from (more h k) 1 h) (correction_of (more h k) (1 + length h) ∷ []) (length h) (corrections-length (more h k) 1 h) ∙ plain-kept h k e l f)

-- beside the first posts, where the last one corrects none of them
pub beside-front : (h : List Kept) (k : Kept) (cs : List Correction) (es : List Effect) (slots : List Slot) → NameEarlier 1 (more h k) → corrects k.post ≡ false → AreBeside (more h k) cs es slots
    → AreBeside h (take (length cs - 1) cs) (take (length es - 1) es) (in_order (slots_from 1 (take (length es - 1) es)))
beside-front h k cs es slots e f b =
    let names : NameEarlier 1 h = names-front 1 h k e in
    let target : target_of k.post ≤ length h = target-last h k e in
    let long : length (more h k) ≡ length h + 1 = length-append h (k ∷ []) in
    let same : length cs ≡ length (corrections_from (more h k) 1 (more h k)) = ap length b.corrections in
    let there : length (corrections_from (more h k) 1 (more h k)) ≡ length (more h k) = corrections-length (more h k) 1 (more h k) in
    let count : length cs - 1 ≡ length h = omega (arith, long, same, there) in
    let many : length es - 1 ≡ length h = omega (arith, long, b.effects) in
    let within : length es - 1 ≤ length es = omega arith in
    record {
      corrections = ap (λ n. take n cs) count ∙ (ap (take (length h)) b.corrections ∙ corrections-front h k names target f);
      effects = length-take-le (length es - 1) es within ∙ many;
      small = All-take (λ (x : Effect). x.cents ≤ 999_999_999_999) (length es - 1) es b.small;
      order = refl;
    }
