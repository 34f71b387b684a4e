-- What else counts for earlier posts after one more: for the one that it corrects, and for those that wait.
use Rattle.std.proofs.Common.{◌≡◌, ℕ, zero, suc, ◌+◌, ◌-◌, ◌<◌, ◌≤◌, ◌⊎◌, inl, inr, max, Bool, true, false, cond, ◌==◌, List, [], ◌∷◌, take, length, get_or, set, refl, sym, ap, ◌∙◌, subst, arith, Option, Some, None}
use Rattle.std.specs.List.{All}
use Rattle.std.proofs.lemmas.Bool.{cases_eq, cases_lt}
use Rattle.std.proofs.lemmas.Bool.Decides.{nat_tests}
use Rattle.std.proofs.lemmas.List.{get_or-set_other, get_or-set_same, get_or-take, get_or_default, get_or_past, length-set, length-take-le, same_lists}
use Rattle.std.proofs.lemmas.List.Elements.{All-cons, All-nil}
use Rattle.std.proofs.lemmas.Option.{get_or_from_slice_get, slice_get-get_or}
use Rattle.card_events.specs.declared.anchor.Anchor.{Anchor}
use Rattle.card_events.specs.History.{at_number, effective_day, last_amend}
use Rattle.card_events.specs.declared.kept.Kept.{Kept}
use Rattle.card_events.specs.declared.post.Post.{Post}
use Rattle.card_events.specs.declared.post.Post.TheVariants as post
use Rattle.card_waits.specs.Waits.{waiting, waiting_from, waits}
use Rattle.card_posts.specs.Change.{AgreeBut, IsApart, IsFrom, IsMoved, following}
use Rattle.card_posts.specs.Corrections.{changed_by}
use Rattle.card_posts.specs.Effect.{awaited_day, awaits, day_alone, effects, effects_from}
use Rattle.card_posts.specs.Posted.{target_of}
use Rattle.card_posts.specs.Stored.{NameEarlier}
use Rattle.card_posts.specs.declared.effect.Effect.{Effect}
use Rattle.card_posts.proofs.Awaited.{days-under}
use Rattle.card_posts.proofs.DayLemmas.{day-by-later}
use Rattle.card_posts.proofs.FirstWith.{effect-at, first-changed, parts, still-at, unchanged}
use Rattle.card_posts.proofs.Following.{take-front}
use Rattle.card_posts.proofs.Left.{from-lower}
use Rattle.card_posts.proofs.Noted.{changed-within, said-other}
use Rattle.card_events.proofs.OneMore.{more}
use Rattle.card_posts.proofs.OneMore.{cents-agree, effects-append, effects-length}

-- ---- a post that doesn't wait
awaits-none : (p q : Post) → waits p ≡ false → awaits p q ≡ false
awaits-none (post.Open d' t') q w = refl
awaits-none (post.OpenVariable d' t') q w = refl
awaits-none (post.Charge d' p' c') q w = refl
awaits-none (post.Credit d' p' c') q w = refl
awaits-none (post.Payment d' i' y' c') q w = refl
awaits-none (post.Return d' t') q w = absurd (cc)
awaits-none (post.Plan d' v' r' w' f') q w = refl
awaits-none (post.Notice d' y' r' w') q w = refl
awaits-none (post.Lower d' y' r') q w = refl
awaits-none post.Penalty q w = refl
awaits-none (post.Review d' f') q w = refl
awaits-none (post.Dispute d' t' c') q w = absurd (cc)
awaits-none (post.Ack d' t') q w = refl
awaits-none (post.Resolve d' t' c') q w = absurd (cc)
awaits-none (post.AskRefund d') q w = refl
awaits-none (post.Refund c') q w = refl
awaits-none (post.Amend t' d' c') q w = refl
awaits-none (post.Bill c') q w = refl

no-awaited : (a : Anchor) (holidays : List ℕ) (h : List Kept) (p : Post) (o : Option Kept) → waits p ≡ false → awaited_day a holidays h p o ≡ 0
no-awaited a holidays h p None w = refl
no-awaited a holidays h p (Some k) w = rw (awaits-none p k.post w) refl

-- its effective day is that by itself
day-lone : (a : Anchor) (holidays : List ℕ) (h : List Kept) (n accepted : ℕ) (p : Post) → waits p ≡ false → effective_day a holidays h n accepted p ≡ day_alone a holidays (last_amend n h) accepted p
day-lone a holidays h n accepted p w =
    let none : awaited_day a holidays h p (at_number (target_of p) h) ≡ 0 = no-awaited a holidays h p (at_number (target_of p) h) w in
    day-by-later a holidays h n accepted p ∙ (ap (λ x. max (day_alone a holidays (last_amend n h) accepted p) x) none ∙ top (day_alone a holidays (last_amend n h) accepted p))
  where
    top : (d : ℕ) → max d 0 ≡ d
    top d = omega arith

lone-at : (a : Anchor) (holidays : List ℕ) (h : List Kept) (k : Kept) (i : ℕ) (d : Effect) → NameEarlier 1 h → target_of k.post ≤ length h → (changed_by h k.post ≡ suc i → ⊥) → i < length h → waits (get_or h i k).post ≡ false
    → get_or (effects a holidays h) i d ≡ get_or (effects_from a holidays (more h k) 1 h) i d
lone-at a holidays h k i d e l other w lone =
    let q : Kept = get_or h i k in
    let said = said-other h k e l (suc i) other in
    let day : effective_day a holidays h (suc i) q.accepted q.post ≡ effective_day a holidays (more h k) (suc i) q.accepted q.post =
    day-lone a holidays h (suc i) q.accepted q.post lone ∙ (ap (λ o. day_alone a holidays o q.accepted q.post) (sym said.0) ∙ sym (day-lone a holidays (more h k) (suc i) q.accepted q.post lone)) in
    rw (effect-at a holidays h i h d k w, effect-at a holidays (more h k) i h d k w) (parts _ _ _ _ day (sym (cents-agree (more h k) h (suc i) q.post said.0 said.1)))

-- ---- the numbers of those that wait
from-waiting : (n : ℕ) (h : List Kept) → IsFrom n (waiting_from n h)
unfolding waiting_from
from-waiting n [] = tt
from-waiting n (q ∷ h) = by (waits q.post) (from-waiting (suc n) h)
  where
    by : (b : Bool) → IsFrom (suc n) (waiting_from (suc n) h) → IsFrom n (cond b (n ∷ waiting_from (suc n) h) (waiting_from (suc n) h))
    by true f = (omega arith, f)
    by false f = from-lower n (suc n) (waiting_from (suc n) h) (omega arith) f

within-waiting : (n top : ℕ) (h : List Kept) → n + length h ≤ top + 1 → All (λ m. m ≤ top) (waiting_from n h)
unfolding waiting_from
within-waiting n top [] l = All-nil (λ m. m ≤ top)
within-waiting n top (q ∷ h) l = by (waits q.post) (within-waiting (suc n) top h (omega (arith, l)))
  where
    by : (b : Bool) → All (λ m. m ≤ top) (waiting_from (suc n) h) → All (λ m. m ≤ top) (cond b (n ∷ waiting_from (suc n) h) (waiting_from (suc n) h))
    by true f = All-cons (λ m. m ≤ top) n (waiting_from (suc n) h) (omega (arith, l)) f
    by false f = f

apart-waits : (n i : ℕ) (h : List Kept) (d : Kept) → i < length h → IsApart (n + i) (waiting_from n h) → waits (get_or h i d).post ≡ false
unfolding waiting_from
apart-waits n i [] d l a = absurd (omega (arith, l))
apart-waits n zero (q ∷ h) d l a = by (waits q.post) refl a
  where
    by : (b : Bool) → waits q.post ≡ b → IsApart (n + 0) (cond b (n ∷ waiting_from (suc n) h) (waiting_from (suc n) h)) → waits q.post ≡ false
    by true e f = absurd (f.0 (omega arith))
    by false e f = e
apart-waits n (suc i) (q ∷ h) d l a = apart-waits (suc n) i h d (omega (arith, l)) (by (waits q.post) a)
  where
    next : n + suc i ≡ suc n + i
    next = omega arith

    by : (b : Bool) → IsApart (n + suc i) (cond b (n ∷ waiting_from (suc n) h) (waiting_from (suc n) h)) → IsApart (suc n + i) (waiting_from (suc n) h)
    by true f = subst (λ m. IsApart m (waiting_from (suc n) h)) next f.1
    by false f = subst (λ m. IsApart m (waiting_from (suc n) h)) next f

-- ---- one more post
-- nothing else counts before the post that it corrects
below-at : (a : Anchor) (holidays : List ℕ) (h : List Kept) (k : Kept) (i : ℕ) (d : Effect) → NameEarlier 1 h → target_of k.post ≤ length h → suc i < changed_by h k.post → i < length h
    → get_or (effects a holidays h) i d ≡ get_or (effects_from a holidays (more h k) 1 h) i d
below-at a holidays h k i d e l b w =
    let said = said-other h k e l (suc i) (λ f. omega (arith, f, b)) in
    let day = days-under a holidays h k (suc i) (get_or h i k) e l (omega (arith, w)) b (slice_get-get_or h i k w) in
    rw (effect-at a holidays h i h d k w, effect-at a holidays (more h k) i h d k w) (parts _ _ _ _ day (sym (cents-agree (more h k) h (suc i) (get_or h i k).post said.0 said.1)))

-- the post that it corrects
corrected-day : (a : Anchor) (holidays : List ℕ) (h : List Kept) (k : Kept) (n : ℕ) (d : Effect) → NameEarlier 1 h → target_of k.post ≤ length h → n ≡ changed_by h k.post → 0 < n
    → (get_or (effects a holidays h) (n - 1) d).day ≡ (get_or (effects_from a holidays (more h k) 1 h) (n - 1) d).day
    → (q : Kept) → at_number (changed_by h k.post) h ≡ Some q → effective_day a holidays h (changed_by h k.post) q.accepted q.post ≡ effective_day a holidays (more h k) (changed_by h k.post) q.accepted q.post
corrected-day a holidays h k n d e l is z same q found =
    let number : suc (n - 1) ≡ changed_by h k.post = omega (arith, is, z) in
    let within : n - 1 < length h = omega (arith, is, z, changed-within h k.post e l) in
    let there : get_or h (n - 1) k ≡ q = get_or_from_slice_get h (n - 1) q k (ap (λ m. at_number m h) number ∙ found) in
    let before = ap (λ (x : Effect). x.day) (effect-at a holidays h (n - 1) h d k within) in
    let now = ap (λ (x : Effect). x.day) (effect-at a holidays (more h k) (n - 1) h d k within) in
    subst (λ m. effective_day a holidays h m q.accepted q.post ≡ effective_day a holidays (more h k) m q.accepted q.post) number
    (subst (λ (u : Kept). effective_day a holidays h (suc (n - 1)) u.accepted u.post ≡ effective_day a holidays (more h k) (suc (n - 1)) u.accepted u.post) there (sym before ∙ (same ∙ now)))

same-day : (a b : ℕ) → (a == b) ≡ true → a ≡ b
same-day a b e = grind (arith, nat_tests)

-- the others but those that follow it
others-at : (a : Anchor) (holidays : List ℕ) (h : List Kept) (k : Kept) (n i : ℕ) (d : Effect) → NameEarlier 1 h → target_of k.post ≤ length h → n ≡ changed_by h k.post → 0 < n → (i ≡ n - 1 → ⊥) → i < length h
    → IsApart (suc i) (following (get_or (effects a holidays h) (n - 1) d) (get_or (effects_from a holidays (more h k) 1 h) (n - 1) d) (waiting h)) → (x : Effect) → get_or (effects a holidays h) i x ≡ get_or (effects_from a holidays (more h k) 1 h) i x
others-at a holidays h k n i d e l is z other w apart x =
    by ((get_or (effects a holidays h) (n - 1) d).day == (get_or (effects_from a holidays (more h k) 1 h) (n - 1) d).day) refl apart
  where
    apart-number : changed_by h k.post ≡ suc i → ⊥
    apart-number f = other (omega (arith, f, is))

    number : suc i ≡ 1 + i
    number = omega arith

    by : (b : Bool) → ((get_or (effects a holidays h) (n - 1) d).day == (get_or (effects_from a holidays (more h k) 1 h) (n - 1) d).day) ≡ b → IsApart (suc i) (cond b [] (waiting h))
        → get_or (effects a holidays h) i x ≡ get_or (effects_from a holidays (more h k) 1 h) i x
    by true f g = sym (still-at a holidays h k i x e l (corrected-day a holidays h k n d e l is z (same-day _ _ f)) apart-number w)
    by false f g = lone-at a holidays h k i x e l apart-number w (apart-waits 1 i h k w (subst (λ m. IsApart m (waiting h)) number g))

following-from : (e f : Effect) (ws : List ℕ) → IsFrom 1 ws → IsFrom 1 (following e f ws)
following-from e f ws from = by (e.day == f.day)
  where
    by : (b : Bool) → IsFrom 1 (cond b [] ws)
    by true = tt
    by false = from

following-within : (e f : Effect) (ws : List ℕ) (top : ℕ) → All (λ m. m ≤ top) ws → All (λ m. m ≤ top) (following e f ws)
following-within e f ws top all = by (e.day == f.day)
  where
    by : (b : Bool) → All (λ m. m ≤ top) (cond b [] ws)
    by true = All-nil (λ m. m ≤ top)
    by false = all

-- all of it
one-moved : (a : Anchor) (holidays : List ℕ) (h : List Kept) (k : Kept) (n : ℕ) → NameEarlier 1 h → target_of k.post ≤ length h → n ≡ changed_by h k.post → IsMoved n (waiting h) (effects a holidays h) (effects_from a holidays (more h k) 1 h)
one-moved a holidays h k n e l is = record {
  within = omega (arith, long, within);
  none = λ z. unchanged a holidays h k e l (sym is ∙ z);
  front = λ z. same_lists (take (n - 1) (effects a holidays h)) (take (n - 1) (effects_from a holidays (more h k) 1 h))
      (length-take-le (n - 1) (effects a holidays h) (omega (arith, long, within)) ∙ sym (length-take-le (n - 1) (effects_from a holidays (more h k) 1 h) (omega (arith, longer, within))))
      (λ i d w. front i d (omega (arith, w, length-take-le (n - 1) (effects a holidays h) (omega (arith, long, within)))));
  others = λ d z. others d z;
  first = λ first d z. first-changed a holidays h k first (n - 1) d e l (sym is ∙ omega (arith, z));
}
  where
    within : n ≤ length h
    within = omega (arith, is, changed-within h k.post e l)

    long : length (effects a holidays h) ≡ length h
    long = effects-length a holidays h 1 h

    longer : length (effects_from a holidays (more h k) 1 h) ≡ length h
    longer = effects-length a holidays (more h k) 1 h

    front : (i : ℕ) (d : Effect) → i < n - 1 → get_or (take (n - 1) (effects a holidays h)) i d ≡ get_or (take (n - 1) (effects_from a holidays (more h k) 1 h)) i d
    front i d w =
        get_or-take (n - 1) (effects a holidays h) i d w
        ∙ (below-at a holidays h k i d e l (omega (arith, w, is)) (omega (arith, w, within)) ∙ sym (get_or-take (n - 1) (effects_from a holidays (more h k) 1 h) i d w))

    others : (d : Effect) → 0 < n
        → AgreeBut (following (get_or (effects a holidays h) (n - 1) d) (get_or (effects_from a holidays (more h k) 1 h) (n - 1) d) (waiting h)) (set (effects a holidays h) (n - 1) (get_or (effects_from a holidays (more h k) 1 h) (n - 1) d)) (effects_from a holidays (more h k) 1 h)
    others d z = record {
      from = following-from (get_or (effects a holidays h) (n - 1) d) (get_or (effects_from a holidays (more h k) 1 h) (n - 1) d) (waiting h) (from-waiting 1 h);
      within = following-within (get_or (effects a holidays h) (n - 1) d) (get_or (effects_from a holidays (more h k) 1 h) (n - 1) d) (waiting h) (length (set (effects a holidays h) (n - 1) (get_or (effects_from a holidays (more h k) 1 h) (n - 1) d)))
          (within-waiting 1 (length (set (effects a holidays h) (n - 1) (get_or (effects_from a holidays (more h k) 1 h) (n - 1) d))) h (omega (arith, count, long)));
      long = longer ∙ sym (count ∙ long);
      same = λ i x apart. by i x apart (cases_eq i (n - 1)) (cases_lt i (length h));
    }
      where
        now : Effect
        now = get_or (effects_from a holidays (more h k) 1 h) (n - 1) d

        count : length (set (effects a holidays h) (n - 1) (get_or (effects_from a holidays (more h k) 1 h) (n - 1) d)) ≡ length (effects a holidays h)
        count = length-set (effects a holidays h) (n - 1) (get_or (effects_from a holidays (more h k) 1 h) (n - 1) d)

        by : (i : ℕ) (x : Effect) → IsApart (suc i) (following (get_or (effects a holidays h) (n - 1) d) now (waiting h)) → (i ≡ n - 1) ⊎ (i ≡ n - 1 → ⊥) → (i < length h) ⊎ (length h ≤ i)
            → get_or (set (effects a holidays h) (n - 1) now) i x ≡ get_or (effects_from a holidays (more h k) 1 h) i x
        by i x apart (inl f) m = subst (λ j. get_or (set (effects a holidays h) (n - 1) now) j x ≡ get_or (effects_from a holidays (more h k) 1 h) j x) (sym f)
            (get_or-set_same (effects a holidays h) (n - 1) now x (omega (arith, z, within, long)) ∙ get_or_default (effects_from a holidays (more h k) 1 h) (n - 1) d x (omega (arith, z, within, longer)))
        by i x apart (inr f) (inl m) = get_or-set_other (effects a holidays h) (n - 1) i now x f ∙ others-at a holidays h k n i d e l is z f m apart x
        by i x apart (inr f) (inr m) = get_or-set_other (effects a holidays h) (n - 1) i now x f ∙ (get_or_past (effects a holidays h) i x (omega (arith, m, long)) ∙ sym (get_or_past (effects_from a holidays (more h k) 1 h) i x (omega (arith, m, longer))))

-- the same, where the history and what counts for its posts are those of the code
pub moved : (a : Anchor) (holidays : List ℕ) (h g : List Kept) (k : Kept) (es : List Effect) (n : ℕ) (ws : List ℕ) → es ≡ effects a holidays h → g ≡ more h k → NameEarlier 1 h → target_of k.post ≤ length h
    → n ≡ changed_by h k.post → ws ≡ waiting h → IsMoved n ws es (take (length es) (effects a holidays g))
moved a holidays h g k es n ws is now e named number waits_are =
    let long : length es ≡ length h = ap length is ∙ effects-length a holidays h 1 h in
    let front : take (length es) (effects a holidays g) ≡ effects_from a holidays (more h k) 1 h =
    ap (λ u. take (length es) (effects a holidays u)) now ∙ (ap (take (length es)) (effects-append a holidays (more h k) 1 h k)
    ∙ take-front (length es) (effects_from a holidays (more h k) 1 h) _ (effects-length a holidays (more h k) 1 h ∙ sym long)) in
    subst (λ u. IsMoved n u es (take (length es) (effects a holidays g))) (sym waits_are)
    (subst (λ u. IsMoved n (waiting h) u (take (length es) (effects a holidays g))) (sym is) (subst (λ u. IsMoved n (waiting h) (effects a holidays h) u) (sym front) (one-moved a holidays h k n e named number)))
