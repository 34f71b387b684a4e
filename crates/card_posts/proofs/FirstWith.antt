-- The first day on which the corrected list differs with one more post, told from the list before it.
use Rattle.std.proofs.Common.{◌≡◌, ℕ, suc, ◌+◌, ◌-◌, ◌<◌, ◌≤◌, inl, inr, min, Bool, true, false, cond, List, [], ◌∷◌, ◌++◌, length, get_or, refl, sym, ap, ◌∙◌, subst, arith, Some, None}
use Rattle.std.proofs.lemmas.List.{same_lists}
use Rattle.std.proofs.lemmas.Option.{get_or_from_slice_get, slice_get-get_or}
use Rattle.card_events.specs.declared.anchor.Anchor.{Anchor}
use Rattle.card_events.specs.History.{at_number, corrected, effective_day}
use Rattle.card_events.specs.declared.kept.Kept.{Kept}
use Rattle.card_posts.specs.Change.{IsFirstChange, after_one, first_change, stands}
use Rattle.card_posts.specs.Corrections.{changed_by}
use Rattle.card_posts.specs.Effect.{corrected_with, effect_of, effects, effects_from}
use Rattle.card_posts.specs.Posted.{target_of}
use Rattle.card_posts.specs.Stored.{NameEarlier}
use Rattle.card_posts.specs.declared.effect.Effect.{Effect}
use Rattle.card_posts.proofs.Awaited.{AreFrom, days-from, days-still, own-still}
use Rattle.card_posts.proofs.Changed.{IsLate, change-first, change-same, first-change-exact, stands-same}
use Rattle.card_posts.proofs.Following.{corrected-is}
use Rattle.card_events.proofs.OneMore.{more}
use Rattle.card_posts.proofs.OneMore.{cents-agree, effects-append, effects-length}
use Rattle.card_posts.proofs.Noted.{changed-within, said-other}
use Rattle.card_posts.proofs.Targets.{effects-at}

-- what counts after one more post, where this counts for the earlier ones
pub all-with : (a : Anchor) (holidays : List ℕ) (h : List Kept) (k : Kept) (fs : List Effect) → effects_from a holidays (more h k) 1 h ≡ fs
    → effects a holidays (more h k) ≡ fs ++ effect_of a holidays (more h k) (1 + length h) k ∷ []
all-with a holidays h k fs same = effects-append a holidays (more h k) 1 h k ∙ ap (λ u. u ++ effect_of a holidays (more h k) (1 + length h) k ∷ []) same

-- the first day of the change, where these count for the earlier posts before and after
pub first-with : (a : Anchor) (holidays : List ℕ) (h : List Kept) (k : Kept) (es fs : List Effect) (d : ℕ) → length es ≡ length h → length es ≡ length fs → effects_from a holidays (more h k) 1 h ≡ fs
    → d ≡ first_change (effective_day a holidays (more h k) (1 + length h) k.accepted k.post) es fs
    → IsFirstChange d (corrected_with 1 5 h es) (corrected a holidays (more h k))
first-with a holidays h k es fs d long same are is =
    let e : Effect = effect_of a holidays (more h k) (1 + length h) k in
    let all : corrected_with 1 5 (more h k) (fs ++ e ∷ []) ≡ corrected a holidays (more h k) = ap (corrected_with 1 5 (more h k)) (sym (all-with a holidays h k fs are)) ∙ corrected-is a holidays (more h k) in
    subst (λ u. IsFirstChange d (corrected_with 1 5 h es) u) all
    (subst (λ m. IsFirstChange m (corrected_with 1 5 h es) (corrected_with 1 5 (more h k) (fs ++ e ∷ []))) (sym is) (first-change-exact h k es fs e (sym long) same))

-- ---- what counts for the post that one more corrects, and for the others
pub effect-at : (a : Anchor) (holidays : List ℕ) (g : List Kept) (i : ℕ) (ks : List Kept) (d : Effect) (k : Kept) → i < length ks → get_or (effects_from a holidays g 1 ks) i d ≡ effect_of a holidays g (suc i) (get_or ks i k)
effect-at a holidays g i ks d k l = let number : 1 + i ≡ suc i = omega arith in effects-at a holidays g 1 i ks d k l ∙ ap (λ n. effect_of a holidays g n (get_or ks i k)) number

abbrev pub effect_by : ℕ → ℕ → Effect
effect_by d c = record { day = d; cents = c }

pub parts : (d c m b : ℕ) → d ≡ m → c ≡ b → effect_by d c ≡ effect_by m b
parts d c m b e f = rw (e, f) refl

-- one that isn't corrected keeps its cents
late-effect : (a : Anchor) (holidays : List ℕ) (h : List Kept) (k : Kept) (low m : ℕ) (q : Kept) → NameEarlier 1 h → target_of k.post ≤ length h → (changed_by h k.post ≡ m → ⊥)
    → AreFrom low (effective_day a holidays h m q.accepted q.post) (effective_day a holidays (more h k) m q.accepted q.post) → IsLate low (effect_of a holidays h m q) (effect_of a holidays (more h k) m q)
late-effect a holidays h k low m q e l n (inr days) = inr days
late-effect a holidays h k low m q e l n (inl day) =
    let said = said-other h k e l m n in
    inl (parts _ _ _ _ day (sym (cents-agree (more h k) h m q.post said.0 said.1)))

-- the days of the corrected one are the same, or not before the first that it leaves or comes to
own-days : (first : ℕ) (e f : Effect) → AreFrom (after_one first e f) e.day f.day
own-days first e f = at (stands e f) refl
  where
    at : (b : Bool) → stands e f ≡ b → AreFrom (cond b first (min first (min e.day f.day))) e.day f.day
    at true h = inl (ap (λ (x : Effect). x.day) (stands-same e f h))
    at false h = inr (omega arith, omega arith)

-- the post that stands there
there : (h : List Kept) (i : ℕ) (k q : Kept) → i < length h → at_number (suc i) h ≡ Some q → get_or h i k ≡ q
there h i k q l is = get_or_from_slice_get h i q k is

corrected-from : (a : Anchor) (holidays : List ℕ) (h : List Kept) (k : Kept) (first i n : ℕ) (q : Kept) → n ≡ suc i → i < length h → at_number n h ≡ Some q
    → AreFrom (after_one first (effect_of a holidays h (suc i) (get_or h i k)) (effect_of a holidays (more h k) (suc i) (get_or h i k))) (effective_day a holidays h n q.accepted q.post) (effective_day a holidays (more h k) n q.accepted q.post)
corrected-from a holidays h k first i n q is l found =
    let same : get_or h i k ≡ q = there h i k q l (ap (λ m. at_number m h) (sym is) ∙ found) in
    subst (λ m. AreFrom (after_one first (effect_of a holidays h (suc i) (get_or h i k)) (effect_of a holidays (more h k) (suc i) (get_or h i k))) (effective_day a holidays h m q.accepted q.post) (effective_day a holidays (more h k) m q.accepted q.post)) (sym is)
    (subst (λ (u : Kept). AreFrom (after_one first (effect_of a holidays h (suc i) (get_or h i k)) (effect_of a holidays (more h k) (suc i) (get_or h i k))) (effective_day a holidays h (suc i) u.accepted u.post) (effective_day a holidays (more h k) (suc i) u.accepted u.post)) same
    (own-days first (effect_of a holidays h (suc i) (get_or h i k)) (effect_of a holidays (more h k) (suc i) (get_or h i k))))

late-at : (a : Anchor) (holidays : List ℕ) (h : List Kept) (k : Kept) (first i j : ℕ) (d : Effect) → NameEarlier 1 h → target_of k.post ≤ length h → changed_by h k.post ≡ suc i → i < length h → j < length h → (i ≡ j → ⊥)
    → IsLate (after_one first (effect_of a holidays h (suc i) (get_or h i k)) (effect_of a holidays (more h k) (suc i) (get_or h i k))) (get_or (effects a holidays h) j d) (get_or (effects_from a holidays (more h k) 1 h) j d)
late-at a holidays h k first i j d e l is w m other =
    let low : ℕ = after_one first (effect_of a holidays h (suc i) (get_or h i k)) (effect_of a holidays (more h k) (suc i) (get_or h i k)) in
    let days = days-from a holidays h k low e l (λ q found. corrected-from a holidays h k first i (changed_by h k.post) q is w found) (suc j) (get_or h j k) (omega (arith, m)) (slice_get-get_or h j k m) in
    rw (effect-at a holidays h j h d k m, effect-at a holidays (more h k) j h d k m)
    (late-effect a holidays h k low (suc j) (get_or h j k) e l (λ f. other (omega (arith, sym is ∙ f))) days)

-- the least of a day and those that the corrected one leaves and comes to is the first of the change
pub first-changed : (a : Anchor) (holidays : List ℕ) (h : List Kept) (k : Kept) (first i : ℕ) (d : Effect) → NameEarlier 1 h → target_of k.post ≤ length h → changed_by h k.post ≡ suc i
    → first_change first (effects a holidays h) (effects_from a holidays (more h k) 1 h) ≡ after_one first (get_or (effects a holidays h) i d) (get_or (effects_from a holidays (more h k) 1 h) i d)
first-changed a holidays h k first i d e l is =
    let long : length (effects a holidays h) ≡ length h = effects-length a holidays h 1 h in
    let longer : length (effects_from a holidays (more h k) 1 h) ≡ length h = effects-length a holidays (more h k) 1 h in
    let within : i < length h = omega (arith, is, changed-within h k.post e l) in
    let low : after_one first (effect_of a holidays h (suc i) (get_or h i k)) (effect_of a holidays (more h k) (suc i) (get_or h i k)) ≡ after_one first (get_or (effects a holidays h) i d) (get_or (effects_from a holidays (more h k) 1 h) i d) =
    rw (effect-at a holidays h i h d k within, effect-at a holidays (more h k) i h d k within) refl in
    change-first first i (effects a holidays h) (effects_from a holidays (more h k) 1 h) d (omega (arith, within, long)) (long ∙ sym longer)
    (λ j w o. subst (λ x. IsLate x (get_or (effects a holidays h) j d) (get_or (effects_from a holidays (more h k) 1 h) j d)) low (late-at a holidays h k first i j d e l is within (omega (arith, w, long)) o))

-- where the corrected one stays on its day, the others are as they were
pub still-at : (a : Anchor) (holidays : List ℕ) (h : List Kept) (k : Kept) (i : ℕ) (d : Effect) → NameEarlier 1 h → target_of k.post ≤ length h
    → ((q : Kept) → at_number (changed_by h k.post) h ≡ Some q → effective_day a holidays h (changed_by h k.post) q.accepted q.post ≡ effective_day a holidays (more h k) (changed_by h k.post) q.accepted q.post)
    → (changed_by h k.post ≡ suc i → ⊥) → i < length h → get_or (effects_from a holidays (more h k) 1 h) i d ≡ get_or (effects a holidays h) i d
still-at a holidays h k i d e l stays other w =
    let said = said-other h k e l (suc i) other in
    let day = days-still a holidays h k e l stays (suc i) (get_or h i k) (omega (arith, w)) (slice_get-get_or h i k w) in
    rw (effect-at a holidays h i h d k w, effect-at a holidays (more h k) i h d k w) (parts _ _ _ _ (sym day) (cents-agree (more h k) h (suc i) (get_or h i k).post said.0 said.1))

-- where it corrects none, all are
pub unchanged : (a : Anchor) (holidays : List ℕ) (h : List Kept) (k : Kept) → NameEarlier 1 h → target_of k.post ≤ length h → changed_by h k.post ≡ 0 → effects_from a holidays (more h k) 1 h ≡ effects a holidays h
unchanged a holidays h k e l z =
    let long : length (effects a holidays h) ≡ length h = effects-length a holidays h 1 h in
    let longer : length (effects_from a holidays (more h k) 1 h) ≡ length h = effects-length a holidays (more h k) 1 h in
    same_lists (effects_from a holidays (more h k) 1 h) (effects a holidays h) (longer ∙ sym long)
    (λ i d w. still-at a holidays h k i d e l (λ q found. let no : None ≡ Some q = ap (λ n. at_number n h) (sym z) ∙ found in absurd (cc)) (λ f. omega (arith, z, f)) (omega (arith, w, longer)))

-- ---- the first day of the change
pub first-none : (a : Anchor) (holidays : List ℕ) (h : List Kept) (k : Kept) (es : List Effect) (d : ℕ) → es ≡ effects a holidays h → NameEarlier 1 h → target_of k.post ≤ length h → changed_by h k.post ≡ 0
    → d ≡ effective_day a holidays h (1 + length h) k.accepted k.post → IsFirstChange d (corrected_with 1 5 h es) (corrected a holidays (more h k))
first-none a holidays h k es d stands e l z is =
    let long : length es ≡ length h = ap length stands ∙ effects-length a holidays h 1 h in
    first-with a holidays h k es es d long refl (unchanged a holidays h k e l z ∙ sym stands)
    (is ∙ (own-still a holidays h k (1 + length h) e l ∙ sym (change-same (effective_day a holidays (more h k) (1 + length h) k.accepted k.post) es)))

pub first-one : (a : Anchor) (holidays : List ℕ) (h : List Kept) (k q : Kept) (es : List Effect) (n d own : ℕ) (now before : Effect) → es ≡ effects a holidays h → NameEarlier 1 h → target_of k.post ≤ length h
    → n ≡ changed_by h k.post → 0 < n → own ≡ effective_day a holidays h (1 + length h) k.accepted k.post → now ≡ effect_of a holidays (more h k) n (get_or h (n - 1) q) → before ≡ get_or es (n - 1) before → d ≡ after_one own before now
    → IsFirstChange d (corrected_with 1 5 h es) (corrected a holidays (more h k))
first-one a holidays h k q es n d own now before stands e l is z own_is now_is before_is d_is =
    let fs : List Effect = effects_from a holidays (more h k) 1 h in
    let long : length es ≡ length h = ap length stands ∙ effects-length a holidays h 1 h in
    let longer : length fs ≡ length h = effects-length a holidays (more h k) 1 h in
    let number : suc (n - 1) ≡ n = omega (arith, z) in
    let within : n - 1 < length h = omega (arith, z, is, changed-within h k.post e l) in
    let there : get_or fs (n - 1) before ≡ now = effect-at a holidays (more h k) (n - 1) h before q within ∙ (ap (λ m. effect_of a holidays (more h k) m (get_or h (n - 1) q)) number ∙ sym now_is) in
    let was : get_or (effects a holidays h) (n - 1) before ≡ before = ap (λ u. get_or u (n - 1) before) (sym stands) ∙ sym before_is in
    let first : first_change own es fs ≡ after_one own before now =
    ap (λ u. first_change own u fs) stands ∙ (first-changed a holidays h k own (n - 1) before e l (sym is ∙ sym number) ∙ (ap (λ x. after_one own x (get_or fs (n - 1) before)) was ∙ ap (after_one own before) there)) in
    first-with a holidays h k es fs d long (long ∙ sym longer) refl
    (d_is ∙ (sym first ∙ ap (λ m. first_change m es fs) (own_is ∙ own-still a holidays h k (1 + length h) e l)))
