-- The first day of a change is exact.
use Rattle.std.proofs.Common.{◌≡◌, ℕ, zero, suc, ◌+◌, ◌<◌, ◌≤◌, ◌⊎◌, inl, inr, min, Bool, true, false, cond, ◌&&◌, ◌==◌, nat_le, List, [], ◌∷◌, ◌++◌, take, drop, length, get_or, set, refl, sym, ap, ◌∙◌, subst, arith, add-one}
use Rattle.std.proofs.lemmas.Bool.{cases_eq}
use Rattle.std.proofs.lemmas.Bool.Decides.{nat_tests}
use Rattle.std.proofs.lemmas.List.{append-nil, take_more}
use Rattle.card_events.specs.History.{CorrectedPost, next_segment}
use Rattle.card_events.specs.declared.kept.Kept.{Kept}
use Rattle.card_posts.specs.Change.{IsFirstChange, after_one, first_change, on, stands, up_to}
use Rattle.card_posts.specs.Effect.{corrected_by, corrected_with}
use Rattle.card_posts.specs.declared.effect.Effect.{Effect}

-- ---- one post
pub stands-same : (e f : Effect) → stands e f ≡ true → e ≡ f
stands-same e f h = same e.day e.cents f.day f.cents (day e.day f.day e.cents f.cents h) (cents e.day f.day e.cents f.cents h)
  where
    day : (a b c d : ℕ) → ((a == b) && (c == d)) ≡ true → a ≡ b
    day a b c d h = grind (arith, nat_tests)

    cents : (a b c d : ℕ) → ((a == b) && (c == d)) ≡ true → c ≡ d
    cents a b c d h = grind (arith, nat_tests)

    make : ℕ → ℕ → Effect
    make a c = record { day = a; cents = c }

    same : (a c b d : ℕ) → a ≡ b → c ≡ d → make a c ≡ make b d
    same a c b d p q = rw (p, q) refl

stands-itself : (e : Effect) → stands e e ≡ true
stands-itself e = at e.day e.cents
  where
    at : (a b : ℕ) → ((a == a) && (b == b)) ≡ true
    at a b = grind (arith, nat_tests)

pub set-same : (es : List Effect) (i : ℕ) (e d : Effect) → i < length es → get_or es i d ≡ e → es ≡ set es i e
set-same [] i e d l same = absurd (omega (arith, l))
set-same (x ∷ es) zero e d l same = ap (λ (u : Effect). u ∷ es) same
set-same (x ∷ es) (suc i) e d l same = ap (λ u. x ∷ u) (set-same es i e d (omega (arith, l)) same)

-- ---- renewing the front one by one
renew-suc : (i : ℕ) (new old : List Effect) (d : Effect) → i < length old → length old ≤ length new → set (take i new ++ drop i old) i (get_or new i d) ≡ take (suc i) new ++ drop (suc i) old
renew-suc i new [] d l m = absurd (omega (arith, l))
renew-suc i [] (y ∷ ys) d l m = absurd (omega (arith, m))
renew-suc zero (x ∷ xs) (y ∷ ys) d l m = refl
renew-suc (suc i) (x ∷ xs) (y ∷ ys) d l m = ap (λ u. x ∷ u) (renew-suc i xs ys d (omega (arith, l)) (omega (arith, m)))

pub renew : (i : ℕ) (new old : List Effect) (d : Effect) → i < length old → length old ≤ length new → set (take i new ++ drop i old) i (get_or new i d) ≡ take (i + 1) new ++ drop (i + 1) old
renew i new old d l m = rw add-one (renew-suc i new old d l m)

pub renewed-front : (i : ℕ) (new old : List Effect) → i ≤ length old → length old ≤ length new → take i (take i new ++ drop i old) ≡ take i new
renewed-front zero new old l m = refl
renewed-front (suc i) new [] l m = absurd (omega (arith, l))
renewed-front (suc i) [] (y ∷ ys) l m = absurd (omega (arith, m))
renewed-front (suc i) (x ∷ xs) (y ∷ ys) l m = ap (λ u. x ∷ u) (renewed-front i xs ys (omega (arith, l)) (omega (arith, m)))

pub renewed-at : (i : ℕ) (new old : List Effect) (d : Effect) → i < length old → length old ≤ length new → get_or (take i new ++ drop i old) i d ≡ get_or old i d
renewed-at i new [] d l m = absurd (omega (arith, l))
renewed-at i [] (y ∷ ys) d l m = absurd (omega (arith, m))
renewed-at zero (x ∷ xs) (y ∷ ys) d l m = refl
renewed-at (suc i) (x ∷ xs) (y ∷ ys) d l m = renewed-at i xs ys d (omega (arith, l)) (omega (arith, m))

-- ---- the first day to differ
-- nothing moved
pub change-same : (first : ℕ) (es : List Effect) → first_change first es es ≡ first
unfolding first_change
change-same first [] = refl
change-same first (e ∷ es) = rw (stands-itself e) (change-same first es)

-- one alone was looked at
pub change-one : (first i : ℕ) (es : List Effect) (f d : Effect) → i < length es → after_one first (get_or es i d) f ≡ first_change first es (set es i f)
unfolding first_change
change-one first i [] f d l = absurd (omega (arith, l))
change-one first zero (e ∷ es) f d l = sym (change-same (after_one first e f) es)
change-one first (suc i) (e ∷ es) f d l = rw (stands-itself e) (change-one first i es f d (omega (arith, l)))

-- what comes before the place of one that was set
pub front-set : (i n : ℕ) (old all : List Effect) (x : Effect) → i < n → take n all ≡ set old i x → take i old ≡ take i all
front-set i zero old all x l e = absurd (omega (arith, l))
front-set zero (suc n) old all x l e = refl
front-set (suc i) (suc n) [] [] x l e = refl
front-set (suc i) (suc n) [] (y ∷ ys) x l e = absurd (cc)
front-set (suc i) (suc n) (z ∷ zs) [] x l e = absurd (cc)
front-set (suc i) (suc n) (z ∷ zs) (y ∷ ys) x l e = pair z y (take i zs) (take i ys) (cc) (front-set i n zs ys x (omega (arith, l)) (rest y z (take n ys) (set zs i x) e))
  where
    pair : (a b : Effect) (us vs : List Effect) → a ≡ b → us ≡ vs → a ∷ us ≡ b ∷ vs
    pair a b us vs p q = rw (p, q) refl

    rest : (a b : Effect) (us vs : List Effect) → a ∷ us ≡ b ∷ vs → us ≡ vs
    rest a b us vs p = cc

-- the day of the new post may be looked at last
pub change-last : (a b : ℕ) (es fs : List Effect) → min a (first_change b es fs) ≡ first_change (min a b) es fs
unfolding first_change
change-last a b [] fs = refl
change-last a b (e ∷ es) [] = refl
change-last a b (e ∷ es) (f ∷ fs) = change-last a (after_one b e f) es fs ∙ ap (λ x. first_change x es fs) (at (stands e f))
  where
    three : (x y z : ℕ) → min x (min y z) ≡ min (min x y) z
    three x y z = grind arith

    at : (c : Bool) → min a (cond c b (min b (min e.day f.day))) ≡ cond c (min a b) (min (min a b) (min e.day f.day))
    at true = refl
    at false = three a b (min e.day f.day)

-- one more pair
pub change-more : (first : ℕ) (es fs : List Effect) (e f : Effect) → length es ≡ length fs → first_change first (es ++ e ∷ []) (fs ++ f ∷ []) ≡ after_one (first_change first es fs) e f
unfolding first_change
change-more first [] [] e f l = refl
change-more first [] (y ∷ fs) e f l = absurd (omega (arith, l))
change-more first (x ∷ es) [] e f l = absurd (omega (arith, l))
change-more first (x ∷ es) (y ∷ fs) e f l = change-more (after_one first x y) es fs e f (omega (arith, l))

pub change-step : (first i : ℕ) (old new : List Effect) (d : Effect) → i < length old → length old ≤ length new → after_one (first_change first (take i old) (take i new)) (get_or old i d) (get_or new i d) ≡ first_change first (take (i + 1) old) (take (i + 1) new)
change-step first i old new d l m =
    let m' : i < length new = omega (arith, l, m) in
    let k : length (take i old) ≡ length (take i new) = length-take_le i old (omega (arith, l)) ∙ sym (length-take_le i new (omega (arith, l, m))) in
    rw (take_more old i d, take_more new i d) (sym (change-more first (take i old) (take i new) (get_or old i d) (get_or new i d) k))
  where
    length-take_le : (i : ℕ) (xs : List Effect) → i ≤ length xs → length (take i xs) ≡ i
    length-take_le zero xs l = refl
    length-take_le (suc i) [] l = absurd (omega (arith, l))
    length-take_le (suc i) (x ∷ xs) l = ap suc (length-take_le i xs (omega (arith, l)))

-- the day never rises
change-least : (first : ℕ) (es fs : List Effect) → first_change first es fs ≤ first
unfolding first_change
change-least first [] fs = omega arith
change-least first (e ∷ es) [] = omega arith
change-least first (e ∷ es) (f ∷ fs) = let r = change-least (after_one first e f) es fs in at (stands e f) r
  where
    at : (b : Bool) → first_change (cond b first (min first (min e.day f.day))) es fs ≤ cond b first (min first (min e.day f.day)) → first_change (cond b first (min first (min e.day f.day))) es fs ≤ first
    at true r = r
    at false r = omega (arith, r)

-- what counted and counts is the same, or neither lies before a day
abbrev pub IsLate : ℕ → Effect → Effect → Type 0
IsLate low e f = (e ≡ f) ⊎ ((low ≤ e.day) × (low ≤ f.day))

late-one : (first : ℕ) (e f : Effect) → IsLate first e f → after_one first e f ≡ first
late-one first e f (inl same) = let still : stands e f ≡ true = ap (stands e) (sym same) ∙ stands-itself e in rw still refl
late-one first e f (inr l) = at (stands e f)
  where
    at : (b : Bool) → cond b first (min first (min e.day f.day)) ≡ first
    at true = refl
    at false = omega (arith, l.0, l.1)

-- no day before the first one
change-late : (first : ℕ) (d : Effect) (es fs : List Effect) → length es ≡ length fs → ((i : ℕ) → i < length es → IsLate first (get_or es i d) (get_or fs i d)) → first_change first es fs ≡ first
unfolding first_change
change-late first d [] fs l h = refl
change-late first d (e ∷ es) [] l h = refl
change-late first d (e ∷ es) (f ∷ fs) l h = rw (late-one first e f (h 0 (omega arith))) (change-late first d es fs (omega (arith, l)) (λ i w. h (suc i) (omega (arith, w))))

after-below : (first low : ℕ) (e f : Effect) → low ≤ first → after_one low e f ≤ after_one first e f
after-below first low e f l = at (stands e f)
  where
    at : (b : Bool) → cond b low (min low (min e.day f.day)) ≤ cond b first (min first (min e.day f.day))
    at true = l
    at false = omega (arith, l)

pub after-least : (first : ℕ) (e f : Effect) → after_one first e f ≤ first
after-least first e f = at (stands e f)
  where
    at : (b : Bool) → cond b first (min first (min e.day f.day)) ≤ first
    at true = omega arith
    at false = omega arith

after-late : (first : ℕ) (e f : Effect) → IsLate (after_one first e f) e f
after-late first e f = at (stands e f) refl
  where
    at : (b : Bool) → stands e f ≡ b → IsLate (cond b first (min first (min e.day f.day))) e f
    at true h = inl (stands-same e f h)
    at false h = inr (omega arith, omega arith)

change-below : (first i : ℕ) (es fs : List Effect) (d : Effect) → i < length es → length es ≡ length fs → first_change first es fs ≤ after_one first (get_or es i d) (get_or fs i d)
unfolding first_change
change-below first i [] fs d l m = absurd (omega (arith, l))
change-below first i (e ∷ es) [] d l m = absurd (omega (arith, m))
change-below first zero (e ∷ es) (f ∷ fs) d l m = change-least (after_one first e f) es fs
change-below first (suc i) (e ∷ es) (f ∷ fs) d l m =
    let r = change-below (after_one first e f) i es fs d (omega (arith, l)) (omega (arith, m)) in
    let low = after-below first (after_one first e f) (get_or es i d) (get_or fs i d) (after-least first e f) in
    omega (arith, r, low)

-- where one moves first
pub change-first : (first i : ℕ) (es fs : List Effect) (d : Effect) → i < length es → length es ≡ length fs → ((j : ℕ) → j < length es → (i ≡ j → ⊥) → IsLate (after_one first (get_or es i d) (get_or fs i d)) (get_or es j d) (get_or fs j d))
    → first_change first es fs ≡ after_one first (get_or es i d) (get_or fs i d)
change-first first i es fs d l m others =
    let x : ℕ = after_one first (get_or es i d) (get_or fs i d) in
    let low : x ≤ first = after-least first (get_or es i d) (get_or fs i d) in
    let least : min x first ≡ x = omega (arith, low) in
    let late : first_change x es fs ≡ x = change-late x d es fs m (λ j w. by j w (cases_eq i j)) in
    let both : min x (first_change first es fs) ≡ x = change-last x first es fs ∙ (ap (λ n. first_change n es fs) least ∙ late) in
    let below = change-below first i es fs d l m in
    omega (arith, both, below)
  where
    by : (j : ℕ) → j < length es → (i ≡ j) ⊎ (i ≡ j → ⊥) → IsLate (after_one first (get_or es i d) (get_or fs i d)) (get_or es j d) (get_or fs j d)
    by j w (inr n) = others j w n
    by j w (inl e) = subst (λ n. IsLate (after_one first (get_or es i d) (get_or fs i d)) (get_or es n d) (get_or fs n d)) e (after-late first (get_or es i d) (get_or fs i d))

-- ---- the lists of corrected posts
later-day : (a x : ℕ) → x < a → nat_le a x ≡ false
later-day a x h = grind (arith, nat_tests)

other_day : (a d : ℕ) → (a == d) ≡ false → a ≡ d → ⊥
other_day a d p f = grind (arith, nat_tests)

-- up to each earlier day the lists are the same
same-before : (n segment first : ℕ) (ks : List Kept) (es fs : List Effect) (more : List CorrectedPost) (x : ℕ) → length es ≡ length fs → up_to x more ≡ [] → x < first_change first es fs
    → up_to x (corrected_with n segment ks fs ++ more) ≡ up_to x (corrected_with n segment ks es)
unfolding first_change corrected_with
same-before n segment first [] es fs more x l m b = m
same-before n segment first (k ∷ ks) [] [] more x l m b = m
same-before n segment first (k ∷ ks) [] (f ∷ fs) more x l m b = absurd (omega (arith, l))
same-before n segment first (k ∷ ks) (e ∷ es) [] more x l m b = absurd (omega (arith, l))
same-before n segment first (k ∷ ks) (e ∷ es) (f ∷ fs) more x l m b =
    let low : x < after_one first e f = omega (arith, change-least (after_one first e f) es fs, b) in
    at (stands e f) refl low (same-before (suc n) (next_segment segment k.post) (after_one first e f) ks es fs more x (omega (arith, l)) m b)
  where
    at : (c : Bool) → stands e f ≡ c → x < cond c first (min first (min e.day f.day))
        → up_to x (corrected_with (suc n) (next_segment segment k.post) ks fs ++ more) ≡ up_to x (corrected_with (suc n) (next_segment segment k.post) ks es)
        → up_to x (corrected_by n segment k f ∷ corrected_with (suc n) (next_segment segment k.post) ks fs ++ more) ≡ up_to x (corrected_by n segment k e ∷ corrected_with (suc n) (next_segment segment k.post) ks es)
    at true h low r = let same : e ≡ f = stands-same e f h in rw (same, r) refl
    at false h low r =
        let one : nat_le e.day x ≡ false = later-day e.day x (omega (arith, low)) in
        let two : nat_le f.day x ≡ false = later-day f.day x (omega (arith, low)) in
        rw (one, two) r

-- posts that bear their places as numbers
unfoldable Numbered : ℕ → List CorrectedPost → Type 0
Numbered n [] = Unit {0}
Numbered n (p ∷ ps) = (p.number ≡ n) × Numbered (suc n) ps

with-numbered : (n segment : ℕ) (ks : List Kept) (es : List Effect) (more : List CorrectedPost) → length ks ≡ length es → Numbered (n + length ks) more → Numbered n (corrected_with n segment ks es ++ more)
unfolding Numbered corrected_with
with-numbered n segment [] [] more l h = let e : n + 0 ≡ n = omega arith in subst (λ m. Numbered m more) e h
with-numbered n segment [] (e ∷ es) more l h = absurd (omega (arith, l))
with-numbered n segment (k ∷ ks) [] more l h = absurd (omega (arith, l))
with-numbered n segment (k ∷ ks) (e ∷ es) more l h =
    let next : n + suc (length ks) ≡ suc n + length ks = omega arith in
    (refl, with-numbered (suc n) (next_segment segment k.post) ks es more (omega (arith, l)) (subst (λ m. Numbered m more) next h))

end-numbered : (n : ℕ) → Numbered n []
unfolding Numbered
end-numbered n = tt

one-numbered : (n : ℕ) (p : CorrectedPost) → p.number ≡ n → Numbered n (p ∷ [])
unfolding Numbered
one-numbered n p e = (e, tt)

head-numbered : (n segment : ℕ) (k : Kept) (e : Effect) (ks : List Kept) (es : List Effect) (more : List CorrectedPost) → length ks ≡ length es → Numbered (suc n + length ks) more
    → Numbered n (corrected_by n segment k e ∷ corrected_with (suc n) (next_segment segment k.post) ks es ++ more)
unfolding Numbered
head-numbered n segment k e ks es more l h = (refl, with-numbered (suc n) (next_segment segment k.post) ks es more l h)

-- posts with greater numbers don't begin with this one
on-later : (n d : ℕ) (p : CorrectedPost) (rest ps : List CorrectedPost) → Numbered n ps → p.number < n → p ∷ rest ≡ on d ps → ⊥
unfolding Numbered
on-later n d p rest [] h l e = cc
on-later n d p rest (q ∷ ps) h l e = at (q.day == d) (on-later (suc n) d p rest ps h.1 (omega arith)) e
  where
    at : (c : Bool) → (p ∷ rest ≡ on d ps → ⊥) → p ∷ rest ≡ cond c (q ∷ on d ps) (on d ps) → ⊥
    at true r e = let same : p ≡ q = cc in let number : p.number ≡ q.number = ap (λ (y : CorrectedPost). y.number) same in omega (arith, number, h.0, l)
    at false r e = r e

-- lists in order of acceptance that agree on a day agree post by post there
abbrev AgreeOn : ℕ → CorrectedPost → CorrectedPost → Type 0
AgreeOn d p q = (p.day ≡ d → p ≡ q) × (q.day ≡ d → p ≡ q)

agree-first : (n d : ℕ) (p q : CorrectedPost) (ps qs : List CorrectedPost) → Numbered n (p ∷ ps) → Numbered n (q ∷ qs) → on d (q ∷ qs) ≡ on d (p ∷ ps) → AgreeOn d p q × (on d qs ≡ on d ps)
unfolding Numbered
agree-first n d p q ps qs h g e = at (p.day == d) (q.day == d) refl refl e
  where
    at : (b c : Bool) → (p.day == d) ≡ b → (q.day == d) ≡ c → cond c (q ∷ on d qs) (on d qs) ≡ cond b (p ∷ on d ps) (on d ps) → AgreeOn d p q × (on d qs ≡ on d ps)
    at true true u v e = let same : p ≡ q = cc in let rest : on d qs ≡ on d ps = cc in (((λ _. same), (λ _. same)), rest)
    at true false u v e = absurd (on-later (suc n) d p (on d ps) qs g.1 (omega (arith, h.0)) (sym e))
    at false true u v e = absurd (on-later (suc n) d q (on d qs) ps h.1 (omega (arith, g.0)) e)
    at false false u v e = (((λ f. absurd (other_day p.day d u f)), (λ f. absurd (other_day q.day d v f))), e)

-- on a day on which they agree the change can't be
no-change : (n segment first d : ℕ) (ks : List Kept) (es fs : List Effect) (new : CorrectedPost) → length ks ≡ length es → length es ≡ length fs → new.number ≡ n + length ks
    → on d (corrected_with n segment ks fs ++ new ∷ []) ≡ on d (corrected_with n segment ks es) → first_change first es fs ≡ d → (first ≡ d) × (new.day ≡ d → ⊥)
unfolding first_change corrected_with
no-change n segment first d [] [] [] new j l m e f = (f, new-here (new.day == d) refl e)
  where
    new-here : (b : Bool) → (new.day == d) ≡ b → cond b (new ∷ []) [] ≡ [] → new.day ≡ d → ⊥
    new-here true p e q = cc
    new-here false p e q = other_day new.day d p q
no-change n segment first d [] [] (f ∷ fs) new j l m e g = absurd (omega (arith, l))
no-change n segment first d [] (e ∷ es) fs new j l m g f = absurd (omega (arith, j))
no-change n segment first d (k ∷ ks) [] fs new j l m e f = absurd (omega (arith, j))
no-change n segment first d (k ∷ ks) (e ∷ es) [] new j l m g f = absurd (omega (arith, l))
no-change n segment first d (k ∷ ks) (e ∷ es) (f ∷ fs) new j l m g i =
    let after : ℕ = next_segment segment k.post in
    let old : List CorrectedPost = corrected_with (suc n) after ks es ++ [] in
    let now : List CorrectedPost = corrected_with (suc n) after ks fs ++ new ∷ [] in
    let agree = agree-first n d (corrected_by n segment k e) (corrected_by n segment k f) old now (head-numbered n segment k e ks es [] (omega (arith, j)) (end-numbered (suc n + length ks))) (head-numbered n segment k f ks fs (new ∷ []) (omega (arith, j, l)) (one-numbered (suc n + length ks) new (omega (arith, m)))) (g ∙ sym (ap (λ u. on d (corrected_by n segment k e ∷ u)) (append-nil (corrected_with (suc n) after ks es)))) in
    let r = no-change (suc n) after (after_one first e f) d ks es fs new (omega (arith, j)) (omega (arith, l)) (omega (arith, m)) (agree.1 ∙ ap (on d) (append-nil (corrected_with (suc n) after ks es))) i in
    (at (stands e f) refl agree.0 r.0, r.1)
  where
    which : (a b first d : ℕ) → min first (min a b) ≡ d → (a ≡ d → ⊥) → (b ≡ d → ⊥) → first ≡ d
    which a b first d e p q = grind arith

    differs : stands e f ≡ false → corrected_by n segment k e ≡ corrected_by n segment k f → ⊥
    differs p q =
        let day : e.day ≡ f.day = ap (λ (y : CorrectedPost). y.day) q in
        let cents : e.cents ≡ f.cents = ap (λ (y : CorrectedPost). y.cents) q in
        let i : stands e e ≡ true = stands-itself e in
        let j : stands e f ≡ stands e e = rw (day, cents) refl in
        cc

    at : (b : Bool) → stands e f ≡ b → AgreeOn d (corrected_by n segment k e) (corrected_by n segment k f) → cond b first (min first (min e.day f.day)) ≡ d → first ≡ d
    at true p a e = e
    at false p a r = which e.day f.day first d r (λ q. differs p (a.0 q)) (λ q. differs p (a.1 q))

-- ---- one more post
unfoldable segment_after : ℕ → List Kept → ℕ
segment_after segment [] = segment
segment_after segment (k ∷ ks) = segment_after (next_segment segment k.post) ks

with-append : (n segment : ℕ) (ks : List Kept) (es : List Effect) (k : Kept) (e : Effect) → length ks ≡ length es
    → corrected_with n segment (ks ++ k ∷ []) (es ++ e ∷ []) ≡ corrected_with n segment ks es ++ corrected_by (n + length ks) (segment_after segment ks) k e ∷ []
unfolding corrected_with segment_after
with-append n segment [] [] k e l = let z : n ≡ n + 0 = omega arith in ap (λ m. corrected_by m segment k e ∷ []) z
with-append n segment [] (f ∷ es) k e l = absurd (omega (arith, l))
with-append n segment (q ∷ ks) [] k e l = absurd (omega (arith, l))
with-append n segment (q ∷ ks) (f ∷ es) k e l =
    let z : suc n + length ks ≡ n + suc (length ks) = omega arith in
    let after : ℕ = next_segment segment q.post in
    ap (λ u. corrected_by n segment q f ∷ u) (with-append (suc n) after ks es k e (omega (arith, l)) ∙ ap (λ m. corrected_with (suc n) after ks es ++ corrected_by m (segment_after after ks) k e ∷ []) z)

-- the first day of a push: that of the new post, and those that changed posts leave or come to
pub first-change-exact : (ks : List Kept) (k : Kept) (es fs : List Effect) (e : Effect) → length ks ≡ length es → length es ≡ length fs
    → IsFirstChange (first_change e.day es fs) (corrected_with 1 5 ks es) (corrected_with 1 5 (ks ++ k ∷ []) (fs ++ e ∷ []))
first-change-exact ks k es fs e j l =
    let new : CorrectedPost = corrected_by (1 + length ks) (segment_after 5 ks) k e in
    subst (λ u. IsFirstChange (first_change e.day es fs) (corrected_with 1 5 ks es) u) (sym (with-append 1 5 ks fs k e (omega (arith, j, l))))
    (record {
      before = λ x b. same-before 1 5 e.day ks es fs (new ∷ []) x l (one x new (later-day e.day x (omega (arith, b, change-least e.day es fs)))) b;
      differs = λ same. let r = no-change 1 5 e.day (first_change e.day es fs) ks es fs new j l refl same refl in r.1 r.0;
    })
  where
    one : (x : ℕ) (p : CorrectedPost) → nat_le p.day x ≡ false → up_to x (p ∷ []) ≡ []
    one x p late = rw late refl
