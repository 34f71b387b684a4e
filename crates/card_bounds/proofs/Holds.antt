-- What stands on Held, by the posts that put it there.
use Rattle.std.proofs.Common.{◌≡◌, ℕ, zero, suc, ◌+◌, ◌*◌, ◌<◌, ◌≤◌, Bool, true, false, cond, ◌&&◌, List, [], ◌∷◌, refl, sym, ap, ◌∙◌, subst, arith, ℤ, pos, negsuc, ◌+ℤ◌, Option, Some, None, eqb}
use Rattle.std.specs.Prelude.{◌≤ℤ◌, neg_ℤ}
use Rattle.std.specs.List.{All}
use Rattle.std.proofs.lemmas.Int.{ints}
use Rattle.std.proofs.lemmas.Bool.{eqb-true, ne_eqb, eq-eqb}
use Rattle.std.proofs.lemmas.List.Elements.{All-head, All-tail}
use Rattle.std.proofs.Math.Nat.{suc-mul}
use Rattle.card_events.specs.History.{CorrectedPost}
use Rattle.card_events.specs.declared.post.Post.{Post}
use Rattle.card_model.specs.Deadlines.{resolves}
use Rattle.card_model.specs.Effects.{is_held_by}
use Rattle.card_model.specs.Entries.{at_least_zero, balance, is_kind, sum_of}
use Rattle.card_model.specs.declared.entry.Entry.{Entry}
use Rattle.card_events.specs.declared.post.Post.TheVariants as post
use Rattle.card_model.specs.declared.entry.EntryKind.TheVariants as kind
use Rattle.card_bounds.proofs.Owned.{held_by}

-- ---- sums over numbers
abbrev pub total : (ℕ → ℕ) → ℕ → ℕ
total f zero = 0
total f (suc n) = total f n + f n

abbrev ztotal : (ℕ → ℤ) → ℕ → ℤ
ztotal f zero = pos 0
ztotal f (suc n) = ztotal f n +ℤ f n

total-less : (f g : ℕ → ℕ) → ((n : ℕ) → f n ≤ g n) → (n : ℕ) → total f n ≤ total g n
total-less f g h zero = omega arith
total-less f g h (suc n) = let here = h n in let before = total-less f g h n in omega arith

total-add : (f g : ℕ → ℕ) (n : ℕ) → total (λ m. f m + g m) n ≡ total f n + total g n
total-add f g zero = omega arith
total-add f g (suc n) = omega (arith, total-add f g n)

-- a number that counts at one place alone
one-place : (m c n : ℕ) → (total (λ k. cond (eqb m k) c 0) n ≤ c) × (n ≤ m → total (λ k. cond (eqb m k) c 0) n ≡ 0)
one-place m c zero = (omega arith, λ l. refl)
one-place m c (suc n) = by (eqb m n) refl (one-place m c n)
  where
    by : (t : Bool) → eqb m n ≡ t → (total (λ k. cond (eqb m k) c 0) n ≤ c) × (n ≤ m → total (λ k. cond (eqb m k) c 0) n ≡ 0)
        → (total (λ k. cond (eqb m k) c 0) n + cond t c 0 ≤ c) × (suc n ≤ m → total (λ k. cond (eqb m k) c 0) n + cond t c 0 ≡ 0)
    by true e h = let same = eqb-true m n e in let none = h.1 (omega arith) in (omega arith, λ l. absurd (omega arith))
    by false e h = (let few = h.0 in omega arith, λ l. let none = h.1 (omega arith) in omega arith)

-- ---- what posts may release
abbrev pub resolve_target : Post → Option ℕ
resolve_target (post.Resolve _ target _) = Some target
resolve_target _ = None

abbrev pub at_target : (ℕ → ℕ) → Option ℕ → ℕ
at_target g None = 0
at_target g (Some n) = g n

-- the sum at the targets of all Resolves
abbrev at_targets : (ℕ → ℕ) → List CorrectedPost → ℕ
at_targets g [] = 0
at_targets g (p ∷ ps) = at_target g (resolve_target p.post) + at_targets g ps

is_target : ℕ → Option ℕ → Bool
is_target n None = false
is_target n (Some m) = eqb m n

-- how many Resolves name n
abbrev pub named_times : ℕ → List CorrectedPost → ℕ
named_times n [] = 0
named_times n (p ∷ ps) = cond (resolves n p.post) 1 0 + named_times n ps

resolves-target : (n : ℕ) (p : Post) → resolves n p ≡ is_target n (resolve_target p)
unfolding is_target
resolves-target n (post.Resolve d t c) = refl
resolves-target n (post.Open d t) = refl
resolves-target n (post.OpenVariable d t) = refl
resolves-target n (post.Charge d p c) = refl
resolves-target n (post.Credit d p c) = refl
resolves-target n (post.Payment d m y c) = refl
resolves-target n (post.Return d t) = refl
resolves-target n (post.Plan d k r f a) = refl
resolves-target n (post.Notice d c r f) = refl
resolves-target n (post.Lower d c r) = refl
resolves-target n post.Penalty = refl
resolves-target n (post.Review d f) = refl
resolves-target n (post.Dispute d t c) = refl
resolves-target n (post.Ack d t) = refl
resolves-target n (post.AskRefund d) = refl
resolves-target n (post.Refund c) = refl
resolves-target n (post.Amend t d c) = refl
resolves-target n (post.Bill c) = refl

-- g without what it has at n
abbrev without : ℕ → (ℕ → ℕ) → ℕ → ℕ
without n g m = cond (eqb m n) 0 (g m)

one-target : (n : ℕ) (g : ℕ → ℕ) (o : Option ℕ) → at_target g o ≤ at_target (without n g) o + cond (is_target n o) 1 0 * g n
unfolding is_target
one-target n g None = omega arith
one-target n g (Some m) = by (eqb m n) refl
  where
    by : (t : Bool) → eqb m n ≡ t → g m ≤ cond t 0 (g m) + cond t 1 0 * g n
    by true e = let same = ap g (eqb-true m n e) in omega arith
    by false e = omega arith

less-one : (n : ℕ) (g : ℕ → ℕ) (ps : List CorrectedPost) → at_targets g ps ≤ at_targets (without n g) ps + named_times n ps * g n
less-one n g [] = omega arith
less-one n g (p ∷ ps) =
    let here = subst (λ t. at_target g (resolve_target p.post) ≤ at_target (without n g) (resolve_target p.post) + cond t 1 0 * g n) (sym (resolves-target n p.post)) (one-target n g (resolve_target p.post)) in
    sums _ _ _ _ (g n) (resolves n p.post) (named_times n ps) here (less-one n g ps)
  where
    sums : (x y z w c : ℕ) (t : Bool) (k : ℕ) → x ≤ z + cond t 1 0 * c → y ≤ w + k * c → x + y ≤ (z + w) + (cond t 1 0 + k) * c
    sums x y z w c true k a b = let e : (1 + k) * c ≡ c + k * c = add_one k c in omega (arith, e)
      where
        add_one : (k c : ℕ) → (1 + k) * c ≡ c + k * c
        add_one k c = let e : 1 + k ≡ suc k = omega arith in rw e (suc-mul k c ∙ omega arith)
    sums x y z w c false k a b = let e : 0 + k ≡ k = omega arith in rw e (omega arith)

none-there : (g : ℕ → ℕ) (ps : List CorrectedPost) → ((n : ℕ) → g n ≡ 0) → at_targets g ps ≡ 0
none-there g [] h = refl
none-there g (p ∷ ps) h = by (resolve_target p.post) (none-there g ps h)
  where
    by : (o : Option ℕ) → at_targets g ps ≡ 0 → at_target g o + at_targets g ps ≡ 0
    by None e = omega arith
    by (Some n) e = let z = h n in omega arith

-- where no number is named twice, the sum at the targets is at most the sum at all numbers
pub targets-total : (ps : List CorrectedPost) → ((n : ℕ) → named_times n ps ≤ 1) → (n : ℕ) (g : ℕ → ℕ) → ((m : ℕ) → n ≤ m → g m ≡ 0) → at_targets g ps ≤ total g n
targets-total ps once zero g h = let e = none-there g ps (λ m. h m (omega arith)) in omega arith
targets-total ps once (suc n) g h =
    let rest = targets-total ps once n (without n g) (λ m l. by m (eqb m n) refl l) in
    let less = total-less (without n g) g (λ m. fewer m (eqb m n)) n in
    let split = less-one n g ps in
    let few = at_most (named_times n ps) (g n) (once n) in
    omega arith
  where
    above : (m : ℕ) → n ≤ m → (m ≡ n → ⊥) → suc n ≤ m
    above m l d = grind arith

    by : (m : ℕ) (t : Bool) → eqb m n ≡ t → n ≤ m → cond t 0 (g m) ≡ 0
    by m true e l = refl
    by m false e l = h m (above m l (λ q. let f = eq-eqb m n q in cc))

    fewer : (m : ℕ) (t : Bool) → cond t 0 (g m) ≤ g m
    fewer m true = omega arith
    fewer m false = omega arith

    at_most : (k c : ℕ) → k ≤ 1 → k * c ≤ c
    at_most zero c l = omega arith
    at_most (suc zero) c l = omega arith
    at_most (suc (suc k)) c l = absurd (omega arith)

-- ---- the balance of Held
-- an entry on Held is a hold, of a post with a number below n
abbrev pub OnHeld : ℕ → Entry → Type 0
OnHeld n e = e.segment ≡ 1 → (is_kind kind.Hold e.kind ≡ true) × (e.post < n)

abbrev one_held : Entry → ℕ → ℤ
one_held e n = cond (is_held_by n e) e.cents (pos 0)

ztotal-add : (f g : ℕ → ℤ) (n : ℕ) → ztotal (λ m. f m +ℤ g m) n ≡ ztotal f n +ℤ ztotal g n
ztotal-add f g zero = refl
ztotal-add f g (suc n) = let e = ztotal-add f g n in swap (ztotal f n) (ztotal g n) (f n) (g n) _ e
  where
    swap : (x y a b z : ℤ) → z ≡ x +ℤ y → z +ℤ (a +ℤ b) ≡ (x +ℤ a) +ℤ (y +ℤ b)
    swap x y a b z e = omega (arith, ints)

ztotal-none : (f : ℕ → ℤ) (n : ℕ) → ((m : ℕ) → m < n → f m ≡ pos 0) → ztotal f n ≡ pos 0
ztotal-none f zero h = refl
ztotal-none f (suc n) h = let a = ztotal-none f n (λ m l. h m (omega arith)) in let b = h n (omega arith) in rw (a, b) refl

-- of one entry on Held
held-one : (e : Entry) (n : ℕ) → e.segment ≡ 1 → is_kind kind.Hold e.kind ≡ true → (e.post < n → ztotal (one_held e) n ≡ e.cents) × (n ≤ e.post → ztotal (one_held e) n ≡ pos 0)
held-one e zero s k = (λ l. absurd (omega arith), λ l. refl)
held-one e (suc n) s k = by (eqb e.post n) refl (held-one e n s k)
  where
    is : (t : Bool) → eqb e.post n ≡ t → is_held_by n e ≡ t
    is t q = let seg : eqb e.segment 1 ≡ true = eq-eqb e.segment 1 s in rw (q, seg, k) (ands t)
      where
        ands : (t : Bool) → (t && true && true) ≡ t
        ands true = refl
        ands false = refl

    plus : (x y z : ℤ) → x ≡ pos 0 → y ≡ z → x +ℤ y ≡ z
    plus x y z a b = omega (arith, ints)

    none : (x y : ℤ) → y ≡ pos 0 → x +ℤ y ≡ x
    none x y b = omega (arith, ints)

    by : (t : Bool) → eqb e.post n ≡ t → (e.post < n → ztotal (one_held e) n ≡ e.cents) × (n ≤ e.post → ztotal (one_held e) n ≡ pos 0)
        → (e.post < suc n → ztotal (one_held e) n +ℤ one_held e n ≡ e.cents) × (suc n ≤ e.post → ztotal (one_held e) n +ℤ one_held e n ≡ pos 0)
    by true q h =
        let same = eqb-true e.post n q in
        let here : one_held e n ≡ e.cents = rw (is true q) refl in
        (λ l. plus (ztotal (one_held e) n) (one_held e n) e.cents (h.1 (omega arith)) here, λ l. absurd (omega arith))
    by false q h =
        let here : one_held e n ≡ pos 0 = rw (is false q) refl in
        (λ l. none (ztotal (one_held e) n) (one_held e n) here ∙ h.0 (below e.post n l (apart q)), λ l. none (ztotal (one_held e) n) (one_held e n) here ∙ h.1 (omega arith))
      where
        apart : eqb e.post n ≡ false → e.post ≡ n → ⊥
        apart q s = let f = eq-eqb e.post n s in cc

        below : (x y : ℕ) → x < suc y → (x ≡ y → ⊥) → x < y
        below x y l d = grind arith

-- of one entry elsewhere
elsewhere-one : (e : Entry) (n m : ℕ) → eqb e.segment 1 ≡ false → one_held e m ≡ pos 0
elsewhere-one e n m s = rw s (by (eqb e.post m) (is_kind kind.Hold e.kind))
  where
    by : (t u : Bool) → cond (t && false && u) e.cents (pos 0) ≡ pos 0
    by true u = refl
    by false u = refl

entry-held : (e : Entry) (n : ℕ) → OnHeld n e → cond (eqb e.segment 1) e.cents (pos 0) ≡ ztotal (one_held e) n
entry-held e n h = by (eqb e.segment 1) refl
  where
    by : (t : Bool) → eqb e.segment 1 ≡ t → cond t e.cents (pos 0) ≡ ztotal (one_held e) n
    by true q = let s = eqb-true e.segment 1 q in let on = h s in sym ((held-one e n s on.0).0 on.1)
    by false q = sym (ztotal-none (one_held e) n (λ m l. elsewhere-one e n m q))

-- the balance of Held is the sum of what each post holds
pub held-total : (n : ℕ) (es : List Entry) → All (OnHeld n) es → balance 1 es ≡ ztotal (λ m. held_by m es) n
unfolding held_by
held-total n [] h = sym (ztotal-none (λ m. pos 0) n (λ m l. refl))
held-total n (e ∷ es) h =
    let here = entry-held e n (All-head (OnHeld n) e es h) in
    let rest = held-total n es (All-tail (OnHeld n) e es h) in
    ap (λ z. z +ℤ balance 1 es) here ∙ (ap (λ z. ztotal (one_held e) n +ℤ z) rest ∙ sym (ztotal-add (one_held e) (λ m. sum_of (is_held_by m) es) n))

-- ---- released and moved
abbrev pub released : ℕ → List Entry → ℕ
released n es = at_least_zero (neg_ℤ (held_by n es))

abbrev pub moved_of : ℕ → List Entry → ℕ
moved_of n es = at_least_zero (held_by n es)

parted : (f : ℕ → ℤ) (n : ℕ) → ztotal f n +ℤ pos (total (λ m. at_least_zero (neg_ℤ (f m))) n) ≡ pos (total (λ m. at_least_zero (f m)) n)
parted f zero = refl
parted f (suc n) = sums (ztotal f n) (f n) _ _ (parted f n)
  where
    sums : (x z : ℤ) (a b : ℕ) → x +ℤ pos a ≡ pos b → (x +ℤ z) +ℤ pos (a + at_least_zero (neg_ℤ z)) ≡ pos (b + at_least_zero z)
    sums x (pos zero) a b h = omega (arith, ints)
    sums x (pos (suc c)) a b h = omega (arith, ints)
    sums x (negsuc c) a b h = omega (arith, ints)

-- ---- the posts' claims
-- what post n may release, as the posts with that number say
abbrev pub claims : ℕ → List CorrectedPost → List Entry → ℕ
claims n [] es = 0
claims n (p ∷ ps) es = cond (eqb p.number n) (at_target (λ m. moved_of m es) (resolve_target p.post)) 0 + claims n ps es

all-claims : (n : ℕ) (ps : List CorrectedPost) (es : List Entry) → total (λ m. claims m ps es) n ≤ at_targets (λ m. moved_of m es) ps
all-claims n [] es = nothing n
  where
    nothing : (n : ℕ) → total (λ m. 0) n ≤ 0
    nothing zero = omega arith
    nothing (suc n) = let e = nothing n in omega arith
all-claims n (p ∷ ps) es =
    let c = at_target (λ m. moved_of m es) (resolve_target p.post) in
    let split = total-add (λ m. cond (eqb p.number m) c 0) (λ m. claims m ps es) n in
    let here = (one-place p.number c n).0 in
    let rest = all-claims n ps es in
    omega arith

-- what stands on Held where every release is claimed
pub record Claimed (n : ℕ) (ps : List CorrectedPost) (es : List Entry) : Type 0 where
  pub place : All (OnHeld n) es
  pub few : (m : ℕ) → released m es ≤ claims m ps es

-- no post from n on holds anything
pub none-later : (n : ℕ) (es : List Entry) → All (OnHeld n) es → (m : ℕ) → n ≤ m → held_by m es ≡ pos 0
unfolding held_by
none-later n [] h m l = refl
none-later n (e ∷ es) h m l =
    let rest = none-later n es (All-tail (OnHeld n) e es h) m l in
    let here = by (eqb e.segment 1) refl (All-head (OnHeld n) e es h) in
    plus (one_held e m) (sum_of (is_held_by m) es) here rest
  where
    plus : (x y : ℤ) → x ≡ pos 0 → y ≡ pos 0 → x +ℤ y ≡ pos 0
    plus x y a b = omega (arith, ints)

    by : (t : Bool) → eqb e.segment 1 ≡ t → OnHeld n e → one_held e m ≡ pos 0
    by true q o =
        let on = o (eqb-true e.segment 1 q) in
        let other : eqb e.post m ≡ false = ne_eqb e.post m (λ s. let b = on.1 in omega arith) in
        rw other refl
    by false q o = elsewhere-one e n m q

pub never-below : (n : ℕ) (ps : List CorrectedPost) (es : List Entry) → ((m : ℕ) → named_times m ps ≤ 1) → Claimed n ps es → pos 0 ≤ℤ balance 1 es
never-below n ps es once c =
    let sum = held-total n es c.place in
    let parts = parted (λ m. held_by m es) n in
    let released_few = total-less (λ m. released m es) (λ m. claims m ps es) c.few n in
    let claimed = all-claims n ps es in
    let most = targets-total ps once n (λ m. moved_of m es) (λ m l. ap at_least_zero (none-later n es c.place m l)) in
    close-up (balance 1 es) (ztotal (λ m. held_by m es) n) _ _ sum parts (chain _ _ _ _ released_few claimed most)
  where
    chain : (x y z w : ℕ) → x ≤ y → y ≤ z → z ≤ w → x ≤ w
    chain x y z w a b c = omega arith

    close-up : (x z : ℤ) (a b : ℕ) → x ≡ z → z +ℤ pos a ≡ pos b → a ≤ b → pos 0 ≤ℤ x
    close-up x z a b e f l = omega (arith, ints)
