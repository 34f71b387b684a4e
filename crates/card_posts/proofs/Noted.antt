-- What later posts say of each post, after one more post.
use Rattle.std.proofs.Common.{◌≡◌, ℕ, zero, suc, ◌+◌, ◌-◌, ◌<◌, ◌≤◌, ◌^◌, min, Bool, true, false, cond, ◌==◌, List, [], ◌∷◌, ◌++◌, length, length-append, get_or, set, refl, sym, ap, ◌∙◌, subst, arith, Option, Some, None}
use Rattle.std.specs.List.{sum_by}
use Rattle.std.proofs.lemmas.Bool.Decides.{nat_tests}
use Rattle.std.proofs.lemmas.List.Sums.{sum_by-cons}
use Rattle.card_events.specs.History.{amend_of, at_number, charge_disputed, confirmed, confirms, dispute_names, disputes, last_amend}
use Rattle.card_events.specs.declared.kept.Kept.{Kept}
use Rattle.card_events.specs.declared.post.Post.{Post}
use Rattle.card_events.specs.declared.post.Post.TheVariants as post
use Rattle.card_posts.specs.Corrections.{changed_by, charge_named, correction_of, corrections_from, corrects, with_post}
use Rattle.card_posts.specs.Posted.{target_of}
use Rattle.card_posts.specs.Stored.{NameEarlier}
use Rattle.card_posts.specs.declared.correction.Correction.{Correction}
use Rattle.card_events.proofs.OneMore.{more}
use Rattle.card_posts.proofs.OneMore.{last_amend-more, confirmed-more, plain-amend, plain-confirmed, target-below, names-append}

pub corrections-length : (h : List Kept) (n : ℕ) (ks : List Kept) → length (corrections_from h n ks) ≡ length ks
unfolding corrections_from
corrections-length h n [] = refl
corrections-length h n (k ∷ ks) = ap suc (corrections-length h (suc n) ks)

pub corrections-at : (h : List Kept) (n i : ℕ) (ks : List Kept) (d : Correction) → i < length ks → get_or (corrections_from h n ks) i d ≡ correction_of h (n + i)
unfolding corrections_from
corrections-at h n i [] d l = absurd (omega (arith, l))
corrections-at h n zero (k ∷ ks) d l = let e : n ≡ n + 0 = omega arith in ap (correction_of h) e
corrections-at h n (suc i) (k ∷ ks) d l = let e : suc n + i ≡ n + suc i = omega arith in subst (λ m. get_or (corrections_from h (suc n) ks) i d ≡ correction_of h m) e (corrections-at h (suc n) i ks d (omega (arith, l)))

pub corrections-append : (h : List Kept) (n : ℕ) (ks : List Kept) (k : Kept) → corrections_from h n (ks ++ k ∷ []) ≡ corrections_from h n ks ++ correction_of h (n + length ks) ∷ []
unfolding corrections_from
corrections-append h n [] k = let e : n ≡ n + 0 = omega arith in ap (λ m. correction_of h m ∷ []) e
corrections-append h n (q ∷ ks) k = let e : suc n + length ks ≡ n + suc (length ks) = omega arith in ap (λ u. correction_of h n ∷ u) (corrections-append h (suc n) ks k ∙ ap (λ m. corrections_from h (suc n) ks ++ correction_of h m ∷ []) e)

abbrev pub by_parts : Option (ℕ × ℕ) → ℕ → Correction
by_parts a c = record { amend = a; confirmed = c }

pair : (x y : Correction) (xs ys : List Correction) → x ≡ y → xs ≡ ys → x ∷ xs ≡ y ∷ ys
pair x y xs ys e f = rw (e, f) refl

-- where no post of the list is post t, and t alone changes
all-same : (h g : List Kept) (t : ℕ) → ((m : ℕ) → (t ≡ m → ⊥) → correction_of g m ≡ correction_of h m) → (n : ℕ) (ks : List Kept) → t < n → corrections_from g n ks ≡ corrections_from h n ks
unfolding corrections_from
all-same h g t same n [] l = refl
all-same h g t same n (k ∷ ks) l = pair _ _ _ _ (same n (λ e. omega (arith, e, l))) (all-same h g t same (suc n) ks (omega arith))

-- where t is one of them
one-changed : (h g : List Kept) (t : ℕ) → ((m : ℕ) → (t ≡ m → ⊥) → correction_of g m ≡ correction_of h m) → (i n : ℕ) (ks : List Kept) → n + i ≡ t → i < length ks → corrections_from g n ks ≡ set (corrections_from h n ks) i (correction_of g t)
unfolding corrections_from
one-changed h g t same i n [] e l = absurd (omega (arith, l))
one-changed h g t same zero n (k ∷ ks) e l =
    let z : n ≡ t = omega (arith, e) in
    pair _ _ _ _ (ap (correction_of g) z) (all-same h g t same (suc n) ks (omega (arith, z)))
one-changed h g t same (suc i) n (k ∷ ks) e l = pair _ _ _ _ (same n (λ f. omega (arith, e, f))) (one-changed h g t same i (suc n) ks (omega (arith, e)) (omega (arith, l)))

of-parts : (h g : List Kept) (n : ℕ) → last_amend n g ≡ last_amend n h → confirmed n g ≡ confirmed n h → correction_of g n ≡ correction_of h n
of-parts h g n e f = rw (e, f) refl

-- a post that corrects nothing
pub plain-kept : (h : List Kept) (k : Kept) → NameEarlier 1 h → target_of k.post ≤ length h → corrects k.post ≡ false → corrections_from (more h k) 1 h ≡ corrections_from h 1 h
plain-kept h k e l f = all-same h (more h k) 0 (λ m _. of-parts h (more h k) m (plain-amend m h k f) (plain-confirmed m h k e l f)) 1 h (omega arith)

other : (a b : ℕ) → (a ≡ b → ⊥) → (a == b) ≡ false
other a b h = grind (arith, nat_tests)

same : (a : ℕ) → (a == a) ≡ true
same a = grind (arith, nat_tests)

-- an Amend sets the day and cents that stand
pub amend-other : (h : List Kept) (k : Kept) (t d c m : ℕ) → k.post ≡ post.Amend t d c → (t ≡ m → ⊥) → last_amend m (more h k) ≡ last_amend m h
amend-other h k t d c m is n = last_amend-more m h k ∙ (rw (is, other t m n) refl)

amend-this : (h : List Kept) (k : Kept) (t d c : ℕ) → k.post ≡ post.Amend t d c → last_amend t (more h k) ≡ Some (d, c)
amend-this h k t d c is = last_amend-more t h k ∙ (rw (is, same t) refl)

pub amend-confirmed : (h : List Kept) (k : Kept) (t d c m : ℕ) → k.post ≡ post.Amend t d c → NameEarlier 1 h → t ≤ length h → confirmed m (more h k) ≡ confirmed m h
amend-confirmed h k t d c m is e l =
    let within : target_of k.post ≤ length h = rw is l in
    let none : confirms m h k.post ≡ 0 = rw is refl in
    let all = confirmed-more m h k e within in
    omega (arith, all, none)

-- what is said of the post that it names
pub amend-said : (h : List Kept) (k : Kept) (t d c : ℕ) → k.post ≡ post.Amend t d c → NameEarlier 1 h → t ≤ length h → correction_of (more h k) t ≡ by_parts (Some (d, c)) (min (confirmed t h) (2 ^ 64 - 1))
amend-said h k t d c is e l = rw (amend-this h k t d c is, amend-confirmed h k t d c t is e l) refl

-- a Resolve adds to what was confirmed
yes : (m : ℕ) (p : Post) → 0 < charge_disputed p → disputes m p ≡ (charge_disputed p == m)
yes m (post.Open d t) z = absurd (omega (arith, z))
yes m (post.OpenVariable d t) z = absurd (omega (arith, z))
yes m (post.Charge d p c) z = absurd (omega (arith, z))
yes m (post.Credit d p c) z = absurd (omega (arith, z))
yes m (post.Payment d i y c) z = absurd (omega (arith, z))
yes m (post.Return d t) z = absurd (omega (arith, z))
yes m (post.Plan d v r w f) z = absurd (omega (arith, z))
yes m (post.Notice d y r w) z = absurd (omega (arith, z))
yes m (post.Lower d y r) z = absurd (omega (arith, z))
yes m post.Penalty z = absurd (omega (arith, z))
yes m (post.Review d f) z = absurd (omega (arith, z))
yes m (post.Dispute d t c) z = refl
yes m (post.Ack d t) z = absurd (omega (arith, z))
yes m (post.Resolve d t c) z = absurd (omega (arith, z))
yes m (post.AskRefund d) z = absurd (omega (arith, z))
yes m (post.Refund c) z = absurd (omega (arith, z))
yes m (post.Amend t d c) z = absurd (omega (arith, z))
yes m (post.Bill c) z = absurd (omega (arith, z))

named-yes : (m : ℕ) (o : Option Kept) → 0 < charge_named o → dispute_names m o ≡ (charge_named o == m)
named-yes m None z = absurd (omega (arith, z))
named-yes m (Some k) z = yes m k.post z

no : (m : ℕ) (p : Post) → charge_disputed p ≡ 0 → (0 ≡ m → ⊥) → disputes m p ≡ false
no m (post.Open d t) z n = refl
no m (post.OpenVariable d t) z n = refl
no m (post.Charge d p c) z n = refl
no m (post.Credit d p c) z n = refl
no m (post.Payment d i y c) z n = refl
no m (post.Return d t) z n = refl
no m (post.Plan d v r w f) z n = refl
no m (post.Notice d y r w) z n = refl
no m (post.Lower d y r) z n = refl
no m post.Penalty z n = refl
no m (post.Review d f) z n = refl
no m (post.Dispute d t c) z n = other t m (λ e. n (sym z ∙ e))
no m (post.Ack d t) z n = refl
no m (post.Resolve d t c) z n = refl
no m (post.AskRefund d) z n = refl
no m (post.Refund c) z n = refl
no m (post.Amend t d c) z n = refl
no m (post.Bill c) z n = refl

named-no : (m : ℕ) (o : Option Kept) → charge_named o ≡ 0 → (0 ≡ m → ⊥) → dispute_names m o ≡ false
named-no m None z n = refl
named-no m (Some k) z n = no m k.post z n

pub resolve-amend : (h : List Kept) (k : Kept) (a t x m : ℕ) → k.post ≡ post.Resolve a t x → last_amend m (more h k) ≡ last_amend m h
resolve-amend h k a t x m is = last_amend-more m h k ∙ (rw is refl)

resolve-by : (h : List Kept) (k : Kept) (a t x m : ℕ) (b : Bool) → k.post ≡ post.Resolve a t x → NameEarlier 1 h → t ≤ length h → dispute_names m (at_number t h) ≡ b → confirmed m (more h k) ≡ confirmed m h + cond b x 0
resolve-by h k a t x m b is e l f =
    let within : target_of k.post ≤ length h = rw is l in
    let adds : confirms m h k.post ≡ cond b x 0 = rw (is, f) refl in
    let all = confirmed-more m h k e within in
    omega (arith, all, adds)

pub resolve-other : (h : List Kept) (k : Kept) (a t x m : ℕ) → k.post ≡ post.Resolve a t x → NameEarlier 1 h → t ≤ length h → dispute_names m (at_number t h) ≡ false → confirmed m (more h k) ≡ confirmed m h
resolve-other h k a t x m is e l f = let all = resolve-by h k a t x m false is e l f in omega (arith, all)

resolve-this : (h : List Kept) (k : Kept) (a t x m : ℕ) → k.post ≡ post.Resolve a t x → NameEarlier 1 h → t ≤ length h → dispute_names m (at_number t h) ≡ true → confirmed m (more h k) ≡ confirmed m h + x
resolve-this h k a t x m is e l f = resolve-by h k a t x m true is e l f

in-below : (t : ℕ) (p : Post) → target_of p < t → 0 < charge_disputed p → charge_disputed p < t
in-below u (post.Open d t) b z = absurd (omega (arith, z))
in-below u (post.OpenVariable d t) b z = absurd (omega (arith, z))
in-below u (post.Charge d p c) b z = absurd (omega (arith, z))
in-below u (post.Credit d p c) b z = absurd (omega (arith, z))
in-below u (post.Payment d i y c) b z = absurd (omega (arith, z))
in-below u (post.Return d t) b z = absurd (omega (arith, z))
in-below u (post.Plan d v r w f) b z = absurd (omega (arith, z))
in-below u (post.Notice d y r w) b z = absurd (omega (arith, z))
in-below u (post.Lower d y r) b z = absurd (omega (arith, z))
in-below u post.Penalty b z = absurd (omega (arith, z))
in-below u (post.Review d f) b z = absurd (omega (arith, z))
in-below u (post.Dispute d t c) b z = b
in-below u (post.Ack d t) b z = absurd (omega (arith, z))
in-below u (post.Resolve d t c) b z = absurd (omega (arith, z))
in-below u (post.AskRefund d) b z = absurd (omega (arith, z))
in-below u (post.Refund c) b z = absurd (omega (arith, z))
in-below u (post.Amend t d c) b z = absurd (omega (arith, z))
in-below u (post.Bill c) b z = absurd (omega (arith, z))

pub named-below : (h : List Kept) (t : ℕ) → NameEarlier 1 h → (o : Option Kept) → at_number t h ≡ o → 0 < charge_named o → charge_named o < t
named-below h t e None f z = absurd (omega (arith, z))
named-below h t e (Some k) f z = in-below t k.post (target-below t h k e f) z

resolve-said : (h : List Kept) (k : Kept) (a t x : ℕ) → k.post ≡ post.Resolve a t x → NameEarlier 1 h → t ≤ length h → 0 < charge_named (at_number t h)
    → correction_of (more h k) (charge_named (at_number t h)) ≡ by_parts (last_amend (charge_named (at_number t h)) h) (min (min (confirmed (charge_named (at_number t h)) h) (2 ^ 64 - 1) + x) (2 ^ 64 - 1))
resolve-said h k a t x is e l z =
    let g : ℕ = charge_named (at_number t h) in
    let this : dispute_names g (at_number t h) ≡ true = named-yes g (at_number t h) z ∙ same g in
    rw (resolve-amend h k a t x g is, resolve-this h k a t x g is e l this) (ap (by_parts (last_amend g h)) (capped (confirmed g h) x (2 ^ 64 - 1)))
  where
    capped : (c x top : ℕ) → min (c + x) top ≡ min (min c top + x) top
    capped c x top = grind arith

-- ---- the post that one more corrects
-- two histories say the same of a post
abbrev pub SaysSame : List Kept → List Kept → ℕ → Type 0
SaysSame h g m = (last_amend m g ≡ last_amend m h) × (confirmed m g ≡ confirmed m h)

resolve-others : (h : List Kept) (k : Kept) (a t x m : ℕ) → k.post ≡ post.Resolve a t x → NameEarlier 1 h → t ≤ length h → (charge_named (at_number t h) ≡ m → ⊥) → SaysSame h (more h k) m
resolve-others h k a t x m is e l n = (resolve-amend h k a t x m is, resolve-other h k a t x m is e l (by (charge_named (at_number t h)) refl))
  where
    by : (g : ℕ) → charge_named (at_number t h) ≡ g → dispute_names m (at_number t h) ≡ false
    by zero f = named-no m (at_number t h) f (λ u. n (f ∙ u))
    by (suc g) f = named-yes m (at_number t h) (omega (arith, f)) ∙ other (charge_named (at_number t h)) m n

-- of the others nothing else is said
pub said-other : (h : List Kept) (k : Kept) → NameEarlier 1 h → target_of k.post ≤ length h → (m : ℕ) → (changed_by h k.post ≡ m → ⊥) → SaysSame h (more h k) m
said-other h k e l m n = by k.post refl l n
  where
    plain : corrects k.post ≡ false → SaysSame h (more h k) m
    plain f = (plain-amend m h k f, plain-confirmed m h k e l f)

    by : (p : Post) → k.post ≡ p → target_of p ≤ length h → (changed_by h p ≡ m → ⊥) → SaysSame h (more h k) m
    by (post.Open d' t') is b n = plain (rw is refl)
    by (post.OpenVariable d' t') is b n = plain (rw is refl)
    by (post.Charge d' p' c') is b n = plain (rw is refl)
    by (post.Credit d' p' c') is b n = plain (rw is refl)
    by (post.Payment d' i' y' c') is b n = plain (rw is refl)
    by (post.Return d' t') is b n = plain (rw is refl)
    by (post.Plan d' v' r' w' f') is b n = plain (rw is refl)
    by (post.Notice d' y' r' w') is b n = plain (rw is refl)
    by (post.Lower d' y' r') is b n = plain (rw is refl)
    by post.Penalty is b n = plain (rw is refl)
    by (post.Review d' f') is b n = plain (rw is refl)
    by (post.Dispute d' t' c') is b n = plain (rw is refl)
    by (post.Ack d' t') is b n = plain (rw is refl)
    by (post.Resolve x t c) is b n = resolve-others h k x t c m is e b n
    by (post.AskRefund d') is b n = plain (rw is refl)
    by (post.Refund c') is b n = plain (rw is refl)
    by (post.Amend t d c) is b n = (amend-other h k t d c m is n, amend-confirmed h k t d c m is e b)
    by (post.Bill c') is b n = plain (rw is refl)

-- and of that one what it says
pub said-this : (h : List Kept) (k : Kept) → NameEarlier 1 h → target_of k.post ≤ length h → 0 < changed_by h k.post → correction_of (more h k) (changed_by h k.post) ≡ with_post k.post (correction_of h (changed_by h k.post))
said-this h k e l z = by k.post refl l z
  where
    by : (p : Post) → k.post ≡ p → target_of p ≤ length h → 0 < changed_by h p → correction_of (more h k) (changed_by h p) ≡ with_post p (correction_of h (changed_by h p))
    by (post.Open d' t') is b z = absurd (omega (arith, z))
    by (post.OpenVariable d' t') is b z = absurd (omega (arith, z))
    by (post.Charge d' p' c') is b z = absurd (omega (arith, z))
    by (post.Credit d' p' c') is b z = absurd (omega (arith, z))
    by (post.Payment d' i' y' c') is b z = absurd (omega (arith, z))
    by (post.Return d' t') is b z = absurd (omega (arith, z))
    by (post.Plan d' v' r' w' f') is b z = absurd (omega (arith, z))
    by (post.Notice d' y' r' w') is b z = absurd (omega (arith, z))
    by (post.Lower d' y' r') is b z = absurd (omega (arith, z))
    by post.Penalty is b z = absurd (omega (arith, z))
    by (post.Review d' f') is b z = absurd (omega (arith, z))
    by (post.Dispute d' t' c') is b z = absurd (omega (arith, z))
    by (post.Ack d' t') is b z = absurd (omega (arith, z))
    by (post.Resolve x t c) is b z = resolve-said h k x t c is e b z
    by (post.AskRefund d') is b z = absurd (omega (arith, z))
    by (post.Refund c') is b z = absurd (omega (arith, z))
    by (post.Amend t d c) is b z = amend-said h k t d c is e b
    by (post.Bill c') is b z = absurd (omega (arith, z))

pub changed-within : (h : List Kept) (p : Post) → NameEarlier 1 h → target_of p ≤ length h → changed_by h p ≤ length h
changed-within h p e l = by p l
  where
    below : (t g : ℕ) → (0 < g → g < t) → t ≤ length h → g ≤ length h
    below t zero b l = omega arith
    below t (suc g) b l = let m = b (omega arith) in omega (arith, m, l)

    by : (p : Post) → target_of p ≤ length h → changed_by h p ≤ length h
    by (post.Open d' t') b = omega arith
    by (post.OpenVariable d' t') b = omega arith
    by (post.Charge d' p' c') b = omega arith
    by (post.Credit d' p' c') b = omega arith
    by (post.Payment d' i' y' c') b = omega arith
    by (post.Return d' t') b = omega arith
    by (post.Plan d' v' r' w' f') b = omega arith
    by (post.Notice d' y' r' w') b = omega arith
    by (post.Lower d' y' r') b = omega arith
    by post.Penalty b = omega arith
    by (post.Review d' f') b = omega arith
    by (post.Dispute d' t' c') b = omega arith
    by (post.Ack d' t') b = omega arith
    by (post.Resolve x t c) b = below t (charge_named (at_number t h)) (named-below h t e (at_number t h) refl) b
    by (post.AskRefund d') b = omega arith
    by (post.Refund c') b = omega arith
    by (post.Amend t d c) b = b
    by (post.Bill c') b = omega arith

-- what is kept of the posts
of-other : (h : List Kept) (k : Kept) (m : ℕ) → SaysSame h (more h k) m → correction_of (more h k) m ≡ correction_of h m
of-other h k m s = of-parts h (more h k) m s.0 s.1

-- a post that corrects nothing changes none
pub plain-changed : (h : List Kept) (p : Post) → corrects p ≡ false → changed_by h p ≡ 0
plain-changed h (post.Open d t) none = refl
plain-changed h (post.OpenVariable d t) none = refl
plain-changed h (post.Charge d p c) none = refl
plain-changed h (post.Credit d p c) none = refl
plain-changed h (post.Payment d i y c) none = refl
plain-changed h (post.Return d t) none = refl
plain-changed h (post.Plan d v r w f) none = refl
plain-changed h (post.Notice d y r w) none = refl
plain-changed h (post.Lower d y r) none = refl
plain-changed h post.Penalty none = refl
plain-changed h (post.Review d f) none = refl
plain-changed h (post.Dispute d t c) none = refl
plain-changed h (post.Ack d t) none = refl
plain-changed h (post.Resolve d t c) none = absurd (cc)
plain-changed h (post.AskRefund d) none = refl
plain-changed h (post.Refund c) none = refl
plain-changed h (post.Amend t d c) none = absurd (cc)
plain-changed h (post.Bill c) none = refl

pub noted-none : (h : List Kept) (k : Kept) → NameEarlier 1 h → target_of k.post ≤ length h → changed_by h k.post ≡ 0 → corrections_from (more h k) 1 h ≡ corrections_from h 1 h
noted-none h k e l z = all-same h (more h k) (changed_by h k.post) (λ m n. of-other h k m (said-other h k e l m n)) 1 h (omega (arith, z))

pub noted-one : (h : List Kept) (k : Kept) (d : Correction) → NameEarlier 1 h → target_of k.post ≤ length h → 0 < changed_by h k.post
    → corrections_from (more h k) 1 h ≡ set (corrections_from h 1 h) (changed_by h k.post - 1) (with_post k.post (get_or (corrections_from h 1 h) (changed_by h k.post - 1) d))
noted-one h k d e l z =
    let n : ℕ = changed_by h k.post in
    let place : 1 + (n - 1) ≡ n = omega (arith, z) in
    let within : n - 1 < length h = omega (arith, z, changed-within h k.post e l) in
    let old : get_or (corrections_from h 1 h) (n - 1) d ≡ correction_of h n = corrections-at h 1 (n - 1) h d within ∙ ap (correction_of h) place in
    one-changed h (more h k) n (λ m f. of-other h k m (said-other h k e l m f)) (n - 1) 1 h place within
    ∙ ap (set (corrections_from h 1 h) (n - 1)) (said-this h k e l z ∙ ap (with_post k.post) (sym old))

-- nothing is said of a new post
target-last : (p : Post) (m n : ℕ) → target_of p < m → m ≤ n → amend_of n p ≡ None
target-last (post.Open d t) m n b l = refl
target-last (post.OpenVariable d t) m n b l = refl
target-last (post.Charge d p c) m n b l = refl
target-last (post.Credit d p c) m n b l = refl
target-last (post.Payment d i y c) m n b l = refl
target-last (post.Return d t) m n b l = refl
target-last (post.Plan d v r w f) m n b l = refl
target-last (post.Notice d y r w) m n b l = refl
target-last (post.Lower d y r) m n b l = refl
target-last post.Penalty m n b l = refl
target-last (post.Review d f) m n b l = refl
target-last (post.Dispute d t c) m n b l = refl
target-last (post.Ack d t) m n b l = refl
target-last (post.Resolve d t c) m n b l = refl
target-last (post.AskRefund d) m n b l = refl
target-last (post.Refund c) m n b l = refl
target-last (post.Amend t d c) m n b l = rw (other t n (λ e. omega (arith, b, e, l))) refl
target-last (post.Bill c) m n b l = refl

pub unnamed : (n m : ℕ) (ks : List Kept) → NameEarlier m ks → m + length ks ≤ n + 1 → last_amend n ks ≡ None
unfolding last_amend NameEarlier
unnamed n m [] e l = refl
unnamed n m (k ∷ ks) e l =
    let rest : last_amend n ks ≡ None = unnamed n (suc m) ks e.1 (omega (arith, l)) in
    let one : amend_of n k.post ≡ None = target-last k.post m n e.0 (omega (arith, l)) in
    rw (rest, one) refl

disputes-other : (p : Post) (m n : ℕ) → target_of p < m → m ≤ n → disputes n p ≡ false
disputes-other (post.Open d t) m n b l = refl
disputes-other (post.OpenVariable d t) m n b l = refl
disputes-other (post.Charge d p c) m n b l = refl
disputes-other (post.Credit d p c) m n b l = refl
disputes-other (post.Payment d i y c) m n b l = refl
disputes-other (post.Return d t) m n b l = refl
disputes-other (post.Plan d v r w f) m n b l = refl
disputes-other (post.Notice d y r w) m n b l = refl
disputes-other (post.Lower d y r) m n b l = refl
disputes-other post.Penalty m n b l = refl
disputes-other (post.Review d f) m n b l = refl
disputes-other (post.Dispute d t c) m n b l = other t n (λ e. omega (arith, b, e, l))
disputes-other (post.Ack d t) m n b l = refl
disputes-other (post.Resolve d t c) m n b l = refl
disputes-other (post.AskRefund d) m n b l = refl
disputes-other (post.Refund c) m n b l = refl
disputes-other (post.Amend t d c) m n b l = refl
disputes-other (post.Bill c) m n b l = refl

names-other : (h : List Kept) (t n : ℕ) (o : Option Kept) → NameEarlier 1 h → at_number t h ≡ o → t ≤ n → dispute_names n o ≡ false
names-other h t n None e f l = refl
names-other h t n (Some k) e f l = disputes-other k.post t n (target-below t h k e f) l

confirms-other : (h : List Kept) (n m : ℕ) (p : Post) → NameEarlier 1 h → target_of p < m → m ≤ n → confirms n h p ≡ 0
confirms-other h n m (post.Open d t) e b l = refl
confirms-other h n m (post.OpenVariable d t) e b l = refl
confirms-other h n m (post.Charge d p c) e b l = refl
confirms-other h n m (post.Credit d p c) e b l = refl
confirms-other h n m (post.Payment d i y c) e b l = refl
confirms-other h n m (post.Return d t) e b l = refl
confirms-other h n m (post.Plan d v r w f) e b l = refl
confirms-other h n m (post.Notice d y r w) e b l = refl
confirms-other h n m (post.Lower d y r) e b l = refl
confirms-other h n m post.Penalty e b l = refl
confirms-other h n m (post.Review d f) e b l = refl
confirms-other h n m (post.Dispute d t c) e b l = refl
confirms-other h n m (post.Ack d t) e b l = refl
confirms-other h n m (post.Resolve d t c) e b l = rw (names-other h t n (at_number t h) e refl (omega (arith, b, l))) refl
confirms-other h n m (post.AskRefund d) e b l = refl
confirms-other h n m (post.Refund c) e b l = refl
confirms-other h n m (post.Amend t d c) e b l = refl
confirms-other h n m (post.Bill c) e b l = refl

unconfirmed : (n : ℕ) (h : List Kept) → NameEarlier 1 h → (m : ℕ) (ks : List Kept) → NameEarlier m ks → m + length ks ≤ n + 1 → sum_by (λ (q : Kept). confirms n h q.post) ks ≡ 0
unfolding NameEarlier
unconfirmed n h all m [] e l = refl
unconfirmed n h all m (k ∷ ks) e l =
    let one : confirms n h k.post ≡ 0 = confirms-other h n m k.post all e.0 (omega (arith, l)) in
    let rest : sum_by (λ (q : Kept). confirms n h q.post) ks ≡ 0 = unconfirmed n h all (suc m) ks e.1 (omega (arith, l)) in
    let both : sum_by (λ (q : Kept). confirms n h q.post) (k ∷ ks) ≡ confirms n h k.post + sum_by (λ (q : Kept). confirms n h q.post) ks = sum_by-cons (λ (q : Kept). confirms n h q.post) k ks in
    omega (arith, one, rest, both)

pub new-kept : (h : List Kept) (k : Kept) → NameEarlier 1 h → target_of k.post ≤ length h → correction_of (more h k) (1 + length h) ≡ by_parts None 0
unfolding confirmed
new-kept h k e l =
    let all : NameEarlier 1 (more h k) = names-append 1 h k e (omega (arith, l)) in
    let long : length (more h k) ≡ length h + 1 = length-append h (k ∷ []) in
    let amend = unnamed (1 + length h) 1 (more h k) all (omega (arith, long)) in
    let confirm = unconfirmed (1 + length h) (more h k) all 1 (more h k) all (omega (arith, long)) in
    rw (amend, confirm) refl
