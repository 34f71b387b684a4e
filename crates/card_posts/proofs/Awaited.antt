-- What one more post does to the effective days of earlier ones, through the posts for which they wait.
use Rattle.std.proofs.Common.{◌≡◌, ℕ, zero, suc, ◌<◌, ◌≤◌, ◌⊎◌, inl, inr, max, Bool, true, false, cond, List, length, refl, sym, ap, ◌∙◌, subst, arith, Option, Some, None}
use Rattle.std.proofs.lemmas.Bool.{cases_eq}
use Rattle.card_events.specs.declared.anchor.Anchor.{Anchor}
use Rattle.card_events.specs.History.{at_number, effective_day, last_amend}
use Rattle.card_events.specs.declared.kept.Kept.{Kept}
use Rattle.card_events.specs.declared.post.Post.{Post}
use Rattle.card_events.specs.declared.post.Post.TheVariants as post
use Rattle.card_posts.specs.Corrections.{changed_by, corrects}
use Rattle.card_posts.specs.Effect.{awaited_day, awaits, day_alone}
use Rattle.card_posts.specs.Posted.{target_of}
use Rattle.card_posts.specs.Stored.{NameEarlier}
use Rattle.card_posts.proofs.DayLemmas.{day-by-later}
use Rattle.card_posts.proofs.Noted.{resolve-amend, said-other}
use Rattle.card_events.proofs.OneMore.{more, number-more}
use Rattle.card_posts.proofs.OneMore.{plain-amend, target-below}

-- the effective day of a post by two histories
abbrev pub DaysAre : (ℕ → ℕ → Type 0) → Anchor → List ℕ → List Kept → List Kept → ℕ → Kept → Type 0
DaysAre R a holidays h g m k = R (effective_day a holidays h m k.accepted k.post) (effective_day a holidays g m k.accepted k.post)

-- what holds of equal days, and of the later of a day and two for which it holds, holds of the days of each post up to a number,
-- where it holds of those of which the histories don't say the same
pub record Carries (R : ℕ → ℕ → Type 0) (a : Anchor) (holidays : List ℕ) (h g : List Kept) (top : ℕ) : Type 0 where
  pub equal : (x : ℕ) → R x x
  pub later : (d x y : ℕ) → R x y → R (max d x) (max d y)
  pub names : NameEarlier 1 h
  pub posts : (m : ℕ) → m ≤ top → at_number m g ≡ at_number m h
  pub said : (m : ℕ) (k : Kept) → m ≤ top → at_number m h ≡ Some k → (last_amend m g ≡ last_amend m h) ⊎ R (effective_day a holidays h m k.accepted k.post) (effective_day a holidays g m k.accepted k.post)

-- of the day that a post waits for
awaited-on : (R : ℕ → ℕ → Type 0) (a : Anchor) (holidays : List ℕ) (h g : List Kept) (p : Post) (o : Option Kept) → ((x : ℕ) → R x x) → ((q : Kept) → o ≡ Some q → DaysAre R a holidays h g (target_of p) q) → R (awaited_day a holidays h p o) (awaited_day a holidays g p o)
awaited-on R a holidays h g p None equal of = equal 0
awaited-on R a holidays h g p (Some q) equal of = by (awaits p q.post) (of q refl)
  where
    by : (b : Bool) → DaysAre R a holidays h g (target_of p) q → R (cond b (effective_day a holidays h (target_of p) q.accepted q.post) 0) (cond b (effective_day a holidays g (target_of p) q.accepted q.post) 0)
    by true r = r
    by false r = equal 0

-- one post on
carried-on : (R : ℕ → ℕ → Type 0) (a : Anchor) (holidays : List ℕ) (h g : List Kept) (top fuel m : ℕ) (k : Kept) → Carries R a holidays h g top
    → ((j : ℕ) (q : Kept) → j ≤ fuel → j ≤ top → at_number j h ≡ Some q → DaysAre R a holidays h g j q) → m ≤ suc fuel → m ≤ top → at_number m h ≡ Some k → DaysAre R a holidays h g m k
carried-on R a holidays h g top fuel m k c of low within is = by (c.said m k within is)
  where
    by : (last_amend m g ≡ last_amend m h) ⊎ DaysAre R a holidays h g m k → DaysAre R a holidays h g m k
    by (inr r) = r
    by (inl same) =
        let t : ℕ = target_of k.post in
        let below : t < m = target-below m h k c.names is in
        let there : at_number t g ≡ at_number t h = c.posts t (omega (arith, below, within)) in
        let waits : R (awaited_day a holidays h k.post (at_number t h)) (awaited_day a holidays g k.post (at_number t h)) =
        awaited-on R a holidays h g k.post (at_number t h) c.equal (λ q e. of t q (omega (arith, below, low)) (omega (arith, below, within)) e) in
        let alone : ℕ = day_alone a holidays (last_amend m h) k.accepted k.post in
        let before : effective_day a holidays h m k.accepted k.post ≡ max alone (awaited_day a holidays h k.post (at_number t h)) = day-by-later a holidays h m k.accepted k.post in
        let now : effective_day a holidays g m k.accepted k.post ≡ max alone (awaited_day a holidays g k.post (at_number t h)) =
        day-by-later a holidays g m k.accepted k.post ∙ (ap (λ o. max (day_alone a holidays o k.accepted k.post) (awaited_day a holidays g k.post (at_number t g))) same ∙ ap (λ o. max alone (awaited_day a holidays g k.post o)) there) in
        subst (λ x. R x (effective_day a holidays g m k.accepted k.post)) (sym before) (subst (λ y. R (max alone (awaited_day a holidays h k.post (at_number t h))) y) (sym now) (c.later alone _ _ waits))

carried-by : (R : ℕ → ℕ → Type 0) (a : Anchor) (holidays : List ℕ) (h g : List Kept) (top fuel m : ℕ) (k : Kept) → Carries R a holidays h g top → m ≤ fuel → m ≤ top → at_number m h ≡ Some k → DaysAre R a holidays h g m k
carried-by R a holidays h g top zero zero k c low within is = let no : None ≡ Some k = is in absurd (cc)
carried-by R a holidays h g top zero (suc m) k c low within is = absurd (omega (arith, low))
carried-by R a holidays h g top (suc fuel) m k c low within is = carried-on R a holidays h g top fuel m k c (λ j q l w e. carried-by R a holidays h g top fuel j q c l w e) low within is

pub carried : (R : ℕ → ℕ → Type 0) (a : Anchor) (holidays : List ℕ) (h g : List Kept) (top m : ℕ) (k : Kept) → Carries R a holidays h g top → m ≤ top → at_number m h ≡ Some k → DaysAre R a holidays h g m k
carried R a holidays h g top m k c within is = carried-by R a holidays h g top m m k c (omega arith) within is

-- ---- with one more post
-- the days of the posts before the one that it corrects are as they were
days-below : (a : Anchor) (holidays : List ℕ) (h : List Kept) (k : Kept) (top : ℕ) → NameEarlier 1 h → target_of k.post ≤ length h → top ≤ length h → top < changed_by h k.post → Carries (λ x y. x ≡ y) a holidays h (more h k) top
days-below a holidays h k top e l w b = record {
  equal = λ x. refl;
  later = λ d x y r. ap (max d) r;
  names = e;
  posts = λ m n. number-more m h k (omega (arith, n, w));
  said = λ m q n is. inl (said-other h k e l m (λ f. omega (arith, f, n, b))).0;
}

pub days-under : (a : Anchor) (holidays : List ℕ) (h : List Kept) (k : Kept) (m : ℕ) (q : Kept) → NameEarlier 1 h → target_of k.post ≤ length h → m ≤ length h → m < changed_by h k.post → at_number m h ≡ Some q
    → effective_day a holidays h m q.accepted q.post ≡ effective_day a holidays (more h k) m q.accepted q.post
days-under a holidays h k m q e l w b is = carried (λ x y. x ≡ y) a holidays h (more h k) m m q (days-below a holidays h k m e l w b) (omega arith) is

-- and so is the day for which one of them waits
pub awaited-below : (a : Anchor) (holidays : List ℕ) (h : List Kept) (k : Kept) (p : Post) → NameEarlier 1 h → target_of k.post ≤ length h → target_of p ≤ length h → target_of p < changed_by h k.post
    → awaited_day a holidays (more h k) p (at_number (target_of p) (more h k)) ≡ awaited_day a holidays h p (at_number (target_of p) h)
awaited-below a holidays h k p e l w b =
    let t : ℕ = target_of p in
    let of : Carries (λ x y. x ≡ y) a holidays h (more h k) t = days-below a holidays h k t e l w b in
    ap (awaited_day a holidays (more h k) p) (number-more t h k w)
    ∙ sym (awaited-on (λ x y. x ≡ y) a holidays h (more h k) p (at_number t h) (λ x. refl) (λ q is. carried (λ x y. x ≡ y) a holidays h (more h k) t t q of (omega arith) is))

-- what holds of the days of the post that it corrects
days-all : (R : ℕ → ℕ → Type 0) (a : Anchor) (holidays : List ℕ) (h : List Kept) (k : Kept) → ((x : ℕ) → R x x) → ((d x y : ℕ) → R x y → R (max d x) (max d y)) → NameEarlier 1 h → target_of k.post ≤ length h
    → ((q : Kept) → at_number (changed_by h k.post) h ≡ Some q → DaysAre R a holidays h (more h k) (changed_by h k.post) q) → Carries R a holidays h (more h k) (length h)
days-all R a holidays h k equal later e l one = record {
  equal = equal;
  later = later;
  names = e;
  posts = λ m n. number-more m h k n;
  said = λ m q n there. by m q there (cases_eq (changed_by h k.post) m);
}
  where
    by : (m : ℕ) (q : Kept) → at_number m h ≡ Some q → (changed_by h k.post ≡ m) ⊎ (changed_by h k.post ≡ m → ⊥) → (last_amend m (more h k) ≡ last_amend m h) ⊎ DaysAre R a holidays h (more h k) m q
    by m q there (inl same) = inr (subst (λ n. DaysAre R a holidays h (more h k) n q) same (one q (ap (λ n. at_number n h) same ∙ there)))
    by m q there (inr other) = inl (said-other h k e l m other).0

-- where that one stays on its day, all do
pub days-still : (a : Anchor) (holidays : List ℕ) (h : List Kept) (k : Kept) → NameEarlier 1 h → target_of k.post ≤ length h
    → ((q : Kept) → at_number (changed_by h k.post) h ≡ Some q → DaysAre (λ x y. x ≡ y) a holidays h (more h k) (changed_by h k.post) q) → (m : ℕ) (q : Kept) → m ≤ length h → at_number m h ≡ Some q
    → effective_day a holidays h m q.accepted q.post ≡ effective_day a holidays (more h k) m q.accepted q.post
days-still a holidays h k e l stays m q w is =
    carried (λ x y. x ≡ y) a holidays h (more h k) (length h) m q (days-all (λ x y. x ≡ y) a holidays h k (λ x. refl) (λ d x y r. ap (max d) r) e l stays) w is

-- two days are the same, or none of them lies before a third one
abbrev pub AreFrom : ℕ → ℕ → ℕ → Type 0
AreFrom low x y = (x ≡ y) ⊎ ((low ≤ x) × (low ≤ y))

from-later : (low d x y : ℕ) → AreFrom low x y → AreFrom low (max d x) (max d y)
from-later low d x y (inl e) = inl (ap (max d) e)
from-later low d x y (inr l) = inr (omega (arith, l.0), omega (arith, l.1))

-- what moves doesn't leave or come to a day before those of the post that it corrects
pub days-from : (a : Anchor) (holidays : List ℕ) (h : List Kept) (k : Kept) (low : ℕ) → NameEarlier 1 h → target_of k.post ≤ length h
    → ((q : Kept) → at_number (changed_by h k.post) h ≡ Some q → DaysAre (AreFrom low) a holidays h (more h k) (changed_by h k.post) q) → (m : ℕ) (q : Kept) → m ≤ length h → at_number m h ≡ Some q
    → AreFrom low (effective_day a holidays h m q.accepted q.post) (effective_day a holidays (more h k) m q.accepted q.post)
days-from a holidays h k low e l one m q w is = carried (AreFrom low) a holidays h (more h k) (length h) m q (days-all (AreFrom low) a holidays h k (λ x. inl refl) (from-later low) e l one) w is

-- ---- the effective day of the new post
own-by : (a : Anchor) (holidays : List ℕ) (h : List Kept) (k : Kept) (n : ℕ) → NameEarlier 1 h → target_of k.post ≤ length h → ((m : ℕ) → last_amend m (more h k) ≡ last_amend m h)
    → effective_day a holidays h n k.accepted k.post ≡ effective_day a holidays (more h k) n k.accepted k.post
own-by a holidays h k n e l same =
    let t : ℕ = target_of k.post in
    let all : Carries (λ x y. x ≡ y) a holidays h (more h k) (length h) = record {
      equal = λ x. refl;
      later = λ d x y r. ap (max d) r;
      names = e;
      posts = λ m w. number-more m h k w;
      said = λ m q w is. inl (same m);
    } in
    let waits : awaited_day a holidays h k.post (at_number t h) ≡ awaited_day a holidays (more h k) k.post (at_number t h) =
    awaited-on (λ x y. x ≡ y) a holidays h (more h k) k.post (at_number t h) (λ x. refl) (λ q is. carried (λ x y. x ≡ y) a holidays h (more h k) (length h) t q all l is) in
    day-by-later a holidays h n k.accepted k.post
    ∙ (ap (λ o. max (day_alone a holidays o k.accepted k.post) (awaited_day a holidays h k.post (at_number t h))) (sym (same n))
    ∙ (ap (max (day_alone a holidays (last_amend n (more h k)) k.accepted k.post)) (waits ∙ ap (awaited_day a holidays (more h k) k.post) (sym (number-more t h k l)))
    ∙ sym (day-by-later a holidays (more h k) n k.accepted k.post)))

amend-day : (a : Anchor) (holidays : List ℕ) (h g : List Kept) (n accepted t d c : ℕ) (p : Post) → p ≡ post.Amend t d c → effective_day a holidays h n accepted p ≡ effective_day a holidays g n accepted p
unfolding effective_day
amend-day a holidays h g n accepted t d c p is = rw is refl

-- it doesn't depend on the post itself
pub own-still : (a : Anchor) (holidays : List ℕ) (h : List Kept) (k : Kept) (n : ℕ) → NameEarlier 1 h → target_of k.post ≤ length h → effective_day a holidays h n k.accepted k.post ≡ effective_day a holidays (more h k) n k.accepted k.post
own-still a holidays h k n e l = by k.post refl
  where
    plain : corrects k.post ≡ false → effective_day a holidays h n k.accepted k.post ≡ effective_day a holidays (more h k) n k.accepted k.post
    plain f = own-by a holidays h k n e l (λ m. plain-amend m h k f)

    by : (p : Post) → k.post ≡ p → effective_day a holidays h n k.accepted k.post ≡ effective_day a holidays (more h k) n k.accepted k.post
    by (post.Open d' t') is = plain (rw is refl)
    by (post.OpenVariable d' t') is = plain (rw is refl)
    by (post.Charge d' p' c') is = plain (rw is refl)
    by (post.Credit d' p' c') is = plain (rw is refl)
    by (post.Payment d' i' y' c') is = plain (rw is refl)
    by (post.Return d' t') is = plain (rw is refl)
    by (post.Plan d' v' r' w' f') is = plain (rw is refl)
    by (post.Notice d' y' r' w') is = plain (rw is refl)
    by (post.Lower d' y' r') is = plain (rw is refl)
    by post.Penalty is = plain (rw is refl)
    by (post.Review d' f') is = plain (rw is refl)
    by (post.Dispute d' t' c') is = plain (rw is refl)
    by (post.Ack d' t') is = plain (rw is refl)
    by (post.Resolve x t c) is = own-by a holidays h k n e l (λ m. resolve-amend h k x t c m is)
    by (post.AskRefund d') is = plain (rw is refl)
    by (post.Refund c') is = plain (rw is refl)
    by (post.Amend t d c) is = amend-day a holidays h (more h k) n k.accepted t d c k.post is
    by (post.Bill c') is = plain (rw is refl)
