-- The next day of one kind, of either of two, and of any in a list.
use Rattle.std.proofs.Common.{◌≡◌, ℕ, ◌+◌, ◌<◌, ◌≤◌, Bool, true, false, ◌||◌, eqb, List, [], length, take, get_or, refl, sym, ap, ◌∙◌, arith, ◌⊎◌, inl, inr}
use Rattle.std.specs.List.{list_any}
use Rattle.std.proofs.lemmas.Bool.{cases_lt, eq-eqb, ne_eqb}
use Rattle.std.proofs.lemmas.List.Folds.{list_any_more}
use Rattle.card_rates.specs.Next.{IsNext}

-- ---- one day
pub next-there : (number first end : ℕ) → first ≤ number → number < end → IsNext (λ x. eqb number x) first end number
next-there number first end l m = record {
  low = l;
  high = omega (arith, m);
  none = λ x a b. ne_eqb number x (λ e. omega (arith, e, b));
  some = λ a. eq-eqb number number refl;
}

-- no day passes
pub next-never : (p : ℕ → Bool) (first end : ℕ) → first ≤ end → ((x : ℕ) → first ≤ x → x < end → p x ≡ false) → IsNext p first end end
next-never p first end l h = record { low = l; high = omega arith; none = h; some = λ a. absurd (omega (arith, a)) }

-- ---- two kinds
neither : (s t : Bool) → s ≡ false → t ≡ false → (s || t) ≡ false
neither s t e f = rw (e, f) refl

or-left : (s t : Bool) → s ≡ true → (s || t) ≡ true
or-left s t e = rw e refl

pub or-right : (s t : Bool) → t ≡ true → (s || t) ≡ true
or-right true t e = refl
or-right false t e = e

pub next-both : (p q : ℕ → Bool) (first end mid day : ℕ) → IsNext p first end mid → IsNext q first mid day → IsNext (λ x. p x || q x) first end day
next-both p q first end mid day h k = record {
  low = k.low;
  high = (let a = h.high in let b = k.high in omega (arith, a, b));
  none = λ x l m. let b = k.high in neither (p x) (q x) (h.none x l (omega (arith, m, b))) (k.none x l m);
  some = by (cases_lt day mid);
}
  where
    by : (day < mid) ⊎ (mid ≤ day) → day < end → (p day || q day) ≡ true
    by (inl l) e = or-right (p day) (q day) (k.some l)
    by (inr l) e =
        let b = k.high in
        let same : mid ≡ day = omega (arith, l, b) in
        or-left (p day) (q day) (ap p (sym same) ∙ h.some (omega (arith, e, same)))

pub next-same : (p q : ℕ → Bool) (first end day : ℕ) → ((x : ℕ) → p x ≡ q x) → IsNext p first end day → IsNext q first end day
next-same p q first end day e h = record { low = h.low; high = h.high; none = λ x l m. sym (e x) ∙ h.none x l m; some = λ l. sym (e day) ∙ h.some l }

-- ---- a list
pub next-nothing : {X : Type 0} (b : ℕ → X → Bool) (first end : ℕ) → first ≤ end → IsNext (λ x. list_any (b x) []) first end end
next-nothing b first end l = next-never (λ x. list_any (b x) []) first end l (λ x a c. refl)

pub next-more : {X : Type 0} (b : ℕ → X → Bool) (xs : List X) (i : ℕ) (d : X) (first end mid day : ℕ) → i < length xs → d ≡ get_or xs i d
    → IsNext (λ x. list_any (b x) (take i xs)) first end mid → IsNext (λ x. b x d) first mid day → IsNext (λ x. list_any (b x) (take (i + 1) xs)) first end day
next-more b xs i d first end mid day l e h k =
    next-same (λ x. list_any (b x) (take i xs) || b x d) (λ x. list_any (b x) (take (i + 1) xs)) first end day
    (λ x. ap (λ v. list_any (b x) (take i xs) || b x v) e ∙ sym (list_any_more (b x) xs i d l))
    (next-both (λ x. list_any (b x) (take i xs)) (λ x. b x d) first end mid day h k)
