-- The choice among the holdings from a place on, by the choice among those behind it.
use Rattle.std.proofs.Common.{◌≡◌, ℕ, ◌+◌, ◌<◌, Bool, true, false, cond, ◌&&◌, List, drop, length, refl, sym, ap, ◌∙◌, arith, ltb, get_or, Option, Some, None}
use Rattle.std.proofs.lemmas.Bool.Decides.{nat_tests}
use Rattle.std.proofs.lemmas.List.{drop_more, get_or_read}
use Rattle.card_model.specs.Allocation.{best, choose}
use Rattle.card_model.specs.declared.holding.Holding.{Holding}
use Rattle.card_segments.specs.declared.choice.Choice.{Choice}
use Rattle.card_segments.specs.Rules.{IsPlaceOf, chosen, is_before, passes}

step : (c : Choice) (hs : List Holding) (i : ℕ) (x : Holding) → i < length hs → x ≡ get_or hs i x
    → chosen c (drop i hs) ≡ cond (ltb 0 x.balance && passes c x) (Some (choose (is_before c) x (chosen c (drop (i + 1) hs)))) (chosen c (drop (i + 1) hs))
unfolding best
step c hs i x l e = rw (drop_more hs i x l, ← e) refl

pub closed : (c : Choice) (hs : List Holding) (i : ℕ) (x : Holding) (found : Option ℕ) → i < length hs → x ≡ get_or hs i x → x.balance ≡ 0 → IsPlaceOf hs (chosen c (drop (i + 1) hs)) found → IsPlaceOf hs (chosen c (drop i hs)) found
closed c hs i x found l e z h =
    let test : ltb 0 x.balance ≡ false = grind (arith, nat_tests) in
    rw (step c hs i x l e, test) h

pub failing : (c : Choice) (hs : List Holding) (i : ℕ) (x : Holding) (found : Option ℕ) → i < length hs → x ≡ get_or hs i x → passes c x ≡ false → IsPlaceOf hs (chosen c (drop (i + 1) hs)) found → IsPlaceOf hs (chosen c (drop i hs)) found
failing c hs i x found l e z h = rw (step c hs i x l e, z, both (ltb 0 x.balance)) h
  where
    both : (b : Bool) → (b && false) ≡ false
    both true = refl
    both false = refl

open_here : (c : Choice) (x : Holding) → 0 < x.balance → passes c x ≡ true → (ltb 0 x.balance && passes c x) ≡ true
open_here c x o p =
    let test : ltb 0 x.balance ≡ true = grind (arith, nat_tests) in
    rw (test, p) refl

pub first : (c : Choice) (hs : List Holding) (i : ℕ) (x : Holding) → i < length hs → x ≡ get_or hs i x → 0 < x.balance → passes c x ≡ true → chosen c (drop (i + 1) hs) ≡ None → IsPlaceOf hs (chosen c (drop i hs)) (Some i)
first c hs i x l e o p n =
    (l, λ d. step c hs i x l e ∙ rw (open_here c x o p, n) (ap (λ (h : Holding). Some h) (get_or_read hs i x l e d)))

behind_is : (c : Choice) (hs : List Holding) (i j : ℕ) (y : Holding) → y ≡ get_or hs j y → ((d : Holding) → chosen c (drop (i + 1) hs) ≡ Some (get_or hs j d)) → chosen c (drop (i + 1) hs) ≡ Some y
behind_is c hs i j y f h = h y ∙ ap (λ (g : Holding). Some g) (sym f)

pub kept : (c : Choice) (hs : List Holding) (i j : ℕ) (x y : Holding) → i < length hs → x ≡ get_or hs i x → 0 < x.balance → passes c x ≡ true → j < length hs → y ≡ get_or hs j y → is_before c y x ≡ true
    → ((d : Holding) → chosen c (drop (i + 1) hs) ≡ Some (get_or hs j d)) → IsPlaceOf hs (chosen c (drop i hs)) (Some j)
kept c hs i j x y l e o p m f b h =
    (m, λ d. step c hs i x l e ∙ rw (open_here c x o p, behind_is c hs i j y f h, b) (ap (λ (g : Holding). Some g) (get_or_read hs j y m f d)))

pub taken : (c : Choice) (hs : List Holding) (i j : ℕ) (x y : Holding) → i < length hs → x ≡ get_or hs i x → 0 < x.balance → passes c x ≡ true → j < length hs → y ≡ get_or hs j y → is_before c y x ≡ false
    → ((d : Holding) → chosen c (drop (i + 1) hs) ≡ Some (get_or hs j d)) → IsPlaceOf hs (chosen c (drop i hs)) (Some i)
taken c hs i j x y l e o p m f b h =
    (l, λ d. step c hs i x l e ∙ rw (open_here c x o p, behind_is c hs i j y f h, b) (ap (λ (g : Holding). Some g) (get_or_read hs i x l e d)))
