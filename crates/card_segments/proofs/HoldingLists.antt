-- The holdings of balances and ranks.
use Rattle.std.proofs.Common.{◌≡◌, ℕ, ◌+◌, ◌<◌, ◌≤◌, Bool, true, false, cond, filter, List, [], ◌∷◌, ◌++◌, length, drop, refl, sym, ap, ◌∙◌, arith, get_or, ℤ, pos}
use Rattle.std.proofs.lemmas.List.{drop_more}
use Rattle.card_model.specs.Allocation.{Ascends}
use Rattle.card_model.specs.declared.holding.Holding.{Holding}
use Rattle.card_segments.specs.Holdings.{counts, holding, holdings_from}
use Rattle.card_segments.specs.Sole.{is_above_zero}
use Rattle.card_segments.specs.declared.rank.Rank.{Rank}

pub holdings-more : (place : List ℕ) (i : ℕ) (bs : List ℤ) (rs : List Rank) (d : Rank) → i < length bs → i < length rs
    → holdings_from place i (drop i bs) (drop i rs) ≡ holding place i (get_or bs i (pos 0)) (get_or rs i d) ∷ holdings_from place (i + 1) (drop (i + 1) bs) (drop (i + 1) rs)
holdings-more place i bs rs d l m = rw (drop_more bs i (pos 0) l, drop_more rs i d m) refl

pub holdings-ascend : (place : List ℕ) (low i : ℕ) (bs : List ℤ) (rs : List Rank) → low ≤ i → Ascends low (holdings_from place i bs rs)
holdings-ascend place low i [] rs l = tt
holdings-ascend place low i (b ∷ bs) [] l = tt
holdings-ascend place low i (b ∷ bs) (r ∷ rs) l = (l, holdings-ascend place (i + 1) (i + 1) bs rs (omega arith))

snoc : (xs : List Holding) (h : Holding) (ys : List Holding) → (xs ++ h ∷ []) ++ ys ≡ xs ++ h ∷ ys
snoc [] h ys = refl
snoc (x ∷ xs) h ys = ap (λ zs. x ∷ zs) (snoc xs h ys)

-- those that count, from a place on
abbrev counted_from : List ℕ → ℕ → List ℤ → List Rank → List Holding
counted_from place i bs rs = filter counts (holdings_from place i (drop i bs) (drop i rs))

counted-more : (place : List ℕ) (i : ℕ) (bs : List ℤ) (rs : List Rank) (d : Rank) (t : Bool) → i < length bs → i < length rs → is_above_zero (get_or bs i (pos 0)) ≡ t
    → counted_from place i bs rs ≡ cond t (holding place i (get_or bs i (pos 0)) (get_or rs i d) ∷ counted_from place (i + 1) bs rs) (counted_from place (i + 1) bs rs)
counted-more place i bs rs d t l m e = rw (holdings-more place i bs rs d l m, e) refl

pub holdings-pushed : (place : List ℕ) (xs all : List Holding) (h : Holding) (i : ℕ) (bs : List ℤ) (rs : List Rank) (d : Rank) → i < length bs → i < length rs → is_above_zero (get_or bs i (pos 0)) ≡ true
    → h ≡ holding place i (get_or bs i (pos 0)) (get_or rs i d) → xs ++ counted_from place i bs rs ≡ all → (xs ++ h ∷ []) ++ counted_from place (i + 1) bs rs ≡ all
holdings-pushed place xs all h i bs rs d l m b e q =
    snoc xs h (counted_from place (i + 1) bs rs)
    ∙ (ap (λ g. xs ++ g ∷ counted_from place (i + 1) bs rs) e
    ∙ (ap (λ ys. xs ++ ys) (sym (counted-more place i bs rs d true l m b)) ∙ q))

pub holdings-passed : (place : List ℕ) (xs all : List Holding) (i : ℕ) (bs : List ℤ) (rs : List Rank) (d : Rank) → i < length bs → i < length rs → is_above_zero (get_or bs i (pos 0)) ≡ false
    → xs ++ counted_from place i bs rs ≡ all → xs ++ counted_from place (i + 1) bs rs ≡ all
holdings-passed place xs all i bs rs d l m b q = ap (λ ys. xs ++ ys) (sym (counted-more place i bs rs d false l m b)) ∙ q
