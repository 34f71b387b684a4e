-- The parts of a payment or a credit, ranked or not.
use Rattle.std.proofs.Common.{◌≡◌, ℕ, ◌≤◌, List, [], length, sym, ap, ◌∙◌, subst, arith, ℤ, pos, to_z, of_z, w64}
use Rattle.std.specs.Prelude.{◌≤ℤ◌, IfSome, Option, Some}
use Rattle.std.proofs.lemmas.Int.{ints}
use Rattle.std.proofs.lemmas.List.{length-map}
use Rattle.card_events.specs.SharedRows.{IndexRow}
use Rattle.card_model.specs.Allocation.{allocated, placed}
use Rattle.card_model.specs.Entries.{at_least_zero}
use Rattle.card_model.specs.Limits.{balance_limit}
use Rattle.card_model.specs.Segments.{kept_segment}
use Rattle.card_model.specs.declared.segment.Segment.{Segment}
use Rattle.card_rates.specs.RateBooks.{Rates}
use Rattle.card_segments.specs.Holdings.{holdings}
use Rattle.card_segments.specs.Sole.{AreOfSole}
use Rattle.card_segments.specs.declared.rank.Rank.{Rank}
use Rattle.card_segments.proofs.PartFacts.{least}
use Rattle.card_effects.specs.Ranks.{rank_on, ranks_on}
use Rattle.card_effects.specs.Standing.{AreRated}
use Rattle.card_effects.proofs.Places.{how-many}
use Rattle.card_effects.proofs.Standing.{handed}

-- a rank for each segment
pub ranks-all : (rows : List IndexRow) (rated : Rates) (until day n : ℕ) (segs : List Segment) → AreRated segs rated → length segs ≡ n → 5 ≤ n → length (ranks_on rows rated until day) ≡ n
ranks-all rows rated until day n segs r l m = omega (arith, how-many segs rated.segments r.kept, l, length-map rated.segments (rank_on rows rated until day))

-- an amount of at most 10^15 cents as it is handed on
abbrev given : ℤ → ℕ
given z = at_least_zero (to_z w64 (of_z w64 z))

-- parts that were found
pub sole-found : (bs : List ℤ) (n : ℕ) (found : Option (List (ℕ × ℕ))) (ps : List (ℕ × ℕ)) → found ≡ Some ps → IfSome found (AreOfSole bs n) → AreOfSole bs n ps
sole-found bs n found ps is h = subst (λ o. IfSome o (AreOfSole bs n)) is h

-- ---- a payment
pub sole-payment : (bs : List ℤ) (ranks : List Rank) (part cents : ℤ) (ps : List (ℕ × ℕ)) → pos 0 ≤ℤ cents → cents ≤ℤ pos balance_limit → part ≤ℤ cents → length ranks ≡ length bs → AreOfSole bs (given cents) ps
    → ps ≡ allocated (at_least_zero part) (at_least_zero cents) (holdings [] bs ranks)
sole-payment bs ranks part cents ps low high within all h =
    let sole = subst (λ n. AreOfSole bs n ps) (handed cents low high) h in
    sole.payment ranks (at_least_zero part) all (least part cents within)

pub ranked-payment : (bs : List ℤ) (rs ranks : List Rank) (part cents : ℤ) (ps : List (ℕ × ℕ)) → pos 0 ≤ℤ part → part ≤ℤ cents → cents ≤ℤ pos balance_limit → rs ≡ ranks → ps ≡ allocated (given part) (given cents) (holdings [] bs rs)
    → ps ≡ allocated (at_least_zero part) (at_least_zero cents) (holdings [] bs ranks)
ranked-payment bs rs ranks part cents ps low within high e q =
    let least_part = handed part low (omega (arith, ints, within, high)) in
    let whole = handed cents (omega (arith, ints, low, within)) high in
    q ∙ (ap (λ k. allocated k (given cents) (holdings [] bs rs)) least_part
    ∙ (ap (λ k. allocated (at_least_zero part) k (holdings [] bs rs)) whole
    ∙ ap (λ us. allocated (at_least_zero part) (at_least_zero cents) (holdings [] bs us)) e))

-- ---- a credit
pub sole-credit : (bs : List ℤ) (ranks : List Rank) (place : List ℕ) (cents : ℤ) (ps : List (ℕ × ℕ)) → pos 0 ≤ℤ cents → cents ≤ℤ pos balance_limit → length ranks ≡ length bs → AreOfSole bs (given cents) ps
    → ps ≡ placed (at_least_zero cents) (holdings place bs ranks)
sole-credit bs ranks place cents ps low high all h =
    let sole = subst (λ n. AreOfSole bs n ps) (handed cents low high) h in
    sole.credit ranks place all

pub ranked-credit : (bs : List ℤ) (rs ranks : List Rank) (ids place : List ℕ) (cents : ℤ) (ps : List (ℕ × ℕ)) → pos 0 ≤ℤ cents → cents ≤ℤ pos balance_limit → rs ≡ ranks → ids ≡ place → ps ≡ placed (given cents) (holdings ids bs rs)
    → ps ≡ placed (at_least_zero cents) (holdings place bs ranks)
ranked-credit bs rs ranks ids place cents ps low high e f q =
    q ∙ (ap (λ k. placed k (holdings ids bs rs)) (handed cents low high)
    ∙ (ap (λ us. placed (at_least_zero cents) (holdings us bs rs)) f
    ∙ ap (λ us. placed (at_least_zero cents) (holdings place bs us)) e))
