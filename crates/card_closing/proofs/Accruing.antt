-- A running sum is the sum of the definition.
use Rattle.std.proofs.Common.{◌≡◌, ℕ, zero, suc, ◌+◌, ◌-◌, ◌*◌, ◌≤◌, refl, ap, ◌∙◌, arith}
use Rattle.std.specs.List.{range_with_len, sum_by}
use Rattle.std.proofs.lemmas.List.Sums.{sum_by-append, sum_by-cons}
use Rattle.card_events.specs.Money.{daily}
use Rattle.card_closing.specs.Accruals.{AccrualOfABook, GrowsBy, accrued_in, nothing_accrued, with_accrual}
use Rattle.card_model.specs.Books.{Book}
use Rattle.card_model.specs.Cycles.{Seen}
use Rattle.card_model.specs.Interest.{accrual, row}
use Rattle.card_model.specs.Segments.{SegmentTerms}
use Rattle.card_closing.proofs.Days.{same_sums}
use Rattle.card_closing.proofs.Spreads.{range-append}

constant_sum : (x from n : ℕ) → sum_by (λ (day : ℕ). x) (range_with_len from n) ≡ n * x
constant_sum x from zero = omega arith
constant_sum x from (suc n) =
    let e : suc n * x ≡ x + n * x = omega arith in
    rw e (omega (arith, sum_by-cons (λ (day : ℕ). x) from (range_with_len (from + 1) n), constant_sum x (from + 1) n))

begins : (seen : Seen) (b : Book) (g : SegmentTerms) → seen.day + 1 ≤ g.begins → accrued_in seen b g ≡ nothing_accrued
unfolding accrued_in accrual
begins seen b g l = let none : seen.day + 1 - g.begins ≡ 0 = omega arith in rw none refl

grows : (n balance : ℕ) (g : SegmentTerms) (seen later : Seen) (b c : Book) → GrowsBy n balance g seen later b c → accrued_in later c g ≡ with_accrual n balance g.rate (accrued_in seen b g)
unfolding accrued_in accrual
grows n balance g seen later b c h =
    let old = seen.day + 1 - g.begins in
    let amount : Book → ℕ → ℕ = λ k day. row k.entries g.id day * daily g.rate in
    let long : later.day + 1 - g.begins ≡ old + n = omega (arith, h.day, h.begun) in
    let before = same_sums (amount c) (amount b) g.begins old (λ x l m. rw (h.before x l (omega (arith, h.begun))) refl) in
    let since = same_sums (amount c) (λ day. balance * daily g.rate) (g.begins + old) n (λ x l m. rw (h.since x (omega (arith, h.begun)) (omega (arith, h.begun, h.day))) refl) in
    let whole = ap (sum_by (amount c)) (range-append g.begins old n) ∙ sum_by-append (amount c) (range_with_len g.begins old) (range_with_len (g.begins + old) n) in
    rw (long, whole, before, since, constant_sum (balance * daily g.rate) (g.begins + old) n, times n balance (daily g.rate)) refl
  where
    times : (x y z : ℕ) → x * (y * z) ≡ x * y * z
    times x y z = omega arith

pub accrual_of_a_book : AccrualOfABook
unfolding accrued_in
accrual_of_a_book = record { begins = begins; grows = grows; sum = λ seen b g. refl }
