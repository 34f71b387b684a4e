-- Totals over accounts of which one changes.
use Rattle.std.proofs.Common.{◌≡◌, ℕ, ◌+◌, ◌*◌, ◌<◌, ◌≤◌, ◌^◌, cond, List, [], ◌∷◌, ◌++◌, take, drop, length, set, get_or, refl, sym, ap, subst, ◌∙◌, arith}
use Rattle.std.specs.List.{All, sum_by}
use Rattle.std.proofs.lemmas.List.{take-append-drop}
use Rattle.std.proofs.Math.Nat.{mul-le-mul_right}
use Rattle.std.proofs.lemmas.List.Elements.{All-append, All-nil, All-push, All-set, All-take}
use Rattle.std.proofs.lemmas.List.Sums.{get_or-le-sum_by, sum_by-le, sum_by-set, sum_by-take-drop, sum_by_push}
use Rattle.card_model.specs.declared.entry.Entry.{Entry}
use Rattle.card_model.specs.declared.entry.EntryKind.{EntryKind}
use Rattle.card_trial.specs.Sums.{all_on, all_sizes, amount_of, cell, is_at, size, sum_on, whole}
use Rattle.card_trial.specs.Totals.{AreEnough, AreEntered, AreNothing, AreSmall, AreTotals, BothSums, HaveRoom, IsTakenOut, of_side}
use Rattle.card_trial.specs.declared.side.Side.{Side}
use Rattle.card_trial.proofs.Entered.{size-none, sum_on-none}

-- ---- one list of all
on-at : (s : Side) (x : ℕ) (k : EntryKind) (lists : List (List Entry)) (i : ℕ) (d : List Entry) → i < length lists → sum_on s x k (get_or lists i d) ≤ all_on s x k lists
unfolding all_on
on-at s x k lists i d l = get_or-le-sum_by (sum_on s x k) lists i d l

on-set : (s : Side) (x : ℕ) (k : EntryKind) (lists : List (List Entry)) (i : ℕ) (y d : List Entry) → i < length lists → all_on s x k (set lists i y) + sum_on s x k (get_or lists i d) ≡ all_on s x k lists + sum_on s x k y
unfolding all_on
on-set s x k lists i y d l = sum_by-set (sum_on s x k) lists i y d l

sizes-set : (s : Side) (lists : List (List Entry)) (i : ℕ) (y d : List Entry) → i < length lists → all_sizes s (set lists i y) + size s (get_or lists i d) ≡ all_sizes s lists + size s y
unfolding all_sizes
sizes-set s lists i y d l = sum_by-set (size s) lists i y d l

on-push : (s : Side) (x : ℕ) (k : EntryKind) (lists : List (List Entry)) (y : List Entry) → all_on s x k (lists ++ y ∷ []) ≡ all_on s x k lists + sum_on s x k y
unfolding all_on
on-push s x k lists y = sum_by_push (sum_on s x k) lists y

sizes-push : (s : Side) (lists : List (List Entry)) (y : List Entry) → all_sizes s (lists ++ y ∷ []) ≡ all_sizes s lists + size s y
unfolding all_sizes
sizes-push s lists y = sum_by_push (size s) lists y

on-none : (s : Side) (x : ℕ) (k : EntryKind) → all_on s x k [] ≡ 0
unfolding all_on
on-none s x k = refl

sizes-none : (s : Side) → all_sizes s [] ≡ 0
unfolding all_sizes
sizes-none s = refl

on-parts : (s : Side) (x : ℕ) (k : EntryKind) (n : ℕ) (es : List Entry) → sum_on s x k (take n es) + sum_on s x k (drop n es) ≡ sum_on s x k es
unfolding sum_on
on-parts s x k n es = sum_by-take-drop (λ (e : Entry). cond (is_at e.day e.kind x k) (amount_of s e) 0) es n

size-parts : (s : Side) (n : ℕ) (es : List Entry) → size s (take n es) + size s (drop n es) ≡ size s es
unfolding size
size-parts s n es = sum_by-take-drop (amount_of s) es n

-- no totals are too large
abbrev IsSmall : Side → Entry → Type 0
IsSmall s e = amount_of s e ≤ 2 ^ 63

few-small : (n m : ℕ) → n < 2 ^ 32 → m ≤ n * 2 ^ 63 → m ≤ 2 ^ 95
few-small n m l h = omega arith

list-small : (s : Side) (es : List Entry) → All (IsSmall s) es → length es < 2 ^ 32 → size s es ≤ 2 ^ 95
unfolding size
list-small s es a l = few-small (length es) (sum_by (amount_of s) es) l (sum_by-le (amount_of s) (2 ^ 63) es a)

sizes-small : (s : Side) (lists : List (List Entry)) (t : BothSums) → AreTotals lists t → length lists ≤ 1_000_000 → all_sizes s lists ≤ 1_000_000 * 2 ^ 95
unfolding all_sizes
sizes-small s lists t a l =
    let most : sum_by (size s) lists ≤ length lists * 2 ^ 95 = sum_by-le (size s) (2 ^ 95) lists (λ i d low. list-small s (get_or lists i d) (a.small s i d low) (a.few i d low)) in
    let few : length lists * 2 ^ 95 ≤ 1_000_000 * 2 ^ 95 = mul-le-mul_right (2 ^ 95) l in
    omega arith

pub totals-small : (lists : List (List Entry)) (t : BothSums) → AreTotals lists t → length lists ≤ 1_000_000 → AreSmall t
totals-small lists t a l s =
    let wholes : whole (of_side s t) ≡ all_sizes s lists = a.wholes s in
    let small : all_sizes s lists ≤ 1_000_000 * 2 ^ 95 = sizes-small s lists t a l in
    omega arith

-- ---- entries that are entered behind all
pub room-after : (lists : List (List Entry)) (t : BothSums) (n : ℕ) → AreTotals lists t → length lists ≤ 1_000_000 → n < 2 ^ 32 → HaveRoom n t
room-after lists t n a l h = record {
  room = λ s.
      let wholes : whole (of_side s t) ≡ all_sizes s lists = a.wholes s in
      let small : all_sizes s lists ≤ 1_000_000 * 2 ^ 95 = sizes-small s lists t a l in
      omega arith;
}

pub entered-behind : (lists : List (List Entry)) (es : List Entry) (t u : BothSums) → AreTotals lists t → AreEntered es t u → length es < 2 ^ 32 → AreTotals (lists ++ es ∷ []) u
entered-behind lists es t u a e l = record {
  sums = λ s x k low high.
      let was : cell x k (of_side s t) ≡ all_on s x k lists = a.sums s x k low high in
      let more : cell x k (of_side s u) ≡ cell x k (of_side s t) + sum_on s x k es = e.cells s x k low high in
      let push : all_on s x k (lists ++ es ∷ []) ≡ all_on s x k lists + sum_on s x k es = on-push s x k lists es in
      omega arith;
  wholes = λ s.
      let was : whole (of_side s t) ≡ all_sizes s lists = a.wholes s in
      let more : whole (of_side s u) ≡ whole (of_side s t) + size s es = e.wholes s in
      let push : all_sizes s (lists ++ es ∷ []) ≡ all_sizes s lists + size s es = sizes-push s lists es in
      omega arith;
  small = λ s. All-push (All (IsSmall s)) lists es (a.small s) (e.small s);
  few = All-push (λ fs. length fs < 2 ^ 32) lists es a.few l;
}

pub nothing-entered : (t : BothSums) → AreNothing t → AreTotals [] t
nothing-entered t n = record {
  sums = λ s x k low high. n.cells s x k ∙ sym (on-none s x k);
  wholes = λ s. n.wholes s ∙ sym (sizes-none s);
  small = λ s. All-nil (All (IsSmall s));
  few = All-nil (λ fs. length fs < 2 ^ 32);
}

-- ---- one list is replaced, of which a front stays
pub enough-at : (lists : List (List Entry)) (i n : ℕ) (es : List Entry) (t : BothSums) → AreTotals lists t → i < length lists → es ≡ get_or lists i es → AreEnough (drop n es) t
enough-at lists i n es t a l e = record {
  enough = λ s x k low high.
      let was : cell x k (of_side s t) ≡ all_on s x k lists = a.sums s x k low high in
      let least : sum_on s x k (get_or lists i es) ≤ all_on s x k lists = on-at s x k lists i es l in
      let same : sum_on s x k es ≡ sum_on s x k (get_or lists i es) = ap (sum_on s x k) e in
      let parts : sum_on s x k (take n es) + sum_on s x k (drop n es) ≡ sum_on s x k es = on-parts s x k n es in
      omega arith;
}

pub room-without : (lists : List (List Entry)) (es : List Entry) (t u : BothSums) (n : ℕ) → AreTotals lists t → IsTakenOut es t u → length lists ≤ 1_000_000 → n < 2 ^ 32 → HaveRoom n u
room-without lists es t u n a o l h = record {
  room = λ s.
      let wholes : whole (of_side s t) ≡ all_sizes s lists = a.wholes s in
      let less : whole (of_side s u) + size s es ≡ whole (of_side s t) = o.wholes s in
      let small : all_sizes s lists ≤ 1_000_000 * 2 ^ 95 = sizes-small s lists t a l in
      omega arith;
}

pub replaced : (lists : List (List Entry)) (i n : ℕ) (es fs : List Entry) (t u v : BothSums) → AreTotals lists t → i < length lists → es ≡ get_or lists i es → take n fs ≡ take n es → IsTakenOut (drop n es) t u → AreEntered (drop n fs) u v
    → length fs < 2 ^ 32 → AreTotals (set lists i fs) v
replaced lists i n es fs t u v a l e front o m few = record {
  sums = λ s x k low high.
      let was : cell x k (of_side s t) ≡ all_on s x k lists = a.sums s x k low high in
      let less : cell x k (of_side s u) + sum_on s x k (drop n es) ≡ cell x k (of_side s t) = o.cells s x k low high in
      let more : cell x k (of_side s v) ≡ cell x k (of_side s u) + sum_on s x k (drop n fs) = m.cells s x k low high in
      let parts : all_on s x k (set lists i fs) + sum_on s x k (get_or lists i es) ≡ all_on s x k lists + sum_on s x k fs = on-set s x k lists i fs es l in
      let same : sum_on s x k es ≡ sum_on s x k (get_or lists i es) = ap (sum_on s x k) e in
      let old : sum_on s x k (take n es) + sum_on s x k (drop n es) ≡ sum_on s x k es = on-parts s x k n es in
      let new : sum_on s x k (take n fs) + sum_on s x k (drop n fs) ≡ sum_on s x k fs = on-parts s x k n fs in
      let stays : sum_on s x k (take n fs) ≡ sum_on s x k (take n es) = ap (sum_on s x k) front in
      omega arith;
  wholes = λ s.
      let was : whole (of_side s t) ≡ all_sizes s lists = a.wholes s in
      let less : whole (of_side s u) + size s (drop n es) ≡ whole (of_side s t) = o.wholes s in
      let more : whole (of_side s v) ≡ whole (of_side s u) + size s (drop n fs) = m.wholes s in
      let parts : all_sizes s (set lists i fs) + size s (get_or lists i es) ≡ all_sizes s lists + size s fs = sizes-set s lists i fs es l in
      let same : size s es ≡ size s (get_or lists i es) = ap (size s) e in
      let old : size s (take n es) + size s (drop n es) ≡ size s es = size-parts s n es in
      let new : size s (take n fs) + size s (drop n fs) ≡ size s fs = size-parts s n fs in
      let stays : size s (take n fs) ≡ size s (take n es) = ap (size s) front in
      omega arith;
  small = λ s. All-set (All (IsSmall s)) lists i fs (whole-small s) (a.small s);
  few = All-set (λ gs. length gs < 2 ^ 32) lists i fs few a.few;
}
  where
    whole-small : (s : Side) → All (IsSmall s) fs
    whole-small s =
        let was : All (IsSmall s) es = subst (All (IsSmall s)) (sym e) (a.small s i es l) in
        subst (All (IsSmall s)) (take-append-drop n fs)
        (All-append (IsSmall s) (take n fs) (drop n fs) (subst (All (IsSmall s)) (sym front) (All-take (IsSmall s) n es was)) (m.small s))

-- nothing is taken out
pub none-out : (t : BothSums) (es : List Entry) → es ≡ [] → IsTakenOut es t t
none-out t es none = subst (λ (l : List Entry). IsTakenOut l t t) (sym none) (record {
  cells = λ s x k low high. let nothing = sum_on-none s x k in omega (arith, nothing);
  wholes = λ s. let nothing = size-none s in omega (arith, nothing);
})
