-- Accounts that are told of one after the other.
use Rattle.std.proofs.Common.{◌≡◌, ◌≢◌, ℕ, zero, suc, ◌+◌, ◌<◌, ◌≤◌, ◌⊎◌, inl, inr, List, [], ◌∷◌, ◌++◌, length, get_or, set, take, refl, ap, sym, ◌∙◌, subst, arith}
use Rattle.std.proofs.lemmas.Bool.{cases_lt}
use Rattle.std.proofs.lemmas.List.{flat_map_more, get_or-set_other, get_or-set_same, length-set, take_more}
use Rattle.std.proofs.lemmas.List.Sums.{sum_by-take-le, sum_by_more}
use Rattle.std.specs.List.{All, flat_map, sum_by}
use Rattle.card_account.specs.Accounts.{AreTold, HasTold, IsAccount, IsTold, OpenAccount}
use Rattle.card_account.proofs.Told.{stays-told}
use Rattle.card_events.specs.SharedRows.{SharedRows}
use Rattle.card_model.specs.declared.task.Task.{Task}

-- the first so many have been told of, the others stand as they did
pub record AreToldTo (today : ℕ) (shared : SharedRows) (n : ℕ) (old new : List OpenAccount) : Type 0 where
  pub count : length new ≡ length old
  pub told : (k : ℕ) (d : OpenAccount) → k < n → HasTold today shared (get_or old k d) (get_or new k d)
  pub rest : (k : ℕ) (d : OpenAccount) → n ≤ k → get_or new k d ≡ get_or old k d

-- what is read at a place doesn't depend on what stands for no place
same-read : (xs : List OpenAccount) (i : ℕ) (d e : OpenAccount) → i < length xs → get_or xs i d ≡ get_or xs i e
same-read [] i d e low = absurd (omega (arith, low))
same-read (x ∷ xs) zero d e low = refl
same-read (x ∷ xs) (suc i) d e low = same-read xs i d e (omega (arith, low))

-- below a place, at it, or behind it
at-place : (P : ℕ → Type 0) (i k : ℕ) → (k < i → P k) → P i → (i < k → P k) → P k
at-place P i k below here behind = first (cases_lt k i)
  where
    second : i ≤ k → (i < k) ⊎ (k ≤ i) → P k
    second low (inl more) = behind more
    second low (inr least) = let same : i ≡ k = omega (arith, low, least) in subst P same here

    first : (k < i) ⊎ (i ≤ k) → P k
    first (inl less) = below less
    first (inr low) = second low (cases_lt i k)

pub tells-none : (today : ℕ) (shared : SharedRows) (xs : List OpenAccount) → AreToldTo today shared 0 xs xs
tells-none today shared xs = record { count = refl; told = λ k d l. absurd (omega (arith, l)); rest = λ k d l. refl }

-- what the one at a place reads after it was told of
read-there : (xs : List OpenAccount) (i : ℕ) (d new : OpenAccount) → i < length xs → get_or (set xs i new) i d ≡ new
read-there xs i d new low = get_or-set_same xs i new d low

read-apart : (xs : List OpenAccount) (i k : ℕ) (d new : OpenAccount) → k ≢ i → get_or (set xs i new) k d ≡ get_or xs k d
read-apart xs i k d new apart = get_or-set_other xs i k new d apart

-- one more
pub tells-next : (today : ℕ) (shared : SharedRows) (i : ℕ) (old xs : List OpenAccount) (a new : OpenAccount) → i < length old → AreToldTo today shared i old xs → HasTold today shared (get_or xs i a) new
    → AreToldTo today shared (i + 1) old (set xs i new)
tells-next today shared i old xs a new low h told = record {
  count = length-set xs i new ∙ h.count;
  told = λ k d l. at-place (λ n. n < i + 1 → HasTold today shared (get_or old n d) (get_or (set xs i new) n d)) i k
      (λ less m. subst (λ (x : OpenAccount). HasTold today shared (get_or old k d) x) (sym (read-apart xs i k d new (λ e. omega (arith, e, less)))) (h.told k d less))
      (λ m. here d)
      (λ more m. absurd (omega (arith, more, m))) l;
  rest = λ k d l. read-apart xs i k d new (λ e. omega (arith, e, l)) ∙ h.rest k d (omega (arith, l));
}
  where
    within : i < length xs
    within = let same = h.count in omega (arith, low, same)

    here : (d : OpenAccount) → HasTold today shared (get_or old i d) (get_or (set xs i new) i d)
    here d =
        subst (λ (x : OpenAccount). HasTold today shared (get_or old i d) x) (sym (read-there xs i d new within))
        (subst (λ (x : OpenAccount). HasTold today shared x new) (h.rest i a (omega arith) ∙ same-read old i a d low) told)

-- one more, of which no answer came
pub tells-failed : (today : ℕ) (shared : SharedRows) (i : ℕ) (old xs : List OpenAccount) (a new : OpenAccount) → i < length old → All (IsAccount today shared) old → AreToldTo today shared i old xs
    → IsTold today shared (get_or xs i a) new → AreTold today shared old (set xs i new)
tells-failed today shared i old xs a new low all h told = record {
  count = length-set xs i new ∙ h.count;
  each = λ k d l. at-place (λ n. n < length old → IsTold today shared (get_or old n d) (get_or (set xs i new) n d)) i k
      (λ less m. subst (λ (x : OpenAccount). IsTold today shared (get_or old k d) x) (sym (read-apart xs i k d new (λ e. omega (arith, e, less)))) (h.told k d less).told)
      (λ m. here d)
      (λ more m. subst (λ (x : OpenAccount). IsTold today shared (get_or old k d) x) (sym (read-apart xs i k d new (λ e. omega (arith, e, more)) ∙ h.rest k d (omega (arith, more)))) (stays-told today shared (get_or old k d) (all k d m))) l;
}
  where
    within : i < length xs
    within = let same = h.count in omega (arith, low, same)

    here : (d : OpenAccount) → IsTold today shared (get_or old i d) (get_or (set xs i new) i d)
    here d =
        subst (λ (x : OpenAccount). IsTold today shared (get_or old i d) x) (sym (read-there xs i d new within))
        (subst (λ (x : OpenAccount). IsTold today shared x new) (h.rest i a (omega arith) ∙ same-read old i a d low) told)

-- all of them
pub tells-all : (today : ℕ) (shared : SharedRows) (n : ℕ) (old xs : List OpenAccount) → length old ≤ n → AreToldTo today shared n old xs → AreTold today shared old xs
tells-all today shared n old xs high h = record { count = h.count; each = λ k d l. (h.told k d (omega (arith, l, high))).told }

pub reach-all : (today : ℕ) (shared : SharedRows) (n : ℕ) (old xs : List OpenAccount) → length old ≤ n → AreToldTo today shared n old xs → All (λ (a : OpenAccount). a.folding.reached ≡ today) xs
reach-all today shared n old xs high h = λ k d l. let same = h.count in (h.told k d (omega (arith, l, high, same))).reached

-- ---- their tasks and their steps
pub tasks-next : (f : OpenAccount → List Task) (old xs : List OpenAccount) (tasks more : List Task) (i : ℕ) (a : OpenAccount) → i < length old → get_or xs i a ≡ get_or old i a
    → tasks ≡ flat_map f (take i old) → more ≡ tasks ++ f (get_or xs i a) → more ≡ flat_map f (take (i + 1) old)
tasks-next f old xs tasks more i a low same is e =
    e ∙ (ap (λ (x : OpenAccount). tasks ++ f x) same
    ∙ (ap (λ (l : List Task). l ++ f (get_or old i a)) is
    ∙ (flat_map_more f [] (take i old) (get_or old i a) ∙ ap (flat_map f) (sym (take_more old i a low)))))

sum-next : (before now after s t x : ℕ) → now ≤ before + s → after ≤ now + x → t ≡ s + x → after ≤ before + t
sum-next before now after s t x l m e = omega (arith, l, m, e)

pub steps-next : (f : OpenAccount → ℕ) (old xs : List OpenAccount) (before now after i : ℕ) (a : OpenAccount) → i < length old → get_or xs i a ≡ get_or old i a
    → now ≤ before + sum_by f (take i old) → after ≤ now + f (get_or xs i a) → after ≤ before + sum_by f (take (i + 1) old)
steps-next f old xs before now after i a low same l m =
    sum-next before now after (sum_by f (take i old)) (sum_by f (take (i + 1) old)) (f (get_or old i a)) l (subst (λ (x : OpenAccount). after ≤ now + f x) same m) (sum_by_more f old i a low)

most-of : (x before s t : ℕ) → x ≤ before + s → s ≤ t → x ≤ before + t
most-of x before s t l m = omega (arith, l, m)

pub steps-most : (f : OpenAccount → ℕ) (old : List OpenAccount) (before after n : ℕ) → after ≤ before + sum_by f (take n old) → after ≤ before + sum_by f old
steps-most f old before after n l = most-of after before (sum_by f (take n old)) (sum_by f old) l (sum_by-take-le f old n)
