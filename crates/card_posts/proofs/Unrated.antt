-- Posts behind which none sets rates.
use Rattle.std.proofs.Common.{◌≡◌, ℕ, zero, suc, ◌+◌, ◌≤◌, ◌<◌, Bool, true, false, cond, min, List, [], ◌∷◌, ◌++◌, drop, take, length, refl, sym, subst, arith, ◌⊎◌, inl, inr}
use Rattle.std.proofs.lemmas.Bool.{cases_lt}
use Rattle.card_events.specs.declared.kept.Kept.{Kept}
use Rattle.card_posts.specs.Posted.{SetNoRates, sets_rates}

-- ---- none in a longer and in a shorter list
push-none : (ks : List Kept) (k : Kept) → SetNoRates ks → sets_rates k.post ≡ false → SetNoRates (ks ++ k ∷ [])
unfolding SetNoRates
push-none [] k h e = (e, tt)
push-none (x ∷ xs) k (f, h) e = (f, push-none xs k h e)

none-more : (n : ℕ) (ks : List Kept) (k : Kept) → SetNoRates (drop n ks) → sets_rates k.post ≡ false → SetNoRates (drop n (ks ++ k ∷ []))
unfolding SetNoRates
none-more zero ks k h e = push-none ks k h e
none-more (suc zero) [] k h e = tt
none-more (suc (suc n)) [] k h e = tt
none-more (suc n) (x ∷ xs) k h e = none-more n xs k h e

none-last : (n : ℕ) (ks : List Kept) (k : Kept) → length ks ≤ n → SetNoRates (drop (suc n) (ks ++ k ∷ []))
unfolding SetNoRates
none-last zero [] k l = tt
none-last (suc n) [] k l = tt
none-last zero (x ∷ xs) k l = absurd (omega (arith, l))
none-last (suc n) (x ∷ xs) k l = none-last n xs k (omega (arith, l))

front-none : (m : ℕ) (ks : List Kept) → SetNoRates ks → SetNoRates (take m ks)
unfolding SetNoRates
front-none zero ks h = tt
front-none (suc m) [] h = tt
front-none (suc m) (x ∷ xs) (e, h) = (e, front-none m xs h)

pub none-front : (n m : ℕ) (ks : List Kept) → SetNoRates (drop n ks) → SetNoRates (drop n (take m ks))
unfolding SetNoRates
none-front zero m ks h = front-none m ks h
none-front (suc n) zero ks h = tt
none-front (suc n) (suc m) [] h = tt
none-front (suc n) (suc m) (x ∷ xs) h = none-front n m xs h

none-behind : (ks : List Kept) → SetNoRates (drop (length ks) ks)
unfolding SetNoRates
none-behind [] = tt
none-behind (x ∷ xs) = none-behind xs

-- ---- what is kept of it
pub none-first : (ks : List Kept) (k : Kept) → ks ≡ k ∷ [] → SetNoRates (drop 1 ks)
unfolding SetNoRates
none-first ks k e = subst (λ xs. SetNoRates (drop 1 xs)) (sym e) tt

pub none-with : (rated number : ℕ) (ks all : List Kept) (k : Kept) → all ≡ ks ++ k ∷ [] → number ≡ length ks + 1 → SetNoRates (drop rated ks)
    → SetNoRates (drop (cond (sets_rates k.post) number rated) all)
none-with rated number ks all k is e h = subst (λ xs. SetNoRates (drop (cond (sets_rates k.post) number rated) xs)) (sym is) (by (sets_rates k.post) refl)
  where
    by : (b : Bool) → sets_rates k.post ≡ b → SetNoRates (drop (cond b number rated) (ks ++ k ∷ []))
    by true f = let last : number ≡ suc (length ks) = omega (arith, e) in subst (λ n. SetNoRates (drop n (ks ++ k ∷ []))) (sym last) (none-last (length ks) ks k (omega arith))
    by false f = none-more rated ks k h f

-- at most all of them
pub none-within : (rated : ℕ) (ks : List Kept) → SetNoRates (drop rated ks) → SetNoRates (drop (min rated (length ks)) ks)
none-within rated ks h = by (cases_lt rated (length ks))
  where
    by : (rated < length ks) ⊎ (length ks ≤ rated) → SetNoRates (drop (min rated (length ks)) ks)
    by (inl l) = let same : min rated (length ks) ≡ rated = omega arith in subst (λ n. SetNoRates (drop n ks)) (sym same) h
    by (inr l) = let same : min rated (length ks) ≡ length ks = omega arith in subst (λ n. SetNoRates (drop n ks)) (sym same) (none-behind ks)
