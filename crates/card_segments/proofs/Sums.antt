-- Balances that are sums, at the start and with a segment more.
use Rattle.std.proofs.Common.{◌≡◌, ℕ, zero, suc, ◌+◌, ◌<◌, List, [], ◌∷◌, ◌++◌, length, replicate, refl, sym, ◌∙◌, arith, subst, Bool, true, false, ltb, ℤ, pos, eqb, get_or}
use Rattle.std.specs.List.{All}
use Rattle.std.proofs.lemmas.Bool.{ne_eqb}
use Rattle.std.proofs.lemmas.Bool.Decides.{nat_tests}
use Rattle.std.proofs.lemmas.List.Elements.{All-nil, All-head, All-tail, All-weaker}
use Rattle.card_model.specs.Entries.{AreBalances, balance}
use Rattle.card_model.specs.declared.entry.Entry.{Entry}

zeros : (n s : ℕ) → get_or (replicate n (pos 0)) s (pos 0) ≡ pos 0
zeros zero s = refl
zeros (suc n) zero = refl
zeros (suc n) (suc s) = zeros n s

pub sums-start : (n : ℕ) → AreBalances [] (replicate n (pos 0))
sums-start n = record { each = λ s l. zeros n s; known = All-nil (λ (e : Entry). e.segment < length (replicate n (pos 0))) }

-- no entry is on a segment past the last
balance-none : (s : ℕ) (es : List Entry) → All (λ (e : Entry). e.segment < s) es → balance s es ≡ pos 0
balance-none s [] h = refl
balance-none s (e ∷ es) h =
    let l : e.segment < s = All-head (λ (e : Entry). e.segment < s) e es h in
    let other : eqb e.segment s ≡ false = ne_eqb e.segment s (λ q. omega arith) in
    rw (other, balance-none s es (All-tail (λ (e : Entry). e.segment < s) e es h)) refl

-- the last of a list with one more
at-end : (bs : List ℤ) (z : ℤ) → get_or (bs ++ z ∷ []) (length bs) (pos 0) ≡ z
at-end [] z = refl
at-end (b ∷ bs) z = at-end bs z

before-end : (bs : List ℤ) (z : ℤ) (s : ℕ) → s < length bs → get_or (bs ++ z ∷ []) s (pos 0) ≡ get_or bs s (pos 0)
before-end [] z s l = absurd (omega arith)
before-end (b ∷ bs) z zero l = refl
before-end (b ∷ bs) z (suc s) l = before-end bs z s (omega arith)

one-longer : (bs : List ℤ) (z : ℤ) → length (bs ++ z ∷ []) ≡ length bs + 1
one-longer [] z = refl
one-longer (b ∷ bs) z = omega (arith, one-longer bs z)

pub sums-segment : (es : List Entry) (bs : List ℤ) → AreBalances es bs → AreBalances es (bs ++ pos 0 ∷ [])
sums-segment es bs a =
    let long = one-longer bs (pos 0) in
    record {
      each = λ s l. by s (omega (arith, long)) (ltb s (length bs)) refl;
      known = rw long (All-weaker (λ (e : Entry). e.segment < length bs) (λ (e : Entry). e.segment < length bs + 1) (λ e l. omega arith) es a.known);
    }
  where
    by : (s : ℕ) → s < length bs + 1 → (t : Bool) → ltb s (length bs) ≡ t → get_or (bs ++ pos 0 ∷ []) s (pos 0) ≡ balance s es
    by s l true e = let m : s < length bs = grind (arith, nat_tests) in before-end bs (pos 0) s m ∙ a.each s m
    by s l false e =
        let m : length bs ≡ s = grind (arith, nat_tests) in
        subst (λ (k : ℕ). get_or (bs ++ pos 0 ∷ []) k (pos 0) ≡ balance k es) m (at-end bs (pos 0) ∙ sym (balance-none (length bs) es a.known))
