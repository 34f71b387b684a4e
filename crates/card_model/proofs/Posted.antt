-- Entries and the balances that they leave.
use Rattle.std.proofs.Common.{◌≡◌, ℕ, zero, suc, ◌-◌, ◌<◌, Bool, cond, List, [], ◌∷◌, ◌++◌, length, refl, sym, ◌∙◌, arith, ℤ, pos, negsuc, ◌+ℤ◌, eqb, get_or, set, inl, inr, ◌⊎◌, ◌≢◌, eq-eqb}
use Rattle.std.proofs.lemmas.Int.{ints}
use Rattle.std.proofs.lemmas.List.{length-set, get_or-set_same, get_or-set_other}
use Rattle.std.proofs.lemmas.List.Elements.{All-nil, All-cons, All-head, All-tail, All-append}
use Rattle.std.proofs.lemmas.Bool.{cases_eq, ne_eqb}
use Rattle.std.proofs.lemmas.Bool.Decides.{nat_tests}
use Rattle.std.specs.List.{All}
use Rattle.std.specs.Prelude.{min}
use Rattle.card_model.specs.Entries.{AreBalances, balance, debit, entry_of, posted, sum_of}
use Rattle.card_model.specs.declared.entry.Entry.{Entry}
use Rattle.card_model.specs.declared.entry.Note.{Note}

pub posted-append : (xs ys : List Entry) (bs : List ℤ) → posted (xs ++ ys) bs ≡ posted ys (posted xs bs)
posted-append [] ys bs = refl
posted-append (e ∷ xs) ys bs = posted-append xs ys _

pub posted_append : (xs ys : List Entry) (bs : List ℤ) → posted (xs ++ ys) bs ≡ posted ys (posted xs bs)
posted_append = posted-append

pub length-posted : (xs : List Entry) (bs : List ℤ) → length (posted xs bs) ≡ length bs
length-posted [] bs = refl
length-posted (e ∷ xs) bs = length-posted xs _ ∙ length-set bs e.segment _

pub sum_of-append : (p : Entry → Bool) (xs ys : List Entry) → sum_of p (xs ++ ys) ≡ sum_of p xs +ℤ sum_of p ys
sum_of-append p [] ys = omega (arith, ints)
sum_of-append p (e ∷ xs) ys = omega (arith, ints, sum_of-append p xs ys)

-- one entry more
at_place : (v w : ℤ) (bs : List ℤ) (i s : ℕ) → i < length bs → (i ≡ s) ⊎ (i ≡ s → ⊥) → v ≡ get_or bs i (pos 0) +ℤ w → get_or (set bs i v) s (pos 0) ≡ get_or bs s (pos 0) +ℤ cond (eqb i s) w (pos 0)
at_place v w bs i s l (inl e) q = rw (← e, get_or-set_same bs i v (pos 0) l, eq-eqb i i refl) q
at_place v w bs i s l (inr n) q =
    let m : s ≢ i = λ k. n (sym k) in
    rw (get_or-set_other bs i s v (pos 0) m, ne_eqb i s n) (omega (arith, ints))

set_known : (xs : List Entry) (bs : List ℤ) (i : ℕ) (v : ℤ) → All (λ e. e.segment < length bs) xs → All (λ e. e.segment < length (set bs i v)) xs
set_known xs bs i v h = rw (length-set bs i v) h

-- a balance after entries is what it was and their sum
pub get_or-posted : (xs : List Entry) (bs : List ℤ) (s : ℕ) → All (λ e. e.segment < length bs) xs → get_or (posted xs bs) s (pos 0) ≡ get_or bs s (pos 0) +ℤ balance s xs
get_or-posted [] bs s h = omega (arith, ints)
get_or-posted (e ∷ xs) bs s h =
    let here : e.segment < length bs = All-head (λ e. e.segment < length bs) e xs h in
    let v : ℤ = get_or bs e.segment (pos 0) +ℤ e.cents in
    omega (arith, ints, get_or-posted xs (set bs e.segment v) s (set_known xs bs e.segment v (All-tail (λ e. e.segment < length bs) e xs h)), at_place v e.cents bs e.segment s here (cases_eq e.segment s) refl)

-- entries that are recorded and posted leave balances that are sums
pub are_balances-posted : (es xs : List Entry) (bs : List ℤ) → All (λ e. e.segment < length bs) xs → AreBalances es bs → AreBalances (es ++ xs) (posted xs bs)
are_balances-posted es xs bs h a =
    record {
      each = λ s l.
          let few : s < length bs = omega (arith, length-posted xs bs) in
          omega (arith, ints, get_or-posted xs bs s h, a.each s few, sum_of-append (λ e. eqb e.segment s) es xs);
      known = rw (length-posted xs bs) (All-append (λ e. e.segment < length bs) es xs a.known h);
    }

-- ---- entries of one amount, and of a debit
pub entry_of-known : (note : Note) (s : ℕ) (z : ℤ) (n : ℕ) → s < n → All (λ e. e.segment < n) (entry_of note s z)
entry_of-known note s (pos zero) n h = All-nil (λ (e : Entry). e.segment < n)
entry_of-known note s (pos (suc k)) n h = All-cons (λ (e : Entry). e.segment < n) _ [] h (All-nil (λ (e : Entry). e.segment < n))
entry_of-known note s (negsuc k) n h = All-cons (λ (e : Entry). e.segment < n) _ [] h (All-nil (λ (e : Entry). e.segment < n))

pub balance-entry_of : (note : Note) (s : ℕ) (z : ℤ) (k : ℕ) → balance k (entry_of note s z) ≡ cond (eqb s k) z (pos 0)
balance-entry_of note s (pos zero) k = grind (arith, nat_tests)
balance-entry_of note s (pos (suc n)) k = omega (arith, ints)
balance-entry_of note s (negsuc n) k = omega (arith, ints)

pub debit-known : (note : Note) (s x credit n : ℕ) → 0 < n → s < n → All (λ e. e.segment < n) (debit note s x credit)
unfolding debit
debit-known note s x credit n z h =
    All-append (λ e. e.segment < n) (entry_of note 0 (pos (min x credit))) (entry_of note s (pos (x - credit)))
    (entry_of-known note 0 (pos (min x credit)) n z) (entry_of-known note s (pos (x - credit)) n h)
