-- The closed cycles of a book in turn, each with what its entries come to.
use Rattle.std.proofs.Common.{◌≡◌, ℕ, zero, suc, ◌+◌, ◌≤◌, List, [], ◌∷◌, ◌++◌, length, take, drop, refl, sym, ap, ◌∙◌, subst, arith, pos, ◌+ℤ◌, Option, Some, None}
use Rattle.std.specs.Prelude.{slice_get}
use Rattle.std.specs.List.{last_or}
use Rattle.std.proofs.lemmas.List.{length-append, take-append-le}
use Rattle.card_model.specs.Closing.{previous_of}
use Rattle.card_model.specs.Cycles.{Cycle, amounts_sum}
use Rattle.card_model.specs.Entries.{sum_of}
use Rattle.card_model.specs.Folds.{cycle_at}
use Rattle.card_model.specs.Laws.{total}
use Rattle.card_model.specs.declared.entry.Entry.{Entry}
use Rattle.card_model.specs.declared.entry.EntryKind.TheVariants as kind
use Rattle.card_model.specs.Sheets.{entries_by, moves_owed}

-- the cycle behind another one, or the first, by what it moved among these entries
pub record Adds (es : List Entry) (before : Option Cycle) (k : ℕ) (c : Cycle) : Type 0 where
  pub number : c.number ≡ k
  pub within : c.entries ≤ length es
  pub previous : c.previous ≡ previous_of before
  pub balance : previous_of before +ℤ sum_of moves_owed (drop (entries_by before) (take c.entries es)) +ℤ pos (amounts_sum c.interest) ≡ c.new_balance
  pub interest : total kind.Interest (drop (entries_by before) (take c.entries es)) ≡ amounts_sum c.interest

abbrev pub Chain : List Entry → Option Cycle → ℕ → List Cycle → Type 0
Chain es before k [] = Unit {0}
Chain es before k (c ∷ cs) = Adds es before k c × Chain es (Some c) (suc k) cs

adds-longer : (es more : List Entry) (before : Option Cycle) (k : ℕ) (c : Cycle) → Adds es before k c → Adds (es ++ more) before k c
adds-longer es more before k c a =
    let same : take c.entries (es ++ more) ≡ take c.entries es = take-append-le c.entries es more a.within in
    record {
      number = a.number;
      within = let n = length-append es more in let w = a.within in omega arith;
      previous = a.previous;
      balance = ap (λ l. previous_of before +ℤ sum_of moves_owed (drop (entries_by before) l) +ℤ pos (amounts_sum c.interest)) same ∙ a.balance;
      interest = ap (λ l. total kind.Interest (drop (entries_by before) l)) same ∙ a.interest;
    }

pub chain-longer : (es more : List Entry) (before : Option Cycle) (k : ℕ) (cs : List Cycle) → Chain es before k cs → Chain (es ++ more) before k cs
chain-longer es more before k [] h = h
chain-longer es more before k (c ∷ cs) h = (adds-longer es more before k c h.0, chain-longer es more (Some c) (suc k) cs h.1)

pub chain-push : (es : List Entry) (before : Option Cycle) (k n : ℕ) (cs : List Cycle) (c : Cycle) → n ≡ length cs + k → Chain es before k cs → Adds es (last_or before cs) n c → Chain es before k (cs ++ c ∷ [])
chain-push es before k n [] c e h a = let same : n ≡ k = omega arith in (subst (λ m. Adds es before m c) same a, h)
chain-push es before k n (d ∷ cs) c e h a = (h.0, chain-push es (Some d) (suc k) n cs c (omega arith) h.1 a)

-- the cycle in front of the i-th
abbrev pub prior : Option Cycle → List Cycle → ℕ → Option Cycle
prior before cs zero = before
prior before cs (suc i) = slice_get cs i

prior-cons : (before : Option Cycle) (c : Cycle) (cs : List Cycle) (i : ℕ) → prior (Some c) cs i ≡ prior before (c ∷ cs) (suc i)
prior-cons before c cs zero = refl
prior-cons before c cs (suc i) = refl

some-is : (c d : Cycle) → Some c ≡ Some d → c ≡ d
some-is c d e = cc

pub chain-at : (es : List Entry) (before : Option Cycle) (k i : ℕ) (cs : List Cycle) (c : Cycle) → Chain es before k cs → slice_get cs i ≡ Some c → Adds es (prior before cs i) (i + k) c
chain-at es before k i [] c h e = let none : None ≡ Some c = e in absurd (cc)
chain-at es before k zero (d ∷ cs) c h e = let same : 0 + k ≡ k = omega arith in subst (λ x. Adds es before (0 + k) x) (some-is d c e) (subst (λ m. Adds es before m d) (sym same) h.0)
chain-at es before k (suc i) (d ∷ cs) c h e =
    let n : i + suc k ≡ suc i + k = omega arith in
    subst (λ m. Adds es (prior before (d ∷ cs) (suc i)) m c) n (subst (λ o. Adds es o (i + suc k) c) (prior-cons before d cs i) (chain-at es (Some d) (suc k) i cs c h.1 e))

-- ---- the cycles of a cut
get-take : (cs : List Cycle) (n i : ℕ) → suc i ≤ n → slice_get (take n cs) i ≡ slice_get cs i
get-take [] zero i l = refl
get-take [] (suc n) i l = refl
get-take (c ∷ cs) zero i l = absurd (omega arith)
get-take (c ∷ cs) (suc n) zero l = refl
get-take (c ∷ cs) (suc n) (suc i) l = get-take cs n i (omega arith)

pub cycle-take : (cs : List Cycle) (n k : ℕ) → k ≤ n → cycle_at k (take n cs) ≡ cycle_at k cs
cycle-take cs n zero l = refl
cycle-take cs n (suc i) l = get-take cs n i l

pub prior-is : (cs : List Cycle) (k : ℕ) → prior None cs k ≡ cycle_at k cs
prior-is cs zero = refl
prior-is cs (suc i) = refl
