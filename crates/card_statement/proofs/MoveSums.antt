-- The transactions of entries sum to what their entries move.
use Rattle.std.proofs.Common.{◌≡◌, ◌+◌, Bool, true, false, cond, not, ◌&&◌, List, [], ◌∷◌, ◌++◌, refl, ap, ◌∙◌, arith, ℤ, pos, negsuc, ◌+ℤ◌, eqb}
use Rattle.std.specs.Prelude.{nat_abs}
use Rattle.std.specs.List.{filter}
use Rattle.std.proofs.lemmas.Bool.{eqb-true}
use Rattle.std.proofs.lemmas.Int.{ints}
use Rattle.std.proofs.lemmas.List.Sums.{sum_by-append, sum_by-cons}
use Rattle.card_model.specs.Entries.{is_kind, owed, sum_of}
use Rattle.card_model.specs.Laws.{size_of, total}
use Rattle.card_model.specs.declared.entry.Entry.{Entry}
use Rattle.card_model.specs.declared.entry.EntryKind.{EntryKind}
use Rattle.card_model.specs.declared.entry.EntryKind.TheVariants as kind
use Rattle.card_model.specs.Sheets.{gathered, has_cents, is_of_move, moves_of, moves_owed, moves_sum}
use Rattle.card_model.specs.declared.lines.Move.{Move}

-- ---- transactions
-- those that pass and those that don't
both-sum : (p : Move → Bool) (ms : List Move) → moves_sum (filter p ms) +ℤ moves_sum (filter (λ m. not (p m)) ms) ≡ moves_sum ms
both-sum p [] = refl
both-sum p (m ∷ ms) = by (p m) (both-sum p ms)
  where
    by : (t : Bool) → moves_sum (filter p ms) +ℤ moves_sum (filter (λ m. not (p m)) ms) ≡ moves_sum ms
        → moves_sum (cond t (m ∷ filter p ms) (filter p ms)) +ℤ moves_sum (cond (not t) (m ∷ filter (λ m. not (p m)) ms) (filter (λ m. not (p m)) ms)) ≡ m.cents +ℤ moves_sum ms
    by true h = sums m.cents (moves_sum (filter p ms)) (moves_sum (filter (λ m. not (p m)) ms)) (moves_sum ms) h
      where
        sums : (x a b s : ℤ) → a +ℤ b ≡ s → (x +ℤ a) +ℤ b ≡ x +ℤ s
        sums x a b s h = omega (arith, ints)
    by false h = sums m.cents (moves_sum (filter p ms)) (moves_sum (filter (λ m. not (p m)) ms)) (moves_sum ms) h
      where
        sums : (x a b s : ℤ) → a +ℤ b ≡ s → a +ℤ (x +ℤ b) ≡ x +ℤ s
        sums x a b s h = omega (arith, ints)

gathered-sum : (es : List Entry) → moves_sum (gathered es) ≡ owed es
unfolding gathered
gathered-sum [] = refl
gathered-sum (e ∷ es) =
    sums e.cents (moves_sum (filter (is_of_move e) (gathered es))) (moves_sum (filter (λ m. not (is_of_move e m)) (gathered es))) (moves_sum (gathered es)) (owed es)
    (both-sum (is_of_move e) (gathered es)) (gathered-sum es)
  where
    sums : (x a b s o : ℤ) → a +ℤ b ≡ s → s ≡ o → (x +ℤ a) +ℤ b ≡ x +ℤ o
    sums x a b s o h i = omega (arith, ints)

none-zero : (z : ℤ) → nat_abs z ≡ 0 → z ≡ pos 0
none-zero (pos n) h = ap pos h
none-zero (negsuc n) h = absurd (omega arith)

cents-sum : (ms : List Move) → moves_sum (filter has_cents ms) ≡ moves_sum ms
cents-sum [] = refl
cents-sum (m ∷ ms) = by (eqb (nat_abs m.cents) 0) refl (cents-sum ms)
  where
    nothing : (x a s : ℤ) → x ≡ pos 0 → a ≡ s → a ≡ x +ℤ s
    nothing x a s h i = omega (arith, ints)

    by : (t : Bool) → eqb (nat_abs m.cents) 0 ≡ t → moves_sum (filter has_cents ms) ≡ moves_sum ms → moves_sum (cond (not t) (m ∷ filter has_cents ms) (filter has_cents ms)) ≡ m.cents +ℤ moves_sum ms
    by true q h = nothing m.cents (moves_sum (filter has_cents ms)) (moves_sum ms) (none-zero m.cents (eqb-true (nat_abs m.cents) 0 q)) h
    by false q h = ap (λ z. m.cents +ℤ z) h

passing-sum : (p : Entry → Bool) (es : List Entry) → owed (filter p es) ≡ sum_of p es
passing-sum p [] = refl
passing-sum p (e ∷ es) = by (p e) (passing-sum p es)
  where
    zero-first : (a b : ℤ) → a ≡ b → a ≡ pos 0 +ℤ b
    zero-first a b h = omega (arith, ints)

    by : (t : Bool) → owed (filter p es) ≡ sum_of p es → owed (cond t (e ∷ filter p es) (filter p es)) ≡ cond t e.cents (pos 0) +ℤ sum_of p es
    by true h = ap (λ z. e.cents +ℤ z) h
    by false h = zero-first (owed (filter p es)) (sum_of p es) h

pub moves-sum : (es : List Entry) → moves_sum (moves_of es) ≡ sum_of moves_owed es
unfolding moves_of
moves-sum es = cents-sum (gathered (filter moves_owed es)) ∙ (gathered-sum (filter moves_owed es) ∙ passing-sum moves_owed es)

-- ---- entries by kind
abbrev pub is_hold : Entry → Bool
is_hold e = is_kind kind.Hold e.kind

abbrev pub is_interest : Entry → Bool
is_interest e = is_kind kind.Interest e.kind

-- an entry moves what is owed, or is interest, or a hold
one-kind : (k : EntryKind) (x : ℤ) → x ≡ cond (not (is_kind kind.Interest k) && not (is_kind kind.Hold k)) x (pos 0) +ℤ cond (is_kind kind.Interest k) x (pos 0) +ℤ cond (is_kind kind.Hold k) x (pos 0)
one-kind kind.Charge x = omega (arith, ints)
one-kind kind.Credit x = omega (arith, ints)
one-kind kind.Payment x = omega (arith, ints)
one-kind kind.Return x = omega (arith, ints)
one-kind kind.Refund x = omega (arith, ints)
one-kind kind.Fee x = omega (arith, ints)
one-kind kind.Interest x = omega (arith, ints)
one-kind kind.Hold x = omega (arith, ints)

pub kinds-sum : (es : List Entry) → owed es ≡ sum_of moves_owed es +ℤ sum_of is_interest es +ℤ sum_of is_hold es
kinds-sum [] = refl
kinds-sum (e ∷ es) =
    sums e.cents (owed es) (cond (moves_owed e) e.cents (pos 0)) (cond (is_interest e) e.cents (pos 0)) (cond (is_hold e) e.cents (pos 0)) (sum_of moves_owed es) (sum_of is_interest es) (sum_of is_hold es)
    (one-kind e.kind e.cents) (kinds-sum es)
  where
    sums : (x o a b c p q r : ℤ) → x ≡ a +ℤ b +ℤ c → o ≡ p +ℤ q +ℤ r → x +ℤ o ≡ (a +ℤ p) +ℤ (b +ℤ q) +ℤ (c +ℤ r)
    sums x o a b c p q r h i = omega (arith, ints)

pub total-append : (xs ys : List Entry) → total kind.Interest (xs ++ ys) ≡ total kind.Interest xs + total kind.Interest ys
unfolding total
total-append xs ys = sum_by-append _ xs ys

pub total-cons : (e : Entry) (es : List Entry) → total kind.Interest (e ∷ es) ≡ size_of kind.Interest e + total kind.Interest es
unfolding total
total-cons e es = sum_by-cons (size_of kind.Interest) e es

pub total-nil : total kind.Interest [] ≡ 0
unfolding total
total-nil = refl
