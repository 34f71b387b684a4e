-- What the entries of one post paid and held, and how much a post moves.
use Rattle.std.proofs.Common.{◌≡◌, ℕ, zero, suc, ◌+◌, ◌-◌, ◌≤◌, Bool, true, false, cond, ◌&&◌, List, [], ◌∷◌, ◌++◌, refl, ap, ◌∙◌, subst, arith, ℤ, pos, negsuc, ◌+ℤ◌, eqb}
use Rattle.std.specs.Prelude.{◌≤ℤ◌}
use Rattle.std.specs.List.{filter}
use Rattle.std.proofs.lemmas.Int.{ints}
use Rattle.std.proofs.lemmas.List.Elements.{filter-append}
use Rattle.std.specs.Prelude.{min}
use Rattle.card_bounds.specs.Bounds.{moved}
use Rattle.card_model.specs.Effects.{is_held_by, is_part_of, parts_entries, put_back, size}
use Rattle.card_model.specs.Entries.{credit_balance, debit, entry_of, holds, lowers, negated, raises, releases, sum_of}
use Rattle.card_model.specs.Segments.{newest}
use Rattle.card_model.specs.declared.entry.Entry.{Entry}
use Rattle.card_model.specs.declared.entry.EntryKind.{EntryKind}
use Rattle.card_model.specs.declared.entry.EntryKind.TheVariants as kind
use Rattle.card_model.proofs.Posted.{sum_of-append}
use Rattle.card_bounds.proofs.Bounded.{moved-append, piece-debit}
use Rattle.card_model.proofs.PartsSum.{parts_sum}

abbrev pub sizes : List Entry → ℕ
sizes [] = 0
sizes (e ∷ es) = size e.cents + sizes es

-- what post n paid, and what it holds
unfoldable pub paid_by : ℕ → List Entry → ℕ
paid_by n es = sizes (filter (is_part_of n) es)

unfoldable pub held_by : ℕ → List Entry → ℤ
held_by n es = sum_of (is_held_by n) es

sizes-append : (xs ys : List Entry) → sizes (xs ++ ys) ≡ sizes xs + sizes ys
sizes-append [] ys = omega arith
sizes-append (x ∷ xs) ys = omega (arith, sizes-append xs ys)

pub paid_by-append : (n : ℕ) (xs ys : List Entry) → paid_by n (xs ++ ys) ≡ paid_by n xs + paid_by n ys
unfolding paid_by
paid_by-append n xs ys = ap sizes (filter-append (is_part_of n) xs ys) ∙ sizes-append (filter (is_part_of n) xs) (filter (is_part_of n) ys)

pub held_by-append : (n : ℕ) (xs ys : List Entry) → held_by n (xs ++ ys) ≡ held_by n xs +ℤ held_by n ys
unfolding held_by
held_by-append n xs ys = sum_of-append (is_held_by n) xs ys

-- ---- entries that are none of post n's
pub record Clean (n : ℕ) (xs : List Entry) : Type 0 where
  pub paid : paid_by n xs ≡ 0
  pub held : held_by n xs ≡ pos 0

pub clean-nil : (n : ℕ) → Clean n []
unfolding paid_by held_by
clean-nil n = record { paid = refl; held = refl }

clean-append : (n : ℕ) (xs ys : List Entry) → Clean n xs → Clean n ys → Clean n (xs ++ ys)
clean-append n xs ys a b = record { paid = paid_by-append n xs ys ∙ omega (arith, a.paid, b.paid); held = held_by-append n xs ys ∙ omega (arith, ints, a.held, b.held) }

clean-one : (n : ℕ) (e : Entry) → is_part_of n e ≡ false → is_held_by n e ≡ false → Clean n (e ∷ [])
unfolding paid_by held_by
clean-one n e p q = record { paid = rw p refl; held = rw q refl }

clean-entry : (n day m s : ℕ) (k : EntryKind) (z : ℤ) → ((c : ℤ) → is_part_of n (record { day = day; segment = s; kind = k; post = m; cents = c }) ≡ false) → ((c : ℤ) → is_held_by n (record { day = day; segment = s; kind = k; post = m; cents = c }) ≡ false)
    → Clean n (entry_of (record { day = day; kind = k; post = m }) s z)
clean-entry n day m s k (pos zero) p q = clean-nil n
clean-entry n day m s k (pos (suc a)) p q = clean-one n _ (p (pos (suc a))) (q (pos (suc a)))
clean-entry n day m s k (negsuc a) p q = clean-one n _ (p (negsuc a)) (q (negsuc a))

-- of another post
clean-other : (n day m s : ℕ) (k : EntryKind) (z : ℤ) → eqb m n ≡ false → Clean n (entry_of (record { day = day; kind = k; post = m }) s z)
clean-other n day m s k z e = clean-entry n day m s k z (λ c. rw e refl) (λ c. rw e refl)

not_and : (t : Bool) → (t && false) ≡ false
not_and true = refl
not_and false = refl

not_and_two : (t u : Bool) → (t && u && false) ≡ false
not_and_two true true = refl
not_and_two true false = refl
not_and_two false true = refl
not_and_two false false = refl

clean-fee : (n day m s : ℕ) (z : ℤ) → Clean n (entry_of (record { day = day; kind = kind.Fee; post = m }) s z)
clean-fee n day m s z = clean-entry n day m s kind.Fee z (λ c. not_and (eqb m n)) (λ c. not_and_two (eqb m n) (eqb s 1))

clean-interest : (n day m s : ℕ) (z : ℤ) → Clean n (entry_of (record { day = day; kind = kind.Interest; post = m }) s z)
clean-interest n day m s z = clean-entry n day m s kind.Interest z (λ c. not_and (eqb m n)) (λ c. not_and_two (eqb m n) (eqb s 1))

pub fee-clean : (n day m s x credit : ℕ) → Clean n (debit (record { day = day; kind = kind.Fee; post = m }) s x credit)
unfolding debit
fee-clean n day m s x credit = clean-append n _ _ (clean-fee n day m 0 (pos (min x credit))) (clean-fee n day m s (pos (x - credit)))

pub interest-clean : (n day m s x credit : ℕ) → Clean n (debit (record { day = day; kind = kind.Interest; post = m }) s x credit)
unfolding debit
interest-clean n day m s x credit = clean-append n _ _ (clean-interest n day m 0 (pos (min x credit))) (clean-interest n day m s (pos (x - credit)))

pub debit-other : (n day m s x credit : ℕ) (k : EntryKind) → eqb m n ≡ false → Clean n (debit (record { day = day; kind = k; post = m }) s x credit)
unfolding debit
debit-other n day m s x credit k e = clean-append n _ _ (clean-other n day m 0 k (pos (min x credit)) e) (clean-other n day m s k (pos (x - credit)) e)

pub parts-other : (n day m : ℕ) (k : EntryKind) (ps : List (ℕ × ℕ)) → eqb m n ≡ false → Clean n (parts_entries (record { day = day; kind = k; post = m }) ps)
parts-other n day m k [] e = clean-nil n
parts-other n day m k (p ∷ ps) e = clean-append n _ _ (clean-other n day m p.0 k (negated p.1) e) (parts-other n day m k ps e)

pub holds-other : (n day m s h : ℕ) → eqb m n ≡ false → Clean n (holds (record { day = day; kind = kind.Hold; post = m }) s h)
holds-other n day m s h e = clean-append n _ _ (clean-other n day m s kind.Hold (negated h) e) (clean-other n day m 1 kind.Hold (pos h) e)

pub releases-other : (n day m s h credit : ℕ) → eqb m n ≡ false → Clean n (releases (record { day = day; kind = kind.Hold; post = m }) s h credit)
releases-other n day m s h credit e = clean-append n _ _ (clean-other n day m 1 kind.Hold (negated h) e) (debit-other n day m s h credit kind.Hold e)

-- ---- entries that pay and hold at most so much for post n
pub record Ours (n x : ℕ) (xs : List Entry) : Type 0 where
  pub paid : paid_by n xs ≤ x
  pub held : held_by n xs ≤ℤ pos x

ours-append : (n x y : ℕ) (xs ys : List Entry) → Ours n x xs → Ours n y ys → Ours n (x + y) (xs ++ ys)
ours-append n x y xs ys a b = record {
  paid = let e = paid_by-append n xs ys in omega (arith, a.paid, b.paid);
  held = rw (held_by-append n xs ys) (highs (held_by n xs) (held_by n ys) x y a.held b.held);
}
  where
    highs : (y z : ℤ) (m n : ℕ) → y ≤ℤ pos m → z ≤ℤ pos n → (y +ℤ z) ≤ℤ pos (m + n)
    highs y z m n a b = omega (arith, ints)

-- as much as one list allows for the payment and another for the hold
pub record Split (n p h : ℕ) (xs : List Entry) : Type 0 where
  pub paid : paid_by n xs ≤ p
  pub held : held_by n xs ≤ℤ pos h

split-append : (n p h q i : ℕ) (xs ys : List Entry) → Split n p h xs → Split n q i ys → Split n (p + q) (h + i) (xs ++ ys)
split-append n p h q i xs ys a b = record {
  paid = let e = paid_by-append n xs ys in omega (arith, a.paid, b.paid);
  held = rw (held_by-append n xs ys) (highs (held_by n xs) (held_by n ys) h i a.held b.held);
}
  where
    highs : (y z : ℤ) (m n : ℕ) → y ≤ℤ pos m → z ≤ℤ pos n → (y +ℤ z) ≤ℤ pos (m + n)
    highs y z m n a b = omega (arith, ints)

split-nil : (n : ℕ) → Split n 0 0 []
unfolding paid_by held_by
split-nil n = record { paid = omega arith; held = omega (arith, ints) }

split-raises : (n day m s x : ℕ) (k : EntryKind) → Split n 0 x (raises (record { day = day; kind = k; post = m }) s x)
unfolding paid_by held_by
split-raises n day m s zero k = record { paid = omega arith; held = omega (arith, ints) }
split-raises n day m s (suc x) k = record { paid = paid (is_part_of n (record { day = day; segment = s; kind = k; post = m; cents = pos (suc x) })); held = held (is_held_by n (record { day = day; segment = s; kind = k; post = m; cents = pos (suc x) })) }
  where
    paid : (t : Bool) → sizes (cond t (record { day = day; segment = s; kind = k; post = m; cents = pos (suc x) } ∷ []) []) ≤ 0
    paid true = omega arith
    paid false = omega arith

    held : (t : Bool) → (cond t (pos (suc x)) (pos 0) +ℤ pos 0) ≤ℤ pos (suc x)
    held true = omega (arith, ints)
    held false = omega (arith, ints)

split-lowers : (n day m s x : ℕ) (k : EntryKind) → Split n x 0 (lowers (record { day = day; kind = k; post = m }) s x)
unfolding paid_by held_by
split-lowers n day m s zero k = record { paid = omega arith; held = omega (arith, ints) }
split-lowers n day m s (suc x) k = record { paid = paid (is_part_of n (record { day = day; segment = s; kind = k; post = m; cents = negsuc x })); held = held (is_held_by n (record { day = day; segment = s; kind = k; post = m; cents = negsuc x })) }
  where
    paid : (t : Bool) → sizes (cond t (record { day = day; segment = s; kind = k; post = m; cents = negsuc x } ∷ []) []) ≤ suc x
    paid true = omega arith
    paid false = omega arith

    held : (t : Bool) → (cond t (negsuc x) (pos 0) +ℤ pos 0) ≤ℤ pos 0
    held true = omega (arith, ints)
    held false = omega (arith, ints)

pub split-debit : (n day m s x credit : ℕ) (k : EntryKind) → Split n 0 x (debit (record { day = day; kind = k; post = m }) s x credit)
unfolding debit
split-debit n day m s x credit k =
    let both = split-append n 0 (min x credit) 0 (x - credit) _ _ (split-raises n day m 0 (min x credit) k) (split-raises n day m s (x - credit) k) in
    let e : min x credit + (x - credit) ≡ x = omega arith in
    subst (λ y. Split n 0 y (raises (record { day = day; kind = k; post = m }) 0 (min x credit) ++ raises (record { day = day; kind = k; post = m }) s (x - credit))) e both

pub split-holds : (n day m s h : ℕ) → Split n (h + 0) (0 + h) (holds (record { day = day; kind = kind.Hold; post = m }) s h)
split-holds n day m s h = split-append n h 0 0 h _ _ (split-lowers n day m s h kind.Hold) (split-raises n day m 1 h kind.Hold)

pub split-releases : (n day m s h credit : ℕ) → Split n (h + 0) (0 + h) (releases (record { day = day; kind = kind.Hold; post = m }) s h credit)
split-releases n day m s h credit = split-append n h 0 0 h _ _ (split-lowers n day m 1 h kind.Hold) (split-debit n day m s h credit kind.Hold)

pub split-parts : (n day m : ℕ) (k : EntryKind) (ps : List (ℕ × ℕ)) → Split n (parts_sum ps) 0 (parts_entries (record { day = day; kind = k; post = m }) ps)
split-parts n day m k [] = split-nil n
split-parts n day m k (p ∷ ps) = split-append n p.1 0 (parts_sum ps) 0 _ _ (split-lowers n day m p.0 p.1 k) (split-parts n day m k ps)

-- ---- what is put back
pub record PutBack (n m x : ℕ) (es new : List Entry) : Type 0 where
  pub moves : moved new ≡ moved es + x
  pub paid : paid_by n new ≤ paid_by n es
  pub held : held_by n new ≤ℤ (held_by n es +ℤ pos x)
  pub other : eqb m n ≡ false → (paid_by n new ≡ paid_by n es) × (held_by n new ≡ held_by n es)

pub put_back-adds : (n day m newest : ℕ) (ps es : List Entry) → PutBack n m (sizes ps) es (put_back (record { day = day; kind = kind.Return; post = m }) newest ps es)
put_back-adds n day m newest [] es = record { moves = omega arith; paid = omega arith; held = omega (arith, ints); other = λ e. (refl, refl) }
put_back-adds n day m newest (p ∷ ps) es =
    let xs = debit (record { day = day; kind = kind.Return; post = m }) (cond (eqb p.segment 0) newest p.segment) (size p.cents) (credit_balance es) in
    let rest = put_back-adds n day m newest ps (es ++ xs) in
    let piece = piece-debit day m (cond (eqb p.segment 0) newest p.segment) (size p.cents) (credit_balance es) kind.Return refl in
    let ours = split-debit n day m (cond (eqb p.segment 0) newest p.segment) (size p.cents) (credit_balance es) kind.Return in
    let paid = paid_by-append n es xs in
    let held = held_by-append n es xs in
    record {
      moves = let m = moved-append es xs in omega (arith, rest.moves, piece.moves);
      paid = omega (arith, rest.paid, ours.paid);
      held = omega (arith, ints, rest.held, ours.held);
      other = λ e. let c = debit-other n day m (cond (eqb p.segment 0) newest p.segment) (size p.cents) (credit_balance es) kind.Return e in let r = rest.other e in
          (let q = r.0 in omega (arith, c.paid), let q = r.1 in omega (arith, ints, c.held));
    }
