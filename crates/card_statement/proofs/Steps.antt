-- The steps of gathering transactions.
use Rattle.std.proofs.Common.{◌≡◌, ℕ, suc, ◌+◌, ◌<◌, ◌≤◌, ◌^◌, Bool, true, false, cond, List, [], ◌∷◌, ◌++◌, length, take, drop, get_or, set, refl, sym, ap, ◌∙◌, subst, arith, ℤ, pos, negsuc, ◌+ℤ◌, w64, to_z, of_z, FitsSigned, append-nil, append_assoc}
use Rattle.std.specs.Prelude.{nat_abs}
use Rattle.std.specs.List.{All, filter}
use Rattle.std.proofs.lemmas.Int.{fits_signed_from_abs, ints, to_z-of_z}
use Rattle.std.proofs.lemmas.List.{drop_all, drop_more, set_split, take_all, take_more}
use Rattle.std.proofs.lemmas.List.Elements.{All-cons, All-head, All-nil, All-tail, All-weaker, filter_more}
use Rattle.std.proofs.lemmas.List.Sums.{sum_by-take-le, sum_by_more}
use Rattle.card_model.specs.declared.entry.Entry.{Entry}
use Rattle.card_statement.specs.Gathering.{raised_by, sizes, with_entry, with_if}
use Rattle.card_model.specs.Sheets.{begun_move, gathered, is_of_move, moves_owed}
use Rattle.card_model.specs.declared.lines.Move.{Move}
use Rattle.card_statement.proofs.Gathering.{gathered-push}

-- ---- one entry
entry-cons : (e : Entry) (m : Move) (ms : List Move) (t : Bool) → is_of_move e m ≡ t → with_entry e (m ∷ ms) ≡ cond t (raised_by e m ∷ ms) (m ∷ with_entry e ms)
unfolding with_entry
entry-cons e m ms t q = ap (λ b. cond b (raised_by e m ∷ ms) (m ∷ with_entry e ms)) q

pub entry-nil : (e : Entry) → with_entry e [] ≡ begun_move e [] ∷ []
unfolding with_entry
entry-nil e = refl

pub found : (e : Entry) (old : List Move) (i : ℕ) (m : Move) → i < length old → is_of_move e (get_or old i m) ≡ true → with_entry e old ≡ take i old ++ with_entry e (drop i old)
    → set old i (raised_by e (get_or old i m)) ≡ with_entry e old
found e old i m l q h =
    let here = get_or old i m in
    let left = ap (with_entry e) (drop_more old i m l) ∙ entry-cons e here (drop (i + 1) old) true q in
    let next : suc i ≡ i + 1 = omega arith in
    set_split old i (raised_by e here) l ∙ (ap (λ n. take i old ++ raised_by e here ∷ drop n old) next ∙ (ap (λ r. take i old ++ r) (sym left) ∙ sym h))

pub passed : (e : Entry) (old : List Move) (i : ℕ) (m : Move) → i < length old → is_of_move e (get_or old i m) ≡ false → with_entry e old ≡ take i old ++ with_entry e (drop i old)
    → with_entry e old ≡ take (i + 1) old ++ with_entry e (drop (i + 1) old)
passed e old i m l q h =
    let here = get_or old i m in
    let left = ap (with_entry e) (drop_more old i m l) ∙ entry-cons e here (drop (i + 1) old) false q in
    h ∙ (ap (λ r. take i old ++ r) left ∙ (sym (append_assoc (take i old) (here ∷ []) (with_entry e (drop (i + 1) old))) ∙ ap (λ f. f ++ with_entry e (drop (i + 1) old)) (sym (take_more old i m l))))

pub ended : (e : Entry) (old : List Move) (i : ℕ) → length old ≤ i → with_entry e old ≡ take i old ++ with_entry e (drop i old) → old ++ begun_move e [] ∷ [] ≡ with_entry e old
ended e old i l h =
    let none = ap (with_entry e) (drop_all i old l) ∙ entry-nil e in
    ap (λ f. f ++ begun_move e [] ∷ []) (sym (take_all i old l)) ∙ (ap (λ r. take i old ++ r) (sym none) ∙ sym h)

-- ---- sizes
fits : (z : ℤ) → nat_abs z ≤ 10 ^ 17 → FitsSigned w64 z
fits (pos n) l = fits_signed_from_abs w64 (pos n) (omega (arith, ints, l))
fits (negsuc n) l = fits_signed_from_abs w64 (negsuc n) (omega (arith, ints, l))

sum-abs : (x y : ℤ) → nat_abs (x +ℤ y) ≤ nat_abs x + nat_abs y
sum-abs (pos a) (pos b) = omega (arith, ints)
sum-abs (pos a) (negsuc b) = omega (arith, ints)
sum-abs (negsuc a) (pos b) = omega (arith, ints)
sum-abs (negsuc a) (negsuc b) = omega (arith, ints)

pub sum-fits : (x y : ℤ) → nat_abs x + nat_abs y ≤ 10 ^ 17 → FitsSigned w64 (x +ℤ y)
sum-fits x y l = fits (x +ℤ y) (chain (nat_abs (x +ℤ y)) (nat_abs x + nat_abs y) (10 ^ 17) (sum-abs x y) l)
  where
    chain : (a b c : ℕ) → a ≤ b → b ≤ c → a ≤ c
    chain a b c f g = omega arith

pub summed : (x y : ℤ) → nat_abs x + nat_abs y ≤ 10 ^ 17 → to_z w64 (of_z w64 (to_z w64 (of_z w64 x) +ℤ to_z w64 (of_z w64 y))) ≡ x +ℤ y
summed x y l =
    let a = to_z-of_z w64 x (fits x (first (nat_abs x) (nat_abs y) (10 ^ 17) l)) in
    let b = to_z-of_z w64 y (fits y (second (nat_abs x) (nat_abs y) (10 ^ 17) l)) in
    rw (a, b) (to_z-of_z w64 (x +ℤ y) (sum-fits x y l))
  where
    first : (a b c : ℕ) → a + b ≤ c → a ≤ c
    first a b c f = omega arith

    second : (a b c : ℕ) → a + b ≤ c → b ≤ c
    second a b c f = omega arith

-- ---- entries in turn
pub none-gathered : (ms : List Move) → ms ≡ [] → ms ≡ gathered []
unfolding gathered
none-gathered ms e = e

pub sizes-more : (es : List Entry) (i : ℕ) (e : Entry) → i < length es → sizes (take (i + 1) es) ≡ sizes (take i es) + nat_abs (get_or es i e).cents
unfolding sizes
sizes-more es i e l = sum_by_more (λ (x : Entry). nat_abs x.cents) es i e l

sizes-take : (es : List Entry) (i : ℕ) → sizes (take i es) ≤ sizes es
unfolding sizes
sizes-take es i = sum_by-take-le (λ (x : Entry). nat_abs x.cents) es i

pub room : (es : List Entry) (i : ℕ) (e : Entry) (x : ℕ) → i < length es → sizes es ≤ 10 ^ 17 → x ≤ sizes (take i es) → x + nat_abs (get_or es i e).cents ≤ 10 ^ 17
room es i e x l few h = chain x (sizes (take i es)) (nat_abs (get_or es i e).cents) (sizes (take (i + 1) es)) (sizes es) (10 ^ 17) h (sizes-more es i e l) (sizes-take es (i + 1)) few
  where
    chain : (x s y t a c : ℕ) → x ≤ s → t ≡ s + y → t ≤ a → a ≤ c → x + y ≤ c
    chain x s y t a c f g h i = omega arith

pub gathered-more : (es : List Entry) (i : ℕ) (e : Entry) → i < length es → with_if (get_or es i e) (gathered (filter moves_owed (take i es))) ≡ gathered (filter moves_owed (take (i + 1) es))
gathered-more es i e l = by (moves_owed (get_or es i e)) ∙ ap gathered (sym (filter_more moves_owed es i e l))
  where
    by : (t : Bool) → cond t (with_entry (get_or es i e) (gathered (filter moves_owed (take i es)))) (gathered (filter moves_owed (take i es))) ≡ gathered (filter moves_owed (take i es) ++ cond t (get_or es i e ∷ []) [])
    by true = sym (gathered-push (filter moves_owed (take i es)) (get_or es i e))
    by false = ap gathered (sym (append-nil (filter moves_owed (take i es))))

abbrev Small : ℕ → Move → Type 0
Small n m = nat_abs m.cents ≤ n

entry-small : (s : ℕ) (e : Entry) (ms : List Move) → All (Small s) ms → All (Small (s + nat_abs e.cents)) (with_entry e ms)
unfolding with_entry
entry-small s e [] h = All-cons (Small (s + nat_abs e.cents)) (begun_move e []) [] (one (nat_abs (e.cents +ℤ pos 0)) (nat_abs e.cents) (sum-abs e.cents (pos 0))) (All-nil (Small (s + nat_abs e.cents)))
  where
    one : (a b : ℕ) → a ≤ b + 0 → a ≤ s + b
    one a b l = omega arith
entry-small s e (m ∷ ms) h = by (is_of_move e m) (All-head (Small s) m ms h) (All-tail (Small s) m ms h) (entry-small s e ms (All-tail (Small s) m ms h))
  where
    weaker : (x : Move) → Small s x → Small (s + nat_abs e.cents) x
    weaker x l = omega arith

    raised : (a b c : ℕ) → a ≤ b + c → b ≤ s → a ≤ s + c
    raised a b c f g = omega arith

    by : (t : Bool) → Small s m → All (Small s) ms → All (Small (s + nat_abs e.cents)) (with_entry e ms) → All (Small (s + nat_abs e.cents)) (cond t (raised_by e m ∷ ms) (m ∷ with_entry e ms))
    by true now rest next = All-cons (Small (s + nat_abs e.cents)) (raised_by e m) ms (raised (nat_abs (m.cents +ℤ e.cents)) (nat_abs m.cents) (nat_abs e.cents) (sum-abs m.cents e.cents) now) (All-weaker (Small s) (Small (s + nat_abs e.cents)) weaker ms rest)
    by false now rest next = All-cons (Small (s + nat_abs e.cents)) m (with_entry e ms) (weaker m now) next

pub if-small : (es : List Entry) (i : ℕ) (e : Entry) (ms : List Move) → i < length es → All (λ m. nat_abs m.cents ≤ sizes (take i es)) ms → All (λ m. nat_abs m.cents ≤ sizes (take (i + 1) es)) (with_if (get_or es i e) ms)
if-small es i e ms l h =
    subst (λ n. All (Small n) (with_if (get_or es i e) ms)) (sym (sizes-more es i e l)) (by (moves_owed (get_or es i e)))
  where
    weaker : (s x : ℕ) (m : Move) → Small s m → Small (s + x) m
    weaker s x m l = omega arith

    by : (t : Bool) → All (Small (sizes (take i es) + nat_abs (get_or es i e).cents)) (cond t (with_entry (get_or es i e) ms) ms)
    by true = entry-small (sizes (take i es)) (get_or es i e) ms h
    by false = All-weaker (Small (sizes (take i es))) (Small (sizes (take i es) + nat_abs (get_or es i e).cents)) (weaker (sizes (take i es)) (nat_abs (get_or es i e).cents)) ms h
