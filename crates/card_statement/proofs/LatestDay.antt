-- An entry's transaction is looked for among those of the latest day alone.
use Rattle.std.proofs.Common.{◌≡◌, ℕ, zero, suc, ◌<◌, ◌≤◌, Bool, true, false, cond, ◌&&◌, List, [], ◌∷◌, ◌++◌, length, take, drop, refl, sym, ap, ◌∙◌, subst, arith, eqb, ltb}
use Rattle.std.specs.List.{All}
use Rattle.std.proofs.lemmas.Bool.Decides.{nat_tests}
use Rattle.std.proofs.lemmas.List.Elements.{All-cons, All-head, All-nil, All-tail, All-take, All-weaker}
use Rattle.card_model.specs.Entries.{is_kind}
use Rattle.card_model.specs.declared.entry.Entry.{Entry}
use Rattle.card_statement.specs.Gathering.{AreUpTo, later_of, place_of, raised_by, with_entry, with_if}
use Rattle.card_model.specs.Sheets.{begun_move, is_of_move, moves_owed}
use Rattle.card_model.specs.declared.lines.Move.{Move}

-- ---- those before a place are passed over
abbrev IsOther : Entry → Move → Type 0
IsOther e m = is_of_move e m ≡ false

one-passed : (e : Entry) (m : Move) (ms : List Move) → is_of_move e m ≡ false → with_entry e (m ∷ ms) ≡ m ∷ with_entry e ms
unfolding with_entry
one-passed e m ms q = ap (λ b. cond b (raised_by e m ∷ ms) (m ∷ with_entry e ms)) q

pub skipped : (e : Entry) (old : List Move) (n : ℕ) → All (λ m. is_of_move e m ≡ false) (take n old) → with_entry e old ≡ take n old ++ with_entry e (drop n old)
skipped e old zero h = refl
skipped e [] (suc n) h = refl
skipped e (m ∷ ms) (suc n) h =
    one-passed e m ms (All-head (IsOther e) m (take n ms) h) ∙ ap (λ l. m ∷ l) (skipped e ms n (All-tail (IsOther e) m (take n ms) h))

-- ---- a transaction of another day is another one
other-day : (e : Entry) (m : Move) → eqb m.day e.day ≡ false → is_of_move e m ≡ false
other-day e m q = ap (λ b. b && is_kind m.kind e.kind && eqb m.post e.post) q

earlier-day : (e : Entry) (m : Move) → m.day < e.day → is_of_move e m ≡ false
earlier-day e m l = let q : eqb m.day e.day ≡ false = grind (arith, nat_tests) in other-day e m q

-- ---- the days of transactions with one entry more
abbrev OnDays : (ℕ → Type 0) → List Move → Type 0
OnDays p ms = All (λ m. p m.day) ms

days-with : (p : ℕ → Type 0) (e : Entry) (ms : List Move) → p e.day → OnDays p ms → OnDays p (with_entry e ms)
unfolding with_entry
days-with p e [] now h = All-cons (λ (m : Move). p m.day) (begun_move e []) [] now (All-nil (λ (m : Move). p m.day))
days-with p e (m ∷ ms) now h = by (is_of_move e m) (All-head (λ (x : Move). p x.day) m ms h) (All-tail (λ (x : Move). p x.day) m ms h) (days-with p e ms now (All-tail (λ (x : Move). p x.day) m ms h))
  where
    by : (t : Bool) → p m.day → OnDays p ms → OnDays p (with_entry e ms) → OnDays p (cond t (raised_by e m ∷ ms) (m ∷ with_entry e ms))
    by true here rest next = All-cons (λ (x : Move). p x.day) (raised_by e m) ms here rest
    by false here rest next = All-cons (λ (x : Move). p x.day) m (with_entry e ms) here next

front-with : (p : ℕ → Type 0) (e : Entry) (n : ℕ) (ms : List Move) → n ≤ length ms → OnDays p (take n ms) → OnDays p (take n (with_entry e ms))
unfolding with_entry
front-with p e zero ms l h = All-nil (λ (m : Move). p m.day)
front-with p e (suc n) [] l h = absurd (omega (arith, l))
front-with p e (suc n) (m ∷ ms) l h =
    by (is_of_move e m) (All-head (λ (x : Move). p x.day) m (take n ms) h) (All-tail (λ (x : Move). p x.day) m (take n ms) h)
    (front-with p e n ms (omega (arith, l)) (All-tail (λ (x : Move). p x.day) m (take n ms) h))
  where
    by : (t : Bool) → p m.day → OnDays p (take n ms) → OnDays p (take n (with_entry e ms)) → OnDays p (take (suc n) (cond t (raised_by e m ∷ ms) (m ∷ with_entry e ms)))
    by true here rest next = All-cons (λ (x : Move). p x.day) (raised_by e m) (take n ms) here rest
    by false here rest next = All-cons (λ (x : Move). p x.day) m (take n (with_entry e ms)) here next

more-with : (e : Entry) (ms : List Move) → length ms ≤ length (with_entry e ms)
unfolding with_entry
more-with e [] = omega arith
more-with e (m ∷ ms) = by (is_of_move e m) (more-with e ms)
  where
    by : (t : Bool) → length ms ≤ length (with_entry e ms) → length (m ∷ ms) ≤ length (cond t (raised_by e m ∷ ms) (m ∷ with_entry e ms))
    by true l = omega arith
    by false l = omega (arith, l)

-- ---- one entry more
-- those before the beginning of an entry's day are other ones
pub others : (latest from : ℕ) (e : Entry) (ms : List Move) → AreUpTo latest from ms → All (λ m. is_of_move e m ≡ false) (take (place_of latest from (length ms) e.day) ms)
others latest from e ms h = by (ltb latest e.day) (ltb e.day latest) refl refl
  where
    before-it : ltb latest e.day ≡ true → (m : Move) → m.day ≤ latest → is_of_move e m ≡ false
    before-it q m l = earlier-day e m (grind (arith, nat_tests))

    by : (t u : Bool) → ltb latest e.day ≡ t → ltb e.day latest ≡ u → All (λ m. is_of_move e m ≡ false) (take (cond t (length ms) (cond u 0 from)) ms)
    by true u q r = All-take (IsOther e) (length ms) ms (All-weaker (λ (m : Move). m.day ≤ latest) (IsOther e) (before-it q) ms h.days)
    by false true q r = All-nil (IsOther e)
    by false false q r =
        let same : latest ≡ e.day = grind (arith, nat_tests) in
        All-weaker (λ (m : Move). m.day < latest) (IsOther e) (λ m l. earlier-day e m (subst (λ d. m.day < d) same l)) (take from ms) h.before

-- and the same holds behind it
moved-on : (latest from : ℕ) (e : Entry) (ms : List Move) → AreUpTo latest from ms → AreUpTo (later_of latest e.day) (place_of latest from (length ms) e.day) ms
moved-on latest from e ms h = by (ltb latest e.day) (ltb e.day latest) refl
  where
    by : (t u : Bool) → ltb latest e.day ≡ t → AreUpTo (cond t e.day latest) (cond t (length ms) (cond u 0 from)) ms
    by true u q =
        let past : latest < e.day = grind (arith, nat_tests) in
        record {
          days = All-weaker (λ (m : Move). m.day ≤ latest) (λ (m : Move). m.day ≤ e.day) (λ m l. omega (arith, l, past)) ms h.days;
          before = All-take (λ (m : Move). m.day < e.day) (length ms) ms (All-weaker (λ (m : Move). m.day ≤ latest) (λ (m : Move). m.day < e.day) (λ m l. omega (arith, l, past)) ms h.days);
          count = omega arith;
        }
    by false true q = record { days = h.days; before = All-nil (λ (m : Move). m.day < latest); count = omega arith }
    by false false q = record { days = h.days; before = h.before; count = h.count }

with-one : (latest from : ℕ) (e : Entry) (ms : List Move) → e.day ≤ latest → AreUpTo latest from ms → AreUpTo latest from (with_if e ms)
with-one latest from e ms l h = by (moves_owed e)
  where
    by : (t : Bool) → AreUpTo latest from (cond t (with_entry e ms) ms)
    by true = record {
      days = days-with (λ d. d ≤ latest) e ms l h.days;
      before = front-with (λ d. d < latest) e from ms h.count h.before;
      count = let a = more-with e ms in omega (arith, a, h.count);
    }
    by false = h

pub went-on : (latest from : ℕ) (e : Entry) (ms : List Move) → AreUpTo latest from ms → AreUpTo (later_of latest e.day) (place_of latest from (length ms) e.day) (with_if e ms)
went-on latest from e ms h = with-one (later_of latest e.day) (place_of latest from (length ms) e.day) e ms (by (ltb latest e.day) refl) (moved-on latest from e ms h)
  where
    by : (t : Bool) → ltb latest e.day ≡ t → e.day ≤ cond t e.day latest
    by true q = omega arith
    by false q = grind (arith, nat_tests)

-- none so far
pub none-yet : (latest : ℕ) (ms : List Move) → ms ≡ [] → AreUpTo latest 0 ms
none-yet latest ms q = subst (AreUpTo latest 0) (sym q) (record { days = All-nil (λ (m : Move). m.day ≤ latest); before = All-nil (λ (m : Move). m.day < latest); count = omega arith })

-- ---- as the code has them
pub others-at : (latest from count place : ℕ) (e : Entry) (ms : List Move) → AreUpTo latest from ms → count ≡ length ms → place ≡ place_of latest from count e.day
    → All (λ m. is_of_move e m ≡ false) (take place ms)
others-at latest from count place e ms h n p =
    subst (λ k. All (λ m. is_of_move e m ≡ false) (take k ms)) (sym (p ∙ ap (λ k. place_of latest from k e.day) n)) (others latest from e ms h)

pub went-on-at : (latest from count place next : ℕ) (e : Entry) (ms ns : List Move) → AreUpTo latest from ms → count ≡ length ms → place ≡ place_of latest from count e.day → next ≡ later_of latest e.day
    → ns ≡ with_if e ms → AreUpTo next place ns
went-on-at latest from count place next e ms ns h n p d w =
    let moved = went-on latest from e ms h in
    let at = p ∙ ap (λ k. place_of latest from k e.day) n in
    subst (λ k. AreUpTo k place ns) (sym d)
    (subst (λ k. AreUpTo (later_of latest e.day) k ns) (sym at) (subst (λ l. AreUpTo (later_of latest e.day) (place_of latest from (length ms) e.day) l) (sym w) moved))
