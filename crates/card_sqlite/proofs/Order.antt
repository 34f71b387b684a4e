-- The records of the table in order, and a record more.
use Rattle.std.proofs.Common.{◌≡◌, inl, inr, ℕ, ◌+◌, ◌≤◌, ℤ, pos, negsuc, List, [], ◌∷◌, ◌++◌, map, length, Bool, true, false, ◌||◌, ◌&&◌, ◌==◌, All, refl, sym, ap, subst, ◌∙◌, arith, append_assoc, append-nil}
use Rattle.std.specs.Prelude.{IsPermutation, IsSorted}
use Rattle.std.specs.declared.cmp.Ordering.{Ordering}
use Rattle.std.specs.declared.cmp.Ordering.TheVariants.{Less, Equal, Greater}
use Rattle.std.specs.Ordering.{is_lt, is_eq, match_ordering, int_cmp}
use Rattle.std.proofs.lemmas.List.{length_push, get_or_push, get_or_append_left, map-append}
use Rattle.std.proofs.lemmas.List.Elements.{All-push}
use Rattle.std.proofs.lemmas.Bool.{cases_lt, eqb-true}
use Rattle.std.proofs.lemmas.Bool.Decides.{nat_tests}
use Rattle.std.proofs.lemmas.List.Sorted.{IsPermutation-refl, IsPermutation-cons, IsPermutation-to_front, IsPermutation-trans, IsPermutation-sym, IsPermutation-append_left, IsPermutation-map}
use Rattle.sqlite_value.specs.declared.value.Value.TheVariants.{Int}
use Rattle.sqlite_value.specs.Order.{Row as Record, column, value_cmp}
use Rattle.sqlite_value.proofs.OrderLemmas.{value_cmp-Int}
use Rattle.sqlite_trees.specs.Tree.{Trees, put_row, rowid}
use Rattle.sqlite_rules.specs.Edit.{is_taken}
use Rattle.sqlite.specs.Values.{IsInt}
use Rattle.card_ports.specs.declared.row.Row.{Row}
use Rattle.card_ports.specs.Rows.{next_after, next_seq, are_from}
use Rattle.card_sqlite.specs.Kept.{AreKept, IsAdded, Grows, stored, shown, row_in, seq_in, by_seq}

-- a list is empty, or has a last element
pub data Ends {X : Type 0} : List X → Type 0 where
  none : Ends []
  last : (xs : List X) (x : X) → Ends (xs ++ x ∷ [])

pub ends : {X : Type 0} (xs : List X) → Ends xs
ends [] = none
ends (x ∷ xs) = more x xs (ends xs)
  where
    more : {X : Type 0} (x : X) (xs : List X) → Ends xs → Ends (x ∷ xs)
    more x _ none = last [] x
    more x _ (last ys y) = last (x ∷ ys) y

put_fresh : (o : Ordering) (x r : Record) (rs : List Record) → IsPermutation (rs ++ x ∷ []) (put_row x rs) → is_eq o ≡ false → IsPermutation (r ∷ rs ++ x ∷ []) (match_ordering o (r ∷ put_row x rs) (x ∷ rs) (x ∷ r ∷ rs))
put_fresh Less x r rs more e = IsPermutation-cons r (rs ++ x ∷ []) (put_row x rs) more
put_fresh Equal x r rs more e = absurd cc
put_fresh Greater x r rs more e = IsPermutation-to_front (r ∷ rs) x

neither : (a b : Bool) → (a || b) ≡ false → (a ≡ false) × (b ≡ false)
neither true b e = absurd cc
neither false b e = (refl, e)

-- a record that takes no other's place is one more
pub put_more : (x : Record) (rs : List Record) → is_taken rs x ≡ false → IsPermutation (rs ++ x ∷ []) (put_row x rs)
put_more x [] free = IsPermutation-refl (x ∷ [])
put_more x (r ∷ rs) free =
    let parts = neither (is_eq (value_cmp (rowid r) (rowid x))) (is_taken rs x) free in
    put_fresh (value_cmp (rowid r) (rowid x)) x r rs (put_more x rs parts.1) parts.0

-- the order goes on where the new element isn't below the last
pub sorted_on : {X : Type 0} (cmp : X → X → Ordering) (xs : List X) (x y : X) → IsSorted cmp (xs ++ x ∷ []) → is_lt (cmp y x) ≡ false → IsSorted cmp ((xs ++ x ∷ []) ++ y ∷ [])
sorted_on cmp xs x y sorted above k d low high = elim (cases_lt (k + 1) (length (xs ++ x ∷ []))) [
  | inl within ↦ rw (get_or_append_left (xs ++ x ∷ []) (y ∷ []) d (k + 1) within, get_or_append_left (xs ++ x ∷ []) (y ∷ []) d k (omega arith)) (sorted k d low within)
  | inr past ↦
      let end : length (xs ++ x ∷ []) ≡ k + 1 = omega (arith, length_push (xs ++ x ∷ []) y) in
      let last : length xs ≡ k = omega (arith, length_push xs x) in
      rw (get_or_push (xs ++ x ∷ []) y d (k + 1) end, get_or_append_left (xs ++ x ∷ []) (y ∷ []) d k (omega arith), get_or_push xs x d k last) above
]

pub sorted_one : {X : Type 0} (cmp : X → X → Ordering) (y : X) → IsSorted cmp (y ∷ [])
sorted_one cmp y k d low high = absurd (omega arith)

-- ---- numbers that go on

pub after_last : (n : ℕ) (rows : List Row) (r : Row) → next_after n (rows ++ r ∷ []) ≡ r.seq + 1
unfolding next_after
after_last n [] r = refl
after_last n (x ∷ rows) r = after_last (x.seq + 1) rows r

pub after_both : (n : ℕ) (rows more : List Row) → next_after n (rows ++ more) ≡ next_after (next_after n rows) more
unfolding next_after
after_both n [] more = refl
after_both n (x ∷ rows) more = after_both (x.seq + 1) rows more

pub both : (a b : Bool) → (a && b) ≡ true → (a ≡ true) × (b ≡ true)
both true b e = (refl, e)
both false b e = absurd cc

-- rows of which each front goes on, and the next row
pub goes_on : (n : ℕ) (done : List Row) (r : Row) → are_from n (done ++ r ∷ []) ≡ true → (are_from n done ≡ true) × (r.seq ≡ next_after n done)
unfolding are_from next_after
goes_on n [] r e = (refl, eqb-true r.seq n (both (r.seq == n) true e).0)
goes_on n (x ∷ done) r e =
    let parts = both (x.seq == n) (are_from (n + 1) (done ++ r ∷ [])) e in
    let same : x.seq ≡ n = eqb-true x.seq n parts.0 in
    let more = goes_on (n + 1) done r parts.1 in
    (rw (parts.0) more.0, more.1 ∙ ap (λ m. next_after (m + 1) done) (sym same))

-- ---- one row more

not_below : (n : ℤ) (seq : ℕ) → seq_in (Int n) + 1 ≤ seq → is_lt (value_cmp (Int (pos seq)) (Int n)) ≡ false
not_below n seq above = rw (value_cmp-Int (pos seq) n) (by_sign n above)
  where
    by_sign : (n : ℤ) → seq_in (Int n) + 1 ≤ seq → is_lt (int_cmp (pos seq) n) ≡ false
    by_sign (pos m) above = grind (arith, nat_tests)
    by_sign (negsuc m) above = refl

-- a row whose number is past the last stands behind all
joined : (ordered : List Record) → Ends ordered → (row : Row) → All (λ r. IsInt (column r 0)) ordered → IsSorted by_seq ordered → next_seq (map row_in ordered) ≤ row.seq
    → IsSorted by_seq (ordered ++ shown (stored row) ∷ [])
joined _ none row ints sorted above = sorted_one by_seq (shown (stored row))
joined _ (last xs x) row ints sorted above =
    let it : IsInt (column x 0) = subst (λ r. IsInt (column r 0)) (get_or_push xs x x (length xs) refl) (ints (length xs) x (omega (arith, length_push xs x))) in
    let next : next_seq (map row_in (xs ++ x ∷ [])) ≡ seq_in (column x 0) + 1 = ap (next_after 1) (map-append row_in xs (x ∷ [])) ∙ after_last 1 (map row_in xs) (row_in x) in
    let low : seq_in (Int it.0) + 1 ≤ row.seq = subst (λ v. seq_in v + 1 ≤ row.seq) it.1 (subst (λ n. n ≤ row.seq) next above) in
    sorted_on by_seq xs x (shown (stored row)) sorted (subst (λ v. is_lt (value_cmp (Int (pos row.seq)) v) ≡ false) (sym it.1) (not_below it.0 row.seq low))

pub one_more : (old new : Trees) (row : Row) → IsAdded old row new → (rows : List Row) → AreKept old rows → next_seq rows ≤ row.seq → AreKept new (rows ++ row ∷ [])
one_more old new row added rows k above =
    let x = shown (stored row) in
    let grown : IsPermutation (old 0 ++ stored row ∷ []) (new 0) = subst (λ ys. IsPermutation (old 0 ++ stored row ∷ []) ys) (sym added.put) (put_more (stored row) (old 0) added.free) in
    let back = IsPermutation-map shown (new 0) (old 0 ++ stored row ∷ []) (IsPermutation-sym (old 0 ++ stored row ∷ []) (new 0) grown) in
    let front : IsPermutation (map shown (new 0)) (map shown (old 0) ++ x ∷ []) = subst (λ ys. IsPermutation (map shown (new 0)) ys) (map-append shown (old 0) (stored row ∷ [])) back in
    record {
      ordered = k.ordered ++ x ∷ [];
      shown_are = record {
        same = IsPermutation-trans (map shown (new 0)) (map shown (old 0) ++ x ∷ []) (k.ordered ++ x ∷ []) front (IsPermutation-append_left (x ∷ []) (map shown (old 0)) k.ordered k.shown_are.same);
        sorted = joined k.ordered (ends k.ordered) row k.numbered k.shown_are.sorted (subst (λ rows. next_seq rows ≤ row.seq) k.read above);
      };
      numbered = All-push (λ r. IsInt (column r 0)) k.ordered x k.numbered (pos row.seq, refl);
      read = ap (λ rows. rows ++ row ∷ []) k.read ∙ sym (map-append row_in k.ordered (x ∷ []));
    }

-- rows that were added so far, and one more
pub grows_on : (old mid new : Trees) (done : List Row) (row : Row) → Grows old done mid → IsAdded mid row new → Grows old (done ++ row ∷ []) new
grows_on old mid new done row so added rows kept from =
    let parts = goes_on (next_seq rows) done row from in
    let at : next_seq (rows ++ done) ≤ row.seq = let e = after_both 1 rows done in let s = parts.1 in omega (arith, e, s) in
    subst (AreKept new) (append_assoc rows done (row ∷ [])) (one_more mid new row added (rows ++ done) (so rows kept parts.0) at)

pub grows_none : (old : Trees) → Grows old [] old
grows_none old rows kept from = subst (AreKept old) (sym (append-nil rows)) kept

-- a table with no record keeps no row
pub empty_keeps : (trees : Trees) → trees 0 ≡ [] → AreKept trees []
empty_keeps trees nothing = record {
  ordered = [];
  shown_are = record { same = subst (λ rs. IsPermutation (map shown rs) []) (sym nothing) (IsPermutation-refl []); sorted = λ k d low high. absurd (omega arith) };
  numbered = λ i d low. absurd (omega arith);
  read = refl;
}
