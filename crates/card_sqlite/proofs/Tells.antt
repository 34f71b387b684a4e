-- The rows that a keeper tells are those that its database keeps.
use Rattle.std.proofs.Common.{◌≡◌, ◌⊎◌, inl, inr, ℕ, Bool, true, false, not, ◌&&◌, List, [], ◌∷◌, ◌++◌, map, length, Some, None, Option, Ok, Err, Result, Vec, IfOk, OnOk, OnErr, IsTrue, Less, refl, sym, ap, ap₂, subst, subst₂, is_some, ◌∙◌, arith, is_gt}
use Rattle.std.specs.declared.alloc.Global.{Global}
use base.Stored.{Gv, gnil, gnum, gcons}
use Rattle.std.specs.Cmp.{IsTotalOrder, on_total}
use Rattle.std.proofs.lemmas.Bool.{cases_Bool}
use Rattle.std.proofs.lemmas.List.Sorted.{IsPermutation-refl}
use Rattle.std.proofs.lemmas.List.Elements.{All-from_recursion}
use Rattle.std.specs.List.{AllByRecursion}
use Rattle.std.proofs.lemmas.Bool.{eqb-true, eq-eqb}
use Rattle.sqlite_value.specs.declared.value.Value.{Value}
use Rattle.sqlite_value.specs.declared.value.Value.TheVariants.{Null, Int, Real, Text, Blob}
use Rattle.sqlite_value.specs.Order.{Row as Record, column}
use Rattle.sqlite_value.proofs.OrderLemmas.{value_cmp_total}
use Rattle.sqlite_trees.specs.Tree.{Trees, IsAscending, IsTable, rowid}
use Rattle.sqlite_trees.specs.View.{View, is_int, IsShaped}
use Rattle.sqlite_schema.specs.declared.schema.Schema.{Schema}
use Rattle.sqlite_schema.specs.contracts.schema.Schema.{the_row}
use Rattle.sqlite_catalog.specs.Listing.{IsSound}
use Rattle.sqlite_catalog.proofs.LayoutLemmas.{laid_out, objects_rise}
use Rattle.sqlite_keyed.proofs.SortLemmas.{sorted_unique}
use Rattle.sqlite_keyed.proofs.ListLemmas.{ascending-map, ascending_weaker}
use Rattle.sqlite_exec.proofs.PartitionLemmas.{sorted_from_ascending}
use Rattle.sqlite.specs.Effect.{Database}
use Rattle.sqlite.specs.Values.{IsInt}
use Rattle.card_ports.specs.declared.row.Row.{Row}
use Rattle.card_ports.specs.declared.keeper.KeeperFault.{KeeperFault}
use Rattle.card_sqlite.proofs.Order.{both}
use Rattle.card_sqlite.specs.Kept.{no_schema, kept_schema, shown, row_in, by_seq, IsFor, AreKept, Keeps, KeepsAll, Extends}
use Rattle.card_sqlite.specs.Told.{IsShown, same_code, same_schema, is_for, rows_in, told}
use Rattle.card_ports.specs.Rows.{next_seq, are_from, GoOn, KeepsRows, AddsRows, GivesRows, SameRowsTold}
use Rattle.sqlite_trees.specs.declared.store.Store.{Ghosts}
use Rattle.sqlite_trees.proofs.Doubt.{no_doubt}
use Rattle.sqlite.specs.State.{State, HasCleanDisk, IsLive}
use Rattle.sqlite.specs.Held.{Held, state}

same_means : (g h : Gv) → same_code g h ≡ true → g ≡ h
same_means gnil gnil e = refl
same_means (gnum m) (gnum n) e = ap gnum (eqb-true m n e)
same_means (gcons a b) (gcons c d) e = let parts = both (same_code a c) (same_code b d) e in ap₂ gcons (same_means a c parts.0) (same_means b d parts.1)
same_means gnil (gnum n) e = absurd cc
same_means gnil (gcons a b) e = absurd cc
same_means (gnum m) gnil e = absurd cc
same_means (gnum m) (gcons a b) e = absurd cc
same_means (gcons a b) gnil e = absurd cc
same_means (gcons a b) (gnum n) e = absurd cc

same_itself : (g : Gv) → same_code g g ≡ true
same_itself gnil = refl
same_itself (gnum n) = eq-eqb n n refl
same_itself (gcons a b) = rw (same_itself a, same_itself b) refl

pub schema_is : (a b : Schema) → same_schema a b ≡ true → a ≡ b
schema_is a b e = the_row.coded.inj a b (same_means _ _ e)

pub schema_same : (a b : Schema) → a ≡ b → same_schema a b ≡ true
schema_same a b e = subst (λ c. same_schema a c ≡ true) e (same_itself (the_row.coded.code a))

-- ---- the table's records are in order

first_apart : no_schema ≡ kept_schema → {X : Type 0} → X
first_apart e = let n : ◌≡◌ {A = ℕ} 0 1 = ap (λ (s : Schema). length s.tables) e in absurd (omega arith)

ordered_table : (v : View) → IsShown v → IsSound kept_schema v.trees → IsTable (v.trees 0) × AllByRecursion (λ r. IsTrue (is_int (rowid r))) (v.trees 0)
ordered_table v is sound =
    let laid = laid_out is.listed (objects_rise v is.listed is.ordered) sound.lists.listed in
    subst (λ s. IsShaped s (v.trees 0)) laid.tables.0 (is.ordered 0)

total : IsTotalOrder by_seq
total = on_total (λ (r : Record). column r 0) value_cmp_total

abbrev Rises : List Record → Type 0
Rises = IsAscending (λ a b. by_seq a b ≡ Less)

rises : (rs : List Record) → IsTable rs → Rises (map shown rs)
rises rs table = ascending-map (λ a b. by_seq a b ≡ Less) shown rs table

an_int : (v : Value) → IsTrue (is_int v) → IsInt v
an_int (Int n) e = (n, refl)
an_int Null e = absurd cc
an_int (Real x) e = absurd cc
an_int (Text t) e = absurd cc
an_int (Blob b) e = absurd cc

ints : (rs : List Record) → AllByRecursion (λ r. IsTrue (is_int (rowid r))) rs → AllByRecursion (λ r. IsInt (column r 0)) (map shown rs)
ints [] all = tt
ints (r ∷ rs) all = (an_int (rowid r) all.0, ints rs all.1)

at_most : (xs : List Record) → Rises xs → IsAscending (λ a b. is_gt (by_seq a b) ≡ false) xs
at_most xs up = ascending_weaker (λ a b. by_seq a b ≡ Less) (λ a b. is_gt (by_seq a b) ≡ false) (λ a b h. ap is_gt h) xs up

pub keeps_told : (trees : Trees) → IsTable (trees 0) × AllByRecursion (λ r. IsTrue (is_int (rowid r))) (trees 0) → AreKept trees (map row_in (map shown (trees 0)))
keeps_told trees table = record {
  ordered = map shown (trees 0);
  shown_are = record { same = IsPermutation-refl (map shown (trees 0)); sorted = sorted_from_ascending by_seq total (map shown (trees 0)) (at_most _ (rises (trees 0) table.0)) };
  numbered = All-from_recursion _ _ (ints (trees 0) table.1);
  read = refl;
}

pub told_kept : (trees : Trees) (rows : List Row) → IsTable (trees 0) → AreKept trees rows → rows ≡ map row_in (map shown (trees 0))
told_kept trees rows table k = k.read ∙ ap (map row_in) (sorted_unique by_seq total (map shown (trees 0)) k.ordered (rises (trees 0) table) k.shown_are.same k.shown_are.sorted)

-- ---- what is told of a database

pub for_means : (s : Schema) → is_for s ≡ true → IsFor s
unfolding is_for
for_means s e = elim (cases_Bool (same_schema s no_schema)) [
  | inl none ↦ inl (schema_is s no_schema none)
  | inr some ↦ inr (schema_is s kept_schema (rw some at e))
]

pub means_for : (s : Schema) → IsFor s → is_for s ≡ true
unfolding is_for
means_for s (inl none) = rw (schema_same s no_schema none) refl
means_for s (inr there) = elim (cases_Bool (same_schema s no_schema)) [
  | inl none ↦ rw none refl
  | inr some ↦ rw (some, schema_same s kept_schema there) refl
]

none_in : (db : Database) → db.schema ≡ no_schema → rows_in db ≡ []
none_in db none = rw (schema_same db.schema no_schema none) refl

kept_in : (db : Database) → db.schema ≡ kept_schema → rows_in db ≡ map row_in (map shown (db.trees 0))
kept_in db there = elim (cases_Bool (same_schema db.schema no_schema)) [
  | inl none ↦ first_apart (sym (schema_is db.schema no_schema none) ∙ there)
  | inr some ↦ rw some refl
]

module _ (v : View) (is : IsShown v) (schema : Schema) (sound : IsSound schema v.trees) where
  abbrev here : Database
  here = record { schema = schema; trees = v.trees }

  table_of : schema ≡ kept_schema → IsTable (v.trees 0) × AllByRecursion (λ r. IsTrue (is_int (rowid r))) (v.trees 0)
  table_of there = ordered_table v is (subst (λ s. IsSound s v.trees) there sound)

  pub keeps_in : IsFor schema → Keeps here (rows_in here)
  keeps_in (inl none) = inl (none, none_in here none)
  keeps_in (inr there) = inr (there, subst (AreKept v.trees) (sym (kept_in here there)) (keeps_told v.trees (table_of there)))

  pub in_kept : (rows : List Row) → Keeps here rows → rows ≡ rows_in here
  in_kept rows (inl none) = none.1 ∙ sym (none_in here none.0)
  in_kept rows (inr there) = told_kept v.trees rows (table_of there.0).0 there.1 ∙ sym (kept_in here there.0)

-- ---- what a keeper tells

pub record Good (s : State) : Type 0 where
  pub keeps : IsFor s.now.schema → Keeps s.now (rows_in s.now)
  pub one : (rows : List Row) → Keeps s.now rows → rows ≡ rows_in s.now

pub good : {S : Type 0} (g : Ghosts S) (h : Held S) → IsShown (g.view h.store) → IsLive (state g h) → Good (state g h)
good g h is live =
    let sound : IsSound h.schema (g.view h.store).trees = (live is.is_open).0 in
    record { keeps = keeps_in (g.view h.store) is h.schema sound; one = in_kept (g.view h.store) is h.schema sound }

pub clean_shown : {S : Type 0} (g : Ghosts S) (h : Held S) → IsShown (g.view h.store) → HasCleanDisk (state g h)
clean_shown g h is = no_doubt (g.view h.store).is_clean is.clean

told_if : (a b c : Bool) → ((a ≡ true) × (b ≡ false) × (c ≡ true)) ⊎ ((a && not b && c) ≡ false)
told_if false b c = inr refl
told_if true true c = inr refl
told_if true false false = inr refl
told_if true false true = inl (refl, refl, refl)

some_told : (tells : Bool) (s : State) → tells ≡ true → s.in_transaction ≡ false → is_for s.now.schema ≡ true → told tells s ≡ Some (rows_in s.now)
some_told tells s a b c = rw (a, b, c) refl

is_told : (tells : Bool) (s : State) → ((tells ≡ true) × (s.in_transaction ≡ false) × (is_for s.now.schema ≡ true) × (told tells s ≡ Some (rows_in s.now))) ⊎ (told tells s ≡ None)
is_told tells s = elim (told_if tells s.in_transaction (is_for s.now.schema)) [
  | inl all ↦ inl (all.0, all.1, all.2, some_told tells s all.0 all.1 all.2)
  | inr none ↦ inr (rw none refl)
]

keeps_for : (db : Database) (rows : List Row) → Keeps db rows → IsFor db.schema
keeps_for db rows (inl h) = inl h.0
keeps_for db rows (inr h) = inr h.0

none_same : (tells : Bool) (old new : State) → told tells old ≡ None → (IsTrue old.in_transaction → new ≡ old) → ((IsFor old.now.schema → ⊥) → new ≡ old) → told tells new ≡ told tells old
none_same false old new none busy idle = refl
none_same true old new none busy idle = elim (told_if true old.in_transaction (is_for old.now.schema)) [
  | inl all ↦ absurd (let e = sym none ∙ some_told true old refl all.1 all.2 in cc)
  | inr out ↦ elim (cases_Bool old.in_transaction) [
    | inl inside ↦ ap (told true) (busy inside)
    | inr outside ↦ ap (told true) (idle (λ for. absurd (let e : true ≡ false = rw (outside, means_for old.now.schema for) at out in cc)))
  ]
]

module _ (tells : Bool) (old new : State) (a : tells ≡ true → Good old) (b : tells ≡ true → Good new) where
  pub told_given : (rows : List Row) → (tells ≡ true → Keeps old.now rows) → GivesRows (told tells old) rows
  told_given rows h = elim (is_told tells old) [
    | inl t ↦ subst (λ o. GivesRows o rows) (sym t.3) ((a t.0).one rows (h t.0))
    | inr none ↦ subst (λ o. GivesRows o rows) (sym none) tt
  ]

  module _ (mode : tells ≡ true → old.in_transaction ≡ false → new.in_transaction ≡ false) where
    pub told_kept_all : (tells ≡ true → KeepsAll old.now new.now) → KeepsRows (told tells old) (told tells new)
    told_kept_all h = elim (is_told tells old) [
      | inl t ↦
          let keeps = h t.0 (rows_in old.now) ((a t.0).keeps (for_means old.now.schema t.2)) in
          let later = some_told tells new t.0 (mode t.0 t.1) (means_for new.now.schema (keeps_for new.now _ keeps)) in
          subst₂ (λ o p. KeepsRows o p) (sym t.3) (sym later) (sym ((b t.0).one (rows_in old.now) keeps))
      | inr none ↦ subst (λ o. KeepsRows o (told tells new)) (sym none) tt
    ]

    pub told_added : (more : List Row) → (tells ≡ true → Extends old.now more new.now) → GoOn (told tells old) more → AddsRows (told tells old) (told tells new) more
    told_added more h on = elim (is_told tells old) [
      | inl t ↦
          let goes : are_from (next_seq (rows_in old.now)) more ≡ true = subst (λ o. GoOn o more) t.3 on in
          let keeps = h t.0 (rows_in old.now) ((a t.0).keeps (for_means old.now.schema t.2)) goes in
          let later = some_told tells new t.0 (mode t.0 t.1) (means_for new.now.schema (keeps_for new.now _ keeps)) in
          subst₂ (λ o p. AddsRows o p more) (sym t.3) (sym later) (sym ((b t.0).one (rows_in old.now ++ more) keeps))
      | inr none ↦ subst (λ o. AddsRows o (told tells new) more) (sym none) tt
    ]

still_some : (o p : Option (List Row)) → KeepsRows o p → (o ≡ None → p ≡ o) → SameRowsTold o p
still_some None p keeps none = ap is_some (none refl)
still_some (Some xs) None keeps none = absurd keeps
still_some (Some xs) (Some ys) keeps none = refl

more_some : (o p : Option (List Row)) (more : List Row) → AddsRows o p more → (o ≡ None → p ≡ o) → SameRowsTold o p
more_some None p more adds none = ap is_some (none refl)
more_some (Some xs) None more adds none = absurd adds
more_some (Some xs) (Some ys) more adds none = refl

pub told_same : (tells : Bool) (old new : State) → KeepsRows (told tells old) (told tells new) → (IsTrue old.in_transaction → new ≡ old) → ((IsFor old.now.schema → ⊥) → new ≡ old) → SameRowsTold (told tells old) (told tells new)
told_same tells old new keeps busy idle = still_some (told tells old) (told tells new) keeps (λ none. none_same tells old new none busy idle)

pub told_more : (tells : Bool) (old new : State) (more : List Row) → AddsRows (told tells old) (told tells new) more → (IsTrue old.in_transaction → new ≡ old) → ((IsFor old.now.schema → ⊥) → new ≡ old) → SameRowsTold (told tells old) (told tells new)
told_more tells old new more adds busy idle = more_some (told tells old) (told tells new) more adds (λ none. none_same tells old new none busy idle)

-- ---- over results

module _ (tells : Bool) (old new : State) (a : tells ≡ true → Good old) (b : tells ≡ true → Good new) where
  pub given_result : (r : Result (Vec Row Global) KeeperFault) → (tells ≡ true → IfOk r (λ all. Keeps old.now all.items)) → IfOk r (λ all. GivesRows (told tells old) all.items)
  given_result (Ok all) h = told_given tells old new a b all.items h
  given_result (Err e) h = tt

  pub given_packed : (r : Result (List Row) KeeperFault) → (tells ≡ true → IfOk r (λ all. Keeps old.now all)) → IfOk r (λ all. GivesRows (told tells old) all)
  given_packed (Ok all) h = told_given tells old new a b all h
  given_packed (Err e) h = tt

  module _ (mode : tells ≡ true → old.in_transaction ≡ false → new.in_transaction ≡ false) where
    pub same_kept : (tells ≡ true → new.now ≡ old.now) → KeepsRows (told tells old) (told tells new)
    same_kept h = told_kept_all tells old new a b mode (λ t rows keeps. subst (λ (d : Database). Keeps d rows) (sym (h t)) keeps)

    module _ (more : List Row) (on : GoOn (told tells old) more) where
      pub added_result : (r : Result (Unit {0}) KeeperFault) → (tells ≡ true → OnOk r (Extends old.now more new.now)) → OnOk r (AddsRows (told tells old) (told tells new) more)
      added_result (Ok _) h = told_added tells old new a b mode more h on
      added_result (Err e) h = tt

      pub kept_result : (r : Result (Unit {0}) KeeperFault) → (tells ≡ true → OnErr r (new.now ≡ old.now)) → OnErr r (KeepsRows (told tells old) (told tells new))
      kept_result (Ok _) h = tt
      kept_result (Err e) h = same_kept h

      pub told_result : (r : Result (Unit {0}) KeeperFault) → (tells ≡ true → OnOk r (Extends old.now more new.now)) → (tells ≡ true → OnErr r (new.now ≡ old.now))
          → (IsTrue old.in_transaction → new ≡ old) → ((IsFor old.now.schema → ⊥) → new ≡ old) → SameRowsTold (told tells old) (told tells new)
      told_result (Ok _) h k busy idle = told_more tells old new more (told_added tells old new a b mode more h on) busy idle
      told_result (Err e) h k busy idle = told_same tells old new (same_kept k) busy idle
