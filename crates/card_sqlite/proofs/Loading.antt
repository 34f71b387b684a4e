-- What a load gives and leaves.
use Rattle.std.proofs.Common.{◌≡◌, inl, inr, ℕ, List, [], ◌∷◌, map, length, Ok, Err, Result, OnOk, OnErr, IfOk, Vec, refl, sym, ap, subst, ◌∙◌, arith}
use Rattle.std.specs.declared.alloc.Global.{Global}
use Rattle.std.proofs.lemmas.List.Sorted.{length_permutation}
use Rattle.sqlite.specs.declared.error.Error.{Error}
use Rattle.sqlite_schema.specs.declared.schema.Schema.{Schema}
use Rattle.sqlite.specs.Effect.{Database}
use Rattle.sqlite.specs.State.{State, IsUnchanged}
use Rattle.card_ports.specs.declared.row.Row.{Row}
use Rattle.card_sqlite.specs.Kept.{kept_schema, shown, row_in, IsFor, Creates, AreKept, Keeps, Stays}
use Rattle.card_ports.specs.declared.keeper.KeeperFault.{KeeperFault}
use Rattle.card_ports.specs.declared.keeper.KeeperFault.TheVariants as fault_is
use Rattle.sqlite_trees.specs.declared.store.Store.{Ghosts}
use Rattle.sqlite.specs.Held.{Held}
use Rattle.card_sqlite.specs.Calls.{Loads, LoadsPacked}
use Rattle.card_sqlite.proofs.Order.{empty_keeps}

no_more : {X : Type 0} (xs : List X) → length xs ≡ 0 → xs ≡ []
no_more [] e = refl
no_more (x ∷ xs) e = absurd (omega arith)

gives : (old mid : Database) (rows : List Row) → Creates old mid → AreKept mid.trees rows → Keeps old rows
gives old mid rows (inl made) are =
    let none : are.ordered ≡ [] = no_more are.ordered (length_permutation (map shown (mid.trees 0)) are.ordered are.shown_are.same ∙ ap (λ rs. length (map shown rs)) made.2) in
    inl (made.0, are.read ∙ ap (map row_in) none)
gives old mid rows (inr there) are = inr (there.0, subst (λ (d : Database). AreKept d.trees rows) there.1 are)

pub given : (old mid : Database) (r : Result (List Row) Error) → Creates old mid → IfOk r (AreKept mid.trees) → IfOk r (Keeps old)
given old mid (Ok rows) made are = gives old mid rows made are
given old mid (Err e) made are = tt

-- and the table is as it was made
pub still_made : (old mid new : State) (r : Result (List Row) Error) → Creates old.now mid.now → OnOk r (IsUnchanged mid new) → OnOk r (Creates old.now new.now)
still_made old mid new (Ok rows) made same = subst (Creates old.now) (sym same.0.now_is) made
still_made old mid new (Err e) made same = tt

-- what is seen stays, whether the rows were read or not
pub still_seen : (mid new : State) (r : Result (List Row) Error) → OnOk r (IsUnchanged mid new) → OnErr r (Stays mid new) → Stays mid new
still_seen mid new (Ok rows) same stays is_open = same.0.now_is
still_seen mid new (Err e) same stays is_open = stays is_open

-- a database with the same rows, whether the table is new or not
pub kept_by : (old new : Database) → Creates old new → IsFor new.schema × ((rows : List Row) → Keeps old rows → Keeps new rows)
kept_by old new (inl made) = (inr made.1, λ rows keeps. inr (made.1, subst (AreKept new.trees) (sym (none rows keeps)) (empty_keeps new.trees made.2)))
  where
    none : (rows : List Row) → Keeps old rows → rows ≡ []
    none rows (inl h) = h.1
    none rows (inr h) = let n : ◌≡◌ {A = ℕ} 0 1 = ap (λ (s : Schema). length s.tables) (sym made.0 ∙ h.0) in absurd (omega arith)
kept_by old new (inr there) = (inr (ap (λ (d : Database). d.schema) there.1 ∙ there.0), λ rows keeps. subst (λ (d : Database). Keeps d rows) (sym there.1) keeps)

pub kept_same : (old new : Database) → IsFor old.schema → new ≡ old → IsFor new.schema × ((rows : List Row) → Keeps old rows → Keeps new rows)
kept_same old new for same = (subst (λ (d : Database). IsFor d.schema) (sym same) for, λ rows keeps. subst (λ (d : Database). Keeps d rows) (sym same) keeps)

pub kept_then : (old mid new : Database) → Creates old mid → new ≡ mid → IsFor new.schema × ((rows : List Row) → Keeps old rows → Keeps new rows)
kept_then old mid new made same = subst (λ (d : Database). IsFor d.schema × ((rows : List Row) → Keeps old rows → Keeps d rows)) (sym same) (kept_by old mid made)

pub has_table : (old new : Database) → Creates old new → new.schema ≡ kept_schema
has_table old new (inl made) = made.1
has_table old new (inr there) = ap (λ (d : Database). d.schema) there.1 ∙ there.0

-- ---- rows that are unpacked after they were loaded
unpacked_keeps : (old : Database) (rows : List Row) (r : Result (Vec Row Global) KeeperFault) → IfOk r (λ all. all.items ≡ rows) → Keeps old rows → IfOk r (λ all. Keeps old all.items)
unpacked_keeps old rows (Ok all) same keeps = subst (Keeps old) (sym same) keeps
unpacked_keeps old rows (Err e) same keeps = tt

unpacked_makes : (old new : Database) (r : Result (Vec Row Global) KeeperFault) → Creates old new → OnOk r (Creates old new)
unpacked_makes old new (Ok all) made = made
unpacked_makes old new (Err e) made = tt

no_fault : {X : Type 0} (rows : List Row) (fault : KeeperFault) → ◌≡◌ {A = Result (List Row) KeeperFault} (Ok rows) (Err fault) → X
no_fault rows fault is = absurd (cc)

pub unpacked_loads : {S : Type 0} (g : Ghosts S) (old new : Held S) (rows : List Row) (r : Result (Vec Row Global) KeeperFault) → LoadsPacked g old new (Ok rows) → IfOk r (λ all. all.items ≡ rows) → Loads g old new r
unpacked_loads g old new rows r loads same = record {
  given = λ clean. unpacked_keeps _ rows r same (loads.given clean);
  made = λ clean. unpacked_makes _ _ r (loads.made clean);
  kept = loads.kept;
  mode = loads.mode;
  busy = loads.busy;
  idle = loads.idle;
  denied = λ inside. no_fault rows fault_is.Failed (loads.denied inside);
  unfit = λ none. no_fault rows fault_is.Failed (loads.unfit none);
}

failed_same : {A B : Type 0} (fault other : KeeperFault) → ◌≡◌ {A = Result A KeeperFault} (Err fault) (Err other) → ◌≡◌ {A = Result B KeeperFault} (Err fault) (Err other)
failed_same fault other is = let e : fault ≡ other = cc in ap Err e

pub fault_loads : {S : Type 0} (g : Ghosts S) (old new : Held S) (fault : KeeperFault) → LoadsPacked g old new (Err fault) → Loads g old new (Err fault)
fault_loads g old new fault loads = record {
  given = λ clean. tt;
  made = λ clean. tt;
  kept = loads.kept;
  mode = loads.mode;
  busy = loads.busy;
  idle = loads.idle;
  denied = λ inside. failed_same fault fault_is.Failed (loads.denied inside);
  unfit = λ none. failed_same fault fault_is.Failed (loads.unfit none);
}
