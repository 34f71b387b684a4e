-- What the three statements do.
use Rattle.std.proofs.Common.{◌≡◌, ◌⊎◌, inl, inr, ℕ, pos, List, [], ◌∷◌, map, Bool, true, false, not, ◌&&◌, cond, Some, None, Ok, Err, Result, IfErr, OnOk, OnErr, IsTrue, Option, MatchBool, refl, sym, ap, subst, subst₂, ◌∙◌, ◌+◌, ◌<◌, length, get_or, arith}
use Rattle.std.specs.Prelude.{IsPermutation, IsSorted, All, flat_map}
use Rattle.std.specs.Ordering.{is_lt, ordering_then}
use Rattle.std.specs.declared.cmp.Ordering.{Ordering}
use Rattle.std.specs.declared.cmp.Ordering.TheVariants.{Less, Equal, Greater}
use Rattle.std.proofs.lemmas.List.{get_or-map, length-map}
use Rattle.std.proofs.lemmas.List.Sorted.{All-permutation, IsPermutation-map}
use Rattle.std.proofs.lemmas.List.Elements.{All-from_recursion}
use Rattle.std.specs.List.{AllByRecursion}
use Rattle.sqlite_value.specs.declared.value.Value.{Value}
use Rattle.sqlite_value.specs.declared.value.Value.TheVariants.{Null, Int, Blob}
use Rattle.sqlite_value.specs.Order.{Row as Record, column}
use Rattle.sqlite_trees.specs.Tree.{Trees, put_row}
use Rattle.sqlite_sql.specs.Ops.{unary}
use Rattle.sqlite_sql.specs.Query.{IsAnswer, Output, output, output_cmp}
use Rattle.sqlite_sql.specs.Program.{overlay}
use Rattle.sqlite_schema.specs.declared.schema.Kind.TheVariants.{Integer}
use Rattle.sqlite_schema.specs.declared.command.Source.TheVariants.{Values}
use Rattle.sqlite_schema.specs.declared.command.Command.TheVariants.{Insert, CreateTable, Nothing}
use Rattle.sqlite_rules.specs.Edit.{edit_of, edited, left_by, are_fresh, is_taken}
use Rattle.sqlite_rules.specs.Cast.{cast}
use Rattle.sqlite_rules.specs.declared.error.Rowids.TheVariants.{Chosen}
use Rattle.sqlite_catalog.specs.Change.{created, next_tree}
use Rattle.sqlite.specs.Does.{Tally, Does, lacks_sequence}
use Rattle.sqlite.specs.Rows.{Written}
use Rattle.sqlite.specs.declared.error.Error.{Error}
use Rattle.sqlite.specs.declared.error.Error.TheVariants.{ExecuteReturnedResults}
use Rattle.sqlite_resolve.specs.declared.compiled.Compiled.{Compiled}
use Rattle.sqlite_schema.specs.declared.command.Returning.{Returning}
use Rattle.sqlite.specs.Clock.{timed}
use Rattle.sqlite.specs.Listing.{understood}
use Rattle.sqlite.specs.Effect.{Database}
use Rattle.sqlite.specs.State.{State, mode_of, Writes, Executes, ExecutesIn, IsNotRun, ExecutesInside, KeepsCommit, IsUnchanged, IsRolledBack, FailsToQuery, FailsToShow, Shown, RunsCommand, shows_rows}
use Rattle.sqlite.specs.Steps.{FailsToCommit}
use Rattle.sqlite.proofs.Callers.{statement_of, runs_as, reads_as, one_step}
use Rattle.card_ports.specs.declared.row.Row.{Row}
use Rattle.card_sqlite.specs.Kept.{create_text, insert_text, select_text, kept, no_schema, kept_schema, AddsRow, IsFor, Creates, Stays, IsSettled, AreShown, shown, by_seq}
use Rattle.card_sqlite.proofs.Texts.{create_missing, create_there, insert_is, select_is, create_plain, create_there_plain, insert_plain, select_plain, terms, query}

either : (b : Bool) (x : Value) → cond b x x ≡ x
either true x = refl
either false x = refl

cast_null : cast Integer Null ≡ Null
unfolding unary
cast_null = either _ Null

cast_seq : (n : ℕ) → cast Integer (Int (pos n)) ≡ Int (pos n)
unfolding unary
cast_seq n = either _ (Int (pos n))

-- a part that gave a value did not stop on the way
went : {B E R : Type 0} {b : B} {Stops : E → Type 0} → ((stop : E) × Stops stop × (Ok b ≡ Err stop)) ⊎ R → R
went (inl stopped) = absurd (let e = stopped.2 in cc)
went (inr on) = on

same_value : {B E : Type 0} {a b : B} → ◌≡◌ {A = Result B E} (Ok a) (Ok b) → a ≡ b
same_value e = cc

pub creates : (old new : State) (count : ℕ) → old.now.schema ≡ no_schema → Executes create_text [] old new (Ok count) → (new.now.schema ≡ kept_schema) × (new.now.trees 0 ≡ [])
creates old new count has h =
    let w = subst (λ t. Writes old new None CreateTable t [] count) create_missing.1 (runs_as create_text [] old new no_schema has CreateTable create_missing.0 create_plain count h) in
    let all = went w.changed in
    let first = went all.1 in
    let made = first.1 in
    let both : Ok made.table ≡ Ok kept = sym made.defined ∙ create_missing.2 in
    let same : made.table ≡ kept = cc in
    let schema : first.0.schema ≡ kept_schema = made.is ∙ ap (λ s. created s made.table) has ∙ ap (created no_schema) same in
    let plain : lacks_sequence first.0.schema ≡ false = ap lacks_sequence schema in
    let now : new.now ≡ first.0 = ap (λ (p : Tally × Database). p.1) (same_value all.2) ∙ same_value (rw plain at first.2) in
    (ap (λ (d : Database). d.schema) now ∙ schema, ap (λ (d : Database). d.trees 0) now ∙ subst (λ s. first.0.trees (next_tree s) ≡ []) has made.empty)

pub finds_there : (old new : State) (count : ℕ) → old.now.schema ≡ kept_schema → Executes create_text [] old new (Ok count) → IsUnchanged old new
finds_there old new count has h = (runs_as create_text [] old new kept_schema has Nothing create_there create_there_plain count h).0

-- after a CREATE outside a transaction, what is seen is committed
pub settles : (old new : State) (count : ℕ) → (old.now.schema ≡ no_schema) ⊎ (old.now.schema ≡ kept_schema) → IsSettled old → Executes create_text [] old new (Ok count) → IsSettled new
settles old new count (inl has) settled h =
    let w = runs_as create_text [] old new no_schema has CreateTable create_missing.0 create_plain count h in
    (w.shown.mode ∙ settled.0, λ _. sym (w.shown.committed_is ∙ rw settled.0))
settles old new count (inr has) settled h =
    let same = finds_there old new count has h in
    (same.0.mode ∙ settled.0, λ _. same.0.now_is ∙ settled.1 same.0.was_open ∙ sym same.0.committed_is)

-- one record is put into the tree, where none has its seq
pub adds : (old new : State) (seq : ℕ) (body : List ℕ) (count : ℕ) → old.now.schema ≡ kept_schema → Executes insert_text (Int (pos seq) ∷ Blob body ∷ []) old new (Ok count)
    → (new.now.schema ≡ kept_schema) × (new.now.trees 0 ≡ put_row (Int (pos seq) ∷ Null ∷ Blob body ∷ []) (old.now.trees 0))
    × (is_taken (old.now.trees 0) (Int (pos seq) ∷ Null ∷ Blob body ∷ []) ≡ false)
adds old new seq body count has h =
    let params = Int (pos seq) ∷ Blob body ∷ [] in
    let row = Int (pos seq) ∷ Null ∷ Blob body ∷ [] in
    let db = old.now.trees in
    let command = Insert 0 (Values terms 3) in
    let w = runs_as insert_text params old new kept_schema has command insert_is insert_plain count h in
    let text = statement_of insert_text (understood kept_schema insert_text) in
    let done = went (subst (λ s. Does old.step_limit (mode_of old) params (record old.now { schema = s }) text None command (Ok (w.tally, new.now))) has w.changed) in
    let now = ap (λ (p : Tally × Database). p.1) (same_value (went (went done.2).2).2) in
    let given = went done.1 in
    let written = went (went given.2).2 in
    let counted = went written.2 in
    let trees : done.0.trees ≡ written.0 = ap (λ (it : Written). it.trees) (same_value counted.2) ∙ same_value counted.1 in
    let step = one_step kept_schema _ db written.0 (edit_of db kept [] Chosen 0 given.0) refl written.1 in
    let edit : edited db (edit_of db kept [] Chosen 0 given.0) ≡ put_row row (db 0) = ap (λ all. edited db (edit_of db kept [] Chosen 0 all)) given.1.1 ∙ rw (cast_seq seq, cast_null) in
    let fresh : are_fresh (db 0) (row ∷ []) ≡ true = rw (cast_seq seq) at (subst (λ all. are_fresh (left_by db (edit_of db kept [] Chosen 0 all)) (edit_of db kept [] Chosen 0 all).news ≡ true) given.1.1 step.fresh) in
    (ap (λ (d : Database). d.schema) now, ap (λ (d : Database). d.trees 0) now ∙ ap (λ (t : Trees). t 0) trees ∙ step.rows ∙ edit, not_taken _ fresh)
  where
    not_taken : (b : Bool) → (not b && true) ≡ true → b ≡ false
    not_taken true e = cc
    not_taken false e = refl

pub finds : (old new : State) (rows : List Record) → old.now.schema ≡ kept_schema → Shown select_text [] old new rows → IsAnswer query (overlay old.now.trees []) [] rows
finds old new rows has h = (reads_as select_text [] old new kept_schema has _ select_is.0 select_plain select_is.1 rows h).answer Null

pub creates_for : (old new : State) (r : Result ℕ Error) → IsFor old.now.schema → Executes create_text [] old new r → OnOk r (Creates old.now new.now)
creates_for old new (Err e) for h = tt
creates_for old new (Ok count) (inl none) h = let made = creates old new count none h in inl (none, made.0, made.1)
creates_for old new (Ok count) (inr there) h = inr (there, (finds_there old new count there h).0.now_is)

pub settles_for : (old new : State) (r : Result ℕ Error) → IsFor old.now.schema → IsSettled old → Executes create_text [] old new r → OnOk r (IsSettled new)
settles_for old new (Err e) for settled h = tt
settles_for old new (Ok count) for settled h = settles old new count for settled h

-- ---- what a query shows

abbrev pair : Record → Output
pair r = (column r 0 ∷ [], shown r)

outputs : (rs : List Record) → map (output query) (flat_map (λ r. ([] ∷ r ∷ []) ∷ []) rs) ≡ map pair rs
outputs [] = refl
outputs (r ∷ rs) = ap (λ os. pair r ∷ os) (outputs rs)

seconds : (rs : List Record) → map (λ (o : Output). o.1) (map pair rs) ≡ map shown rs
seconds [] = refl
seconds (r ∷ rs) = ap (λ os. shown r ∷ os) (seconds rs)

paired : (rs : List Record) → AllByRecursion (λ (o : Output). o.0 ≡ column o.1 0 ∷ []) (map pair rs)
paired [] = tt
paired (r ∷ rs) = (refl, paired rs)

last_key : (o : Ordering) → is_lt (ordering_then o Equal) ≡ is_lt o
last_key Less = refl
last_key Equal = refl
last_key Greater = refl

sorted_seconds : (os : List Output) → All (λ (o : Output). o.0 ≡ column o.1 0 ∷ []) os → IsSorted (output_cmp query) os → IsSorted by_seq (map (λ (o : Output). o.1) os)
sorted_seconds os each sorted k d low high =
    let e : Output = ([], []) in
    let within : k + 1 < length os = rw length-map at high in
    let before : k < length os = omega arith in
    let o = get_or os (k + 1) e in
    let p = get_or os k e in
    let lt : is_lt (ordering_then (by_seq o.1 p.1) Equal) ≡ false = rw (each (k + 1) e within, each k e before) at (sorted k e low within) in
    let goal : is_lt (by_seq o.1 p.1) ≡ false = sym (last_key (by_seq o.1 p.1)) ∙ lt in
    rw (get_or-map (λ (o : Output). o.1) os (k + 1) e d within, get_or-map (λ (o : Output). o.1) os k e d before) goal

pub answered : (trees : Trees) (rows : List Record) → IsAnswer query (overlay trees []) [] rows → AreShown trees rows
answered trees rows a =
    let kept : a.kept ≡ map pair (trees 0) = a.distinct ∙ ap (map (output query)) a.grouped ∙ outputs (trees 0) in
    let same : IsPermutation (map pair (trees 0)) a.ordered = subst (λ k. IsPermutation k a.ordered) kept a.same in
    let rows_are : rows ≡ map (λ (o : Output). o.1) a.ordered = a.shown in
    let each = All-permutation (λ (o : Output). o.0 ≡ column o.1 0 ∷ []) (map pair (trees 0)) a.ordered same (All-from_recursion _ _ (paired (trees 0))) in
    let mapped = IsPermutation-map (λ (o : Output). o.1) (map pair (trees 0)) a.ordered same in record {
      same = subst₂ (λ xs ys. IsPermutation xs ys) (seconds (trees 0)) (sym rows_are) mapped;
      sorted = subst (λ ys. IsSorted by_seq ys) (sym rows_are) (sorted_seconds a.ordered each a.sorted);
    }

pub shows_for : (old new : State) (rows : List Record) → old.now.schema ≡ kept_schema → Shown select_text [] old new rows → AreShown old.now.trees rows
shows_for old new rows has h = answered old.now.trees rows (finds old new rows has h)

-- ---- what a refusal leaves

not_run : (old new : State) (sql : List ℕ) (params : Record) (e : Error) → IsNotRun old new sql params e → IsUnchanged old new ⊎ IsRolledBack old new
unfolding IsNotRun
not_run old new sql params e (inl none) = inl none.1
not_run old new sql params e (inr fails) = inr fails.3

refused : (old new : State) (sql : List ℕ) (params : Record) (c : Compiled) (e : Error) → RunsCommand old new sql c params (Err e) → IsUnchanged old new ⊎ IsRolledBack old new
refused old new sql params c e (inl none) = inl none.1
refused old new sql params c e (inr fails) = inr fails.3

alone : (b : Bool) (old new : State) (sql : List ℕ) (params : Record) (c : Compiled) (e : Error) → MatchBool b ((◌≡◌ {A = Result ℕ Error} (Err e) (Err ExecuteReturnedResults)) × IsUnchanged old new) (RunsCommand old new sql c params (Err e))
    → IsUnchanged old new ⊎ IsRolledBack old new
alone true old new sql params c e h = inl h.1
alone false old new sql params c e h = refused old new sql params c e h

pub executes_not : (old new : State) (sql : List ℕ) (params : Record) (e : Error) → Executes sql params old new (Err e) → IsUnchanged old new ⊎ IsRolledBack old new
unfolding ExecutesIn
executes_not old new sql params e (inl none) = not_run old new sql params e none
executes_not old new sql params e (inr ran) = alone (shows_rows false ran.0) old new sql (timed params ran.0.formats ran.1.now) ran.0 e ran.2

shows_not : (o : Option Returning) (old new : State) (sql : List ℕ) (params : Record) (c : Compiled) (e : Error) → FailsToShow old new sql c params e o → IsUnchanged old new ⊎ IsRolledBack old new
shows_not None old new sql params c e h = inl h.3
shows_not (Some what) old new sql params c e h = refused old new sql params c e h

pub queries_not : (old new : State) (sql : List ℕ) (params : Record) (e : Error) → FailsToQuery sql params old new e → IsUnchanged old new ⊎ IsRolledBack old new
unfolding FailsToQuery
queries_not old new sql params e (inl none) = not_run old new sql params e none
queries_not old new sql params e (inr ran) = shows_not ran.0.returning old new sql (timed params ran.0.formats ran.1.now) ran.0 e ran.2

pub left : (old new : State) → IsUnchanged old new ⊎ IsRolledBack old new → IsSettled old → Stays old new
left old new (inl same) settled is_open = same.0.now_is
left old new (inr back) settled is_open = (back.undone is_open).0 ∙ sym (settled.1 (back.was_open is_open))

pub stays_executed : (old new : State) (sql : List ℕ) (params : Record) (r : Result ℕ Error) → IsSettled old → Executes sql params old new r → OnErr r (Stays old new)
stays_executed old new sql params (Ok n) settled h = tt
stays_executed old new sql params (Err e) settled h = left old new (executes_not old new sql params e h) settled

pub adds_for : (old new : State) (row : Row) (r : Result ℕ Error) → IsTrue old.in_transaction → old.now.schema ≡ kept_schema → ExecutesInside 0 insert_text (Int (pos row.seq) ∷ Blob row.body ∷ []) old new r → OnOk r (AddsRow row old new)
adds_for old new row (Err e) inside has h = tt
adds_for old new row (Ok count) inside has h =
    let it = adds old new row.seq row.body count has h.0 in
    (it.0, record { put = it.1; free = it.2 }, h.1.mode)

pub still_inside : (old new : State) (sql : List ℕ) (params : Record) (r : Result ℕ Error) → ExecutesInside 0 sql params old new r → OnOk r (IsTrue new.in_transaction)
still_inside old new sql params (Err e) h = tt
still_inside old new sql params (Ok count) h = h.1.mode

pub keeps_then : (a b c : State) → KeepsCommit a b → KeepsCommit b c → KeepsCommit a c
keeps_then a b c p q = record { was_open = λ h. p.was_open (q.was_open h); committed = λ h. q.committed h ∙ p.committed (q.was_open h) }

-- what dropping the transaction leaves
pub undone : (old start mid new : State) → (IsTrue start.is_open → start.committed ≡ old.now) → KeepsCommit start mid → IsRolledBack mid new → Stays old new
undone old start mid new was keeps back is_open =
    let mid_open = back.was_open is_open in
    (back.undone is_open).0 ∙ keeps.committed mid_open ∙ was (keeps.was_open mid_open)

-- what a commit that fails leaves, where what is seen was settled before the transaction
pub uncommitted : (old start mid new : State) (r : Result (Unit {0}) Error) → (IsTrue start.is_open → start.committed ≡ old.now) → KeepsCommit start mid → IsTrue mid.in_transaction → IfErr r (FailsToCommit mid new)
    → OnErr r (Stays old new)
uncommitted old start mid new (Ok _) was keeps inside h = tt
uncommitted old start mid new (Err e) was keeps inside (inl fails) = undone old start mid new was keeps fails.3
uncommitted old start mid new (Err e) was keeps inside (inr none) = absurd (let e : true ≡ false = sym inside ∙ none.1 in cc)

mode_after : (old new : State) → IsUnchanged old new ⊎ IsRolledBack old new → old.in_transaction ≡ false → new.in_transaction ≡ false
mode_after old new (inl same) e = same.0.mode ∙ e
mode_after old new (inr back) e = back.autocommit

pub mode_created : (old new : State) (r : Result ℕ Error) → IsFor old.now.schema → IsSettled old → Executes create_text [] old new r → new.in_transaction ≡ false
mode_created old new (Ok count) for settled h = (settles old new count for settled h).0
mode_created old new (Err e) for settled h = mode_after old new (executes_not old new create_text [] e h) settled.0
