-- What a call does where no transaction is under way and the schema is the ledger's.
use Rattle.std.proofs.Common.{◌≡◌, inl, inr, Ok, Err, IsErrOf, ℕ, Bool, true, false, not, List, length, refl, sym, ap, ◌∙◌, arith}
use Rattle.sqlite_schema.specs.declared.schema.Schema.{Schema}
use Rattle.sqlite.specs.Effect.{Database}
use Rattle.card_ports.specs.declared.row.Row.{Row}
use Rattle.card_ports.specs.declared.keeper.KeeperFault.{KeeperFault}
use Rattle.sqlite_trees.specs.declared.store.Store.{Ghosts}
use Rattle.sqlite.specs.Held.{Held}
use Rattle.card_sqlite.specs.Kept.{kept_schema, Extends, GrowsTable}
use Rattle.card_sqlite.specs.Calls.{Appends}

pub outside : (said inside : Bool) → said ≡ true → said ≡ not inside → inside ≡ false
outside said true is same = absurd (let e : true ≡ false = sym is ∙ same in cc)
outside said false is same = refl

pub extends : (old new : Database) (more : List Row) → old.schema ≡ kept_schema → GrowsTable more old new → Extends old more new
extends old new more has grows rows (inl none) from = let n : ◌≡◌ {A = ℕ} 0 1 = ap (λ (s : Schema). length s.tables) (sym none.0 ∙ has) in absurd (omega arith)
extends old new more has grows rows (inr kept) from = inr (grows.0, grows.1 rows kept.1 from)

-- an append that is done, or that failed, is one whatever it gives
pub appends_ok : {S T U : Type 0} (g : Ghosts S) (more : List Row) (old new : Held S) (x : T) (y : U) → Appends g more old new (Ok x) → Appends g more old new (Ok y)
appends_ok {S} {T} g more old new x y a = record {
  added = a.added;
  err = λ clean is_open. tt;
  crash = a.crash;
  mode = a.mode;
  busy = a.busy;
  idle = a.idle;
  denied = λ inside. absurd (let same : IsErrOf {T = T} (Ok x) KeeperFault.Failed = a.denied inside in cc);
  unfit = λ none. absurd (let same : IsErrOf {T = T} (Ok x) KeeperFault.Failed = a.unfit none in cc);
}

pub appends_err : {S T U : Type 0} (g : Ghosts S) (more : List Row) (old new : Held S) (e : KeeperFault) → Appends {T = T} g more old new (Err e) → Appends {T = U} g more old new (Err e)
appends_err {S} {T} {U} g more old new e a = record {
  added = λ clean. tt;
  err = a.err;
  crash = a.crash;
  mode = a.mode;
  busy = a.busy;
  idle = a.idle;
  denied = λ inside. let same : IsErrOf {T = T} (Err e) KeeperFault.Failed = a.denied inside in cc;
  unfit = λ none. let same : IsErrOf {T = T} (Err e) KeeperFault.Failed = a.unfit none in cc;
}
