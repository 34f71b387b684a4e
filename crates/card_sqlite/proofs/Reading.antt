-- Records that are read one at a time.
use Rattle.std.proofs.Common.{◌≡◌, List, [], ◌∷◌, ◌++◌, Some, None, Result, Ok, Err, OnErr, refl, sym, ◌∙◌}
use Rattle.std.proofs.lemmas.List.{map-append}
use Rattle.std.proofs.lemmas.List.Elements.{All-push, All-nil}
use Rattle.sqlite_trees.specs.declared.store.Store.{Ghosts}
use Rattle.sqlite_value.specs.Order.{Row as Record, column}
use Rattle.sqlite.specs.declared.error.Error.{Error}
use Rattle.sqlite.specs.Values.{IsInt}
use Rattle.sqlite.specs.State.{HasCleanDisk, IsUnchanged}
use Rattle.sqlite.specs.Held.{Held, state}
use Rattle.sqlite.specs.Given.{HasBegun, Advances, IsRefused}
use Rattle.sqlite.proofs.Callers.{begun_plain}
use Rattle.card_ports.specs.declared.row.Row.{Row}
use Rattle.card_sqlite.specs.Kept.{select_text, kept_schema, row_in, AreKept, IsSettled, Stays}
use Rattle.card_sqlite.specs.Reading.{HasRead}
use Rattle.card_sqlite.proofs.Texts.{select_plain}
use Rattle.card_sqlite.proofs.Statements.{shows_for, queries_not, left}

-- one more is read
pub read_one : {S : Type 0} (g : Ghosts S) (old new : Held S) (row : Record) (before after : List Row) → Advances g old new (Some row) → IsInt (column row 0) → after ≡ before ++ row_in row ∷ []
    → HasRead g old before → HasRead g new after
read_one g old new row before after moves int is was = record {
  given = was.given ++ row ∷ [];
  gives = moves select_text [] was.given was.gives;
  numbered = All-push (λ r. IsInt (column r 0)) was.given row was.numbered int;
  read = is ∙ rw (was.read) (sym (map-append row_in was.given (row ∷ [])));
}

-- those that were read are all
pub read_all : {S : Type 0} (g : Ghosts S) (old new : Held S) (rows : List Row) → Advances g old new None → HasRead g old rows → (state g old).now.schema ≡ kept_schema → AreKept (state g old).now.trees rows
read_all g old new rows moves was has =
    record { ordered = was.given; shown_are = shows_for (state g old) (state g new) was.given has (moves select_text [] was.given was.gives); numbered = was.numbered; read = was.read }

-- none is read yet
pub begins : {S : Type 0} (g : Ghosts S) (old new : Held S) → (state g old).now.schema ≡ kept_schema → HasBegun g select_text [] old new → HasRead g new [] × IsUnchanged (state g old) (state g new)
begins g old new has h =
    let begun = begun_plain g select_text [] old new (rw has select_plain) h in (record { given = []; gives = begun.0; numbered = All-nil (λ r. IsInt (column r 0)); read = refl }, begun.1)

on_err : {X P : Type 0} (r : Result X Error) → P → OnErr r P
on_err (Ok x) h = tt
on_err (Err e) h = h

-- what a query that doesn't begin leaves
pub stays_refused : {S X Y : Type 0} (g : Ghosts S) (old new : Held S) (r : Result X Error) (out : Result Y Error) (e : Error) → r ≡ Err e → OnErr r (IsRefused g select_text [] old r new) → HasCleanDisk (state g new)
    → IsSettled (state g old) → OnErr out (Stays (state g old) (state g new))
stays_refused g old new (Ok x) out e is refused clean settled = absurd (cc)
stays_refused g old new (Err f) out e is refused clean settled = on_err out (left (state g old) (state g new) (queries_not (state g old) (state g new) select_text [] f (refused.err clean)) settled)
