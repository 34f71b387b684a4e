use Rattle.std.proofs.Common.{◌≡◌, true, false, sym, subst, ◌∙◌}
use Rattle.sqlite.specs.Held.{state}
use Rattle.card_sqlite.specs.Kept.{IsFor, IsSettled}
use Rattle.card_sqlite.proofs.Fit.{outside}
use Rattle.card_sqlite.proofs.store.load_if_fit.Goals as goal

pub returns-in-Ok : goal.returns-in-Ok
returns-in-Ok g c =
    let old = state g.S.Store c.args.conn.now in
    let off : old.in_transaction ≡ false = outside _ _ c.if-not-is_autocommit.false c.is_autocommit.ensures.value in
    let for : IsFor old.now.schema = subst IsFor c.schema.ensures.value (c.fits.ensures.0 c.if-not-fits.false) in
    let settled : IsSettled old = (off, c.is_autocommit.ensures.settled c.if-not-is_autocommit.false) in record {
      loads = record {
        given = λ clean. c.in-Ok.ensures.given clean for;
        made = λ clean. c.in-Ok.ensures.made clean for;
        kept = λ clean is_open. (c.load.ensures.kept clean for settled is_open).1;
        mode = λ clean _. c.load.ensures.mode clean for settled;
        busy = λ inside. absurd (let e : true ≡ false = sym inside ∙ off in cc);
        idle = λ none. absurd (none for);
        denied = λ inside. absurd (let e : true ≡ false = sym inside ∙ off in cc);
        unfit = λ none. absurd (none for);
      };
    }

pub returns-in-Err : goal.returns-in-Err
returns-in-Err g c =
    let old = state g.S.Store c.args.conn.now in
    let off : old.in_transaction ≡ false = outside _ _ c.if-not-is_autocommit.false c.is_autocommit.ensures.value in
    let for : IsFor old.now.schema = subst IsFor c.schema.ensures.value (c.fits.ensures.0 c.if-not-fits.false) in
    let settled : IsSettled old = (off, c.is_autocommit.ensures.settled c.if-not-is_autocommit.false) in record {
      loads = record {
        given = λ clean. tt;
        made = λ clean. tt;
        kept = λ clean is_open. (c.load.ensures.kept clean for settled is_open).1;
        mode = λ clean _. c.load.ensures.mode clean for settled;
        busy = λ inside. absurd (let e : true ≡ false = sym inside ∙ off in cc);
        idle = λ none. absurd (none for);
        denied = λ inside. absurd (let e : true ≡ false = sym inside ∙ off in cc);
        unfit = λ none. absurd (none for);
      };
    }
