use Rattle.std.proofs.Common.{◌≡◌, true, false, sym, ◌∙◌}
use Rattle.sqlite.specs.Held.{state}
use Rattle.sqlite.proofs.StateLemmas.{survives_weaker}
use Rattle.card_sqlite.specs.Kept.{kept_schema, IsSettled}
use Rattle.card_sqlite.proofs.Fit.{outside, extends}
use Rattle.card_sqlite.proofs.store.append_if_fit.Goals as goal

pub returns-in-Ok : goal.returns-in-Ok
returns-in-Ok g c =
    let old = state g.S.Store c.args.conn.now in
    let new = state g.S.Store c.append.new.conn in
    let off : old.in_transaction ≡ false = outside _ _ c.if-not-is_autocommit.false c.is_autocommit.ensures.value in
    let has : old.now.schema ≡ kept_schema = sym c.schema.ensures.value ∙ c.is_kept_alone.ensures.0 c.if-not-is_kept_alone.false in record {
      appends = record {
        added = λ clean. extends old.now new.now c.args.rows.now has (c.in-Ok.ensures.added clean has);
        err = λ clean is_open. tt;
        crash = survives_weaker old new _ _ (λ _ db grows. grows has) c.append.ensures.crash;
        mode = λ clean. c.append.ensures.mode;
        busy = λ inside. absurd (let e : true ≡ false = sym inside ∙ off in cc);
        idle = λ none. absurd (none has);
        denied = λ inside. absurd (let e : true ≡ false = sym inside ∙ off in cc);
        unfit = λ none. absurd (none has);
      };
    }

pub returns-in-Err : goal.returns-in-Err
returns-in-Err g c =
    let old = state g.S.Store c.args.conn.now in
    let new = state g.S.Store c.append.new.conn in
    let off : old.in_transaction ≡ false = outside _ _ c.if-not-is_autocommit.false c.is_autocommit.ensures.value in
    let has : old.now.schema ≡ kept_schema = sym c.schema.ensures.value ∙ c.is_kept_alone.ensures.0 c.if-not-is_kept_alone.false in
    let settled : IsSettled old = (off, c.is_autocommit.ensures.settled c.if-not-is_autocommit.false) in record {
      appends = record {
        added = λ clean. tt;
        err = λ clean is_open. c.in-Err.ensures.err clean settled is_open;
        crash = survives_weaker old new _ _ (λ _ db grows. grows has) c.append.ensures.crash;
        mode = λ clean. c.append.ensures.mode;
        busy = λ inside. absurd (let e : true ≡ false = sym inside ∙ off in cc);
        idle = λ none. absurd (none has);
        denied = λ inside. absurd (let e : true ≡ false = sym inside ∙ off in cc);
        unfit = λ none. absurd (none has);
      };
    }
