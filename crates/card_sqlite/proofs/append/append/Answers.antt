use Rattle.std.proofs.Common.{◌≡◌, sym, subst, arith, rules, IsTrue, OnErr, refl}
use Rattle.sqlite_trees.specs.Tree.{Trees}
use Rattle.sqlite.specs.State.{HasCleanDisk, Survives}
use Rattle.sqlite.specs.Held.{state}
use Rattle.sqlite.proofs.StateLemmas.{survives_then}
use Rattle.sqlite.proofs.Callers.{survives_begin}
use Rattle.card_sqlite.specs.Kept.{kept_schema, Grows, Stays}
use Rattle.card_sqlite.proofs.Statements.{uncommitted}
use Rattle.card_sqlite.proofs.append.append.Goals as goal

pub returns-clause-err : goal.returns-clause-err
returns-clause-err g c clean settled =
    let old = state g.S.Store c.args.conn.now in
    let start = state g.S.Store c.transaction-tx.result.conn.now in
    let mid = state g.S.Store c.insert_all.new.tx.conn.now in
    let end = c.commit.new.self.0 in
    let begun = c.transaction-tx.ensures.begun in
    let same : end ≡ c.conn-2-1.given.0 = search rules in
    let late : HasCleanDisk (state g.S.Store end) = subst (λ h. HasCleanDisk (state g.S.Store h)) (sym same) clean in
    let early : HasCleanDisk mid = omega (arith, c.commit.ensures.survives.clean, late) in
    let inside : IsTrue start.in_transaction = rw begun refl in
    let was : IsTrue start.is_open → start.committed ≡ old.now = rw begun (λ h. sym (settled.1 h)) in
    let left = uncommitted old start mid (state g.S.Store end) c.commit.result was (c.insert_all.ensures.kept early inside) (c.in_ok-insert_all.ensures.inside early inside) (c.commit.ensures.err late) in
    subst (λ h. OnErr c.commit.result (Stays old (state g.S.Store h))) same left

pub returns-clause-crash : goal.returns-clause-crash
returns-clause-crash g c =
    let old = c.args.conn.now in
    let mid = c.insert_all.new.tx.conn.now in
    let end = c.commit.new.self.0 in
    let begun = c.transaction-tx.ensures.begun in
    let P = λ (trees : Trees). (state g.S.Store old).now.schema ≡ kept_schema → Grows (state g.S.Store old).now.trees c.args.rows.now trees in
    let inside = c.insert_all.ensures.survives in
    let ran = λ (clean : HasCleanDisk (state g.S.Store mid)). rw begun at (c.in_ok-insert_all.ensures.added clean) in
    let whole = survives_then (state g.S.Store old) (state g.S.Store mid) (state g.S.Store end) _ _ P (λ _ db none. absurd none)
    (λ clean db is has. subst (λ t. Grows (state g.S.Store old).now.trees c.args.rows.now t) (sym is) (ran (omega (arith, c.commit.ensures.survives.clean)) refl has).1)
    (survives_begin g.S.Store old (state g.S.Store mid) _ (rw begun at inside)) c.commit.ensures.survives in
    let same : end ≡ c.conn-2-1.given.0 = search rules in
    subst (λ h. Survives (state g.S.Store old) (state g.S.Store h) P) same whole
