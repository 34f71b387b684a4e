use Rattle.std.proofs.Common.{take, ◌++◌, [], ◌∷◌, ◌∙◌, sym, ap, subst, arith}
use Rattle.std.proofs.lemmas.List.{take_more}
use Rattle.sqlite.specs.State.{HasCleanDisk}
use Rattle.sqlite.specs.Held.{state}
use Rattle.sqlite.proofs.StateLemmas.{survives_then}
use Rattle.card_sqlite.specs.Kept.{Grows}
use Rattle.card_sqlite.proofs.Statements.{keeps_then}
use Rattle.card_sqlite.proofs.Order.{grows_on}
use Rattle.card_sqlite.proofs.append.insert_all.Goals as goal

pub loop-row-preserved : goal.loop-row-preserved
loop-row-preserved g c =
    let old = state g.S.Store c.args.tx.now.conn.now in
    let mid = state g.S.Store c.loop-row.tx.conn.now in
    let new = state g.S.Store c.insert.new.tx.conn.now in
    let inv = c.loop-row.invariant in
    let rows = c.args.rows.now in
    let i = c.loop-row.row-index in
    let row = c.row-item.result in
    let more = take_more rows i row c.loop-row-test.true ∙ ap (λ r. take i rows ++ r ∷ []) (sym c.row-item.is) in (
      c.insert.ensures.same_reference ∙ inv.0,
      survives_then old mid new _ _ (λ _. ⊥) (λ _ db none. none) (λ _ db none. none) inv.1 c.insert.ensures.survives,
      λ clean inside.
          let early : HasCleanDisk mid = omega (arith, c.insert.ensures.survives.clean) in
          let so = inv.2 early inside in (
            c.in_ok-insert.ensures.inside clean so.0,
            keeps_then old mid new so.1 (c.insert.ensures.kept clean so.0),
            λ has.
                let was = so.2 has in
                let added = c.in_ok-insert.ensures.added clean so.0 was.0 in
                (added.0, subst (λ rs. Grows old.now.trees rs new.now.trees) (sym more) (grows_on old.now.trees mid.now.trees new.now.trees (take i rows) row was.1 added.1), added.2),
          ),
    )
