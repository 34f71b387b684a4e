use Rattle.std.proofs.Common.{◌≡◌, [], ◌∷◌, ◌++◌, Some, slice_get, ap, sym, ◌∙◌}
use Rattle.card_commands.proofs.ImportLemmas.{fell_before, fell_between, fell_item, handled_more, handled_none, left_more}
use Rattle.card_commands.proofs.import.handle_records.Goals as goal

pub returns-in-Err-clause-err : goal.returns-in-Err-clause-err
returns-in-Err-clause-err g c = fell_before _ _ _

pub loop-item-init : goal.loop-item-init
loop-item-init g c = record { done = []; parts = sym c.in-Ok.ensures; handled = handled_none _ c.args.run.now c.requires.fits }

pub returns-in-Err-next_item-clause-err : goal.returns-in-Err-next_item-clause-err
returns-in-Err-next_item-clause-err g c = fell_between _ _ c.args.run.now c.loop-item.run _ c.loop-item.invariant.done c.loop-item.records c.loop-item.invariant.parts c.loop-item.invariant.handled

pub returns-in-Err-handle-clause-err : goal.returns-in-Err-handle-clause-err
returns-in-Err-handle-clause-err g c =
    let first : Some c.in-Ok-Some.item ≡ slice_get c.loop-item.records 0 = cc (c.in-Ok-Some.ensures.item, c.in-Ok-Some.field-0-is) in
    fell_item _ _ _ c.args.run.now c.loop-item.run _ c.loop-item.invariant.done c.loop-item.records c.in-Ok-Some.item c.in-Err-handle.stop c.loop-item.invariant.parts first c.loop-item.invariant.handled c.in-Err-handle.ensures.err

pub loop-item-preserved : goal.loop-item-preserved
loop-item-preserved g c =
    let first : Some c.in-Ok-Some.item ≡ slice_get c.loop-item.records 0 = cc (c.in-Ok-Some.ensures.item, c.in-Ok-Some.field-0-is) in
    let parts = left_more _ c.loop-item.invariant.done c.loop-item.records c.in-Ok-Some.item c.loop-item.invariant.parts first in
    record {
      done = c.loop-item.invariant.done ++ c.in-Ok-Some.item ∷ [];
      parts = parts ∙ ap (λ l. (c.loop-item.invariant.done ++ c.in-Ok-Some.item ∷ []) ++ l) (sym c.in-Ok-Some.ensures.left);
      handled = handled_more _ _ _ c.args.run.now c.loop-item.run _ c.loop-item.invariant.done c.in-Ok-Some.item c.loop-item.invariant.handled c.in-Ok-handle.ensures.ok;
    }
