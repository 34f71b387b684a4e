use Rattle.std.proofs.Common.{◌≡◌, List, ◌++◌, length}
use Rattle.card_text.specs.Import.{items_of_bytes}
use Rattle.card_text.specs.declared.item.Item.{Item}
use Rattle.card_commands.specs.Imported.{HandledAll}
use Rattle.card_commands.specs.Written.{sides}
use Rattle.card_commands.proofs.import.handle_records.Given as goal

abbrev pub invariant-loop-item : goal.invariant-loop-item
invariant-loop-item g l =
    let at = sides g.O.Sink.taken g.O.Sink.faults g.K.Keeper.rows g.K.Keeper.faults in
    record {
      done : List Item;
      parts : items_of_bytes l.bytes ≡ done ++ l.records;
      handled : HandledAll (at l.initial.output l.initial.keeper) (at l.output l.keeper) l.initial.run done l.run;
    }

abbrev pub decreases-loop-item : goal.decreases-loop-item
decreases-loop-item g l = length l.records
