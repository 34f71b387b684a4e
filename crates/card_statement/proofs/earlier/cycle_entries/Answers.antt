use Rattle.std.proofs.Common.{◌-◌, List, drop, sym, ap, ◌∙◌}
use Rattle.card_model.specs.Cycles.{Cycle}
use Rattle.card_model.specs.Folds.{cycle_at}
use Rattle.card_model.specs.Sheets.{entries_by}
use Rattle.card_model.specs.declared.entry.Entry.{Entry}
use Rattle.card_statement.proofs.earlier.cycle_entries.Goals as goal

pub returns : goal.returns
returns c b cycles entries =
    let k = c.args.cycle.now.number - 1 in
    let place = c.entries_by.ensures ∙ (ap entries_by c.cycle_before.ensures ∙ ap (λ (cs : List Cycle). entries_by (cycle_at k cs)) (sym cycles)) in
    c.entries_from.ensures ∙ (ap (λ n. drop n c.args.entries.now) place ∙ ap (λ (es : List Entry). drop (entries_by (cycle_at k b.cycles)) es) (sym entries))
