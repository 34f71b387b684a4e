use Rattle.std.proofs.Common.{◌+◌, ◌∙◌, ap}
use Rattle.card_text.specs.Import.{items_of}
use Rattle.card_text.proofs.ItemLemmas.{no_items}
use Rattle.card_text.proofs.records.Records.next_item.Goals as goal

pub returns-in-Err-clause-err : goal.returns-in-Err-clause-err
returns-in-Err-clause-err c = ap (items_of (c.self.inside.number + 1)) c.end.ensures ∙ no_items (c.self.inside.number + 1)
