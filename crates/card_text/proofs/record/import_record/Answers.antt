use Rattle.card_text.proofs.DatedLemmas.{read_is_dated}
use Rattle.card_text.proofs.HeaderLemmas.{read_none}
use Rattle.card_text.proofs.record.import_record.Goals as goal

pub returns-clause-none : goal.returns-clause-none
returns-clause-none c = read_none _ _ _ c.read_item.ensures

pub returns-clause-dated : goal.returns-clause-dated
returns-clause-dated c = read_is_dated _ _ _ c.read_item.ensures
