use Rattle.card_lines.proofs.DatedLemmas.{read_is_dated}
use Rattle.card_lines.proofs.line_reading.read_line.Goals as goal

pub returns-clause-dated : goal.returns-clause-dated
returns-clause-dated c = read_is_dated _ _ c.read_words.ensures
