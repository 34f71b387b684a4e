use Rattle.card_lines.proofs.FieldLemmas.{first_field}
use Rattle.card_lines.proofs.fields.split_field.Goals as goal

pub returns : goal.returns
returns c = rw (c.split_at.ensures.front, c.split_at.ensures.back, c.space_at-at.ensures.value) (first_field c.args.text.now)
