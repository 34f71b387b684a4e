use Rattle.std.proofs.lemmas.Str.{IsUtf8-append}
use Rattle.card_text.specs.Export.{export_text}
use Rattle.card_text.proofs.EntryLemmas.{columns_are_text}
use Rattle.card_text.proofs.export.export_bytes.Goals as goal

pub returns-in-Ok-clause-utf8 : goal.returns-in-Ok-clause-utf8
unfolding export_text
returns-in-Ok-clause-utf8 c = IsUtf8-append _ _ columns_are_text c.in_ok-write_entries.ensures.utf8
