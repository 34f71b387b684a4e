use Rattle.std.proofs.Common.{IsUtf8, subst}
use Rattle.std.proofs.lemmas.Str.{IsUtf8-string_bytes}
use Rattle.card_text.proofs.RowText.{row_is_text}
use Rattle.card_text.proofs.export.write_entry.Goals as goal

pub returns-in-Ok-clause-utf8 : goal.returns-in-Ok-clause-utf8
returns-in-Ok-clause-utf8 g c =
    let day = subst IsUtf8 c.in_ok-day.ensures.ok (IsUtf8-string_bytes c.in_ok-day.day) in
    let segment = subst IsUtf8 c.in_ok-segment.ensures (IsUtf8-string_bytes c.in_ok-segment.segment) in
    let kind = subst IsUtf8 c.kind_word.ensures c.kind_word.utf8 in
    let post = subst IsUtf8 c.in_ok-post.ensures.ok (IsUtf8-string_bytes c.in_ok-post.post) in
    let cents = subst IsUtf8 c.in_ok-cents.ensures.ok (IsUtf8-string_bytes c.in_ok-cents.cents) in
    row_is_text _ _ _ _ _ day segment kind post cents
