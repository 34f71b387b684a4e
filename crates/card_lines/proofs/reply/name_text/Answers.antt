use Rattle.std.proofs.Common.{sym, subst}
use Rattle.std.specs.Str.{IsUtf8}
use Rattle.card_lines.proofs.NameLemmas.{name_is_utf8}
use Rattle.card_lines.proofs.reply.name_text.Goals as goal

pub unreachable-requires : goal.unreachable-requires
unreachable-requires c = absurd (c.in-Err.ensures.cases.0 (subst IsUtf8 (sym c.bytes.ensures.value) (name_is_utf8 c.args.account.now c.bytes.ensures.name)))
