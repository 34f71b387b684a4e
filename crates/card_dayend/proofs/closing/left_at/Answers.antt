use Rattle.std.proofs.Common.{sym, ap, ◌∙◌}
use Rattle.std.specs.Prelude.{option_copied}
use Rattle.card_dayend.proofs.closing.left_at.Goals as goal

pub left_of-requires-clause-last : goal.left_of-requires-clause-last
left_of-requires-clause-last c = sym c.requires.last ∙ ap option_copied c.in-Some.is
