use Rattle.std.proofs.Common.{◌∙◌, rules, w64, FitsSigned}
use Rattle.std.proofs.lemmas.Int.{to_z-of_z}
use Rattle.card_segments.proofs.SumsBack.{moved-here}
use Rattle.card_segments.proofs.before.moved_on.Goals as goal

pub returns-then-entry-id : goal.returns-then-entry-id
returns-then-entry-id c =
    let fits : FitsSigned w64 c.args.entry.now.cents = search rules in
    to_z-of_z w64 c.args.entry.now.cents fits ∙ moved-here c.args.entry.now c.args.id c.if-entry-id.true
