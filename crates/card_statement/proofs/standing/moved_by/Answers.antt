use Rattle.std.proofs.Common.{true, false, sym, ◌∙◌, rules, w64, FitsSigned}
use Rattle.std.proofs.lemmas.Int.{to_z-of_z}
use Rattle.card_statement.proofs.DayBalances.{moved-by}
use Rattle.card_statement.proofs.standing.moved_by.Goals as goal

pub returns-then-is_past : goal.returns-then-is_past
returns-then-is_past c =
    let fits : FitsSigned w64 c.args.entry.now.cents = search rules in
    to_z-of_z w64 c.args.entry.now.cents fits ∙ moved-by c.args.segment c.args.day c.args.entry.now true (sym c.is_past.ensures ∙ c.if-is_past.true)

pub returns-else-is_past : goal.returns-else-is_past
returns-else-is_past c = moved-by c.args.segment c.args.day c.args.entry.now false (sym c.is_past.ensures ∙ c.if-is_past.false)
