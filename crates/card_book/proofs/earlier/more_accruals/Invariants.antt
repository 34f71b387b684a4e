use Rattle.std.proofs.Common.{◌≡◌, ◌++◌, replicate}
use Rattle.card_closing.specs.Accruals.{nothing_accrued}
use Rattle.card_book.proofs.earlier.more_accruals.Given as goal

abbrev pub invariant-loop : goal.invariant-loop
invariant-loop l = l.more.items ≡ l.accruals ++ replicate l.counter nothing_accrued
