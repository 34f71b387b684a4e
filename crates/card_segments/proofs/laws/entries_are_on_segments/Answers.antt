use Rattle.card_segments.proofs.Known.{debit-on, holds-known, lowers-known, releases-known}
use Rattle.card_segments.proofs.laws.entries_are_on_segments.Goals as goal

pub returns-clause-debit : goal.returns-clause-debit
returns-clause-debit c = debit-on

pub returns-clause-credit : goal.returns-clause-credit
returns-clause-credit c = lowers-known

pub returns-clause-hold : goal.returns-clause-hold
returns-clause-hold c = holds-known

pub returns-clause-release : goal.returns-clause-release
returns-clause-release c = releases-known
