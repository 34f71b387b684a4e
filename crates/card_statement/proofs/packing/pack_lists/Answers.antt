use Rattle.std.proofs.Common.{ap, ◌∙◌}
use Rattle.card_statement.specs.Packing.{closing_in, deferreds_in, moves_in, rates_in}
use Rattle.card_statement.proofs.PackingLaws.{closing_is, deferreds_are, moves_are, rates_are}
use Rattle.card_statement.proofs.packing.pack_lists.Goals as goal

pub returns-clause-moves : goal.returns-clause-moves
returns-clause-moves c = ap moves_in c.in_ok-words.ensures.written ∙ moves_are c.args.moves.now c.args.rates.now c.args.deferred.now c.args.closing.now c.in_ok-words.ensures.moves

pub returns-clause-rates : goal.returns-clause-rates
returns-clause-rates c = ap rates_in c.in_ok-words.ensures.written ∙ rates_are c.args.moves.now c.args.rates.now c.args.deferred.now c.args.closing.now c.in_ok-words.ensures.rates

pub returns-clause-deferred : goal.returns-clause-deferred
returns-clause-deferred c = ap deferreds_in c.in_ok-words.ensures.written ∙ deferreds_are c.args.moves.now c.args.rates.now c.args.deferred.now c.args.closing.now c.in_ok-words.ensures.deferred

pub returns-clause-closing : goal.returns-clause-closing
returns-clause-closing c = ap closing_in c.in_ok-words.ensures.written ∙ closing_is c.args.moves.now c.args.rates.now c.args.deferred.now c.args.closing.now c.in_ok-words.ensures.closing
