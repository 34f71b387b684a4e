use Rattle.std.proofs.Common.{refl}
use Rattle.card_ports.specs.declared.row.Row.{Row}
use Rattle.card_desk.proofs.RowLemmas.{not_new, not_spelled}
use Rattle.card_desk.proofs.load.run_row.Goals as goal

pub run_request-requires-clause-taken : goal.run_request-requires-clause-taken
run_request-requires-clause-taken g c = c.in-Some.ensures.some.spells.held

pub returns-in-Some-clause-bad : goal.returns-in-Some-clause-bad
returns-in-Some-clause-bad g c =
    let row : Row = record { seq = c.args.seq; body = c.args.body.now } in
    not_new c.run_request.result c.args.desk.now.state c.args.number row c.args.body.now c.in-Some.request refl c.in-Some.ensures.some c.run_request.ensures.new

pub returns-in-None-clause-bad : goal.returns-in-None-clause-bad
returns-in-None-clause-bad g c = λ _ r fresh.
    let row : Row = record { seq = c.args.seq; body = c.args.body.now } in
    not_spelled c.args.desk.now.state c.args.number row c.args.body.now r refl c.in-None.ensures.none fresh
