use Rattle.std.proofs.Common.{refl}
use Rattle.card_sqlite.proofs.Reading.{begins, stays_refused}
use Rattle.card_sqlite.proofs.load.read.Goals as goal

pub returns-in_err-records-clause-err : goal.returns-in_err-records-clause-err
returns-in_err-records-clause-err g c clean has settled =
    stays_refused g.S.Store c.args.conn.now c.query.follows.lender-at-none c.query.result c.from_residual.result _ c.in_err-records.was c.query.follows.holds-at-none clean settled

pub records-init : goal.records-init
records-init g c =
    let made = c.in_ok-records.ensures in
    (refl, made.survives.clean, made.mode, λ clean has. rw c.new-rows.ensures (begins g.S.Store c.args.conn.now c.in_ok-records.records.conn.now has (made.begun clean)))
