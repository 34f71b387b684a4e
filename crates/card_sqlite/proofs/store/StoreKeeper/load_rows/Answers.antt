use Rattle.card_sqlite.proofs.Loading.{fault_loads, unpacked_loads}
use Rattle.card_sqlite.proofs.store.StoreKeeper.load_rows.Goals as goal

pub returns-in-Ok-clause-loads : goal.returns-in-Ok-clause-loads
returns-in-Ok-clause-loads g c =
    unpacked_loads g.S.Store c.args.self.now.conn c.load_rows_packed.new.self.conn c.in-Ok.rows c.unpacked.result c.in-Ok.ensures.loads c.unpacked.ensures.same

pub returns-in-Err-clause-loads : goal.returns-in-Err-clause-loads
returns-in-Err-clause-loads g c =
    fault_loads g.S.Store c.args.self.now.conn c.load_rows_packed.new.self.conn c.in-Err.fault c.in-Err.ensures.loads
