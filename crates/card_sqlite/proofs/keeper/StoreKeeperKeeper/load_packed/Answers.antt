use Rattle.std.proofs.Common.{ap}
use Rattle.sqlite.specs.Held.{state}
use Rattle.card_sqlite.proofs.Tells.{good, clean_shown, given_packed, told_kept_all, told_same}
use Rattle.card_sqlite.proofs.keeper.StoreKeeperKeeper.load_packed.Goals as goal

pub returns-clause-given : goal.returns-clause-given
returns-clause-given g c =
    let before = c.args.self.now.conn in
    let after = c.load_rows_packed-loaded.new.self.conn in
    let old = state g.S.Store before in
    let new = state g.S.Store after in
    let shows = g.met.S.Told.shows in
    given_packed _ old new (λ t. good g.S.Store before (shows before.store t) c.schema-before.ensures) (λ t. good g.S.Store after (shows after.store t) c.schema-after.ensures) c.load_rows_packed-loaded.result (λ t. c.load_rows_packed-loaded.ensures.loads.given (clean_shown g.S.Store after (shows after.store t)))

pub returns-clause-kept : goal.returns-clause-kept
returns-clause-kept g c =
    let before = c.args.self.now.conn in
    let after = c.load_rows_packed-loaded.new.self.conn in
    let old = state g.S.Store before in
    let new = state g.S.Store after in
    let shows = g.met.S.Told.shows in
    told_kept_all _ old new (λ t. good g.S.Store before (shows before.store t) c.schema-before.ensures) (λ t. good g.S.Store after (shows after.store t) c.schema-after.ensures) (λ t. c.load_rows_packed-loaded.ensures.loads.mode (clean_shown g.S.Store after (shows after.store t))) (λ t. c.load_rows_packed-loaded.ensures.loads.kept (clean_shown g.S.Store after (shows after.store t)) (shows after.store t).is_open)

pub returns-clause-told : goal.returns-clause-told
returns-clause-told g c =
    let before = c.args.self.now.conn in
    let after = c.load_rows_packed-loaded.new.self.conn in
    let old = state g.S.Store before in
    let new = state g.S.Store after in
    let shows = g.met.S.Told.shows in
    told_same _ old new (told_kept_all _ old new (λ t. good g.S.Store before (shows before.store t) c.schema-before.ensures) (λ t. good g.S.Store after (shows after.store t) c.schema-after.ensures) (λ t. c.load_rows_packed-loaded.ensures.loads.mode (clean_shown g.S.Store after (shows after.store t))) (λ t. c.load_rows_packed-loaded.ensures.loads.kept (clean_shown g.S.Store after (shows after.store t)) (shows after.store t).is_open)) (λ inside. ap (state g.S.Store) (c.load_rows_packed-loaded.ensures.loads.busy inside)) (λ unfit. ap (state g.S.Store) (c.load_rows_packed-loaded.ensures.loads.idle unfit))
