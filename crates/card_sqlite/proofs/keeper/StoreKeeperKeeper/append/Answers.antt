use Rattle.std.proofs.Common.{ap, inr}
use Rattle.sqlite.specs.Held.{state}
use Rattle.card_sqlite.proofs.Tells.{good, clean_shown, added_result, kept_result, told_result}
use Rattle.card_sqlite.proofs.keeper.StoreKeeperKeeper.append.Goals as goal

pub returns-clause-ok : goal.returns-clause-ok
returns-clause-ok g c =
    let before = c.args.self.now.conn in
    let after = c.append_rows-appended.new.self.conn in
    let old = state g.S.Store before in
    let new = state g.S.Store after in
    let shows = g.met.S.Told.shows in
    added_result _ old new (λ t. good g.S.Store before (shows before.store t) c.schema-before.ensures) (λ t. good g.S.Store after (shows after.store t) c.schema-after.ensures) (λ t. c.append_rows-appended.ensures.appends.mode (clean_shown g.S.Store after (shows after.store t))) c.args.more.now c.requires c.append_rows-appended.result (λ t. c.append_rows-appended.ensures.appends.added (clean_shown g.S.Store after (shows after.store t)))

pub returns-clause-err : goal.returns-clause-err
returns-clause-err g c =
    let before = c.args.self.now.conn in
    let after = c.append_rows-appended.new.self.conn in
    let old = state g.S.Store before in
    let new = state g.S.Store after in
    let shows = g.met.S.Told.shows in
    kept_result _ old new (λ t. good g.S.Store before (shows before.store t) c.schema-before.ensures) (λ t. good g.S.Store after (shows after.store t) c.schema-after.ensures) (λ t. c.append_rows-appended.ensures.appends.mode (clean_shown g.S.Store after (shows after.store t))) c.args.more.now c.requires c.append_rows-appended.result (λ t. c.append_rows-appended.ensures.appends.err (clean_shown g.S.Store after (shows after.store t)) (shows after.store t).is_open)

pub returns-clause-told : goal.returns-clause-told
returns-clause-told g c =
    let before = c.args.self.now.conn in
    let after = c.append_rows-appended.new.self.conn in
    let old = state g.S.Store before in
    let new = state g.S.Store after in
    let shows = g.met.S.Told.shows in
    told_result _ old new (λ t. good g.S.Store before (shows before.store t) c.schema-before.ensures) (λ t. good g.S.Store after (shows after.store t) c.schema-after.ensures) (λ t. c.append_rows-appended.ensures.appends.mode (clean_shown g.S.Store after (shows after.store t))) c.args.more.now c.requires c.append_rows-appended.result (λ t. c.append_rows-appended.ensures.appends.added (clean_shown g.S.Store after (shows after.store t))) (λ t. c.append_rows-appended.ensures.appends.err (clean_shown g.S.Store after (shows after.store t)) (shows after.store t).is_open) (λ inside. ap (state g.S.Store) (c.append_rows-appended.ensures.appends.busy inside)) (λ unfit. ap (state g.S.Store) (c.append_rows-appended.ensures.appends.idle (λ there. unfit (inr there))))
