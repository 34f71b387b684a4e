use Rattle.std.proofs.Common.{refl, ap}
use Rattle.card_http.specs.Outcomes.{ledger}
use Rattle.card_http.proofs.LedgerLemmas.{at_route, looked_after}
use Rattle.card_model.specs.Machine.{State}
use Rattle.card_wire.specs.declared.route.Route.TheVariants as route
use Rattle.card_http.proofs.answering.answer_route.Goals as goal

pub returns-in-Posts : goal.returns-in-Posts
returns-in-Posts g c = at_route _ _ route.Posts _ _ _ _ c.in-Posts.is c.post.ensures

pub returns-in-Account : goal.returns-in-Account
returns-in-Account g c =
    let at = ledger g.K.Keeper.rows g.K.Keeper.faults in
    let s = c.args.desk.now.state in
    let stays = ap (λ (x : State). at x c.args.keeper.now) c.look_up.ensures.state in
    looked_after s c.args.route.now _ c.args.body.now (at s c.args.keeper.now) (at c.look_up.new.desk.state c.args.keeper.now) _ c.in-Account.is refl c.requires.fits stays c.look_up.ensures.told

pub returns-in-Statement : goal.returns-in-Statement
returns-in-Statement g c =
    let at = ledger g.K.Keeper.rows g.K.Keeper.faults in
    let s = c.args.desk.now.state in
    let stays = ap (λ (x : State). at x c.args.keeper.now) c.look_up-in-Statement.ensures.state in
    looked_after s c.args.route.now _ c.args.body.now (at s c.args.keeper.now) (at c.look_up-in-Statement.new.desk.state c.args.keeper.now) _ c.in-Statement.is refl c.requires.fits stays c.look_up-in-Statement.ensures.told

pub returns-in-Cycle : goal.returns-in-Cycle
returns-in-Cycle g c =
    let at = ledger g.K.Keeper.rows g.K.Keeper.faults in
    let s = c.args.desk.now.state in
    let stays = ap (λ (x : State). at x c.args.keeper.now) c.look_up-in-Cycle.ensures.state in
    looked_after s c.args.route.now _ c.args.body.now (at s c.args.keeper.now) (at c.look_up-in-Cycle.new.desk.state c.args.keeper.now) _ c.in-Cycle.is refl c.requires.fits stays c.look_up-in-Cycle.ensures.told

pub returns-in-Entries : goal.returns-in-Entries
returns-in-Entries g c =
    let at = ledger g.K.Keeper.rows g.K.Keeper.faults in
    let s = c.args.desk.now.state in
    let stays = ap (λ (x : State). at x c.args.keeper.now) c.look_up-in-Entries.ensures.state in
    looked_after s c.args.route.now _ c.args.body.now (at s c.args.keeper.now) (at c.look_up-in-Entries.new.desk.state c.args.keeper.now) _ c.in-Entries.is refl c.requires.fits stays c.look_up-in-Entries.ensures.told

pub returns-in-Work : goal.returns-in-Work
returns-in-Work g c =
    let at = ledger g.K.Keeper.rows g.K.Keeper.faults in
    let s = c.args.desk.now.state in
    let stays = ap (λ (x : State). at x c.args.keeper.now) c.look_up-in-Work.ensures.state in
    looked_after s c.args.route.now _ c.args.body.now (at s c.args.keeper.now) (at c.look_up-in-Work.new.desk.state c.args.keeper.now) _ c.in-Work.is refl c.requires.fits stays c.look_up-in-Work.ensures.told
