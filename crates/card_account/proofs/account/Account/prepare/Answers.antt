use Rattle.std.proofs.Common.{◌≡◌, None, sym, subst}
use Rattle.card_account.specs.Accounts.{IsTold, OpenAccount, replay_of}
use Rattle.card_account.proofs.Told.{told-by, turned, with_replay}
use Rattle.card_daily.specs.Given.{IsSound}
use Rattle.card_events.specs.Keys.{with_key}
use Rattle.card_model.specs.Machine.{accepted}
use Rattle.card_model.specs.Refusals.{reason_against}
use Rattle.card_replay.specs.Changes.{FoldsIfNeeded}
use Rattle.card_replay.specs.Replays.{IsReplay, MayReach, given_of, present_of}
use Rattle.card_replay.specs.Steps.{AreFewToPrepare}
use Rattle.card_account.proofs.account.Account.prepare.Goals as goal

pub prepare-requires-clause-replay : goal.prepare-requires-clause-replay
prepare-requires-clause-replay g c = subst (λ (a : OpenAccount). IsReplay c.args.shared.now (replay_of a)) (sym c.self.view_is) c.requires.account.replay

pub prepare-requires-clause-reach : goal.prepare-requires-clause-reach
prepare-requires-clause-reach g c = subst (λ (a : OpenAccount). MayReach c.args.today (replay_of a)) (sym c.self.view_is) c.requires.account.reach

pub first_change-from-requires-clause-replay : goal.first_change-from-requires-clause-replay
first_change-from-requires-clause-replay g c = subst (λ (a : OpenAccount). IsReplay c.args.shared.now (replay_of a)) (sym c.self.view_is) c.requires.account.replay

pub first_change-from-requires-clause-reach : goal.first_change-from-requires-clause-reach
first_change-from-requires-clause-reach g c = subst (λ (a : OpenAccount). MayReach c.args.today (replay_of a)) (sym c.self.view_is) c.requires.account.reach

pub first_change-from-requires-clause-no_reason : goal.first_change-from-requires-clause-no_reason
first_change-from-requires-clause-no_reason g c =
    subst (λ (a : OpenAccount). reason_against (present_of c.args.today c.args.shared.now a.named.lists) c.args.post.now ≡ None) (sym c.self.view_is) c.requires.no_reason

pub prepare-requires-clause-fresh : goal.prepare-requires-clause-fresh
prepare-requires-clause-fresh g c = subst (λ (a : OpenAccount). with_key c.args.key a.named.lists.posts ≡ None) (sym c.self.view_is) c.requires.fresh

pub prepare-requires-clause-no_reason : goal.prepare-requires-clause-no_reason
prepare-requires-clause-no_reason g c =
    subst (λ (a : OpenAccount). reason_against (present_of c.args.today c.args.shared.now a.named.lists) c.args.post.now ≡ None) (sym c.self.view_is) c.requires.no_reason

pub prepare-requires-clause-sound : goal.prepare-requires-clause-sound
prepare-requires-clause-sound g c =
    subst (λ (a : OpenAccount). IsSound (given_of (accepted (present_of c.args.today c.args.shared.now a.named.lists) c.args.key c.args.post.now) c.args.shared.now)) (sym c.self.view_is) c.requires.sound

pub returns-clause-told : goal.returns-clause-told
returns-clause-told g c =
    let today = c.args.today in
    let shared = c.args.shared.now in
    let name = c.self.inside.name in
    let old = c.self.inside.replay in
    let new = c.prepare.new.self in
    let did = c.prepare.ensures in
    let reach = subst (λ (a : OpenAccount). MayReach today (replay_of a)) (sym c.self.view_is) c.requires.account.reach in
    subst (λ (a : OpenAccount). IsTold today shared a (with_replay name new)) c.self.view_is
    (told-by today shared name old new reach did.same did.replay
    (turned (new.folding.reached ≡ old.folding.reached) (new.folding.reached ≡ today) did.reached) did.all)

pub returns-clause-idle : goal.returns-clause-idle
returns-clause-idle g c =
    subst (λ (a : OpenAccount). FoldsIfNeeded c.args.post.now a.folding c.prepare.new.self.folding c.args.steps.now c.prepare.new.steps) c.self.view_is c.prepare.ensures.idle

pub returns-clause-most : goal.returns-clause-most
returns-clause-most g c =
    subst (λ (a : OpenAccount). AreFewToPrepare c.args.today c.args.shared.now a.named.lists a.folding.reached c.args.key c.args.post.now c.args.steps.now c.prepare.new.steps) c.self.view_is c.prepare.ensures.most

pub returns-clause-prepared : goal.returns-clause-prepared
returns-clause-prepared g c = c.prepare.ensures.prepared

pub returns-clause-ready : goal.returns-clause-ready
returns-clause-ready g c = c.prepare.ensures.ready
