use Rattle.std.proofs.Common.{◌≡◌, None, sym, subst}
use Rattle.std.specs.Prelude.{IfOk}
use Rattle.card_account.specs.Accounts.{IsTold, OpenAccount, replay_of}
use Rattle.card_account.specs.Reached.{IsIdleToLoad}
use Rattle.card_account.proofs.Told.{told-by, turned, with_replay}
use Rattle.card_daily.specs.Given.{IsSound}
use Rattle.card_events.specs.Keys.{with_key}
use Rattle.card_model.specs.Machine.{accepted}
use Rattle.card_model.specs.Refusals.{reason_against}
use Rattle.card_replay.specs.Changes.{OwesBill}
use Rattle.card_replay.specs.Replays.{IsReplay, MayReach, given_of, present_of}
use Rattle.card_account.proofs.account.Account.prepare_loaded.Goals as goal

pub prepare_loaded-requires-clause-replay : goal.prepare_loaded-requires-clause-replay
prepare_loaded-requires-clause-replay g c = subst (λ (a : OpenAccount). IsReplay c.args.shared.now (replay_of a)) (sym c.self.view_is) c.requires.account.replay

pub prepare_loaded-requires-clause-reach : goal.prepare_loaded-requires-clause-reach
prepare_loaded-requires-clause-reach g c = subst (λ (a : OpenAccount). MayReach c.args.today (replay_of a)) (sym c.self.view_is) c.requires.account.reach

pub first_change-first-requires-clause-replay : goal.first_change-first-requires-clause-replay
first_change-first-requires-clause-replay g c = subst (λ (a : OpenAccount). IsReplay c.args.shared.now (replay_of a)) (sym c.self.view_is) c.requires.account.replay

pub first_change-first-requires-clause-reach : goal.first_change-first-requires-clause-reach
first_change-first-requires-clause-reach g c = subst (λ (a : OpenAccount). MayReach c.args.today (replay_of a)) (sym c.self.view_is) c.requires.account.reach

pub first_change-first-requires-clause-no_reason : goal.first_change-first-requires-clause-no_reason
first_change-first-requires-clause-no_reason g c =
    subst (λ (a : OpenAccount). reason_against (present_of c.args.today c.args.shared.now a.named.lists) c.args.post.now ≡ None) (sym c.self.view_is) c.requires.no_reason

pub prepare_loaded-requires-clause-fresh : goal.prepare_loaded-requires-clause-fresh
prepare_loaded-requires-clause-fresh g c = subst (λ (a : OpenAccount). with_key c.args.key a.named.lists.posts ≡ None) (sym c.self.view_is) c.requires.fresh

pub prepare_loaded-requires-clause-no_reason : goal.prepare_loaded-requires-clause-no_reason
prepare_loaded-requires-clause-no_reason g c =
    subst (λ (a : OpenAccount). reason_against (present_of c.args.today c.args.shared.now a.named.lists) c.args.post.now ≡ None) (sym c.self.view_is) c.requires.no_reason

pub prepare_loaded-requires-clause-sound : goal.prepare_loaded-requires-clause-sound
prepare_loaded-requires-clause-sound g c =
    subst (λ (a : OpenAccount). IsSound (given_of (accepted (present_of c.args.today c.args.shared.now a.named.lists) c.args.key c.args.post.now) c.args.shared.now)) (sym c.self.view_is) c.requires.sound

pub returns-clause-told : goal.returns-clause-told
returns-clause-told g c =
    let today = c.args.today in
    let shared = c.args.shared.now in
    let name = c.self.inside.name in
    let old = c.self.inside.replay in
    let new = c.prepare_loaded.new.self in
    let did = c.prepare_loaded.ensures in
    let reach = subst (λ (a : OpenAccount). MayReach today (replay_of a)) (sym c.self.view_is) c.requires.account.reach in
    subst (λ (a : OpenAccount). IsTold today shared a (with_replay name new)) c.self.view_is
    (told-by today shared name old new reach did.same did.replay
    (turned (new.folding.reached ≡ old.folding.reached) (new.folding.reached ≡ today) did.reached) did.all)

pub returns-clause-prepared : goal.returns-clause-prepared
returns-clause-prepared g c = c.prepare_loaded.ensures.prepared

pub returns-clause-owes : goal.returns-clause-owes
returns-clause-owes g c =
    subst (λ (a : OpenAccount). IfOk c.prepare_loaded.result (OwesBill c.args.today c.args.post.now a.folding.reached)) c.self.view_is c.prepare_loaded.ensures.owes

pub returns-clause-idle : goal.returns-clause-idle
returns-clause-idle g c =
    subst (λ (a : OpenAccount). IsIdleToLoad c.args.shared.now c.args.today c.args.post.now (replay_of a) c.prepare_loaded.new.self c.args.steps.now c.prepare_loaded.new.steps) c.self.view_is
    (record { from = c.first_change-first.result; first = c.first_change-first.ensures; idle = c.prepare_loaded.ensures.idle })
