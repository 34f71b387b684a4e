use Rattle.std.proofs.Common.{◌≡◌, ◌⊎◌, ◌+◌, ◌≤◌, inl, inr, sym, subst}
use Rattle.std.specs.Prelude.{OnErr, OnOk}
use Rattle.card_account.specs.Accounts.{HasTold, IsTold, OpenAccount, replay_of, steps_of}
use Rattle.card_account.proofs.Told.{all-or-none, either-of, has-told, on-both, spent-by, told-by, with_replay}
use Rattle.std.proofs.lemmas.Result.{on_ok_weaker}
use Rattle.card_replay.specs.Replays.{IsReplay, MayReach}
use Rattle.card_account.proofs.account.Account.to_day.Goals as goal

pub to_day-requires-clause-replay : goal.to_day-requires-clause-replay
to_day-requires-clause-replay g c = subst (λ (a : OpenAccount). IsReplay c.args.shared.now (replay_of a)) (sym c.self.view_is) c.requires.account.replay

pub to_day-requires-clause-reach : goal.to_day-requires-clause-reach
to_day-requires-clause-reach g c = subst (λ (a : OpenAccount). MayReach c.args.today (replay_of a)) (sym c.self.view_is) c.requires.account.reach

pub returns-clause-told : goal.returns-clause-told
returns-clause-told g c =
    let today = c.args.today in
    let shared = c.args.shared.now in
    let name = c.self.inside.name in
    let old = c.self.inside.replay in
    let new = c.to_day.new.self in
    let did = c.to_day.ensures in
    let reach = subst (λ (a : OpenAccount). MayReach today (replay_of a)) (sym c.self.view_is) c.requires.account.reach in
    subst (λ (a : OpenAccount). IsTold today shared a (with_replay name new)) c.self.view_is
    (told-by today shared name old new reach did.same did.replay
    (either-of c.to_day.result (new.folding.reached ≡ today) (new.folding.reached ≡ old.folding.reached) ((new.folding.reached ≡ today) ⊎ (new.folding.reached ≡ old.folding.reached)) (λ e. inl e) (λ e. inr e) did.reached did.err)
    (all-or-none c.to_day.result today shared old new reach did.same did.replay did.reached did.late))

pub returns-clause-today : goal.returns-clause-today
returns-clause-today g c =
    let today = c.args.today in
    let shared = c.args.shared.now in
    let name = c.self.inside.name in
    let old = c.self.inside.replay in
    let new = c.to_day.new.self in
    let did = c.to_day.ensures in
    let reach = subst (λ (a : OpenAccount). MayReach today (replay_of a)) (sym c.self.view_is) c.requires.account.reach in
    subst (λ (a : OpenAccount). OnOk c.to_day.result (HasTold today shared a (with_replay name new))) c.self.view_is
    (on_ok_weaker c.to_day.result
    (λ (e : new.folding.reached ≡ today). has-told today shared (with_replay name old) (with_replay name new) (told-by today shared name old new reach did.same did.replay (inl e) (all-or-none c.to_day.result today shared old new reach did.same did.replay did.reached did.late)) e) did.reached)

pub returns-clause-most : goal.returns-clause-most
returns-clause-most g c =
    subst (λ (a : OpenAccount). c.to_day.new.steps ≤ c.args.steps.now + steps_of c.args.today c.args.shared.now a) c.self.view_is c.to_day.ensures.most

pub returns-clause-spent : goal.returns-clause-spent
returns-clause-spent g c =
    let today = c.args.today in
    let shared = c.args.shared.now in
    let name = c.self.inside.name in
    let old = c.self.inside.replay in
    let new = c.to_day.new.self in
    let before = c.args.steps.now in
    let after = c.to_day.new.steps in
    let did = c.to_day.ensures in
    subst (λ (a : OpenAccount). OnOk c.to_day.result (after + steps_of today shared (with_replay name new) ≤ before + steps_of today shared a)) c.self.view_is
    (on-both c.to_day.result (after ≡ before + steps_of today shared (with_replay name old)) (new.folding.reached ≡ today)
    (after + steps_of today shared (with_replay name new) ≤ before + steps_of today shared (with_replay name old))
    (λ e r. spent-by today shared (with_replay name old) (with_replay name new) before after e r) did.steps did.reached)

pub returns-clause-late : goal.returns-clause-late
returns-clause-late g c =
    subst (λ (a : OpenAccount). OnErr c.to_day.result (c.to_day.new.self.late ≡ a.late)) c.self.view_is c.to_day.ensures.late
