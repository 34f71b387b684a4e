use Rattle.std.proofs.Common.{◌≡◌, ◌+◌, ◌≤◌, List, ap, sym, subst, ◌∙◌}
use Rattle.std.specs.Prelude.{IfOk}
use Rattle.card_account.specs.Accounts.{IsTold, OpenAccount, issued_statement, replay_of, steps_of}
use Rattle.card_account.proofs.Told.{told-made, with_replay}
use Rattle.card_model.specs.Cycles.{IssuedRow}
use Rattle.card_replay.specs.Replays.{IsReplay, MayReach}
use Rattle.card_replay.proofs.Beside.{all-or-none, any-ok}
use Rattle.card_account.proofs.account.Account.issued.Goals as goal

pub make_owed-requires-clause-replay : goal.make_owed-requires-clause-replay
make_owed-requires-clause-replay g c = subst (λ (a : OpenAccount). IsReplay c.args.shared.now (replay_of a)) (sym c.self.view_is) c.requires.replay

pub make_owed-requires-clause-reach : goal.make_owed-requires-clause-reach
make_owed-requires-clause-reach g c = subst (λ (a : OpenAccount). MayReach c.args.today (replay_of a)) (sym c.self.view_is) c.requires.reach

pub returns-clause-told : goal.returns-clause-told
returns-clause-told g c =
    let today = c.args.today in
    let shared = c.args.shared.now in
    let name = c.self.inside.name in
    let did = c.make_owed.ensures in
    let reach = subst (λ (a : OpenAccount). MayReach today (replay_of a)) (sym c.self.view_is) c.requires.reach in
    subst (λ (a : OpenAccount). IsTold today shared a (with_replay name c.make_owed.new.self)) c.self.view_is
    (told-made today shared name c.self.inside.replay c.make_owed.new.self reach did.same did.replay did.folding
    (all-or-none c.make_owed.result c.self.inside.replay.late c.make_owed.new.self.late did.none did.err))

pub returns-clause-folding : goal.returns-clause-folding
returns-clause-folding g c = c.make_owed.ensures.folding ∙ ap (λ (a : OpenAccount). a.folding) c.self.view_is

pub returns-clause-value : goal.returns-clause-value
returns-clause-value g c =
    let made = c.made.ensures.value ∙ (c.in_ok-make_owed.ensures.made ∙ ap (λ (a : OpenAccount). a.named.lists.issued) c.self.view_is) in
    subst (λ (rows : List IssuedRow). IfOk c.issued_of.result (λ s. s ≡ issued_statement c.args.cycle rows)) made c.issued_of.ensures

pub returns-clause-idle : goal.returns-clause-idle
returns-clause-idle g c none = c.make_owed.ensures.idle (ap (λ (a : OpenAccount). a.late.owed) c.self.view_is ∙ none)

pub returns-clause-most : goal.returns-clause-most
returns-clause-most g c =
    subst (λ (a : OpenAccount). c.make_owed.new.steps ≤ c.args.steps.now + steps_of c.args.today c.args.shared.now a) c.self.view_is c.make_owed.ensures.most

pub returns-clause-none : goal.returns-clause-none
returns-clause-none g c = any-ok c.issued_of.result _ c.in_ok-make_owed.ensures.none
