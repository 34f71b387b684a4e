use Rattle.std.proofs.Common.{◌+◌, length, sym, ap, subst, ◌∙◌}
use Rattle.card_account.specs.Accounts.{OpenAccount, replay_of}
use Rattle.card_model.specs.Machine.{accepted}
use Rattle.card_replay.specs.Changes.{IsPrepared, lists_with}
use Rattle.card_replay.specs.Steps.{IsNear}
use Rattle.card_account.proofs.account.Account.commit.Goals as goal

pub commit-requires : goal.commit-requires
commit-requires c = record { prepared = subst (λ (a : OpenAccount). IsPrepared c.args.shared.now c.args.change (replay_of a)) (sym c.self.view_is) c.requires.prepared }

pub returns-clause-lists : goal.returns-clause-lists
unfolding accepted
returns-clause-lists c =
    let shared = c.args.shared.now in
    c.commit.ensures.committed.lists ∙ ap (λ (a : OpenAccount). lists_with shared c.args.change a.named.lists) c.self.view_is

pub returns-clause-account : goal.returns-clause-account
returns-clause-account c = record { replay = c.commit.ensures.replay; reach = c.commit.ensures.reach }

pub returns-clause-reached : goal.returns-clause-reached
returns-clause-reached c =
    let shared = c.args.shared.now in
    let new = c.commit.new.self in
    record {
      near = subst (λ (a : OpenAccount). IsNear shared a.named.lists new.lists a.folding.reached new.folding.reached) c.self.view_is c.commit.ensures.near;
      last = c.commit.ensures.reach.later;
    }

pub returns-clause-number : goal.returns-clause-number
returns-clause-number c = c.commit.ensures.number ∙ ap (λ (a : OpenAccount). length a.named.lists.posts + 1) c.self.view_is
