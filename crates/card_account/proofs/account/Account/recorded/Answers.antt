use Rattle.std.proofs.Common.{ap, sym, subst, ◌∙◌}
use Rattle.card_account.specs.Accounts.{OpenAccount, replay_of}
use Rattle.card_account.specs.Entries.{AreSmallEntries}
use Rattle.card_account.proofs.Recorded.{recorded_small}
use Rattle.card_account.proofs.account.Account.recorded.Goals as goal

pub returns-clause-small : goal.returns-clause-small
returns-clause-small c = λ today shared account.
    let listed = c.recorded.ensures ∙ ap (λ (a : OpenAccount). a.folding.past.track.entries.items) c.self.view_is in
    subst AreSmallEntries (sym listed) (recorded_small shared (replay_of c.args.self.now) account.replay)
