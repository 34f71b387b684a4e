use Rattle.std.proofs.Common.{sym, subst}
use Rattle.card_account.specs.Accounts.{IsFoldedToday, OpenAccount, replay_of}
use Rattle.card_replay.specs.Replays.{IsToday}
use Rattle.card_account.proofs.account.Account.folded.Goals as goal

pub folded-requires : goal.folded-requires
folded-requires c = subst (λ (a : OpenAccount). IsToday c.args.today c.args.shared.now (replay_of a)) (sym c.self.view_is) c.requires

pub returns : goal.returns
returns c =
    let did = c.folded.ensures in
    subst (λ (a : OpenAccount). IsFoldedToday c.args.today c.args.shared.now a.named.lists c.folded.result) c.self.view_is
    (record { book = did.book; since = did.since; segments = did.segments })
