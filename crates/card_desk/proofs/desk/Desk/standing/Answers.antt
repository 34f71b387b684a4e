use Rattle.std.proofs.Common.{◌<◌, length, ap, arith}
use Rattle.std.proofs.lemmas.List.{length-map}
use Rattle.card_account.specs.Accounts.{OpenAccount}
use Rattle.card_desk.proofs.FoldLemmas.{account_at}
use Rattle.card_desk.proofs.Standing.{counted_at, standing_at}
use Rattle.card_desk.specs.Desks.{OpenDesk}
use Rattle.card_desk.proofs.desk.Desk.standing.Goals as goal

pub standing-requires : goal.standing-requires
standing-requires c =
    let d = c.self.inside in
    let items = d.accounts.items in
    let low : c.args.place < length items = omega (arith, c.requires, ap (λ (x : OpenDesk). length x.recorded) c.self.view_is, length-map items (λ (x : OpenAccount). x.folding.past.track.entries.items)) in
    account_at d.index d.common d.count d.today d.shared.items items c.args.place c.index.result.now c.self.invariant low c.index.ensures

pub returns : goal.returns
returns c =
    let d = c.self.inside in
    let items = d.accounts.items in
    let low : c.args.place < length items = omega (arith, c.requires, ap (λ (x : OpenDesk). length x.recorded) c.self.view_is, length-map items (λ (x : OpenAccount). x.folding.past.track.entries.items)) in
    record {
      stay = standing_at d.index d.common d.count d.today d.shared.items items c.args.place c.index.result.now c.args.self.now c.standing.result c.args.post.now c.self.invariant c.self.view_is low c.index.ensures c.standing.ensures.stay;
      count = counted_at d.index d.common d.count d.today d.shared.items items c.args.place c.index.result.now c.args.self.now c.standing.result c.args.post.now c.self.invariant c.self.view_is low c.index.ensures c.standing.ensures.count;
    }
