use Rattle.std.proofs.Common.{length, ap, arith}
use Rattle.std.proofs.lemmas.List.{length-map}
use Rattle.card_account.specs.Accounts.{OpenAccount}
use Rattle.card_desk.proofs.DeskLemmas.{found_at}
use Rattle.card_desk.specs.Desks.{OpenDesk, named_all}
use Rattle.card_desk.proofs.desk.Desk.place_of.Goals as goal

pub returns-in-Some-clause-within : goal.returns-in-Some-clause-within
returns-in-Some-clause-within c =
    let items = c.self.inside.accounts.items in
    let place = found_at c.self.inside.index (named_all items) c.args.account.now c.bytes.result.now c.in-Some.at c.self.invariant.index c.bytes.ensures.value c.in-Some.ensures in
    let low = place.bound in
    omega (arith, low, length-map items (λ (x : OpenAccount). x.named), length-map items (λ (x : OpenAccount). x.folding.past.track.entries.items), ap (λ (x : OpenDesk). length x.recorded) c.self.view_is)
