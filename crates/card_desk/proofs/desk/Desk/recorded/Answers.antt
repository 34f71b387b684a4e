use Rattle.std.proofs.Common.{◌<◌, ◌^◌, List, length, ap, sym, subst, ◌∙◌, arith}
use Rattle.std.proofs.lemmas.List.{length-map}
use Rattle.card_account.specs.Accounts.{OpenAccount, replay_of}
use Rattle.card_model.specs.declared.entry.Entry.{Entry}
use Rattle.card_desk.proofs.FoldLemmas.{account_at}
use Rattle.card_account.proofs.Recorded.{recorded_few}
use Rattle.card_desk.proofs.Entries.{reached_by, recorded_there}
use Rattle.card_desk.specs.Desks.{OpenDesk}
use Rattle.card_desk.proofs.desk.Desk.recorded.Goals as goal

pub returns-clause-few : goal.returns-clause-few
returns-clause-few c =
    let d = c.self.inside in
    let items = d.accounts.items in
    let b = c.index.result.now in
    let low : c.args.place < length items = omega (arith, c.requires, ap (λ (x : OpenDesk). length x.recorded) c.self.view_is, length-map items (λ (x : OpenAccount). x.folding.past.track.entries.items)) in
    let account = account_at d.index d.common d.count d.today d.shared.items items c.args.place b c.self.invariant low c.index.ensures in
    subst (λ (es : List Entry). length es < 2 ^ 32) (sym c.recorded.ensures.entries) (recorded_few d.common (replay_of b) account.replay)

pub returns-clause-small : goal.returns-clause-small
returns-clause-small c =
    let d = c.self.inside in
    let items = d.accounts.items in
    let low : c.args.place < length items = omega (arith, c.requires, ap (λ (x : OpenDesk). length x.recorded) c.self.view_is, length-map items (λ (x : OpenAccount). x.folding.past.track.entries.items)) in
    c.recorded.ensures.small d.today d.common (account_at d.index d.common d.count d.today d.shared.items items c.args.place c.index.result.now c.self.invariant low c.index.ensures)

pub returns-clause-entries : goal.returns-clause-entries
returns-clause-entries c =
    let d = c.self.inside in
    let items = d.accounts.items in
    let b = c.index.result.now in
    let low : c.args.place < length items = omega (arith, c.requires, ap (λ (x : OpenDesk). length x.recorded) c.self.view_is, length-map items (λ (x : OpenAccount). x.folding.past.track.entries.items)) in
    c.recorded.ensures.entries ∙ recorded_there d.index d.common d.count d.today d.shared.items items c.args.place b c.args.self.now c.self.invariant c.self.view_is low c.index.ensures

pub returns-clause-reached : goal.returns-clause-reached
returns-clause-reached c =
    let d = c.self.inside in
    let items = d.accounts.items in
    let low : c.args.place < length items = omega (arith, c.requires, ap (λ (x : OpenDesk). length x.recorded) c.self.view_is, length-map items (λ (x : OpenAccount). x.folding.past.track.entries.items)) in
    reached_by d.index d.common d.count d.today d.shared.items items c.args.place c.index.result.now c.args.self.now c.self.invariant c.self.view_is low c.index.ensures
