use Rattle.std.proofs.Common.{◌+◌, ◌≤◌, ap, subst, ◌∙◌}
use Rattle.std.proofs.Math.Seq.{map-set_same}
use Rattle.card_account.specs.Accounts.{OpenAccount}
use Rattle.card_desk.proofs.DeskLemmas.{state_by}
use Rattle.card_desk.proofs.Left.{steps_there}
use Rattle.card_desk.proofs.Reading.{low_in, told_desk, told_state}
use Rattle.card_desk.specs.Desks.{OpenDesk}
use Rattle.card_replay.specs.Replays.{Folding}
use Rattle.card_desk.proofs.Unmade.{issues-made, none-there}
use Rattle.card_desk.proofs.desk.Desk.issued_at.Goals as goal

pub invariant_of-self : goal.invariant_of-self
invariant_of-self g c =
    let d = c.self.inside in
    let s = c.args.self.now.state in
    told_desk d.index d.common d.count d.today d.shared.items d.accounts.items c.args.at c.issued.new.self c.index_mut-account.result.now s c.self.invariant (state_by _ _ c.self.view_is) c.requires.place c.index_mut-account.ensures.value c.issued.ensures.told

pub returns-clause-state : goal.returns-clause-state
returns-clause-state g c =
    let d = c.self.inside in
    let s = c.args.self.now.state in
    told_state d.index d.common d.count d.today d.shared.items d.accounts.items c.args.at c.issued.new.self c.index_mut-account.result.now s c.self.invariant (state_by _ _ c.self.view_is) c.requires.place c.index_mut-account.ensures.value c.issued.ensures.told

-- ---- its folding stays
pub returns-clause-reached : goal.returns-clause-reached
returns-clause-reached g c =
    map-set_same (λ (x : OpenAccount). x.folding.reached) c.self.inside.accounts.items c.args.at c.issued.new.self c.index_mut-account.result.now
    (ap (λ (f : Folding). f.reached) c.issued.ensures.folding ∙ ap (λ (x : OpenAccount). x.folding.reached) c.index_mut-account.ensures.value)
    ∙ ap (λ (x : OpenDesk). x.reached) c.self.view_is

pub returns-clause-recorded : goal.returns-clause-recorded
returns-clause-recorded g c =
    map-set_same (λ (x : OpenAccount). x.folding.past.track.entries.items) c.self.inside.accounts.items c.args.at c.issued.new.self c.index_mut-account.result.now
    (ap (λ (f : Folding). f.past.track.entries.items) c.issued.ensures.folding ∙ ap (λ (x : OpenAccount). x.folding.past.track.entries.items) c.index_mut-account.ensures.value)
    ∙ ap (λ (x : OpenDesk). x.recorded) c.self.view_is

-- ---- its steps
pub returns-clause-most : goal.returns-clause-most
returns-clause-most g c =
    let d = c.self.inside in
    let items = d.accounts.items in
    let b = c.index_mut-account.result.now in
    let s = c.args.self.now.state in
    let state = state_by _ _ c.self.view_is in
    let is = c.index_mut-account.ensures.value in
    let left = steps_there d.index d.common d.count d.today d.shared.items items c.args.at b c.args.self.now c.self.invariant c.self.view_is (low_in d.shared.items d.today items s c.args.at state c.requires.place) is in
    subst (λ n. c.issued.new.steps ≤ c.args.put_off.now + n) left c.issued.ensures.most

-- ---- what a load put off
pub returns-clause-unmade : goal.returns-clause-unmade
returns-clause-unmade g c =
    let d = c.self.inside in
    let items = d.accounts.items in
    let b = c.index_mut-account.result.now in
    let s = c.args.self.now.state in
    let state = state_by _ _ c.self.view_is in
    let is = c.index_mut-account.ensures.value in
    issues-made c.issued.result d.shared.items d.common d.today items c.args.at c.issued.new.self b c.args.self.now c.self.view_is (low_in d.shared.items d.today items s c.args.at state c.requires.place) is c.issued.ensures.told c.issued.ensures.none

pub returns-clause-idle : goal.returns-clause-idle
returns-clause-idle g c =
    let d = c.self.inside in
    let items = d.accounts.items in
    let b = c.index_mut-account.result.now in
    let s = c.args.self.now.state in
    let state = state_by _ _ c.self.view_is in
    let is = c.index_mut-account.ensures.value in
    λ none. c.issued.ensures.idle (none-there d.shared.items d.today items c.args.at b c.args.self.now c.self.view_is (low_in d.shared.items d.today items s c.args.at state c.requires.place) is none)
