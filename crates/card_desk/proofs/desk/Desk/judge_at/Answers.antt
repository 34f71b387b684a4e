use Rattle.std.proofs.Common.{◌≡◌, ◌+◌, ◌≤◌, set, refl, subst, arith}
use Rattle.std.proofs.lemmas.Result.{IfOk-weaker, on_ok_weaker}
use Rattle.card_account.specs.Accounts.{steps_of}
use Rattle.card_account.specs.Verdicts.{verdict_of}
use Rattle.card_account.specs.declared.verdict.Verdict.{Verdict}
use Rattle.card_desk.proofs.DeskLemmas.{state_by}
use Rattle.card_desk.proofs.FoldLemmas.{account_at}
use Rattle.card_desk.proofs.Left.{idle_there, spent_there, steps_there}
use Rattle.card_desk.proofs.Reading.{low_in, told_desk, told_state, verdict_read}
use Rattle.card_desk.specs.Desks.{OpenDesk, now_at, open_desk}
use Rattle.card_events.specs.Keys.{with_key}
use Rattle.card_model.specs.Machine.{NamedAccount, at_key}
use Rattle.card_replay.specs.Replays.{present_of}
use Rattle.card_desk.proofs.Moves.{told-moves}
use Rattle.card_desk.proofs.Recording.{changed_at}
use Rattle.card_desk.proofs.Unmade.{told-made}
use Rattle.card_desk.proofs.desk.Desk.judge_at.Goals as goal

pub judge-requires-clause-account : goal.judge-requires-clause-account
judge-requires-clause-account g c =
    let d = c.self.inside in
    let items = d.accounts.items in
    let b = c.index_mut-account.result.now in
    let s = c.args.self.now.state in
    let state = state_by _ _ c.self.view_is in
    let is = c.index_mut-account.ensures.value in
    account_at d.index d.common d.count d.today d.shared.items items c.args.at b c.self.invariant (low_in d.shared.items d.today items s c.args.at state c.requires.place) is

pub index_mut-account-requires : goal.index_mut-account-requires
index_mut-account-requires g c =
    let d = c.self.inside in
    let low = low_in d.shared.items d.today d.accounts.items c.args.self.now.state c.args.at (state_by _ _ c.self.view_is) c.requires.place in
    omega (arith, low, d.accounts.ok.0)

pub invariant_of-self : goal.invariant_of-self
invariant_of-self g c =
    let d = c.self.inside in
    let items = d.accounts.items in
    let b = c.index_mut-account.result.now in
    let s = c.args.self.now.state in
    let state = state_by _ _ c.self.view_is in
    let is = c.index_mut-account.ensures.value in
    told_desk d.index d.common d.count d.today d.shared.items items c.args.at c.judge.new.self b s c.self.invariant state c.requires.place is c.judge.ensures.told

pub returns-clause-state : goal.returns-clause-state
returns-clause-state g c =
    let d = c.self.inside in
    let items = d.accounts.items in
    let b = c.index_mut-account.result.now in
    let s = c.args.self.now.state in
    let state = state_by _ _ c.self.view_is in
    let is = c.index_mut-account.ensures.value in
    told_state d.index d.common d.count d.today d.shared.items items c.args.at c.judge.new.self b s c.self.invariant state c.requires.place is c.judge.ensures.told

pub returns-clause-value : goal.returns-clause-value
returns-clause-value g c =
    let d = c.self.inside in
    let items = d.accounts.items in
    let b = c.index_mut-account.result.now in
    let s = c.args.self.now.state in
    let state = state_by _ _ c.self.view_is in
    let is = c.index_mut-account.ensures.value in
    let key = c.args.key.now in
    let p = c.args.post.now in
    IfOk-weaker c.judge.result (λ (v : Verdict). v ≡ verdict_of (at_key (present_of d.today d.common b.named.lists) key p (with_key key b.named.lists.posts)))
    (λ (v : Verdict). (e : NamedAccount) → v ≡ verdict_of (at_key (now_at s c.args.at e) key p (with_key key (now_at s c.args.at e).lists.posts)))
    (λ v same e. verdict_read d.index d.common d.count d.today d.shared.items items c.args.at b s e key p v c.self.invariant state c.requires.place is same) c.judge.ensures.value

pub returns-clause-most : goal.returns-clause-most
returns-clause-most g c =
    let d = c.self.inside in
    let items = d.accounts.items in
    let b = c.index_mut-account.result.now in
    let s = c.args.self.now.state in
    let state = state_by _ _ c.self.view_is in
    let is = c.index_mut-account.ensures.value in
    let left = steps_there d.index d.common d.count d.today d.shared.items items c.args.at b c.args.self.now c.self.invariant c.self.view_is (low_in d.shared.items d.today items s c.args.at state c.requires.place) is in
    subst (λ n. c.judge.new.steps ≤ c.args.steps.now + n) left c.judge.ensures.most

pub returns-clause-spent : goal.returns-clause-spent
returns-clause-spent g c =
    let d = c.self.inside in
    let items = d.accounts.items in
    let b = c.index_mut-account.result.now in
    let s = c.args.self.now.state in
    let state = state_by _ _ c.self.view_is in
    let is = c.index_mut-account.ensures.value in
    let a = c.judge.new.self in
    let low = low_in d.shared.items d.today items s c.args.at state c.requires.place in
    let after = told_desk d.index d.common d.count d.today d.shared.items items c.args.at a b s c.self.invariant state c.requires.place is c.judge.ensures.told in
    let new : OpenDesk = open_desk d.today d.shared.items (set items c.args.at a) in
    on_ok_weaker c.judge.result
    (λ (l : c.judge.new.steps + steps_of d.today d.common a ≤ c.args.steps.now + steps_of d.today d.common b).
    spent_there d.index d.common d.count d.today d.shared.items items c.args.at a b c.args.self.now new c.args.steps.now c.judge.new.steps c.self.invariant after c.self.view_is refl low is l) c.judge.ensures.spent

pub returns-clause-idle : goal.returns-clause-idle
returns-clause-idle g c =
    let d = c.self.inside in
    let items = d.accounts.items in
    let b = c.index_mut-account.result.now in
    let s = c.args.self.now.state in
    let state = state_by _ _ c.self.view_is in
    let is = c.index_mut-account.ensures.value in
    let low = low_in d.shared.items d.today items s c.args.at state c.requires.place in
    idle_there d.shared.items d.today items c.args.at b c.args.self.now c.args.key.now c.args.post.now c.args.steps.now c.judge.new.steps c.self.view_is low is
    (λ known. (c.judge.ensures.repeated known).steps) (λ alone. (c.judge.ensures.idle alone).steps)

pub returns-clause-reached : goal.returns-clause-reached
returns-clause-reached g c =
    let d = c.self.inside in
    let items = d.accounts.items in
    let b = c.index_mut-account.result.now in
    let s = c.args.self.now.state in
    let state = state_by _ _ c.self.view_is in
    let is = c.index_mut-account.ensures.value in
    told-moves d.index d.common d.count d.today d.shared.items items c.args.at c.judge.new.self b c.args.self.now c.self.invariant c.self.view_is (low_in d.shared.items d.today items s c.args.at state c.requires.place) is c.judge.ensures.told

pub returns-clause-recorded : goal.returns-clause-recorded
returns-clause-recorded g c =
    let d = c.self.inside in
    changed_at d.today d.shared.items d.accounts.items c.args.at c.judge.new.self c.args.self.now c.self.view_is

pub returns-clause-unmade : goal.returns-clause-unmade
returns-clause-unmade g c =
    let d = c.self.inside in
    let items = d.accounts.items in
    let b = c.index_mut-account.result.now in
    let s = c.args.self.now.state in
    let state = state_by _ _ c.self.view_is in
    let is = c.index_mut-account.ensures.value in
    told-made d.shared.items d.common d.today items c.args.at c.judge.new.self b c.args.self.now c.self.view_is (low_in d.shared.items d.today items s c.args.at state c.requires.place) is c.judge.ensures.told
