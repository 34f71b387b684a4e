use Rattle.std.proofs.Common.{◌≡◌, ◌+◌, ◌≤◌, ap, subst, ◌∙◌, arith}
use Rattle.std.proofs.lemmas.Result.{IfOk-weaker}
use Rattle.card_account.specs.Accounts.{owing_in}
use Rattle.card_account.specs.declared.owing.Owing.{Owing}
use Rattle.card_model.specs.Refusals.{book_today}
use Rattle.card_desk.proofs.DeskLemmas.{state_by}
use Rattle.card_desk.proofs.FoldLemmas.{account_at}
use Rattle.card_desk.proofs.Left.{steps_there}
use Rattle.card_desk.proofs.Reading.{book_read, low_in, told_desk, told_state}
use Rattle.card_model.specs.Machine.{NamedAccount}
use Rattle.card_replay.specs.Replays.{present_of}
use Rattle.card_desk.specs.Desks.{now_at}
use Rattle.card_desk.proofs.Moves.{tells-moves}
use Rattle.card_desk.proofs.Recording.{changed_at}
use Rattle.card_desk.proofs.Unmade.{tells-made}
use Rattle.card_desk.proofs.desk.Desk.owing_at.Goals as goal

pub show-requires : goal.show-requires
show-requires g c =
    let d = c.self.inside in
    let items = d.accounts.items in
    let b = c.index_mut-account.result.now in
    let s = c.args.self.now.state in
    let state = state_by _ _ c.self.view_is in
    let is = c.index_mut-account.ensures.value in
    account_at d.index d.common d.count d.today d.shared.items items c.args.at b c.self.invariant (low_in d.shared.items d.today items s c.args.at state c.requires.place) is

pub index_mut-account-requires : goal.index_mut-account-requires
index_mut-account-requires g c =
    let d = c.self.inside in
    let low = low_in d.shared.items d.today d.accounts.items c.args.self.now.state c.args.at (state_by _ _ c.self.view_is) c.requires.place in
    omega (arith, low, d.accounts.ok.0)

pub invariant_of-self : goal.invariant_of-self
invariant_of-self g c =
    let d = c.self.inside in
    let items = d.accounts.items in
    let b = c.index_mut-account.result.now in
    let s = c.args.self.now.state in
    let state = state_by _ _ c.self.view_is in
    let is = c.index_mut-account.ensures.value in
    told_desk d.index d.common d.count d.today d.shared.items items c.args.at c.show.new.self b s c.self.invariant state c.requires.place is c.show.ensures.told

pub returns-clause-state : goal.returns-clause-state
returns-clause-state g c =
    let d = c.self.inside in
    let items = d.accounts.items in
    let b = c.index_mut-account.result.now in
    let s = c.args.self.now.state in
    let state = state_by _ _ c.self.view_is in
    let is = c.index_mut-account.ensures.value in
    told_state d.index d.common d.count d.today d.shared.items items c.args.at c.show.new.self b s c.self.invariant state c.requires.place is c.show.ensures.told

pub returns-clause-value : goal.returns-clause-value
returns-clause-value g c =
    let d = c.self.inside in
    let items = d.accounts.items in
    let b = c.index_mut-account.result.now in
    let s = c.args.self.now.state in
    let state = state_by _ _ c.self.view_is in
    let is = c.index_mut-account.ensures.value in
    IfOk-weaker c.show.result (λ (x : Owing). x ≡ owing_in (book_today (present_of d.today d.common b.named.lists))) (λ (x : Owing). (e : NamedAccount) → x ≡ owing_in (book_today (now_at s c.args.at e)))
    (λ x same e. same ∙ ap owing_in (book_read d.index d.common d.count d.today d.shared.items items c.args.at b s e c.self.invariant state c.requires.place is)) c.show.ensures.value

pub returns-clause-most : goal.returns-clause-most
returns-clause-most g c =
    let d = c.self.inside in
    let items = d.accounts.items in
    let b = c.index_mut-account.result.now in
    let s = c.args.self.now.state in
    let state = state_by _ _ c.self.view_is in
    let is = c.index_mut-account.ensures.value in
    let left = steps_there d.index d.common d.count d.today d.shared.items items c.args.at b c.args.self.now c.self.invariant c.self.view_is (low_in d.shared.items d.today items s c.args.at state c.requires.place) is in
    subst (λ n. c.show.new.steps ≤ c.args.steps.now + n) left c.show.ensures.most

pub returns-clause-reached : goal.returns-clause-reached
returns-clause-reached g c =
    let d = c.self.inside in
    let items = d.accounts.items in
    let b = c.index_mut-account.result.now in
    let s = c.args.self.now.state in
    let state = state_by _ _ c.self.view_is in
    let is = c.index_mut-account.ensures.value in
    tells-moves c.show.result d.index d.common d.count d.today d.shared.items items c.args.at c.show.new.self b c.args.self.now c.self.invariant c.self.view_is (low_in d.shared.items d.today items s c.args.at state c.requires.place) is
    c.show.ensures.told c.show.ensures.today

pub returns-clause-recorded : goal.returns-clause-recorded
returns-clause-recorded g c =
    let d = c.self.inside in
    changed_at d.today d.shared.items d.accounts.items c.args.at c.show.new.self c.args.self.now c.self.view_is

-- ---- what a load put off
pub returns-clause-unmade : goal.returns-clause-unmade
returns-clause-unmade g c =
    let d = c.self.inside in
    let items = d.accounts.items in
    let b = c.index_mut-account.result.now in
    let s = c.args.self.now.state in
    let state = state_by _ _ c.self.view_is in
    let is = c.index_mut-account.ensures.value in
    tells-made c.show.result d.shared.items d.common d.today items c.args.at c.show.new.self b c.args.self.now c.self.view_is (low_in d.shared.items d.today items s c.args.at state c.requires.place) is c.show.ensures.told c.show.ensures.today
