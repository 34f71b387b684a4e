use Rattle.std.proofs.Common.{◌+◌, ◌≤◌, List, ap, ◌∙◌, sym, subst, arith}
use Rattle.std.proofs.lemmas.List.{with_items_is}
use Rattle.std.specs.List.{All, sum_by}
use Rattle.card_account.specs.Accounts.{AreTold, IsAccount, OpenAccount, steps_of}
use Rattle.card_desk.proofs.DeskLemmas.{state_by}
use Rattle.card_desk.proofs.Left.{few_for_all}
use Rattle.card_desk.proofs.WorkLemmas.{worked_desk, worked_state}
use Rattle.card_desk.proofs.Moves.{all-move}
use Rattle.card_desk.specs.Desks.{IsDesk, open_desk, state_of}
use Rattle.card_desk.specs.Reached.{AllMove}
use Rattle.card_desk.proofs.Unmade.{all-made}
use Rattle.card_desk.specs.PutOff.{MakesForAll}
use Rattle.card_desk.proofs.desk.Desk.reach_all.Goals as goal

pub reach_today-requires : goal.reach_today-requires
reach_today-requires g c =
    let d = c.self.inside in
    record { accounts = subst (λ (xs : List OpenAccount). All (IsAccount d.today d.common) xs) (sym c.deref_mut.ensures.value) c.self.invariant.accounts }

pub invariant_of-self : goal.invariant_of-self
invariant_of-self g c =
    let d = c.self.inside in
    let told = subst (λ (xs : List OpenAccount). AreTold d.today d.common xs c.reach_today.new.accounts) c.deref_mut.ensures.value c.reach_today.ensures.told in
    let count = told.count in
    let items = with_items_is d.accounts c.reach_today.new.accounts (omega (arith, count, d.accounts.ok.0)) in
    subst (λ (xs : List OpenAccount). IsDesk d.index d.common d.count d.today d.shared.items xs) (sym items)
    (worked_desk d.index d.common d.count d.today d.shared.items d.accounts.items c.reach_today.new.accounts c.self.invariant told)

pub returns-clause-state : goal.returns-clause-state
returns-clause-state g c =
    let d = c.self.inside in
    let told = subst (λ (xs : List OpenAccount). AreTold d.today d.common xs c.reach_today.new.accounts) c.deref_mut.ensures.value c.reach_today.ensures.told in
    let count = told.count in
    let items = with_items_is d.accounts c.reach_today.new.accounts (omega (arith, count, d.accounts.ok.0)) in
    ap (λ (xs : List OpenAccount). state_of d.today d.shared.items xs) items
    ∙ worked_state d.today d.common d.shared.items d.accounts.items c.reach_today.new.accounts c.args.self.now.state (state_by _ _ c.self.view_is) told

pub returns-clause-most : goal.returns-clause-most
returns-clause-most g c =
    let d = c.self.inside in
    few_for_all d.index d.common d.count d.today d.shared.items d.accounts.items c.args.self.now c.args.steps.now c.reach_today.new.steps c.self.invariant c.self.view_is
    (subst (λ (xs : List OpenAccount). c.reach_today.new.steps ≤ c.args.steps.now + sum_by (steps_of d.today d.common) xs) c.deref_mut.ensures.value c.reach_today.ensures.most)

pub returns-clause-reached : goal.returns-clause-reached
returns-clause-reached g c =
    let d = c.self.inside in
    let told = subst (λ (xs : List OpenAccount). AreTold d.today d.common xs c.reach_today.new.accounts) c.deref_mut.ensures.value c.reach_today.ensures.told in
    let count = told.count in
    let items = with_items_is d.accounts c.reach_today.new.accounts (omega (arith, count, d.accounts.ok.0)) in
    subst (λ (xs : List OpenAccount). AllMove c.reach_today.result c.args.self.now (open_desk d.today d.shared.items xs)) (sym items)
    (all-move c.reach_today.result d.index d.common d.count d.today d.shared.items d.accounts.items c.reach_today.new.accounts c.args.self.now c.self.invariant c.self.view_is told c.reach_today.ensures.today)

pub returns-clause-unmade : goal.returns-clause-unmade
returns-clause-unmade g c =
    let d = c.self.inside in
    let told = subst (λ (xs : List OpenAccount). AreTold d.today d.common xs c.reach_today.new.accounts) c.deref_mut.ensures.value c.reach_today.ensures.told in
    let count = told.count in
    let items = with_items_is d.accounts c.reach_today.new.accounts (omega (arith, count, d.accounts.ok.0)) in
    subst (λ (xs : List OpenAccount). MakesForAll c.reach_today.result c.args.self.now (open_desk d.today d.shared.items xs)) (sym items)
    (all-made c.reach_today.result d.common d.today d.shared.items d.accounts.items c.reach_today.new.accounts c.args.self.now c.self.view_is told c.reach_today.ensures.today)
