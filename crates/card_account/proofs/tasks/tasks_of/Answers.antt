use Rattle.std.proofs.Common.{◌≡◌, ◌+◌, ◌<◌, length, get_or, ap, sym, subst, ◌∙◌, arith}
use Rattle.std.proofs.lemmas.List.{take_all}
use Rattle.std.specs.List.{flat_map}
use Rattle.card_account.specs.Accounts.{IsAccount, steps_of}
use Rattle.card_account.specs.Works.{tasks_of}
use Rattle.card_account.proofs.Telling.{reach-all, steps-most, steps-next, tasks-next, tells-all, tells-failed, tells-next, tells-none}
use Rattle.card_account.proofs.tasks.tasks_of.Goals as goal

pub loop-i-init : goal.loop-i-init
loop-i-init g c = record { tasks = c.new-tasks.ensures.items; told = tells-none c.args.today c.args.shared.now c.args.accounts.now; steps = omega arith }

pub push_tasks-requires : goal.push_tasks-requires
push_tasks-requires g c =
    let i = c.loop-i.i in
    let old = c.args.accounts.now in
    let d = c.index-accounts-i.result in
    let h = c.loop-i.invariant.told in
    let count = h.count in
    let low : i < length old = omega (arith, c.loop-i-test.true, count) in
    record { account = subst (IsAccount c.args.today c.args.shared.now) (sym (h.rest i d (omega arith))) (c.requires.accounts i d low) }

pub loop-i-preserved : goal.loop-i-preserved
loop-i-preserved g c =
    let today = c.args.today in
    let shared = c.args.shared.now in
    let i = c.loop-i.i in
    let old = c.args.accounts.now in
    let xs = c.loop-i.accounts in
    let d = c.index-accounts-i.result in
    let h = c.loop-i.invariant.told in
    let count = h.count in
    let low : i < length old = omega (arith, c.loop-i-test.true, count) in
    let here : get_or xs i d ≡ get_or old i d = h.rest i d (omega arith) in
    record {
      tasks = tasks-next (tasks_of today shared) old xs c.loop-i.tasks.items c.push_tasks.new.tasks.items i d low here c.loop-i.invariant.tasks c.in_ok-push_tasks.ensures.tasks;
      told = tells-next today shared i old xs d c.push_tasks.new.account low h c.in_ok-push_tasks.ensures.today;
      steps = steps-next (steps_of today shared) old xs c.args.steps.now c.loop-i.steps c.push_tasks.new.steps i d low here c.loop-i.invariant.steps c.push_tasks.ensures.most;
    }

pub returns-in_err-push_tasks-clause-told : goal.returns-in_err-push_tasks-clause-told
returns-in_err-push_tasks-clause-told g c =
    let h = c.loop-i.invariant.told in
    let count = h.count in
    tells-failed c.args.today c.args.shared.now c.loop-i.i c.args.accounts.now c.loop-i.accounts c.index-accounts-i.result c.push_tasks.new.account
    (omega (arith, c.loop-i-test.true, count)) c.requires.accounts h c.push_tasks.ensures.told

pub returns-in_err-push_tasks-clause-most : goal.returns-in_err-push_tasks-clause-most
returns-in_err-push_tasks-clause-most g c =
    let i = c.loop-i.i in
    let old = c.args.accounts.now in
    let d = c.index-accounts-i.result in
    let h = c.loop-i.invariant.told in
    let count = h.count in
    let f = steps_of c.args.today c.args.shared.now in
    steps-most f old c.args.steps.now c.push_tasks.new.steps (i + 1)
    (steps-next f old c.loop-i.accounts c.args.steps.now c.loop-i.steps c.push_tasks.new.steps i d (omega (arith, c.loop-i-test.true, count)) (h.rest i d (omega arith)) c.loop-i.invariant.steps c.push_tasks.ensures.most)

pub returns-clause-tasks : goal.returns-clause-tasks
returns-clause-tasks g c =
    let count = c.loop-i.invariant.told.count in
    c.loop-i.invariant.tasks ∙ ap (flat_map (tasks_of c.args.today c.args.shared.now)) (take_all c.loop-i.i c.args.accounts.now (omega (arith, c.loop-i-test.false, count)))

pub returns-clause-told : goal.returns-clause-told
returns-clause-told g c =
    let count = c.loop-i.invariant.told.count in
    tells-all c.args.today c.args.shared.now c.loop-i.i c.args.accounts.now c.loop-i.accounts (omega (arith, c.loop-i-test.false, count)) c.loop-i.invariant.told

pub returns-clause-today : goal.returns-clause-today
returns-clause-today g c =
    let count = c.loop-i.invariant.told.count in
    reach-all c.args.today c.args.shared.now c.loop-i.i c.args.accounts.now c.loop-i.accounts (omega (arith, c.loop-i-test.false, count)) c.loop-i.invariant.told

pub returns-clause-most : goal.returns-clause-most
returns-clause-most g c =
    steps-most (steps_of c.args.today c.args.shared.now) c.args.accounts.now c.args.steps.now c.loop-i.steps c.loop-i.i c.loop-i.invariant.steps
