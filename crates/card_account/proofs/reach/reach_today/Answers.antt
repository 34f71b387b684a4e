use Rattle.std.proofs.Common.{◌≡◌, ◌+◌, ◌<◌, length, get_or, sym, subst, arith}
use Rattle.card_account.specs.Accounts.{IsAccount, steps_of}
use Rattle.card_account.proofs.Telling.{reach-all, steps-most, steps-next, tells-all, tells-failed, tells-next, tells-none}
use Rattle.card_account.proofs.reach.reach_today.Goals as goal

pub loop-i-init : goal.loop-i-init
loop-i-init g c = record { told = tells-none c.args.today c.args.shared.now c.args.accounts.now; steps = omega arith }

pub to_day-requires : goal.to_day-requires
to_day-requires g c =
    let i = c.loop-i.i in
    let old = c.args.accounts.now in
    let d = c.index-accounts-i.result in
    let h = c.loop-i.invariant.told in
    let count = h.count in
    let low : i < length old = omega (arith, c.loop-i-test.true, count) in
    record { account = subst (IsAccount c.args.today c.args.shared.now) (sym (h.rest i d (omega arith))) (c.requires.accounts i d low) }

pub loop-i-preserved : goal.loop-i-preserved
loop-i-preserved g c =
    let today = c.args.today in
    let shared = c.args.shared.now in
    let i = c.loop-i.i in
    let old = c.args.accounts.now in
    let xs = c.loop-i.accounts in
    let d = c.index-accounts-i.result in
    let h = c.loop-i.invariant.told in
    let count = h.count in
    let low : i < length old = omega (arith, c.loop-i-test.true, count) in
    let here : get_or xs i d ≡ get_or old i d = h.rest i d (omega arith) in
    record {
      told = tells-next today shared i old xs d c.to_day.new.self low h c.in_ok-to_day.ensures.today;
      steps = steps-next (steps_of today shared) old xs c.args.steps.now c.loop-i.steps c.to_day.new.steps i d low here c.loop-i.invariant.steps c.to_day.ensures.most;
    }

pub returns-in_err-to_day-clause-told : goal.returns-in_err-to_day-clause-told
returns-in_err-to_day-clause-told g c =
    let h = c.loop-i.invariant.told in
    let count = h.count in
    tells-failed c.args.today c.args.shared.now c.loop-i.i c.args.accounts.now c.loop-i.accounts c.index-accounts-i.result c.to_day.new.self
    (omega (arith, c.loop-i-test.true, count)) c.requires.accounts h c.to_day.ensures.told

pub returns-in_err-to_day-clause-most : goal.returns-in_err-to_day-clause-most
returns-in_err-to_day-clause-most g c =
    let i = c.loop-i.i in
    let old = c.args.accounts.now in
    let d = c.index-accounts-i.result in
    let h = c.loop-i.invariant.told in
    let count = h.count in
    let f = steps_of c.args.today c.args.shared.now in
    steps-most f old c.args.steps.now c.to_day.new.steps (i + 1)
    (steps-next f old c.loop-i.accounts c.args.steps.now c.loop-i.steps c.to_day.new.steps i d (omega (arith, c.loop-i-test.true, count)) (h.rest i d (omega arith)) c.loop-i.invariant.steps c.to_day.ensures.most)

pub returns-clause-told : goal.returns-clause-told
returns-clause-told g c =
    let count = c.loop-i.invariant.told.count in
    tells-all c.args.today c.args.shared.now c.loop-i.i c.args.accounts.now c.loop-i.accounts (omega (arith, c.loop-i-test.false, count)) c.loop-i.invariant.told

pub returns-clause-today : goal.returns-clause-today
returns-clause-today g c =
    let count = c.loop-i.invariant.told.count in
    reach-all c.args.today c.args.shared.now c.loop-i.i c.args.accounts.now c.loop-i.accounts (omega (arith, c.loop-i-test.false, count)) c.loop-i.invariant.told

pub returns-clause-most : goal.returns-clause-most
returns-clause-most g c =
    steps-most (steps_of c.args.today c.args.shared.now) c.args.accounts.now c.args.steps.now c.loop-i.steps c.loop-i.i c.loop-i.invariant.steps
