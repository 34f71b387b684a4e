use Rattle.std.proofs.Common.{◌≡◌, ℕ, arith, subst}
use Rattle.card_demo.specs.Progress.{after}
use Rattle.card_demo.specs.Requests.{openings}
use Rattle.card_demo.proofs.PieceLemmas.{openings_count}
use Rattle.card_demo.proofs.RunLemmas.{count_is, opened_more, opened_none}
use Rattle.card_demo.proofs.progress.Progress.open_all.Goals as goal

pub loop-i-init : goal.loop-i-init
loop-i-init c = opened_none c.args.self.now

pub open_account-requires : goal.open_account-requires
open_account-requires c =
    let p = c.args.self.now in
    let i = c.loop-i.i in
    let count = count_is p c.loop-i.self (openings i p.x) i c.loop-i.invariant (openings_count i p.x) in
    record { room = omega (arith, count, c.loop-i-test.true, c.requires.accounts, c.requires.room) }

pub loop-i-preserved : goal.loop-i-preserved
loop-i-preserved c = opened_more c.args.self.now c.loop-i.self c.open_account.new.self c.loop-i.i c.loop-i.invariant c.in_ok-open_account.ensures

pub returns : goal.returns
returns c =
    let p = c.args.self.now in
    let all : c.loop-i.i ≡ c.args.accounts = omega arith in
    subst (λ (n : ℕ). c.loop-i.self ≡ after p (openings n p.x)) all c.loop-i.invariant
