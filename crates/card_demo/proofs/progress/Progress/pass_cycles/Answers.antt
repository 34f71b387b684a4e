use Rattle.std.proofs.Common.{◌≡◌, ℕ, ◌*◌, arith, subst}
use Rattle.card_demo.specs.Progress.{after}
use Rattle.card_demo.specs.Requests.{cycles}
use Rattle.card_demo.proofs.PieceLemmas.{cycles_few}
use Rattle.card_demo.proofs.RunLemmas.{count_most, cycled_more, cycled_none}
use Rattle.card_demo.proofs.progress.Progress.pass_cycles.Goals as goal

pub loop-t-init : goal.loop-t-init
loop-t-init c = cycled_none c.args.self.now c.args.accounts

pub pass_cycle-requires-clause-room : goal.pass_cycle-requires-clause-room
pass_cycle-requires-clause-room c =
    let p = c.args.self.now in
    let t = c.loop-t.t in
    let count = count_most p c.loop-t.self (cycles c.args.accounts t p.x) (t * 7001) c.loop-t.invariant (cycles_few c.args.accounts t p.x c.requires.accounts) in
    omega (arith, count, c.loop-t-test.true, c.requires.cycles, c.requires.room)

pub loop-t-preserved : goal.loop-t-preserved
loop-t-preserved c = cycled_more c.args.self.now c.loop-t.self c.pass_cycle.new.self c.args.accounts c.loop-t.t c.loop-t.invariant c.in_ok-pass_cycle.ensures

pub returns : goal.returns
returns c =
    let p = c.args.self.now in
    let all : c.loop-t.t ≡ c.args.cycles = omega arith in
    subst (λ (n : ℕ). c.loop-t.self ≡ after p (cycles c.args.accounts n p.x)) all c.loop-t.invariant
