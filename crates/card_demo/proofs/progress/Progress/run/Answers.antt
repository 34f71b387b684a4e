use Rattle.std.proofs.Common.{◌≡◌, arith}
use Rattle.std.proofs.lemmas.Result.{on_ok_weaker}
use Rattle.card_demo.specs.Progress.{after}
use Rattle.card_demo.specs.Requests.{beginning, cycles, openings}
use Rattle.card_demo.proofs.PieceLemmas.{beginning_count, openings_count}
use Rattle.card_demo.proofs.RunLemmas.{all_sent, count_is}
use Rattle.card_demo.proofs.progress.Progress.run.Goals as goal

pub open_all-requires-clause-room : goal.open_all-requires-clause-room
open_all-requires-clause-room c =
    let p = c.args.self.now in
    let two = count_is p c.begin.new.self (beginning p.x) 2 c.in_ok-begin.ensures (beginning_count p.x) in
    omega (arith, two, c.requires.room)

pub pass_cycles-requires-clause-room : goal.pass_cycles-requires-clause-room
pass_cycles-requires-clause-room c =
    let p = c.args.self.now in
    let a = c.begin.new.self in
    let n = c.args.accounts in
    let two = count_is p a (beginning p.x) 2 c.in_ok-begin.ensures (beginning_count p.x) in
    let opened = count_is a c.open_all.new.self (openings n a.x) n c.in_ok-open_all.ensures (openings_count n a.x) in
    omega (arith, two, opened, c.requires.accounts, c.requires.room)

pub returns : goal.returns
returns c =
    let p = c.args.self.now in
    let a = c.begin.new.self in
    let b = c.open_all.new.self in
    let new = c.pass_cycles.new.self in
    on_ok_weaker c.pass_cycles.result
    (λ (e : new ≡ after b (cycles c.args.accounts c.args.cycles b.x)). all_sent p a b new c.args.accounts c.args.cycles c.in_ok-begin.ensures c.in_ok-open_all.ensures e) c.pass_cycles.ensures
