use Rattle.std.proofs.Common.{sym, ap, ◌∙◌, arith}
use Rattle.std.proofs.lemmas.List.{take_all}
use Rattle.std.specs.List.{find}
use Rattle.card_disputes.proofs.FirstWaiting.{among, found-here, passed-here, passes_at, waits-so}
use Rattle.card_disputes.specs.Waits.{does}
use Rattle.card_disputes.proofs.waiting.among_waiting.Goals as goal

pub returns-then-does_at : goal.returns-then-does_at
returns-then-does_at c =
    let p = does c.args.wait c.args.number in
    let posts = c.args.posts.now.history in
    let found = found-here (passes_at p posts) c.waiting-waiting.result.now c.loop-other.other-index c.loop-other-test.true c.loop-other.invariant (sym c.does_at.ensures ∙ c.if-does_at.true) in
    sym (sym (among p c.args.number (waits-so c.args.wait c.args.number) posts) ∙ (ap (find (passes_at p posts)) (sym c.waiting-waiting.ensures) ∙ found))

pub loop-other-preserved : goal.loop-other-preserved
loop-other-preserved c =
    passed-here (passes_at (does c.args.wait c.args.number) c.args.posts.now.history) c.waiting-waiting.result.now c.loop-other.other-index c.loop-other-test.true c.loop-other.invariant (sym c.does_at.ensures ∙ c.if-does_at.false)

pub returns : goal.returns
returns c =
    let p = does c.args.wait c.args.number in
    let posts = c.args.posts.now.history in
    let all = take_all c.loop-other.other-index c.waiting-waiting.result.now (omega (arith, c.loop-other-test.false)) in
    sym (sym (among p c.args.number (waits-so c.args.wait c.args.number) posts) ∙ (ap (find (passes_at p posts)) (sym c.waiting-waiting.ensures ∙ sym all) ∙ c.loop-other.invariant))
