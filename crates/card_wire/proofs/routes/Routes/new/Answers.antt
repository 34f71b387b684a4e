use Rattle.std.proofs.Common.{refl}
use Rattle.matchit.proofs.OnLiterals.{matchit_on_literals}
use Rattle.card_wire.proofs.routes.Routes.new.Goals as goal

pub invariant_of-result : goal.invariant_of-result
unfolding matchit_on_literals
invariant_of-result c =
    let posts = c.in_ok-put.ensures in
    let account = c.in_ok-put-2.ensures in
    let statement = c.in_ok-put-3.ensures in
    let cycle = c.in_ok-put-4.ensures in
    let entries = c.in_ok-put-5.ensures in
    let work = c.in_ok-put-6.ensures in
    rw (work.1, entries.1, cycle.1, statement.1, account.1, posts.1, c.new-router.ensures) refl
