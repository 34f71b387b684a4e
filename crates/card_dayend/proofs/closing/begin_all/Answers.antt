use Rattle.std.proofs.Common.{◌≤◌, ◌<◌, length, arith}
use Rattle.card_closing.specs.Rows.{no_rows}
use Rattle.card_dayend.proofs.Closed.{anew-done, anew-next}
use Rattle.card_dayend.proofs.closing.begin_all.Goals as goal

pub loop-i-preserved : goal.loop-i-preserved
loop-i-preserved c =
    let old = c.args.rows.now.items in
    let here : c.loop-i.i < length old = omega (arith, c.loop-i-test.true, c.len-i-end.ensures) in
    anew-next (no_rows c.args.first) c.begin.new.self old c.loop-i.rows.items c.loop-i.i here c.loop-i.invariant c.begin.ensures

pub returns : goal.returns
returns c =
    let old = c.args.rows.now.items in
    let past : length old ≤ c.loop-i.i = omega (arith, c.loop-i-test.false, c.len-i-end.ensures) in
    anew-done (no_rows c.args.first) old c.loop-i.rows.items c.loop-i.i past c.loop-i.invariant
