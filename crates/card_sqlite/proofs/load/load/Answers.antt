use Rattle.std.proofs.Common.{arith}
use Rattle.sqlite.specs.State.{HasCleanDisk}
use Rattle.sqlite.specs.Held.{state}
use Rattle.card_sqlite.proofs.Loading.{given, still_made, still_seen, kept_then, has_table}
use Rattle.card_sqlite.proofs.load.load.Goals as goal

pub returns-clause-given : goal.returns-clause-given
returns-clause-given g c clean for =
    let early : HasCleanDisk (state g.S.Store c.create.new.conn) = omega (arith, c.read.ensures.clean) in
    let made = c.in_ok-create.ensures.made early for in
    given _ _ c.read.result made (c.read.ensures.given clean (has_table _ _ made))

pub returns-clause-made : goal.returns-clause-made
returns-clause-made g c clean for =
    let early : HasCleanDisk (state g.S.Store c.create.new.conn) = omega (arith, c.read.ensures.clean) in
    let made = c.in_ok-create.ensures.made early for in
    still_made (state g.S.Store c.args.conn.now) (state g.S.Store c.create.new.conn) (state g.S.Store c.read.new.conn) c.read.result made (c.read.ensures.ok clean (has_table _ _ made))

pub returns-clause-kept : goal.returns-clause-kept
returns-clause-kept g c clean for settled is_open =
    let mid = state g.S.Store c.create.new.conn in
    let new = state g.S.Store c.read.new.conn in
    let early : HasCleanDisk mid = omega (arith, c.read.ensures.clean) in
    let made = c.in_ok-create.ensures.made early for in
    let has = has_table _ _ made in
    let stays = c.read.ensures.err clean has (c.in_ok-create.ensures.settled early for settled) in
    kept_then _ _ _ made (still_seen mid new c.read.result (c.read.ensures.ok clean has) stays is_open)
