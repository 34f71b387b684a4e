use Rattle.std.proofs.Common.{◌≡◌, None, Some, sym, subst}
use Rattle.sqlite.specs.Given.{Advances, row_if}
use Rattle.card_sqlite.proofs.Reading.{read_one, read_all}
use Rattle.card_sqlite.proofs.load.add_next.Goals as goal

pub returns-in_ok-add_row-in-Some-clause-read : goal.returns-in_ok-add_row-in-Some-clause-read
returns-in_ok-add_row-in-Some-clause-read g c clean =
    let now = c.advance.new.self.conn.now in
    let some : row_if c.advance.new.self.has_row now ≡ Some c.in-Some.record.now = sym c.in-Some.ensures in
    let moves = subst (Advances g.S.Store c.args.records.now.conn.now now) some (c.in_ok-advance.ensures.ok clean) in
    read_one g.S.Store _ _ c.in-Some.record.now _ _ moves c.in_ok-add_row-in-Some.ensures.number c.in_ok-add_row-in-Some.ensures.row

pub returns-in-None-clause-read : goal.returns-in-None-clause-read
returns-in-None-clause-read g c clean =
    let now = c.advance.new.self.conn.now in
    let none : row_if c.advance.new.self.has_row now ≡ None = sym c.in-None.ensures in
    read_all g.S.Store _ now _ (subst (Advances g.S.Store c.args.records.now.conn.now now) none (c.in_ok-advance.ensures.ok clean))
