use Rattle.std.proofs.Common.{◌≡◌, ◌-◌, length, arith}
use Rattle.card_book.proofs.StateParts.{rows-each}
use Rattle.card_book.proofs.earlier.state_at.Goals as goal

pub returns-clause-rows : goal.returns-clause-rows
returns-clause-rows c =
    let s = c.args.state.now in
    let all = c.len-count.ensures in
    let count : c.len-count.result - 2 ≡ length s.rates.segments = omega (arith, all.balances, c.requires.rated) in
    rows-each _ c.next.result _ s.rates.segments _ count c.next.ensures c.in_ok-empty_rows.ensures

pub returns-clause-accruals : goal.returns-clause-accruals
returns-clause-accruals c =
    let s = c.args.state.now in
    let all = c.len-count.ensures in
    let count : length s.rates.segments ≡ c.len-count.result - 2 = omega (arith, all.balances, c.requires.rated) in
    c.in_ok-accruals_at.ensures s.rates.segments count c.requires.numbered
