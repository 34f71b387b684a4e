use Rattle.std.proofs.Common.{◌-◌, refl, arith}
use Rattle.card_daily.proofs.Books.{before-small}
use Rattle.card_daily.specs.Stands.{before, first_in, rows_through}
use Rattle.card_dayend.proofs.QuietDays.{passed, quiet-few, quiet-room, stays}
use Rattle.card_dayend.proofs.RowsOfADay.{amid-rated, balances-within, has-row}
use Rattle.card_dayend.proofs.rows.pass_quiet.Goals as goal

pub add_rows-requires-clause-rated : goal.add_rows-requires-clause-rated
add_rows-requires-clause-rated c =
    let h = c.requires.awaits in
    let first = c.args.first in
    amid-rated h.given (rows_through h.given (first_in h.given first) (first - 1) (before h.given first)) (before h.given first) c.args.state.now h.track h.quiet.before.stand

pub add_rows-requires-clause-small : goal.add_rows-requires-clause-small
add_rows-requires-clause-small c =
    let h = c.requires.awaits in
    let low = h.quiet.sound.opening.first in
    let o = h.quiet.opened in
    let last = h.quiet.last in
    balances-within (before h.given c.args.first).entries c.args.state.now.segments.balances h.quiet.before.stand.sums (before-small h.given c.args.first h.quiet.sound (omega (arith, low, o)) (omega (arith, last)))

pub add_rows-requires-clause-few : goal.add_rows-requires-clause-few
add_rows-requires-clause-few c =
    let h = c.requires.awaits in
    quiet-room h.given c.args.first c.args.days c.args.state.now h.track (omega (arith, c.if-days-eq0.false)) h.quiet

pub accrue_all-requires-clause-rated : goal.accrue_all-requires-clause-rated
accrue_all-requires-clause-rated c =
    let h = c.requires.awaits in
    let first = c.args.first in
    amid-rated h.given (rows_through h.given (first_in h.given first) (first - 1) (before h.given first)) (before h.given first) c.args.state.now h.track h.quiet.before.stand

pub accrue_all-requires-clause-small : goal.accrue_all-requires-clause-small
accrue_all-requires-clause-small c =
    let h = c.requires.awaits in
    let low = h.quiet.sound.opening.first in
    let o = h.quiet.opened in
    let last = h.quiet.last in
    balances-within (before h.given c.args.first).entries c.args.state.now.segments.balances h.quiet.before.stand.sums (before-small h.given c.args.first h.quiet.sound (omega (arith, low, o)) (omega (arith, last)))

pub accrue_all-requires-clause-few : goal.accrue_all-requires-clause-few
accrue_all-requires-clause-few c =
    let h = c.requires.awaits in
    quiet-few h.given c.args.first c.args.days c.args.state.now h.track h.quiet

pub returns-then-days-eq0-clause-passed : goal.returns-then-days-eq0-clause-passed
returns-then-days-eq0-clause-passed c = λ g t same h. stays g c.args.first c.args.days c.args.state.now t c.if-days-eq0.true h

pub returns-clause-passed : goal.returns-clause-passed
returns-clause-passed c = λ g t same h.
    passed g c.args.first c.args.days c.args.state.now _ t (omega (arith, c.if-days-eq0.false)) h
    (has-row g.shared.index c.args.index.now c.args.days c.args.first c.args.state.now _ same (record { segments = refl; rates = refl; balances = c.accrue_all.ensures.balances; rows = c.in_ok-add_rows.ensures; accruals = c.accrue_all.ensures.accruals }))
