use Rattle.std.proofs.Common.{refl}
use Rattle.card_daily.specs.Stands.{posted, posts_of, rows_amid}
use Rattle.card_daily.proofs.Cycles.{posted-small}
use Rattle.card_dayend.proofs.RowsOfADay.{has-row, amid-few, amid-rated, amid-room, balances-within, posted-of}
use Rattle.card_dayend.proofs.rows.row_day.Goals as goal

pub add_rows-requires-clause-rated : goal.add_rows-requires-clause-rated
add_rows-requires-clause-rated c =
    let h = c.requires.amid in
    amid-rated h.given (rows_amid h.given c.args.day (posts_of h.given c.args.day) (posted h.given c.args.day)) (posted h.given c.args.day) c.args.state.now h.track h.amid.stand

pub add_rows-requires-clause-small : goal.add_rows-requires-clause-small
add_rows-requires-clause-small c =
    let h = c.requires.amid in
    balances-within (posted h.given c.args.day).entries c.args.state.now.segments.balances h.amid.stand.sums (posted-small h.given c.args.day h.sound h.opened c.requires.last)

pub add_rows-requires-clause-few : goal.add_rows-requires-clause-few
add_rows-requires-clause-few c =
    let h = c.requires.amid in
    amid-room h.given c.args.day (posts_of h.given c.args.day) (posted h.given c.args.day) c.args.state.now h.track h.sound h.opened c.requires.last h.amid.stand

pub accrue_all-requires-clause-rated : goal.accrue_all-requires-clause-rated
accrue_all-requires-clause-rated c =
    let h = c.requires.amid in
    amid-rated h.given (rows_amid h.given c.args.day (posts_of h.given c.args.day) (posted h.given c.args.day)) (posted h.given c.args.day) c.args.state.now h.track h.amid.stand

pub accrue_all-requires-clause-small : goal.accrue_all-requires-clause-small
accrue_all-requires-clause-small c =
    let h = c.requires.amid in
    balances-within (posted h.given c.args.day).entries c.args.state.now.segments.balances h.amid.stand.sums (posted-small h.given c.args.day h.sound h.opened c.requires.last)

pub accrue_all-requires-clause-few : goal.accrue_all-requires-clause-few
accrue_all-requires-clause-few c =
    let h = c.requires.amid in
    amid-few h.given c.args.day c.args.state.now h.track h.sound h.opened c.requires.last h.amid

pub returns : goal.returns
returns c = record {
  posted = λ g t same sound opened amid.
      posted-of g c.args.day c.args.state.now _ t sound opened c.requires.last
      (has-row g.shared.index c.args.index.now 1 c.args.day c.args.state.now _ same (record { segments = refl; rates = refl; balances = c.accrue_all.ensures.balances; rows = c.in_ok-add_rows.ensures; accruals = c.accrue_all.ensures.accruals })) amid;
}
