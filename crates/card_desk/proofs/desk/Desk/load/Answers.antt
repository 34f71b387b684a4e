use Rattle.card_desk.proofs.RowLemmas.{fits_result}
use Rattle.card_desk.proofs.desk.Desk.load.Goals as goal

pub returns-clause-fits : goal.returns-clause-fits
returns-clause-fits g c =
    fits_result (g.K.Keeper.rows c.args.keeper.now) (g.K.Keeper.rows c.kept_rows.new.keeper) _ c.run_rows.result c.kept_rows.ensures.rows_stay c.kept_rows.ensures.told c.in_ok-rows.ensures.given c.run_rows.ensures.ok
