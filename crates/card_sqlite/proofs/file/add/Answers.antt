use Rattle.card_sqlite.proofs.Fit.{appends_ok, appends_err}
use Rattle.card_sqlite.proofs.file.add.Goals as goal

pub returns-in-Ok : goal.returns-in-Ok
returns-in-Ok g c = appends_ok g.S.Store _ _ _ _ _ c.in-Ok.ensures.appends

pub returns-in-Err : goal.returns-in-Err
returns-in-Err g c = appends_err g.S.Store _ _ _ _ c.in-Err.ensures.appends
