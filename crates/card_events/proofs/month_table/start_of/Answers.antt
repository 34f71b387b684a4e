use Rattle.card_events.proofs.Starts.{start_at}
use Rattle.card_events.proofs.month_table.start_of.Goals as goal

pub returns : goal.returns
returns c = (start_at c.args.month c.requires).day
