use Rattle.std.proofs.Common.{ℕ, ap, ◌∙◌}
use Rattle.card_daily.specs.declared.track.Statement.{Statement}
use Rattle.card_model.specs.Cycles.{IssuedRow}
use Rattle.card_past.proofs.issuing.row_at.Goals as goal

abbrev row_by : ℕ → ℕ → Statement → IssuedRow
row_by cycle bill s = record { cycle = cycle; bill = bill; day = s.issue; statement = s.cycle; sheet = s.sheet }

pub returns : goal.returns
returns c d there = c.in_ok-row.ensures ∙ ap (λ (s : Statement). row_by c.args.number c.args.bill s) (c.in_ok-statement.ensures d there)
