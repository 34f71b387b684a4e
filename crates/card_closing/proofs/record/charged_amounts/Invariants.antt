use Rattle.std.proofs.Common.{◌≡◌, ◌-◌}
use Rattle.card_model.specs.Cycles.{amount_at}
use Rattle.card_closing.specs.Record.{by_number}
use Rattle.card_closing.proofs.record.charged_amounts.Given as goal

abbrev pub invariant-loop-id : goal.invariant-loop-id
invariant-loop-id l = l.amounts ≡ by_number (λ s. amount_at s l.done) (l.id - 2)
