use Rattle.std.proofs.Common.{◌+◌, ◌^◌, arith}
use Rattle.card_demo.proofs.SumLemmas.{wider}
use Rattle.card_demo.proofs.ledger.with_listed.Goals as goal

pub returns-in_default-clause-bound : goal.returns-in_default-clause-bound
returns-in_default-clause-bound c = λ n h. wider n (n + 2 ^ 95) c.args.sums.now (omega arith) h
