use Rattle.std.proofs.Common.{arith}
use Rattle.std.proofs.lemmas.List.{length-map}
use Rattle.card_account.specs.Accounts.{OpenAccount}
use Rattle.card_desk.specs.Desks.{named_all}
use Rattle.card_desk.proofs.CountLemmas.{short_sum}
use Rattle.card_desk.proofs.desk.Desk.next_row.Goals as goal

pub overflow_add-self-inside : goal.overflow_add-self-inside
overflow_add-self-inside c = omega (arith, c.self.invariant.counted, c.self.inside.shared.small, c.self.inside.shared.ok, short_sum (named_all c.self.inside.accounts.items) c.self.invariant.short, c.self.invariant.few, length-map c.self.inside.accounts.items (λ (x : OpenAccount). x.named))
