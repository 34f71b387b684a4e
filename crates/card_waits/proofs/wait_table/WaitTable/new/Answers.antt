use Rattle.std.proofs.Common.{ℕ, List, length, get_or, ap, ◌∙◌, arith}
use Rattle.card_waits.specs.Waits.{WaitForEarlier, ends_waiting, first_from, waiting_from}
use Rattle.card_waits.proofs.wait_table.WaitTable.new.Goals as goal

pub returns : goal.returns
unfolding WaitForEarlier ends_waiting first_from waiting_from
returns c =
    let r = c.in_ok-reserve.ensures in
    record {
      earlier = tt;
      long = ap (λ (xs : List ℕ). length xs) c.new.ensures.items;
      waiting = r.items ∙ c.new-waiting.ensures.items;
      by = λ i. ap (λ (xs : List ℕ). get_or xs i 0) c.new.ensures.items;
      spare = λ e. omega (arith, r.ok);
    }
