use Rattle.std.proofs.Common.{arith, w64}
use Rattle.std.proofs.lemmas.Int.{to_z-of_z}
use Rattle.card_segments.proofs.Totals.{within-fits}
use Rattle.card_closing.proofs.ByNumber.{owed-within}
use Rattle.card_closing.proofs.record.owed.Goals as goal

pub returns-clause-size : goal.returns-clause-size
returns-clause-size c =
    let all = c.len-count.ensures in
    let h = owed-within c.args.segments.now.balances c.owed.result (omega (arith, all.balances, all.few)) c.requires.small c.owed.ensures in
    rw (to_z-of_z w64 c.owed.result (within-fits 100_000_000_000_000_000 c.owed.result (omega arith) h)) h
