use Rattle.card_demo.proofs.LedgerLemmas.{fits_stays, new_fits}
use Rattle.card_demo.proofs.ledger.MemoryLedger.new.Goals as goal

pub invariant_of-result : goal.invariant_of-result
invariant_of-result c = fits_stays _ _ _ _ c.new-2.ensures c.new.ensures.state new_fits
