use Rattle.card_desk.proofs.uncounted.apply.Given as goal

abbrev pub ghosts-apply_counted-L-Ledger : goal.ghosts-apply_counted-L-Ledger
ghosts-apply_counted-L-Ledger g a = record { name = a.blank.name; parts = a.blank.parts }

abbrev pub ghosts-apply_counted-M-Ledger : goal.ghosts-apply_counted-M-Ledger
ghosts-apply_counted-M-Ledger g a = record { name = a.other.name; parts = a.other.parts }
