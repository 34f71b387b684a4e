use Rattle.card_desk.proofs.uncounted.see.Given as goal

abbrev pub ghosts-see_counted-L-Ledger : goal.ghosts-see_counted-L-Ledger
ghosts-see_counted-L-Ledger a = record { name = a.blank.name; parts = a.blank.parts }

abbrev pub ghosts-see_counted-M-Ledger : goal.ghosts-see_counted-M-Ledger
ghosts-see_counted-M-Ledger a = record { name = a.other.name; parts = a.other.parts }
