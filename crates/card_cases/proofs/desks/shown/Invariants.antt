use Rattle.card_cases.proofs.desks.shown.Given as goal

abbrev pub ghosts-charge_and_ask-L-Ledger : goal.ghosts-charge_and_ask-L-Ledger
ghosts-charge_and_ask-L-Ledger g a = record { name = a.blank.name; parts = a.blank.parts }

abbrev pub ghosts-charge_and_ask-M-Ledger : goal.ghosts-charge_and_ask-M-Ledger
ghosts-charge_and_ask-M-Ledger g a = record { name = a.other.name; parts = a.other.parts }
