use Rattle.card_cases.proofs.replays.accepted.Given as goal

abbrev pub ghosts-accept_alone-L-Ledger : goal.ghosts-accept_alone-L-Ledger
ghosts-accept_alone-L-Ledger g a = record { name = a.blank.name; parts = a.blank.parts }

abbrev pub ghosts-accept_alone-M-Ledger : goal.ghosts-accept_alone-M-Ledger
ghosts-accept_alone-M-Ledger g a = record { name = a.other.name; parts = a.other.parts }
