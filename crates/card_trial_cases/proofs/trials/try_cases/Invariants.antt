use Rattle.card_trial_cases.proofs.trials.try_cases.Given as goal

abbrev pub ghosts-run_cases-L-Ledger : goal.ghosts-run_cases-L-Ledger
ghosts-run_cases-L-Ledger g a = record { name = a.blank.name; parts = a.blank.parts }

abbrev pub ghosts-run_cases-M-Ledger : goal.ghosts-run_cases-M-Ledger
ghosts-run_cases-M-Ledger g a = record { name = a.other.name; parts = a.other.parts }
