use Rattle.card_trial.proofs.text.trial_text.Given as goal

abbrev pub ghosts-trial_counted : goal.ghosts-trial_counted
ghosts-trial_counted a = record { name = a.blank.name; parts = a.blank.parts }
