use Rattle.card_cases.proofs.ticks.a_book_and_its_cycles.Given as goal

abbrev pub ghosts-first_cycle : goal.ghosts-first_cycle
ghosts-first_cycle g a = record { name = a.blank.name; parts = a.blank.parts }
