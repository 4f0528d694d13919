use Rattle.ground_cases.proofs.wheels.answers.Given as goal

abbrev pub ghosts-answers_counting : goal.ghosts-answers_counting
ghosts-answers_counting a = record { name = a.blank.name; parts = a.blank.parts }
