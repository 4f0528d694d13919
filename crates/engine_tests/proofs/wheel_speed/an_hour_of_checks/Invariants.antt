use Rattle.engine_tests.proofs.wheel_speed.an_hour_of_checks.Given as goal

abbrev pub ghosts-an_hour : goal.ghosts-an_hour
ghosts-an_hour g a = record { name = a.blank.name; parts = a.blank.parts }
