use Rattle.engine_tests.proofs.wheel_speed.a_million_moves.Given as goal

abbrev pub ghosts-moves : goal.ghosts-moves
ghosts-moves g a = record { name = a.blank.name; parts = a.blank.parts }
