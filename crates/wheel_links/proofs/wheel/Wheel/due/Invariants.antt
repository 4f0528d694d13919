use Rattle.wheel_links.proofs.wheel.Wheel.due.Given as goal

abbrev pub ghosts-due_on : goal.ghosts-due_on
ghosts-due_on a = record { name = a.blank.name; parts = a.blank.parts }
