use Rattle.check_slots.proofs.watches.Watches.new.Given as goal

abbrev pub ghosts-new_on : goal.ghosts-new_on
ghosts-new_on a = record { name = a.blank.name; parts = a.blank.parts }
