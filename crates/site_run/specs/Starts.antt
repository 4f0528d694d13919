-- Which orders of a turn are started.
use Rattle.std.specs.Prelude.{ℕ, List, [], ◌∷◌}
use Rattle.run_meaning.specs.Turns.{Command, Ordered, missing, words}
use Rattle.site_edge.specs.declared.order.Order.{Order}

abbrev pub start_with : ℕ → Command → List Order → List Order
start_with number (words ws) os = record { number = number; argv = ws } ∷ os
start_with number (missing macro) os = os

-- those for whose commands no macro is missing
abbrev pub started_of : List Ordered → List Order
started_of [] = []
started_of (o ∷ os) = start_with o.number o.command (started_of os)

-- by which calls a turn's orders are started: by one with all of them, and by none if there are none
abbrev pub calls_with : List Order → List (List Order)
calls_with [] = []
calls_with (o ∷ os) = (o ∷ os) ∷ []
