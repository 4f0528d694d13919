-- The round that is told of, if there is one.
use Rattle.std.specs.Prelude.{ℕ, List, Option, Some, None, if◌then◌else◌}
use Rattle.run_meaning.specs.Turns.{Asked, Histories}
use Rattle.run_meaning.specs.Acts.{Rules}
use Rattle.run_meaning.specs.Runs.{no_entries}
use Rattle.round_check.specs.declared.told.Told.{Told}
use Rattle.round_check.specs.Making.{made_from, then_made}
use Rattle.round_check.specs.Walking.{are_walked}

abbrev pub if_walked : Histories → List (List Asked) → Histories → Option Histories
if_walked before events round = if are_walked before events round then Some round else None

-- the entries are made in this order, and then each caller's way is followed
abbrev pub round_told : Rules → ℕ → Histories → List (List Asked) → List Told → Option Histories
round_told r moment before events order = then_made (made_from r moment before events order (no_entries r.site)) (if_walked before events)
