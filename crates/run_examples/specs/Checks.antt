-- Sites whose checkables are checked by the program itself.
use Rattle.std.specs.Prelude.{ℕ, ◌==◌, true, List, [], ◌∷◌, Option, Some, None, if◌then◌else◌}
use Rattle.site_model.specs.PlainSite.{PlainCheck, PlainSite, plain_check, plain_site}
use Rattle.run_meaning.specs.Turns.{Command, Histories, ReadTurn, missing, words}
use Rattle.run_meaning.specs.Runs.{TurnLog, no_entries, start}
use Rattle.run_meaning.specs.Alone.{run_alone}
use Rattle.run_meaning.specs.Meaning.{basis_of}
use Rattle.run_examples.specs.Outlooks.{depends}
use Rattle.run_examples.specs.Sites.{host}

abbrev pub checked : Option ℕ → PlainCheck
checked host = plain_check [] host

-- three hosts
abbrev pub three : ℕ → PlainSite
three most = record (plain_site (checked None ∷ checked None ∷ checked None ∷ []) []) { max_orders = most }

-- a host that isn't checked, two that are, and a service of the first
abbrev pub four : PlainSite
four = plain_site (host ∷ checked None ∷ checked None ∷ checked (Some 0) ∷ []) []

-- a host that isn't checked, and a service of it
abbrev pub one_service : PlainCheck → PlainSite
one_service c = plain_site (host ∷ c ∷ []) []

-- one that is down for sure at its first problem, and a service of it that is checked
abbrev pub free_service : PlainSite
free_service = plain_site (record host { max = 1 } ∷ checked (Some 0) ∷ []) []

-- the same, where the service depends on the host
abbrev pub held_service : PlainSite
held_service = record free_service { depends = depends 1 0 None ∷ [] }

-- a macro of this name is missing in the second one's command
abbrev pub command_without : List ℕ → ℕ → Command
command_without name c = if c == 1 then missing name else words ((5 ∷ []) ∷ [])

abbrev pub logs_without : List ℕ → PlainSite → List ReadTurn → List TurnLog
logs_without name s ts = run_alone (basis_of s (λ p moment. true) (command_without name) (λ begun. [])) (start s (no_entries s)) ts

-- every command is one word
abbrev pub checks_behind : Histories → PlainSite → List ReadTurn → List TurnLog
checks_behind given s ts = run_alone (basis_of s (λ p moment. true) (λ c. words ((5 ∷ []) ∷ [])) (λ begun. [])) (start s given) ts

abbrev pub checks_of : PlainSite → List ReadTurn → List TurnLog
checks_of s ts = checks_behind (no_entries s) s ts
