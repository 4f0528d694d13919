-- A host and a service of it, of which users are notified.
use Rattle.std.specs.Prelude.{ℕ, ◌==◌, not, Bool, true, false, List, [], ◌∷◌, None, Some}
use Rattle.site_model.specs.PlainSite.{PlainCheck, PlainSite, plain_check, plain_site}
use Rattle.site_model.specs.declared.notify_spec.NotifySpec.{NotifySpec}
use Rattle.site_model.specs.declared.user_spec.UserSpec.{UserSpec}
use Rattle.run_meaning.specs.Turns.{Histories, Line, ReadTurn, words}
use Rattle.run_meaning.specs.Runs.{Basis, TurnLog, no_entries, start}
use Rattle.run_meaning.specs.Alone.{run_alone}
use Rattle.run_meaning.specs.Meaning.{basis_of}

-- neither is checked by the program itself
abbrev pub host : PlainCheck
host = record (plain_check (1 ∷ []) None) { active = false }

-- a service that is HARD after so many problems
abbrev pub service : ℕ → PlainCheck
service most = record (plain_check (2 ∷ []) (Some 0)) { active = false; max = most }

-- one that flaps
abbrev pub swinging : ℕ → PlainCheck
swinging most = record (service most) { flapping = true }

abbrev pub user : UserSpec
user = record { name = 3 ∷ []; enabled = true; period = None; kinds = None; states = None }

-- a notification of the service
abbrev pub notification : NotifySpec
notification = record { name = 4 ∷ []; checkable = 1; users = 0 ∷ []; interval = 1800; begin = None; «end» = None; kinds = None; states = None; period = None }

-- with this notification and these users
abbrev pub site_with : PlainCheck → NotifySpec → List UserSpec → PlainSite
site_with c n users = record (plain_site (host ∷ c ∷ []) ((1 ∷ []) ∷ (2 ∷ []) ∷ [])) { notifies = n ∷ []; users = users }

abbrev pub site : PlainCheck → PlainSite
site c = site_with c notification (user ∷ [])

-- every period but that of index 9 holds
abbrev pub holds : ℕ → ℕ → Bool
holds p moment = not (p == 9)

-- every command is one word, and nothing is fed
abbrev pub basis : PlainSite → Basis
basis s = basis_of s holds (λ c. words ((5 ∷ []) ∷ [])) (λ begun. [])

-- the logs of turns behind given histories
abbrev pub logs_behind : Histories → PlainSite → List ReadTurn → List TurnLog
logs_behind given s ts = run_alone (basis s) (start s given) ts

abbrev pub logs_of : PlainSite → List ReadTurn → List TurnLog
logs_of s ts = logs_behind (no_entries s) s ts

-- where this line is fed to each turn
abbrev pub logs_fed : List Line → PlainSite → List ReadTurn → List TurnLog
logs_fed lines s ts = run_alone (basis_of s holds (λ c. words ((5 ∷ []) ∷ [])) (λ begun. lines)) (start s (no_entries s)) ts
