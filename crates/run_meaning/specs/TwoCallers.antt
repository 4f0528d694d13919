-- Two callers on a host and a service of it, by which it is seen what rounds and dealing are.
use Rattle.std.specs.Prelude.{ℕ, List, [], ◌∷◌, None, Some, true}
use Rattle.site_model.specs.PlainSite.{PlainCheck, PlainSite, plain_check, plain_site}
use Rattle.site_model.specs.declared.entry.Entry.{Entry}
use Rattle.site_model.specs.declared.event.Event.{Event}
use Rattle.site_model.specs.declared.event.Event.TheVariants as event
use Rattle.site_model.specs.declared.sight.Sight.{Sight}
use Rattle.run_meaning.specs.Turns.{Asked, Histories, Outstanding, Reported, of_index}
use Rattle.run_meaning.specs.Acts.{Rules, entry_of}
use Rattle.run_meaning.specs.Rounds.{all_seen}
use Rattle.run_meaning.specs.Dealing.{Taken, ordered_result}
use Rattle.run_meaning.specs.Meaning.{rules_of}

abbrev pub on : ℕ → Asked
on c = record { checkable = c; event = event.Tick }

-- a report's result
abbrev pub checked : ℕ → Asked
checked c = record { checkable = c; event = ordered_result 0 [] }

abbrev pub reported : ℕ → Reported
reported n = record { order = n; status = 0; output = [] }

abbrev pub outstanding : ℕ → ℕ → Outstanding
outstanding n c = record { order = n; checkable = c }

abbrev pub report_taken : ℕ → ℕ → Taken
report_taken n c = record { order = n; asked = checked c }

abbrev pub host : PlainCheck
host = plain_check (1 ∷ []) None

abbrev pub service : PlainCheck
service = plain_check (2 ∷ []) (Some 0)

abbrev pub small : PlainSite
small = plain_site (host ∷ service ∷ []) ((1 ∷ []) ∷ (2 ∷ []) ∷ [])

abbrev pub rules : Rules
rules = rules_of small (λ p moment. true)

abbrev pub down : Event
down = event.Result 2 true [] []

-- no entries before
abbrev pub nothing : Histories
nothing = [] ∷ [] ∷ []

-- caller 0 acts on the host, caller 1 on the service
abbrev pub events : List (List Asked)
events = (record { checkable = 0; event = down } ∷ []) ∷ (record { checkable = 1; event = down } ∷ []) ∷ []

abbrev pub of_host : Entry
of_host = entry_of rules 0 host [] [] (record { caller = 0; moment = 10; event = down; sights = [] })

abbrev pub at_host : Histories
at_host = (of_host ∷ []) ∷ []

abbrev pub sight : ℕ → List Sight
sight n = record { checkable = 0; count = n } ∷ []

abbrev pub of_service : ℕ → Entry
of_service n = entry_of rules 1 service [] (all_seen small (λ c. of_index c at_host) (sight n)) (record { caller = 1; moment = 10; event = down; sights = sight n })

-- the service's entry has seen n of the host's
abbrev pub round : ℕ → Histories
round n = (of_host ∷ []) ∷ (of_service n ∷ []) ∷ []

abbrev pub both : List (List Asked)
both = (record { checkable = 0; event = down } ∷ record { checkable = 1; event = down } ∷ []) ∷ [] ∷ []

abbrev pub own_service : ℕ → Entry
own_service n = entry_of rules 1 service [] (all_seen small (λ c. of_index c at_host) (sight n)) (record { caller = 0; moment = 10; event = down; sights = sight n })

-- caller 0 acts on the host and then on the service, but its sight of the host misses its own entry
abbrev pub frozen : Histories
frozen = (of_host ∷ []) ∷ (own_service 0 ∷ []) ∷ []

-- the second acts on the service twice, and its second entry has seen less of the host than its first
abbrev pub twice : List (List Asked)
twice = (record { checkable = 0; event = down } ∷ []) ∷ (record { checkable = 1; event = down } ∷ record { checkable = 1; event = down } ∷ []) ∷ []

abbrev pub second : Entry
second = entry_of rules 1 service (of_service 1 ∷ []) (all_seen small (λ c. of_index c at_host) (sight 0)) (record { caller = 1; moment = 10; event = down; sights = sight 0 })

abbrev pub falling : Histories
falling = (of_host ∷ []) ∷ (of_service 1 ∷ second ∷ []) ∷ []

-- the host had an entry before the round, of which the service's has seen nothing
abbrev pub one_before : Histories
one_before = (of_host ∷ []) ∷ [] ∷ []

abbrev pub on_service : List (List Asked)
on_service = (record { checkable = 1; event = down } ∷ []) ∷ []

abbrev pub stale : Histories
stale = [] ∷ (own_service 0 ∷ []) ∷ []
