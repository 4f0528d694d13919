-- Apply rules that make no object.
use Rattle.std.specs.Prelude.{ℕ, Bool, not, List, [], map, nat_eq}
use Rattle.std.specs.List.{filter, list_any}
use Rattle.site_base.specs.declared.place.Place.{Place}
use Rattle.site_model.specs.PlainSite.{PlainObject, PlainSite}
use Rattle.eval_meaning.specs.Registered.{PlainRule}
use Rattle.commit_meaning.specs.Commits.{Committed, site, refused}
use Rattle.site_load.specs.Loads.{LoadOutcome, loads, refuses}
use Rattle.site_load.specs.declared.idle.Mark.{Mark}

-- an object comes from the statement with this number
abbrev pub comes_from : ℕ → PlainObject → Bool
comes_from n o = nat_eq n o.number.item

-- none of the objects comes from a rule
abbrev pub is_idle : List PlainObject → PlainRule → Bool
is_idle os r = not (list_any (comes_from r.number.item) os)

-- the places of those rules, in the order in which they were registered
abbrev pub idle_places : List PlainRule → List PlainObject → List Place
idle_places rs os = map (λ r. r.place) (filter (is_idle os) rs)

-- those of what was committed; if there is no site, nothing is said of its rules
abbrev pub idle_by : List PlainRule → Committed PlainSite → List Place
idle_by rs (site s) = idle_places rs s.objects
idle_by rs (refused list) = []

-- the apply rules that files registered
abbrev pub rules_of : LoadOutcome → List PlainRule
rules_of (loads _ load _) = load.rules
rules_of (refuses _ _) = []

-- The same by what is kept of the rules.

abbrev pub mark_of : PlainRule → Mark
mark_of r = record { item = r.number.item; place = r.place }

abbrev pub source_of : PlainObject → ℕ
source_of o = o.number.item

-- by the numbers that objects come from
abbrev pub idle_among : List Mark → List ℕ → List Place
idle_among ms ns = map (λ m. m.place) (filter (λ m. not (list_any (nat_eq m.item) ns)) ms)

abbrev pub idle_marked : List Mark → List PlainObject → List Place
idle_marked ms os = map (λ m. m.place) (filter (λ m. not (list_any (comes_from m.item) os)) ms)

abbrev pub idle_after : List Mark → Committed PlainSite → List Place
idle_after ms (site s) = idle_marked ms s.objects
idle_after ms (refused list) = []
