-- Small sites, and entries that saw others.
use Rattle.std.specs.Prelude.{ℕ, List, [], map, true, None}
use Rattle.site_model.specs.PlainSite.{PlainSite, plain_check, plain_site}
use Rattle.site_model.specs.declared.entry.Entry.{Entry}
use Rattle.site_model.specs.declared.event.Event.TheVariants as event
use Rattle.site_model.specs.declared.sight.Sight.{Sight}
use Rattle.site_model.specs.declared.state.State.TheVariants as state

-- hosts of these names and nothing else
abbrev pub hosts : List (List ℕ) → PlainSite
hosts names = plain_site (map (λ n. plain_check n None) names) names

abbrev pub seen : ℕ → ℕ → Sight
seen k n = record { checkable = k; count = n }

-- the first entry of a host, at which these were seen
abbrev pub first_entry : List Sight → Entry
first_entry sights = record {
  caller = 0;
  number = 1;
  moment = 10;
  event = event.Tick;
  taken = true;
  state = state.Up;
  hard = true;
  attempt = 1;
  sights = sights;
  decisions = [];
}
