-- The entry that an event makes.
use Rattle.std.specs.Prelude.{ℕ, List, map, Option}
use Rattle.jiff_tz.specs.declared.tzif.Tzif.{Tzif}
use Rattle.depend_graph.specs.Outlooks.{holds_in, seen_as}
use Rattle.run_meaning.specs.Acts.{Rules, entry_of}
use Rattle.run_meaning.specs.Meaning.{rules_of}
use Rattle.site_model.specs.PlainSite.{PlainSite}
use Rattle.site_model.specs.declared.entry.Entry.{Entry}
use Rattle.site_model.specs.declared.event.Event.{Event}
use Rattle.site_model.specs.declared.sight.Sight.{Sight}
use Rattle.site_model.specs.declared.view.View.{View}
use Rattle.checkable_core.specs.Contents.{check_at}

-- what the entries of a site in a zone are made by
abbrev pub rules_in : PlainSite → Option Tzif → Rules
rules_in s zone = rules_of s (holds_in s zone)

-- how far an ancestor that showed this was seen
abbrev pub sight_of : ℕ × View → Sight
sight_of seen = record { checkable = seen.0; count = seen.1.count }

-- the entry that a caller's event makes of a checkable of a site with these entries, where its ancestors show this
abbrev pub entry_made : PlainSite → Option Tzif → ℕ → List Entry → ℕ → ℕ → Event → List (ℕ × View) → Entry
entry_made s zone k history caller moment v sights =
    entry_of (rules_in s zone) k (check_at s k) history (map seen_as sights)
    (record { caller = caller; moment = moment; event = v; sights = map sight_of sights })
