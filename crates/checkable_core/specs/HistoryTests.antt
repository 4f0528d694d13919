-- Tests of entries, one after the other.
use Rattle.std.specs.Prelude.{ℕ, ◌+◌, ◌==◌, ◌&&◌, nat_le, nat_lt, Bool, true, false, List, [], ◌∷◌, length}
use Rattle.std.specs.List.{list_all}
use Rattle.site_model.specs.PlainSite.{PlainSite}
use Rattle.site_model.specs.declared.decision.Decision.{Decision}
use Rattle.site_model.specs.declared.entry.Entry.{Entry}
use Rattle.site_model.specs.declared.event.Event.{Event}
use Rattle.site_model.specs.declared.event.Event.TheVariants as event
use Rattle.site_model.specs.declared.outcome.Outcome.{Outcome}
use Rattle.site_model.specs.declared.outcome.Outcome.TheVariants as outcome

abbrev pub is_duration : Bool → ℕ → Bool
is_duration true duration = duration == 0
is_duration false duration = nat_lt 0 duration

abbrev pub is_lawful : Event → Bool
is_lawful (event.Result status passive output perf) = nat_le status 3
is_lawful (event.Down start finish fixed duration) = nat_lt start finish && is_duration fixed duration
is_lawful v = true

abbrev pub names_own : PlainSite → Outcome → Bool
names_own s (outcome.Sent users) = list_all (λ u. nat_lt u (length s.users)) users
names_own s (outcome.Dependency depend) = nat_lt depend (length s.depends)
names_own s (outcome.Host host) = nat_lt host (length s.checkables)
names_own s o = true

abbrev pub decides_own : PlainSite → Decision → Bool
decides_own s d = nat_lt d.notification (length s.notifies) && names_own s d.outcome

abbrev pub is_entry_of : PlainSite → Entry → Bool
is_entry_of s e =
    is_lawful e.event
    && (list_all (λ sight. nat_lt sight.checkable (length s.checkables)) e.sights
    && list_all (decides_own s) e.decisions)

-- these entries are numbered from n + 1 on, none of them is before this moment or the entry ahead of it, and each is one of
-- the site
abbrev pub is_history_from : PlainSite → ℕ → ℕ → List Entry → Bool
is_history_from s n from [] = true
is_history_from s n from (e ∷ es) =
    (e.number == n + 1) && (nat_le from e.moment && (is_entry_of s e && is_history_from s (n + 1) e.moment es))
