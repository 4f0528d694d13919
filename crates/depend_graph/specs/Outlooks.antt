-- What an outlook of the code means, and one step of what holds back.
use Rattle.std.specs.Prelude.{◌≡◌, ◌<◌, ◌&&◌, ℕ, Bool, false, List, [], ◌∷◌, Option, Some, None, AllPairs, map, slice_get, nat_eq, if◌then◌else◌}
use Rattle.std.specs.List.{list_all}
use Rattle.jiff_tz.specs.declared.tzif.Tzif.{Tzif}
use Rattle.site_base.specs.declared.period_spec.PeriodSpec.{PeriodSpec}
use Rattle.site_model.specs.PlainSite.{PlainSite, site_view}
use Rattle.site_model.specs.declared.depend_spec.DependSpec.{DependSpec}
use Rattle.site_model.specs.declared.view.View.{View}
use Rattle.time_range.specs.Period.{is_inside}
use Rattle.run_meaning.specs.Acts.{Seen}
use Rattle.run_meaning.specs.Turns.{of_index}
use Rattle.run_meaning.specs.Reachability as Meant
use Rattle.run_meaning.specs.Reachability.{depend_or, first_back, host_back, host_in, is_down}
use Rattle.depend_graph.specs.declared.outlook.Outlook.{Outlook}
use Rattle.depend_graph.specs.declared.purpose.Purpose.{Purpose}
use Rattle.depend_graph.specs.Positions.{ArePositions}
use Rattle.depend_graph.specs.Reaching.{purpose_as}
use Rattle.depend_graph.specs.Teams.{AreTeams}

abbrev pub holds_then : Option PeriodSpec → ℕ → Option Tzif → Bool
holds_then None moment table = false
holds_then (Some spec) moment table = is_inside spec moment table

-- whether a site's period of this index holds at a moment, in a zone
abbrev pub holds_in : PlainSite → Option Tzif → ℕ → ℕ → Bool
holds_in s table p moment = holds_then (slice_get s.periods p) moment table

abbrev pub seen_as : ℕ × View → Seen
seen_as sight = record { checkable = sight.0; view = sight.1 }

-- what is known where these are the sights
abbrev pub outlook_of : PlainSite → Option Tzif → Purpose → ℕ → List (ℕ × View) → Meant.Outlook
outlook_of s table purpose moment sights =
    record { site = s; holds = holds_in s table; purpose = purpose_as purpose; moment = moment; seen = map seen_as sights }

abbrev pub meant_by : Outlook → Meant.Outlook
meant_by o = outlook_of (site_view o.site.now) o.zone.now o.purpose o.moment o.sights.now

-- the flag beside a number in a list; none is set where the number isn't there
abbrev pub flagged : List ℕ → List Bool → ℕ → Bool
flagged [] flags n = false
flagged (m ∷ ms) [] n = false
flagged (m ∷ ms) (f ∷ fs) n = if nat_eq m n then f else flagged ms fs n

-- what holds one back, if these are blocked
abbrev pub step_of : Meant.Outlook → (ℕ → Bool) → ℕ → Meant.Reach
step_of o blocked c =
    depend_or (first_back o blocked c 0 o.site.depends) (host_back o blocked o.purpose (host_in (slice_get o.site.checkables c)))

abbrev pub down_then : Meant.Outlook → (ℕ → Bool) → Option DependSpec → Bool
down_then o blocked None = false
down_then o blocked (Some d) = is_down o blocked d

-- whether the dependency of this place is down
abbrev pub down_at : Meant.Outlook → (ℕ → Bool) → ℕ → Bool
down_at o blocked k = down_then o blocked (slice_get o.site.depends k)

-- it is, and so are those that it leads
abbrev pub leads_back : Meant.Outlook → (ℕ → Bool) → List (List ℕ) → ℕ → Bool
leads_back o blocked followers k = down_at o blocked k && list_all (down_at o blocked) (of_index k followers)

-- the first of these that passes a test
abbrev pub first_of : (ℕ → Bool) → List ℕ → Option ℕ
first_of test [] = None
first_of test (k ∷ ks) = if test k then Some k else first_of test ks

-- the ancestors rise, are those of the sights and stand where they should, and the dependencies stand together as they should
pub record IsFit (o : Outlook) : Type 0 where
  pub rising : AllPairs (λ p q. p < q) o.above.now
  pub sights : map (λ (s : ℕ × View). s.0) o.sights.now ≡ o.above.now
  pub places : ArePositions o.above.now o.positions.now
  pub teams : AreTeams (site_view o.site.now) o.leaders.now o.followers.now
