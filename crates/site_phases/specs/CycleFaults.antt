-- What is wrong with the dependencies of a site: those on a cycle.
use Rattle.std.specs.Prelude.{◌≡◌, ◌<◌, ◌↔◌, ◌||◌, Bool, length, nat_eq, ℕ, List, [], ◌∷◌, ◌++◌, Option, Some, None, Contains, AllPairs, slice_get}
use Rattle.std.specs.Borrow.{Bor}
use Rattle.site_base.specs.Quoted.{quoted}
use Rattle.site_base.specs.declared.diag.Diag.{Diag}
use Rattle.site_base.specs.declared.diag_kind.DiagKind.TheVariants as diag
use Rattle.site_base.specs.declared.item_no.ItemNo.{ItemNo}
use Rattle.site_base.specs.declared.place.Place.{Place}
use Rattle.site_model.specs.PlainSite.{PlainObject, PlainSite, object_view}
use Rattle.site_model.specs.declared.depend_spec.DependSpec.{DependSpec}
use Rattle.site_model.specs.declared.object.Object.{Object}
use Rattle.object_types.specs.declared.object_type.ObjectType.TheVariants as object
use Rattle.conf_check.specs.Duplicates.{first_object}
use Rattle.run_meaning.specs.Reachability.{is_above}
use Rattle.depend_graph.specs.Cycles.{IsOnCycle, places_of}
use Rattle.site_phases.specs.Constants.{no_item, root_start}

-- A dependency is on a cycle: its child is its parent, or is reached from it by steps from child to parent. No way is longer than there are
-- checkables.
abbrev pub is_turning : PlainSite → DependSpec → Bool
is_turning s d = nat_eq d.child d.parent || is_above s (length s.checkables) d.child d.parent

-- those on a cycle, by their places
unfoldable pub turning : PlainSite → List ℕ
turning s = places_of (is_turning s) 0 s.depends

-- what that means for a site: these are the dependencies on a cycle, over any number of steps, ascending
pub record AreTurning (s : PlainSite) (places : List ℕ) : Type 0 where
  pub rising : AllPairs (λ j k. j < k) places
  pub all : (k : ℕ) → Contains places k ↔ ((d : DependSpec) × (slice_get s.depends k ≡ Some d) × IsOnCycle s d)

-- the full name of the dependency of a place
abbrev pub name_or_none : Option DependSpec → List ℕ
name_or_none None = []
name_or_none (Some d) = d.name

abbrev pub name_at : PlainSite → ℕ → List ℕ
name_at s k = name_or_none (slice_get s.depends k)

-- the quoted names of some after the first, a blank before each
abbrev pub more_names : PlainSite → List ℕ → List ℕ
more_names s [] = []
more_names s (k ∷ ks) = 32 ∷ (quoted (name_at s k) ++ more_names s ks)

-- where an object is told, which each dependency has
abbrev pub number_or_none : Option PlainObject → ItemNo
number_or_none None = no_item
number_or_none (Some o) = o.number

abbrev pub place_or_start : Option PlainObject → Place
place_or_start None = root_start
place_or_start (Some o) = o.place

-- the plain value of what is lent
abbrev pub lent_object : Option (Bor Object) → Option PlainObject
lent_object None = None
lent_object (Some o) = Some (object_view o.now)

abbrev pub dependency : PlainSite → ℕ → Option PlainObject
dependency s k = first_object object.Dependency (name_at s k) s.objects

-- the one diagnostic stands at the first of them and names all
abbrev pub cycle_faults : PlainSite → List ℕ → List Diag
cycle_faults s [] = []
cycle_faults s (k ∷ ks) = record {
  number = number_or_none (dependency s k);
  place = place_or_start (dependency s k);
  kind = diag.DependencyCycle;
  text = quoted (name_at s k) ++ more_names s ks;
} ∷ []
