-- Dependencies on a cycle.
use Rattle.std.specs.Prelude.{◌≡◌, ◌≢◌, ◌<◌, ◌⊎◌, ◌||◌, ◌↔◌, ℕ, suc, Bool, List, [], ◌∷◌, Some, Contains, AllPairs, slice_get, nat_eq, if◌then◌else◌}
use Rattle.site_model.specs.PlainSite.{PlainSite}
use Rattle.site_model.specs.declared.depend_spec.DependSpec.{DependSpec}
use Rattle.run_meaning.specs.Turns.{of_index}
use Rattle.depend_graph.specs.Parents.{has, IsAbove}

-- a dependency whose child is reached from its parent, by steps from child to parent
abbrev pub IsOnCycle : PlainSite → DependSpec → Type 0
IsOnCycle s d = (d.child ≡ d.parent) ⊎ IsAbove s d.parent d.child

-- the dependencies on a cycle, of which there are some, ascending
pub record AreOnCycles (s : PlainSite) (depends : List ℕ) : Type 0 where
  pub some : depends ≢ []
  pub rising : AllPairs (λ j k. j < k) depends
  pub all : (k : ℕ) → Contains depends k ↔ ((d : DependSpec) × (slice_get s.depends k ≡ Some d) × IsOnCycle s d)

-- the places of those that pass a test, from this place on
abbrev pub places_of : (DependSpec → Bool) → ℕ → List DependSpec → List ℕ
places_of test k [] = []
places_of test k (d ∷ ds) = if test d then k ∷ places_of test (suc k) ds else places_of test (suc k) ds
