-- Dependencies that stand together: which one leads them, and which it leads.
use Rattle.std.specs.Prelude.{◌≡◌, ◌≢◌, ◌<◌, ◌≤◌, ◌⊎◌, ◌↔◌, ◌&&◌, not, ℕ, suc, List, [], ◌∷◌, ◌++◌, Option, Some, None, AllPairs, true, length, slice_get, nat_eq, unwrap_or, if◌then◌else◌}
use Rattle.std.specs.HashMap.{HashMap, get_by}
use Rattle.std.specs.Str.{bytes_eq}
use Rattle.site_model.specs.PlainSite.{PlainSite}
use Rattle.site_model.specs.declared.depend_spec.DependSpec.{DependSpec}
use Rattle.run_meaning.specs.Turns.{of_index}
use Rattle.run_meaning.specs.Reachability.{same_group, stand_together}
use Rattle.depend_graph.specs.Parents.{has}

-- two dependencies, by their places, stand together
abbrev pub Together : List DependSpec → ℕ → ℕ → Type 0
Together ds j k = (d : DependSpec) × (e : DependSpec) × (slice_get ds j ≡ Some d) × (slice_get ds k ≡ Some e) × (stand_together d e ≡ true)

-- For each checkable the dependencies that lead others or stand alone, ascending, and for each of these the ones that it
-- leads: those that stand together with it.
pub record AreTeams (s : PlainSite) (leaders followers : List (List ℕ)) : Type 0 where
  pub checkables : length leaders ≡ length s.checkables
  pub depends : length followers ≡ length s.depends
  pub child : (c k : ℕ) → has k (of_index c leaders) ≡ true → (d : DependSpec) × (slice_get s.depends k ≡ Some d) × (d.child ≡ c)
  pub rising : (c : ℕ) → AllPairs (λ j k. j < k) (of_index c leaders)
  pub led : (k : ℕ) (d : DependSpec) → slice_get s.depends k ≡ Some d → (j : ℕ) × (j ≤ k) × (has j (of_index d.child leaders) ≡ true) × ((j ≡ k) ⊎ Together s.depends j k)
  pub others : (c k j : ℕ) → has k (of_index c leaders) ≡ true → (has j (of_index k followers) ≡ true) ↔ ((j ≢ k) × Together s.depends k j)

-- The same, calculated.

-- the place of the first that stands together with one, from this place on
abbrev pub first_with : DependSpec → ℕ → List DependSpec → Option ℕ
first_with d k [] = None
first_with d k (e ∷ es) = if stand_together d e then Some k else first_with d (suc k) es

-- the one that leads a dependency behind these: itself, if none of them stands together with it
abbrev pub leader_in : List DependSpec → DependSpec → ℕ
leader_in ds d = unwrap_or (first_with d 0 ds) (length ds)

-- the place of the first of a child in a group, from this place on
abbrev pub first_keyed : ℕ → List ℕ → ℕ → List DependSpec → Option ℕ
first_keyed c g k [] = None
first_keyed c g k (e ∷ es) = if nat_eq c e.child && same_group (Some g) e.group then Some k else first_keyed c g (suc k) es

-- a map has the first of each child in each group, among these dependencies
abbrev pub AreFirsts : {R S : Type 0} → HashMap (ℕ × R) ℕ S → (R → List ℕ) → List DependSpec → Type 0
AreFirsts {R = R} m text ds = (q : ℕ × R) → get_by (λ k. nat_eq q.0 k.0 && bytes_eq (text q.1) (text k.1)) m ≡ first_keyed q.0 (text q.1) 0 ds

-- the leaders of all dependencies that stand behind some
abbrev pub leaders_behind : List DependSpec → List DependSpec → List ℕ
leaders_behind ds [] = []
leaders_behind ds (e ∷ es) = leader_in ds e ∷ leaders_behind (ds ++ e ∷ []) es

abbrev pub all_leaders : List DependSpec → List ℕ
all_leaders ds = leaders_behind [] ds

-- those of a checkable that lead themselves, by the dependencies and their leaders from this place on
abbrev pub leading : ℕ → ℕ → List DependSpec → List ℕ → List ℕ
leading k c [] ls = []
leading k c (d ∷ ds) [] = []
leading k c (d ∷ ds) (l ∷ ls) = if nat_eq d.child c && nat_eq l k then k ∷ leading (suc k) c ds ls else leading (suc k) c ds ls

-- those that one leads, without itself
abbrev pub following : ℕ → ℕ → List ℕ → List ℕ
following k n [] = []
following k n (l ∷ ls) = if nat_eq l n && not (nat_eq l k) then k ∷ following (suc k) n ls else following (suc k) n ls
