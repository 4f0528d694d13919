-- On which checkables each depends, at once and over any number of steps.
use Rattle.std.specs.Prelude.{◌≡◌, ℕ, ◌<◌, ◌^◌, All, Bool, List, length, map, filter, slice_get, nat_eq, IsTrue}
use Rattle.std.specs.List.{list_any}
use Rattle.site_model.specs.PlainSite.{PlainSite}
use Rattle.site_model.specs.Sound.{AreHostsThenServices}
use Rattle.site_model.specs.declared.depend_spec.DependSpec.{DependSpec}
use Rattle.run_meaning.specs.Turns.{of_index}
use Rattle.run_meaning.specs.Reachability.{host_in, parents_of, is_above}

-- What a graph needs of a site: hosts before services, dependencies between the site's own checkables, and few enough of both
-- to be named by 32 bits.
pub record HasParents (s : PlainSite) : Type 0 where
  pub in_order : AreHostsThenServices s.checkables
  pub children : All (λ d. d.child < length s.checkables) s.depends
  pub parents : All (λ d. d.parent < length s.checkables) s.depends
  pub few_checkables : length s.checkables < 2 ^ 32
  pub few_depends : length s.depends < 2 ^ 32

-- whether a number is among these
abbrev pub has : ℕ → List ℕ → Bool
has n ns = list_any (nat_eq n) ns

-- the parents that dependencies give
abbrev pub given : ℕ → List DependSpec → List ℕ
given c ds = map (λ d. d.parent) (filter (λ d. nat_eq d.child c) ds)

-- the lists are those of the hosts, each alone or none
pub record AreHosts (s : PlainSite) (lists : List (List ℕ)) : Type 0 where
  pub many : length lists ≡ length s.checkables
  pub hosts : (c : ℕ) → c < length s.checkables → of_index c lists ≡ host_in (slice_get s.checkables c)

-- the lists are those of the parents
pub record AreParents (s : PlainSite) (lists : List (List ℕ)) : Type 0 where
  pub many : length lists ≡ length s.checkables
  pub parents : (c : ℕ) → c < length s.checkables → of_index c lists ≡ parents_of s c

-- one depends on this one, over any number of steps
abbrev pub IsAbove : PlainSite → ℕ → ℕ → Type 0
IsAbove s c p = (steps : ℕ) × IsTrue (is_above s steps p c)
