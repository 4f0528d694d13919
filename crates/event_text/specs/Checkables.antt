-- Which checkables lines name.
use Rattle.std.specs.Prelude.{ℕ, ◌≡◌, ◌==◌, Bool, true, false, List, ◌∷◌, ◌++◌, Option, Some, None, if◌then◌else◌}
use Rattle.std.specs.List.{slice_get}
use Rattle.site_model.specs.Names.{place_of}
use Rattle.site_model.specs.PlainSite.{PlainSite, PlainCheck}

-- a service's full name
abbrev pub full_name : List ℕ → List ℕ → List ℕ
full_name host service = host ++ 33 ∷ service

-- at this place stands the host of this name
pub record IsHost (s : PlainSite) (name : List ℕ) (k : ℕ) : Type 0 where
  pub check : PlainCheck
  pub at : slice_get s.checkables k ≡ Some check
  pub named : check.name ≡ name
  pub own : check.host ≡ None

-- at this place stands the service of this name on the host of that name
pub record IsService (s : PlainSite) (host service : List ℕ) (k : ℕ) : Type 0 where
  pub place : ℕ
  pub below : IsHost s host place
  pub check : PlainCheck
  pub at : slice_get s.checkables k ≡ Some check
  pub named : check.name ≡ full_name host service
  pub joined : check.host ≡ Some place

-- a host, or a service of it
abbrev pub IsNamed : PlainSite → List ℕ → Option (List ℕ) → ℕ → Type 0
IsNamed s host None k = IsHost s host k
IsNamed s host (Some service) k = IsService s host service k

-- whether the checkable takes passive results
abbrev pub takes_passive : Option PlainCheck → Bool
takes_passive None = false
takes_passive (Some check) = check.passive

-- The same, calculated.
abbrev pub is_none : Option ℕ → Bool
is_none None = true
is_none (Some h) = false

abbrev pub is_some_of : ℕ → Option ℕ → Bool
is_some_of k None = false
is_some_of k (Some h) = h == k

abbrev pub is_host : Option PlainCheck → Bool
is_host None = false
is_host (Some check) = is_none check.host

abbrev pub is_service_of : ℕ → Option PlainCheck → Bool
is_service_of host None = false
is_service_of host (Some check) = is_some_of host check.host

-- the place, where a host stands there
abbrev pub host_at : PlainSite → Option ℕ → Option ℕ
host_at s None = None
host_at s (Some k) = if is_host (slice_get s.checkables k) then Some k else None

-- the place, where a service of this host stands there
abbrev pub service_at : PlainSite → ℕ → Option ℕ → Option ℕ
service_at s host None = None
service_at s host (Some k) = if is_service_of host (slice_get s.checkables k) then Some k else None

unfoldable pub host_named : PlainSite → List ℕ → Option ℕ
host_named s name = host_at s (place_of name s.names)

abbrev pub service_below : PlainSite → List ℕ → Option ℕ → Option ℕ
service_below s name None = None
service_below s name (Some host) = service_at s host (place_of name s.names)

unfoldable pub service_named : PlainSite → List ℕ → List ℕ → Option ℕ
service_named s host service = service_below s (full_name host service) (host_named s host)
