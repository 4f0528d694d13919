-- Sites whose checkables have the names of hosts and services.
use Rattle.std.specs.Prelude.{◌≡◌, ◌<◌, ℕ, List, Some, length}
use Rattle.std.specs.List.{AllByRecursion, slice_get}
use Rattle.std.specs.Str.{IsUtf8}
use Rattle.site_model.specs.PlainSite.{PlainCheck, PlainSite, full_names}
use Rattle.site_model.specs.Sound.{HasNames}
use Rattle.event_text.specs.Checkables.{IsHost, IsService}
use Rattle.event_text.specs.Cuts.{IsUncut}
use Rattle.site_audit.specs.Commands.{mark}

-- a host's name isn't empty, and holds no `!`
pub record IsHostName (name : List ℕ) : Type 0 where
  pub some : 0 < length name
  pub unmarked : IsUncut mark name

-- the checkable at a place is a service
pub record IsSomeService (s : PlainSite) (k : ℕ) : Type 0 where
  pub host : List ℕ
  pub own : List ℕ
  pub is : IsService s host own k

-- what a configuration's site has: its names are distinct texts, those of hosts are such names, and whatever has a host is a service of it
pub record IsWellNamed (s : PlainSite) : Type 0 where
  pub names : HasNames s
  pub texts : AllByRecursion IsUtf8 (full_names s)
  pub hosts : (name : List ℕ) (k : ℕ) → IsHost s name k → IsHostName name
  pub services : (k : ℕ) (check : PlainCheck) (host : ℕ)
      → slice_get s.checkables k ≡ Some check → check.host ≡ Some host → IsSomeService s k
