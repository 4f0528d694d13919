-- A world decides each read of a host or a service.
use Rattle.std.proofs.Common.{◌≡◌, ℕ, List, Bool, true, false, Option, Some, None, refl, sym, true≢false}
use Rattle.site_base.specs.Data.{Data}
use Rattle.site_model.specs.PlainSite.{PlainObject}
use Rattle.eval_meaning.specs.Views.{IsDecided, IsWorld, host, service, sight, sight_by, object_in, is_absent}
use Rattle.eval_meaning.specs.Load.{Loaded}
use Rattle.commit_meaning.specs.Worlds.{world_view}

decided_by : (o : Option Data) (b : Bool) → b ≡ true → IsDecided (sight_by o b)
decided_by (Some d) b e = tt
decided_by None true e = tt
decided_by None false e = absurd (true≢false (sym e))

decides_hosts : (load : Loaded) (os : List PlainObject) (n : List ℕ) → IsDecided (sight (world_view load os) (host n))
unfolding sight
decides_hosts load os n = decided_by (object_in (host n) (world_view load os).objects) (is_absent (world_view load os) (host n)) refl

decides_services : (load : Loaded) (os : List PlainObject) (h n : List ℕ) → IsDecided (sight (world_view load os) (service h n))
unfolding sight
decides_services load os h n = decided_by (object_in (service h n) (world_view load os).objects) (is_absent (world_view load os) (service h n)) refl

pub is_world : (load : Loaded) (os : List PlainObject) → IsWorld (world_view load os)
is_world load os = record { hosts = decides_hosts load os; services = decides_services load os }
