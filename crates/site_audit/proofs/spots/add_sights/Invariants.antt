use Rattle.std.proofs.Common.{◌≡◌, ◌++◌, drop, map}
use Rattle.site_audit.specs.Spots.{sight_spot}
use Rattle.site_audit.proofs.spots.add_sights.Given as goal

-- the spots so far, and those of the other sights
abbrev pub invariant-loop-sight : goal.invariant-loop-sight
invariant-loop-sight l = l.spots ++ map (sight_spot l.thing l.caller) (drop l.sight-index l.sights) ≡ l.fn.spots ++ map (sight_spot l.thing l.caller) l.sights
