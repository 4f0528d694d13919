use Rattle.std.proofs.Common.{◌≡◌, ◌++◌, drop}
use Rattle.conf_sources.specs.Sources.{below_folder}
use Rattle.conf_sources.proofs.listings.below_folder.Given as goal

abbrev pub invariant-loop-name : goal.invariant-loop-name
invariant-loop-name l = l.found ++ below_folder l.pattern (drop l.name-index l.names) ≡ below_folder l.pattern l.names
