use Rattle.std.proofs.Common.{◌≡◌, ◌++◌, drop}
use Rattle.conf_sources.specs.Sources.{in_folder}
use Rattle.conf_sources.proofs.listings.in_folder.Given as goal

abbrev pub invariant-loop-name : goal.invariant-loop-name
invariant-loop-name l = l.found ++ in_folder l.folder l.pattern (drop l.name-index l.names) ≡ in_folder l.folder l.pattern l.names
