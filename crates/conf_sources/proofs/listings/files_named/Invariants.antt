use Rattle.std.proofs.Common.{◌≡◌, ◌++◌, drop, map}
use Rattle.conf_sources.specs.declared.source.Source.TheVariants.{File}
use Rattle.conf_sources.proofs.listings.files_named.Given as goal

abbrev pub invariant-loop-name : goal.invariant-loop-name
invariant-loop-name l = l.all.items ++ map File (drop l.name-index l.names) ≡ map File l.names
