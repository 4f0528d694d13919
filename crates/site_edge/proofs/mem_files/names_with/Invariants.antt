use Rattle.std.proofs.Common.{◌≡◌, filter, map, take}
use Rattle.site_edge.specs.Told.{is_below, name_of}
use Rattle.site_edge.proofs.mem_files.names_with.Given as goal

abbrev pub invariant-loop-name : goal.invariant-loop-name
invariant-loop-name l = l.names.items ≡ filter (is_below l.dir) (map name_of (take l.name-index l.files))
