use Rattle.std.proofs.Common.{◌≡◌, drop}
use Rattle.site_edge.specs.Told.{find_file}
use Rattle.site_edge.proofs.mem_files.find.Given as goal

abbrev pub invariant-loop-path : goal.invariant-loop-path
invariant-loop-path l = find_file l.name (drop l.path-index l.files) ≡ find_file l.name l.files
