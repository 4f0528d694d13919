-- The files so far, and those of the trees that are left, are all.
use Rattle.std.proofs.Common.{◌≡◌, ◌++◌, map}
use Rattle.std.specs.Vec.Iter.{into_iter_items}
use Rattle.dsl_syntax.specs.SyntaxView.{file_view}
use Rattle.eval_work.specs.Works.{plain_file}
use Rattle.site_load.specs.Loads.{plain_files}
use Rattle.site_load.proofs.source_files.source_files.Given as goal

abbrev pub invariant-loop-file : goal.invariant-loop-file
invariant-loop-file l =
    map plain_file l.files.items ++ plain_files l.left l.flags (map file_view (into_iter_items l.file-iterator)) ≡ plain_files l.fn.names l.fn.library (map file_view l.fn.trees.items)
