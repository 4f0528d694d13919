-- What stands, with the lines of the entries that are left, is all.
use Rattle.std.proofs.Common.{◌≡◌, ◌++◌, drop, map}
use Rattle.site_model.specs.PlainSite.{site_view}
use Rattle.site_keep.specs.StateFile.{saved_line}
use Rattle.site_keep.proofs.saved_lines.SavedLines.add.Given as goal

abbrev pub invariant-loop-entry : goal.invariant-loop-entry
invariant-loop-entry l =
    l.self ++ map (saved_line (site_view l.site) l.checkable) (drop l.entry-index l.entries) ≡ l.fn.self ++ map (saved_line (site_view l.site) l.checkable) l.entries
