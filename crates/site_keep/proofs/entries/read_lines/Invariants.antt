-- The entries so far, with those of the lines that are left, are all of them.
use Rattle.std.proofs.Common.{◌≡◌, drop}
use Rattle.serde_json.specs.View.{items_view}
use Rattle.log_text.specs.Fronts.{◌>>=◌}
use Rattle.log_text.specs.SiteNames.{names_view}
use Rattle.site_keep.specs.Reading.{entries_among}
use Rattle.site_keep.proofs.SlotLaws.{joined}
use Rattle.site_keep.proofs.entries.read_lines.Given as goal

abbrev pub invariant-loop-line : goal.invariant-loop-line
invariant-loop-line l =
    (entries_among (names_view l.names) l.checkable (items_view (drop l.line-index l.lines)) >>= joined l.entries.items) ≡ entries_among (names_view l.names) l.checkable (items_view l.lines)
