-- The entries are those of the segment.
use Rattle.std.proofs.Common.{All, subst, sym}
use Rattle.site_model.specs.PlainSite.{site_view}
use Rattle.site_text.specs.Entries.{IsPrintable}
use Rattle.kept_runs.proofs.gathering.add_segment.Goals as goal

pub add-requires : goal.add-requires
add-requires c = subst (All (IsPrintable (site_view c.args.site.now) c.args.segment.checkable)) (sym c.as_slice.ensures) c.requires.printable
