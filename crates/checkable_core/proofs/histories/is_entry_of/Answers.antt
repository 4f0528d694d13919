-- The test tells.
use Rattle.site_model.specs.PlainSite.{site_view}
use Rattle.checkable_core.proofs.Tests.{tells_entry}
use Rattle.checkable_core.proofs.histories.is_entry_of.Goals as goal

pub returns : goal.returns
returns c = tells_entry (site_view c.args.site.now) c.args.entry.now c.names_site.result c.names_site.ensures
