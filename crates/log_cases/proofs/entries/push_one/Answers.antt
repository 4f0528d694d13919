-- What was read can be printed.
use Rattle.site_model.specs.PlainSite.{site_view}
use Rattle.log_cases.proofs.entries.push_one.Goals as goal

pub print_entry-requires : goal.print_entry-requires
print_entry-requires c = (c.in-Ok.ensures.found (site_view c.args.site.now) c.requires).printable
