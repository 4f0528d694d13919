-- What was read can be printed.
use Rattle.site_model.specs.PlainSite.{site_view}
use Rattle.log_cases.proofs.entries.push_two.Goals as goal

pub print_entry_two-requires : goal.print_entry_two-requires
print_entry_two-requires c = (c.in-Ok.ensures.found (site_view c.args.site.now) c.requires).printable
