-- The commands so far, and those that are left, are all.
use Rattle.std.proofs.Common.{◌≡◌, ◌++◌, map, drop}
use Rattle.site_model.specs.PlainSite.{command_view}
use Rattle.object_lists.specs.Listed.{lent_view}
use Rattle.typed_site.specs.Checks.{command_of}
use Rattle.typed_site.proofs.checks.command_specs.Given as goal

abbrev pub invariant-loop-command : goal.invariant-loop-command
invariant-loop-command l = map command_view l.specs.items ++ map command_of (lent_view (drop l.command-index l.commands)) ≡ map command_of (lent_view l.commands)
