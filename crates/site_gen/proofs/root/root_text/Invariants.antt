-- The hosts so far are written.
use Rattle.std.proofs.Common.{◌≡◌, ◌++◌}
use Rattle.std.specs.List.{flat_map}
use Rattle.run_meaning.specs.Turns.{from_on}
use Rattle.site_gen.specs.Root.{commands_text, host_line}
use Rattle.site_gen.proofs.root.root_text.Given as goal

abbrev pub invariant-loop-host : goal.invariant-loop-host
invariant-loop-host l = l.text ≡ commands_text ++ flat_map host_line (from_on 0 l.host)
