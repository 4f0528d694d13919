use Rattle.std.proofs.Common.{◌≡◌, drop}
use Rattle.event_text.specs.Commands.{command_among}
use Rattle.event_text.proofs.naming.command_among.Given as goal

abbrev pub invariant-loop-command : goal.invariant-loop-command
invariant-loop-command l = command_among (drop l.command-index l.commands) l.name ≡ command_among l.commands l.name
