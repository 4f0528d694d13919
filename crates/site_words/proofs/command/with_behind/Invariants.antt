-- What the rest asks for with the options so far is what all words ask for.
use Rattle.std.proofs.Common.{◌≡◌, length}
use Rattle.site_words.specs.Commands.{AreFew, command_behind}
use Rattle.site_words.proofs.command.with_behind.Given as goal

abbrev pub invariant-loop-rest : goal.invariant-loop-rest
invariant-loop-rest l = record {
  all : command_behind l.own l.options l.rest ≡ command_behind l.own l.fn.before l.others;
  few : AreFew l.options;
}

abbrev pub decreases-loop-rest : goal.decreases-loop-rest
decreases-loop-rest l = length l.rest
