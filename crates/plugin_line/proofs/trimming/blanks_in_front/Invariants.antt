use Rattle.std.proofs.Common.{◌≡◌, ◌+◌, drop}
use Rattle.std.specs.List.{prefix_len}
use Rattle.plugin_line.specs.Output.{is_blank}
use Rattle.plugin_line.proofs.trimming.blanks_in_front.Given as goal

-- what was passed is blank
abbrev pub invariant-loop-i : goal.invariant-loop-i
invariant-loop-i l = prefix_len is_blank l.bytes ≡ l.i + prefix_len is_blank (drop l.i l.bytes)
