use Rattle.std.proofs.Common.{◌≡◌, ◌-◌, ◌≤◌, length, take}
use Rattle.std.specs.List.{suffix_len}
use Rattle.plugin_line.specs.Output.{is_blank}
use Rattle.plugin_line.proofs.trimming.end_without_blanks.Given as goal

-- what stands behind the end is blank
abbrev pub invariant-loop-end : goal.invariant-loop-end
invariant-loop-end l = record {
  within : l.end ≤ length l.bytes;
  blanks : l.end - suffix_len is_blank (take l.end l.bytes) ≡ length l.bytes - suffix_len is_blank l.bytes;
}

abbrev pub decreases-loop-end : goal.decreases-loop-end
decreases-loop-end l = l.end
