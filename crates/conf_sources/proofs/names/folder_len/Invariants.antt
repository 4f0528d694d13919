use Rattle.std.proofs.Common.{◌≡◌, drop}
use Rattle.conf_sources.specs.Names.{through_last, is_slash}
use Rattle.conf_sources.proofs.NameLaws.{so_far}
use Rattle.conf_sources.proofs.names.folder_len.Given as goal

abbrev pub invariant-loop-i : goal.invariant-loop-i
invariant-loop-i l = so_far is_slash l.i l.len (drop l.i l.bytes) ≡ through_last is_slash l.bytes
