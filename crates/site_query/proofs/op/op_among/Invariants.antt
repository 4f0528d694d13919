use Rattle.std.proofs.Common.{◌≡◌, drop}
use Rattle.site_query.specs.Names.{op_text, spelled_among}
use Rattle.site_query.proofs.op.op_among.Given as goal

abbrev pub invariant-loop-op : goal.invariant-loop-op
invariant-loop-op l = spelled_among op_text (drop l.op-index l.ops) l.spelling ≡ spelled_among op_text l.ops l.spelling
