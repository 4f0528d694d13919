use Rattle.std.proofs.Common.{arith, sym}
use Rattle.std.proofs.lemmas.List.{length-take-le, take_all}
use Rattle.plugin_line.proofs.reading.front_of.Goals as goal

pub slice_bounds-result-end : goal.slice_bounds-result-end
slice_bounds-result-end c = sym (length-take-le 65536 c.args.bytes.now (omega arith))

pub returns-else-bytes-gt-LIMIT : goal.returns-else-bytes-gt-LIMIT
returns-else-bytes-gt-LIMIT c = sym (take_all 65536 c.args.bytes.now (omega arith))
