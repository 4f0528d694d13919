use Rattle.dsl_lib.proofs.Chars.{whole_trimmed}
use Rattle.dsl_lib.proofs.trimming.trimmed.Goals as goal

pub returns : goal.returns
returns c = whole_trimmed c.args.text.now c.trimmed_start.result.now c.trimmed_end.result.now c.trimmed_end.utf8 c.trimmed_start.ensures c.trimmed_end.ensures
