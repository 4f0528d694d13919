use Rattle.std.proofs.Common.{◌∙◌}
use Rattle.dsl_lexer.proofs.FirstMarks.{mark_by_first}
use Rattle.dsl_lexer.proofs.marks.read_mark.Goals as goal

pub returns-in-len1-up-clause-value : goal.returns-in-len1-up-clause-value
returns-in-len1-up-clause-value c = c.mark_among.ensures.value ∙ mark_by_first c.args.text.now c.marks_with.result.now c.in-len1-up.len_at_least c.marks_with.ensures
