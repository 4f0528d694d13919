use Rattle.std.proofs.Common.{sym, ◌∙◌}
use Rattle.site_query.proofs.LineLaws.{filter_parts}
use Rattle.site_query.proofs.lines.read_filter.Goals as goal

pub returns-in-Some-2 : goal.returns-in-Some-2
returns-in-Some-2 c =
    filter_parts c.args.text.now c.in-Some.name.now c.in-Some.rest.now c.in-Some-cut_word.spelling.now c.in-Some-cut_word.value.now c.in-Some-column_named.column c.in-Some-op_named.op _ c.in-Some.ensures.words c.in-Some-cut_word.ensures.words c.in-Some-column_named.ensures c.in-Some-op_named.ensures
    (sym c.in-Some-2.is ∙ c.in_ok-value.ensures)

pub returns-in-None : goal.returns-in-None
returns-in-None c =
    filter_parts c.args.text.now c.in-Some.name.now c.in-Some.rest.now c.in-Some-cut_word.spelling.now c.in-Some-cut_word.value.now c.in-Some-column_named.column c.in-Some-op_named.op _ c.in-Some.ensures.words c.in-Some-cut_word.ensures.words c.in-Some-column_named.ensures c.in-Some-op_named.ensures
    (sym c.in-None.is ∙ c.in_ok-value.ensures)
