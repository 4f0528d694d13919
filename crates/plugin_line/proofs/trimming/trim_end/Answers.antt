use Rattle.std.proofs.Common.{◌∙◌, ap, length, ◌-◌}
use Rattle.std.specs.List.{suffix_len}
use Rattle.plugin_line.specs.Output.{is_blank}
use Rattle.plugin_line.proofs.Boundaries.{back_boundary}
use Rattle.plugin_line.proofs.trimming.trim_end.Goals as goal

pub range-requires-clause-end_boundary : goal.range-requires-clause-end_boundary
range-requires-clause-end_boundary c =
    back_boundary c.args.text.now c.end_without_blanks-to.result
    (c.end_without_blanks-to.ensures ∙ ap (λ bs. length bs - suffix_len is_blank bs) c.as_bytes.ensures.value)
