use Rattle.std.proofs.Common.{◌∙◌, ap}
use Rattle.std.specs.List.{prefix_len}
use Rattle.plugin_line.specs.Output.{is_blank}
use Rattle.plugin_line.proofs.Boundaries.{front_boundary}
use Rattle.plugin_line.proofs.trimming.trim_start.Goals as goal

pub range_from-requires : goal.range_from-requires
range_from-requires c =
    front_boundary c.args.text.now c.utf8.text c.blanks_in_front-from.result
    (c.blanks_in_front-from.ensures ∙ ap (prefix_len is_blank) c.as_bytes.ensures.value)
