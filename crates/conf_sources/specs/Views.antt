-- The plain value that what is kept of a file stands for.
use Rattle.dsl_syntax.specs.SyntaxView.{file_view}
use Rattle.conf_sources.specs.Reading.{Kept as KeptValue}
use Rattle.conf_sources.specs.declared.kept.Kept.{Kept}

abbrev pub kept_view : Kept → KeptValue
kept_view k = record { holding = k.holding; tree = file_view k.tree; inclusions = k.inclusions.items; faults = k.faults.items }
