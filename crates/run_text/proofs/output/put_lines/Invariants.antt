-- The lines so far were written.
use Rattle.std.proofs.Common.{◌≤◌, take}
use Rattle.std.specs.List.{concat}
use Rattle.site_edge.specs.Lists.{Adds}
use Rattle.run_text.proofs.output.put_lines.Given as goal

abbrev pub invariant-loop-line : goal.invariant-loop-line
invariant-loop-line g l =
    (g.S.Sink.faults l.initial.out ≤ g.S.Sink.faults l.out)
    × Adds (concat (take l.line-index l.lines)) (g.S.Sink.written l.initial.out) (g.S.Sink.written l.out)
    × (g.S.Sink.calm l.initial.out → g.S.Sink.calm l.out)
