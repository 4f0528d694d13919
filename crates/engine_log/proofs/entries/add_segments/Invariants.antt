-- The lines so far, followed by those of the rest, are all.
use Rattle.std.proofs.Common.{◌≡◌, ◌++◌, drop}
use Rattle.std.specs.List.{flat_map}
use Rattle.site_model.specs.PlainSite.{site_view}
use Rattle.engine_log.specs.TurnLines.{segment_lines}
use Rattle.engine_log.proofs.entries.add_segments.Given as goal

abbrev pub invariant-loop-segment : goal.invariant-loop-segment
invariant-loop-segment l =
    l.lines ++ flat_map (segment_lines l.style (site_view l.site)) (drop l.segment-index l.segments) ≡ l.initial.lines ++ flat_map (segment_lines l.style (site_view l.site)) l.fn.segments
