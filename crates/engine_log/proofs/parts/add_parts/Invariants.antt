-- The lines so far are those of these parts.
use Rattle.std.proofs.Common.{◌≡◌, ◌*◌, ◌++◌, length, take}
use Rattle.std.specs.List.{flat_map}
use Rattle.std.specs.Vec.Iter.{into_iter_items}
use Rattle.site_model.specs.PlainSite.{site_view}
use Rattle.engine_log.specs.TurnLines.{segment_lines}
use Rattle.engine_log.proofs.parts.add_parts.Given as goal

abbrev pub invariant-loop-part : goal.invariant-loop-part
invariant-loop-part l = record {
  whole : l.yielded ++ into_iter_items l.part-iterator ≡ l.fn.parts.items;
  lines : l.lines ≡ l.initial.lines ++ flat_map (segment_lines l.fn._style (site_view l._site)) (take (length l.yielded * l._size) l._segments);
}
