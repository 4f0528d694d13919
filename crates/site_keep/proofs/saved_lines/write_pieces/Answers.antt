-- One piece after the other.
use Rattle.std.proofs.Common.{slice_index, ◌∙◌}
use Rattle.site_keep.specs.Pieces.{pieces}
use Rattle.site_keep.specs.Shape.{line_items}
use Rattle.site_keep.proofs.WriteLaws.{array_begun, first_fits, piece_more, rest_sum}
use Rattle.site_keep.proofs.saved_lines.write_pieces.Goals as goal

pub loop-count-init : goal.loop-count-init
loop-count-init c =
    (array_begun c.args.out.now.tokens c.begin_array.new.self.tokens (line_items (pieces c.args.lengths.now c.args.text.now)) c.in_ok-begin_array.ensures.ok, c.in_ok-begin_array.ensures.room.0, c.requires)

pub write_piece-requires : goal.write_piece-requires
write_piece-requires c = first_fits c.args.lengths.now c.loop-count.count-index c.loop-count.rest.now c.loop-count-test.true c.loop-count.invariant.2

pub loop-count-preserved : goal.loop-count-preserved
loop-count-preserved c =
    let l = c.loop-count in
    let ns = c.args.lengths.now in
    let i = l.count-index in (
      piece_more ns i l.rest.now c.in_ok-rest.rest.now l.out.tokens c.write_piece.new.out.tokens _ c.loop-count-test.true c.in_ok-rest.ensures.written.0 c.in_ok-rest.ensures.rest l.invariant.0,
      c.in_ok-rest.ensures.written.1 ∙ l.invariant.1,
      rest_sum ns i l.rest.now c.in_ok-rest.rest.now c.loop-count-test.true c.in_ok-rest.ensures.rest l.invariant.2,
    )
