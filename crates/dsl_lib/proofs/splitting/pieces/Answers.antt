use Rattle.std.proofs.Common.{rules, sym, ◌∙◌}
use Rattle.std.specs.Str.{chars}
use Rattle.dsl_lib.specs.Texts.{is_among}
use Rattle.dsl_lib.proofs.Pieces.{pieces_begun, pieces_pushed}
use Rattle.dsl_lib.proofs.splitting.pieces.Goals as goal

pub loop-c-init : goal.loop-c-init
loop-c-init c = (search rules, pieces_begun (is_among (chars c.args.separators.now)) _ _ _ c.new-pieces.ensures c.new-piece.ensures)

pub loop-c-preserved-in_ok-push : goal.loop-c-preserved-in_ok-push
loop-c-preserved-in_ok-push c = (search rules, pieces_pushed (is_among (chars c.args.separators.now)) c.loop-c.pieces _ _ c.loop-c.piece _ _ _ _ c.in-Some.c c.in-Some.ensures (sym c.has_char.ensures ∙ c.if-has_char.true) c.replace.ensures.value (c.replace.ensures.after ∙ c.new.ensures) c.in_ok-push.ensures.ok c.loop-c.invariant.1)
