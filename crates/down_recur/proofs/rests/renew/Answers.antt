-- The seconds that are looked at are those of the block.
use Rattle.std.proofs.Common.{set, ap, ◌∙◌}
use Rattle.down_recur.proofs.Blocks.{block_is}
use Rattle.down_recur.specs.Rests.{least_from}
use Rattle.down_recur.proofs.rests.renew.Goals as goal

pub returns : goal.returns
returns c =
    ap (set c.args.blocks.now.items c.args.block) (c.least_of.ensures ∙ ap (least_from 18446744073709551615) (block_is c.args.seconds.now c.args.block c.min-end.result c.requires.begins c.min-end.ensures))
