use Rattle.command_macros.proofs.CutLaws.{cut_is}
use Rattle.command_macros.proofs.cutting.cut.Goals as goal

pub returns : goal.returns
returns c = cut_is c.args.mark c.args.text.now c.split_once.result c.split_once.ensures.cases c.requires
