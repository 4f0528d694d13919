use Rattle.event_text.proofs.CutLaws.{split_is}
use Rattle.event_text.proofs.cutting.cut.Goals as goal

pub returns : goal.returns
returns c = split_is c.args.mark.now c.args.text.now c.split_once.result c.requires c.split_once.ensures.cases
