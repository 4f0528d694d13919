use Rattle.apply_rules.proofs.Behind.{cut_behind}
use Rattle.apply_rules.proofs.own_name.cut.Goals as goal

pub returns : goal.returns
returns c = cut_behind c.args.name.now c.split_once.result c.split_once.ensures.cases
