use Rattle.std.proofs.lemmas.Str.Pattern.{contains_text}
use Rattle.dsl_lib.proofs.Parts.{has_part_is}
use Rattle.dsl_lib.proofs.texts.contains_part.Goals as goal

pub returns : goal.returns
returns c = has_part_is c.contains.result c.args.text.now c.args.part.now (contains_text c.contains.result c.args.part.now c.args.text.now c.contains.ensures.cases)
