use Rattle.event_text.proofs.CutLaws.{bracket_uncut}
use Rattle.event_text.proofs.cutting.cut_bracket.Goals as goal

pub returns-in-None : goal.returns-in-None
returns-in-None c = bracket_uncut c.args.text.now c.in-None.ensures
