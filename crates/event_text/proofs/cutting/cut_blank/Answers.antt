use Rattle.std.proofs.Common.{Some, lit<}
use Rattle.std.proofs.lemmas.Str.Pattern.{strip_prefix_char}
use Rattle.event_text.proofs.CutLaws.{bracket_cut}
use Rattle.event_text.proofs.cutting.cut_blank.Goals as goal

pub returns-in-Some : goal.returns-in-Some
returns-in-Some c =
    bracket_cut c.args.text.now c.args.front.now c.args.after.now c.in-Some.rest.now c.requires (strip_prefix_char 32 c.args.after.now (Some c.in-Some.rest) c.in-Some.ensures.cases (lit< tt))
