use Rattle.std.proofs.Common.{None, lit<}
use Rattle.std.proofs.lemmas.Str.Pattern.{strip_prefix_char}
use Rattle.site_model.specs.PlainSite.{site_view}
use Rattle.event_text.proofs.HeadLaws.{no_bracket}
use Rattle.event_text.proofs.reading.read_text.Goals as goal

pub returns-in_default : goal.returns-in_default
returns-in_default c = no_bracket (site_view c.args.site.now) c.args.line.now (strip_prefix_char 91 c.args.line.now None c.in_default.ensures.cases (lit< tt))
