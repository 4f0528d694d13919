use Rattle.std.proofs.Common.{◌∙◌}
use Rattle.site_query.proofs.LineLaws.{limit_by}
use Rattle.site_query.proofs.lines.read_limit.Goals as goal

pub returns : goal.returns
returns c = c.read_number.ensures ∙ limit_by c.args.text.now
