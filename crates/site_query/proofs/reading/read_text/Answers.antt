use Rattle.std.proofs.Common.{subst}
use Rattle.site_query.specs.Reading.{Gives}
use Rattle.site_query.proofs.QueryLaws.{text_by}
use Rattle.site_query.proofs.reading.read_text.Goals as goal

pub returns-in-Some-kind_of : goal.returns-in-Some-kind_of
returns-in-Some-kind_of c =
    subst (Gives c.read_lines.result) (text_by c.args.text.now c.in-Some.first.now c.in-Some.rest.now c.in-Some-kind_of.hosts c.all.result c.in-Some.ensures.lines c.in-Some-kind_of.ensures c.all.ensures) c.read_lines.ensures
