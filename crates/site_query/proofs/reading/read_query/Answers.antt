use Rattle.site_query.specs.Lines.{Has}
use Rattle.site_query.specs.Reading.{query_read}
use Rattle.site_query.proofs.AptLaws.{query_apt}
use Rattle.site_query.proofs.QueryLaws.{judged, has_read, tells, gives}
use Rattle.site_query.proofs.reading.read_query.Goals as goal

pub returns-clause-told : goal.returns-clause-told
returns-clause-told c = tells (Has c.args.bytes.now) c.read_bytes.result (query_read c.args.bytes.now) c.read_bytes.ensures (judged c.args.bytes.now)

pub returns-clause-only : goal.returns-clause-only
returns-clause-only c = λ a h. gives c.read_bytes.result (query_read c.args.bytes.now) a c.read_bytes.ensures (has_read c.args.bytes.now a h)

pub returns-clause-apt : goal.returns-clause-apt
returns-clause-apt c = query_apt c.args.bytes.now c.read_bytes.result (tells (Has c.args.bytes.now) c.read_bytes.result (query_read c.args.bytes.now) c.read_bytes.ensures (judged c.args.bytes.now))
