use Rattle.site_model.specs.PlainSite.{site_view}
use Rattle.event_text.specs.Lines.{Has}
use Rattle.event_text.specs.Reading.{line_read}
use Rattle.event_text.proofs.LineLaws.{judged, has_read, tells, gives}
use Rattle.event_text.proofs.reading.read_line.Goals as goal

pub returns-clause-told : goal.returns-clause-told
returns-clause-told c = λ has.
    tells (Has (site_view c.args.site.now) c.args.bytes.now) c.read_bytes.result (line_read (site_view c.args.site.now) c.args.bytes.now) c.read_bytes.ensures
    (judged (site_view c.args.site.now) c.args.bytes.now has)

pub returns-clause-only : goal.returns-clause-only
returns-clause-only c = λ has a h.
    gives c.read_bytes.result (line_read (site_view c.args.site.now) c.args.bytes.now) a c.read_bytes.ensures
    (has_read (site_view c.args.site.now) c.args.bytes.now a has h)
