use Rattle.site_conf.specs.Views.{state_view}
use Rattle.conf_sources.specs.Reading.{kept_content}
use Rattle.std.proofs.Common.{length}
use Rattle.site_conf.proofs.SoundLaws.{kept_more}
use Rattle.site_conf.proofs.ReadLaws.{read_more}
use Rattle.site_conf.proofs.entering.read.Goals as goal

pub returns-clause-sound : goal.returns-clause-sound
returns-clause-sound g c = λ h. kept_more c.args.source.now c.in_ok-content.content (state_view c.args.progress.now) (state_view c.keep_content.new.progress) c.requires (c.in_ok-index.ensures {u = tt}).value h

pub returns-clause-reads : goal.returns-clause-reads
returns-clause-reads g c = λ before h.
    read_more before (g.F.Files.reads c.args.files.now) (g.F.Files.reads c.content.new.files) c.args.source.now (kept_content (length (state_view c.args.progress.now).names) c.in_ok-content.content) (state_view c.args.progress.now)
    (state_view c.keep_content.new.progress) (c.in_ok-index.ensures {u = tt}).value h (c.in_ok-content.ensures {u = tt}).counted
