use Rattle.std.proofs.Common.{sym, ◌∙◌}
use Rattle.site_conf.specs.Views.{state_view}
use Rattle.site_conf.proofs.SoundLaws.{old_found, new_found}
use Rattle.site_conf.proofs.entering.meet.Goals as goal

pub returns-in_ok-settle-in-Some-clause-sound : goal.returns-in_ok-settle-in-Some-clause-sound
returns-in_ok-settle-in-Some-clause-sound g c = λ h m.
    old_found c.args.at c.args.source.now c.in-Some.index (state_view c.args.progress.now) (state_view c.settle.new.progress) c.in_ok-settle-in-Some.field-0 (sym (c.in_ok-index.ensures {u = tt}) ∙ c.in-Some.is) h m
    (c.in_ok-settle-in-Some.ensures {u = tt})

pub returns-in_ok-settle-in-None-clause-sound : goal.returns-in_ok-settle-in-None-clause-sound
returns-in_ok-settle-in-None-clause-sound g c = λ h m.
    let read = c.in_ok-index-in-None.ensures {u = tt} in
    new_found c.args.at c.args.source.now c.in_ok-index-in-None.index (state_view c.args.progress.now) (state_view c.read.new.progress) (state_view c.settle-in-None.new.progress) c.in_ok-settle-in-None.field-0 read.index m (read.sound h)
    (c.in_ok-settle-in-None.ensures {u = tt})
