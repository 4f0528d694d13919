-- How far the log came tells what was written.
use Rattle.std.proofs.Common.{[], inl, inr, refl, subst}
use Rattle.site_model.specs.PlainSite.{site_view}
use Rattle.site_run.specs.Ends.{Ends, outside}
use Rattle.site_run.specs.Logs.{given_by}
use Rattle.site_run.specs.declared.status.Status.TheVariants.{OutOfMemory, WriteFault}
use Rattle.site_run.proofs.Ending.{hands_on, less_asked}
use Rattle.site_run.proofs.Logging.{at_first, first_written, over_turns, over_written}
use Rattle.site_run.proofs.logs.write_log.Goals as goal

pub returns-in-Ok-clause-went : goal.returns-in-Ok-clause-went
returns-in-Ok-clause-went g c = λ histories begin.
    let turns = g.W.World.turns c.args.world.now in
    let started = g.W.World.started c.args.world.now in
    let calls = g.W.World.calls c.args.world.now in
    let first = g.S.Sink.written c.begin_log.new.out in
    let kept = g.S.Sink.kept_back c.begin_log.new.out in
    let begun = outside turns started calls first kept in
    let new = outside (g.W.World.turns c.drive_part.new.world) (g.W.World.started c.drive_part.new.world) (g.W.World.calls c.drive_part.new.world) (g.S.Sink.written c.drive_part.new.out) (g.S.Sink.kept_back c.drive_part.new.out) in
    inr
    (over_turns g.F.Feed.gives g.F.Feed.after c.args.feed.now histories (g.C.Workers.callers c.args.workers.now) c.drive_part.result c.args.style c.args.limit c.args.engine.now.run turns started calls (g.S.Sink.written c.args.out.now) first (g.S.Sink.kept_back c.args.out.now) kept new c.requires.zone begin
    c.in-Ok.ensures.ok c.in-Ok.ensures.through
    (less_asked c.drive_part.result (g.C.Workers.callers c.args.workers.now) _ c.args.limit _ (λ _ _. Unit {0}) begun new (λ done ls h. tt) c.drive_part.ensures.ends))

pub returns-in-Ok-clause-written : goal.returns-in-Ok-clause-written
returns-in-Ok-clause-written g c = λ histories begin.
    let turns = g.W.World.turns c.args.world.now in
    let started = g.W.World.started c.args.world.now in
    let calls = g.W.World.calls c.args.world.now in
    let old = g.S.Sink.written c.args.out.now in
    let first = g.S.Sink.written c.begin_log.new.out in
    let before = g.S.Sink.kept_back c.args.out.now in
    let kept = g.S.Sink.kept_back c.begin_log.new.out in
    let begun = outside turns started calls first kept in
    let new = outside (g.W.World.turns c.drive_part.new.world) (g.W.World.started c.drive_part.new.world) (g.W.World.calls c.drive_part.new.world) (g.S.Sink.written c.drive_part.new.out) (g.S.Sink.kept_back c.drive_part.new.out) in
    over_written (g.C.Workers.callers c.args.workers.now) c.requires.callers.0 c.args.style c.args.limit (site_view c.args.engine.now.run.site) (given_by histories g.F.Feed.gives g.F.Feed.after c.args.feed.now) c.requires.sound.names c.drive_part.result (outside turns started calls old before) new
    (over_turns g.F.Feed.gives g.F.Feed.after c.args.feed.now histories (g.C.Workers.callers c.args.workers.now) c.drive_part.result c.args.style c.args.limit c.args.engine.now.run turns started calls old first before kept new c.requires.zone begin
    c.in-Ok.ensures.ok c.in-Ok.ensures.through
    (less_asked c.drive_part.result (g.C.Workers.callers c.args.workers.now) _ c.args.limit _ (λ _ _. Unit {0}) begun new (λ done ls h. tt) c.drive_part.ensures.ends))

pub returns-in-Ok-clause-through : goal.returns-in-Ok-clause-through
returns-in-Ok-clause-through g c =
    hands_on c.drive_part.result (g.C.Workers.callers c.args.workers.now) _ c.args.limit _ _ _ c.drive_part.ensures.ends c.in-Ok.ensures.through

pub returns-in-Err-Failed-clause-went : goal.returns-in-Err-Failed-clause-went
returns-in-Err-Failed-clause-went g c = λ histories begin.
    inl
    (at_first WriteFault c.args.style (g.W.World.turns c.args.world.now) (g.W.World.started c.args.world.now) (g.W.World.calls c.args.world.now) (g.S.Sink.written c.args.out.now) (g.S.Sink.written c.begin_log.new.out)
    (g.S.Sink.kept_back c.args.out.now) (g.S.Sink.kept_back c.begin_log.new.out) (inl refl) c.in-Err-Failed.ensures.err)

pub returns-in-Err-Failed-clause-written : goal.returns-in-Err-Failed-clause-written
returns-in-Err-Failed-clause-written g c = λ histories begin.
    let turns = g.W.World.turns c.args.world.now in
    let started = g.W.World.started c.args.world.now in
    let calls = g.W.World.calls c.args.world.now in
    let old = g.S.Sink.written c.args.out.now in
    let new = g.S.Sink.written c.begin_log.new.out in
    let before = g.S.Sink.kept_back c.args.out.now in
    let kept = g.S.Sink.kept_back c.begin_log.new.out in
    first_written (g.C.Workers.callers c.args.workers.now) c.requires.callers.0 c.args.style c.args.limit (site_view c.args.engine.now.run.site) (given_by histories g.F.Feed.gives g.F.Feed.after c.args.feed.now) c.requires.sound.names c.args.engine.now.run.zone c.requires.zone WriteFault (outside turns started calls old before) (outside turns started calls new kept)
    (at_first WriteFault c.args.style turns started calls old new before kept (inl refl) c.in-Err-Failed.ensures.err)

pub returns-in-Err-OutOfMemory-clause-went : goal.returns-in-Err-OutOfMemory-clause-went
returns-in-Err-OutOfMemory-clause-went g c = λ histories begin.
    inl
    (at_first OutOfMemory c.args.style (g.W.World.turns c.args.world.now) (g.W.World.started c.args.world.now) (g.W.World.calls c.args.world.now) (g.S.Sink.written c.args.out.now) (g.S.Sink.written c.begin_log.new.out)
    (g.S.Sink.kept_back c.args.out.now) (g.S.Sink.kept_back c.begin_log.new.out) (inr refl) c.in-Err-OutOfMemory.ensures.err)

pub returns-in-Err-OutOfMemory-clause-written : goal.returns-in-Err-OutOfMemory-clause-written
returns-in-Err-OutOfMemory-clause-written g c = λ histories begin.
    let turns = g.W.World.turns c.args.world.now in
    let started = g.W.World.started c.args.world.now in
    let calls = g.W.World.calls c.args.world.now in
    let old = g.S.Sink.written c.args.out.now in
    let new = g.S.Sink.written c.begin_log.new.out in
    let before = g.S.Sink.kept_back c.args.out.now in
    let kept = g.S.Sink.kept_back c.begin_log.new.out in
    first_written (g.C.Workers.callers c.args.workers.now) c.requires.callers.0 c.args.style c.args.limit (site_view c.args.engine.now.run.site) (given_by histories g.F.Feed.gives g.F.Feed.after c.args.feed.now) c.requires.sound.names c.args.engine.now.run.zone c.requires.zone OutOfMemory (outside turns started calls old before) (outside turns started calls new kept)
    (at_first OutOfMemory c.args.style turns started calls old new before kept (inr refl) c.in-Err-OutOfMemory.ensures.err)
