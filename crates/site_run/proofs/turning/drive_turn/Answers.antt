-- Where a turn stops, before anything of it is written, in its lines or in its orders; or how it goes through.
use Rattle.std.proofs.Common.{◌≡◌, List, [], ap, ◌∙◌, inl, inr, refl}
use Rattle.std.specs.List.{concat}
use Rattle.run_meaning.specs.Runs.{begun_by}
use Rattle.site_edge.specs.declared.order.Order.{Order}
use Rattle.turn_engine.specs.Stages.{stage_of}
use Rattle.site_run.specs.Courses.{course_of, text_of}
use Rattle.site_run.specs.Ends.{outside}
use Rattle.site_run.specs.Starts.{calls_with, started_of}
use Rattle.site_run.specs.Stops.{stop_of_sink}
use Rattle.site_run.specs.declared.stop.Stop.TheVariants as stop
use Rattle.site_run.proofs.Stopping.{gone_through, lines_stopped, orders_stopped, stopped_so, stops_by}
use Rattle.site_run.proofs.turning.drive_turn.Goals as goal

pub returns-in_err-taken-clause-stops : goal.returns-in_err-taken-clause-stops
returns-in_err-taken-clause-stops g c = λ begun first now.
    let course = course_of c.args.engine.now.run begun c.args.style g.F.Feed.gives g.F.Feed.after first in
    let old = outside (g.W.World.turns c.args.world.now) (g.W.World.started c.args.world.now) (g.W.World.calls c.args.world.now) (g.S.Sink.written c.args.out.now) (g.S.Sink.kept_back c.args.out.now) in
    stops_by c.from_residual.result stop.OutOfMemory (g.C.Workers.callers c.args.workers.now) course c.args.turn old old c.from_residual.ensures.1 (inl (refl, refl))

pub returns-in_err-write_lines-clause-stops : goal.returns-in_err-write_lines-clause-stops
returns-in_err-write_lines-clause-stops g c = λ begun first now.
    let course = course_of c.args.engine.now.run begun c.args.style g.F.Feed.gives g.F.Feed.after first in
    let x = c.in_ok-taken.ensures.taken begun first now in
    let turns = g.W.World.turns c.args.world.now in
    let started = g.W.World.started c.args.world.now in
    let calls = g.W.World.calls c.args.world.now in
    let old = g.S.Sink.written c.args.out.now in
    let new = g.S.Sink.written c.write_lines.new.out in
    let kept = g.S.Sink.kept_back c.args.out.now in
    let kept' = g.S.Sink.kept_back c.write_lines.new.out in
    let text = ap concat (c.as_slice.ensures ∙ x.lines_are) in
    stops_by c.from_residual-in_err-write_lines.result (stop_of_sink c.in_err-write_lines.field-0.0) (g.C.Workers.callers c.args.workers.now) course c.args.turn (outside turns started calls old kept) (outside turns started calls new kept')
    c.from_residual-in_err-write_lines.ensures.1
    (inr (x.log, x.is, lines_stopped c.in_err-write_lines.field-0.0 (text_of course x.log) (concat c.as_slice.result.now) (started_of x.log.orders) turns started calls old new kept kept' text c.in_err-write_lines.ensures.err))

pub returns-clause-stops : goal.returns-clause-stops
returns-clause-stops g c = λ begun first now.
    let course = course_of c.args.engine.now.run begun c.args.style g.F.Feed.gives g.F.Feed.after first in
    let x = c.in_ok-taken.ensures.taken begun first now in
    let text = ap concat (c.as_slice.ensures ∙ x.lines_are) in
    let orders = c.as_slice-2.ensures.value ∙ x.orders_are in
    let old = outside (g.W.World.turns c.args.world.now) (g.W.World.started c.args.world.now) (g.W.World.calls c.args.world.now) (g.S.Sink.written c.args.out.now) (g.S.Sink.kept_back c.args.out.now) in
    let new = outside (g.W.World.turns c.start.new.world) (g.W.World.started c.start.new.world) (g.W.World.calls c.start.new.world) (g.S.Sink.written c.write_lines.new.out) (g.S.Sink.kept_back c.write_lines.new.out) in
    stopped_so c.start.result (g.C.Workers.callers c.args.workers.now) course c.args.turn x.log old new x.is
    (orders_stopped c.start.result (text_of course x.log) (concat c.as_slice.result.now) (started_of x.log.orders) c.as_slice-2.result.now (g.W.World.turns c.args.world.now) (g.W.World.turns c.start.new.world) (g.W.World.started c.args.world.now) (g.W.World.started c.start.new.world) (g.W.World.calls c.args.world.now)
    (g.W.World.calls c.start.new.world) (g.S.Sink.written c.args.out.now) (g.S.Sink.written c.write_lines.new.out) (g.S.Sink.kept_back c.args.out.now) (g.S.Sink.kept_back c.write_lines.new.out)
    c.start.ensures.never_sink text orders c.start.ensures.same c.in_ok-write_lines.ensures.ok c.in_ok-write_lines.ensures.through c.start.ensures.err c.start.ensures.tried c.start.ensures.some)

pub returns-clause-goes : goal.returns-clause-goes
returns-clause-goes g c = λ begun first now.
    let course = course_of c.args.engine.now.run begun c.args.style g.F.Feed.gives g.F.Feed.after first in
    let x = c.in_ok-taken.ensures.taken begun first now in
    let text = ap concat (c.as_slice.ensures ∙ x.lines_are) in
    let orders = c.as_slice-2.ensures.value ∙ x.orders_are in
    gone_through c.start.result (g.C.Workers.callers c.args.workers.now) course c.args.turn x.log (stage_of c.take.new.engine.run (begun_by (stage_of c.args.engine.now.run begun) c.take.new.engine.run.moment)) (concat c.as_slice.result.now) c.as_slice-2.result.now
    (g.W.World.turns c.args.world.now) (g.W.World.turns c.start.new.world) (g.W.World.started c.args.world.now) (g.W.World.started c.start.new.world) (g.W.World.calls c.args.world.now) (g.W.World.calls c.start.new.world) (g.S.Sink.written c.args.out.now) (g.S.Sink.written c.write_lines.new.out)
    (g.S.Sink.kept_back c.args.out.now) (g.S.Sink.kept_back c.write_lines.new.out) x.is x.after text orders c.start.ensures.same c.in_ok-write_lines.ensures.ok c.in_ok-write_lines.ensures.through c.start.ensures.ok c.start.ensures.once
