-- A turn more is done, or the run stops in it.
use Rattle.std.proofs.Common.{◌≡◌, ◌+◌, ◌<◌, ◌≤◌, List, [], Some, refl, ap, ◌∙◌, subst, arith}
use Rattle.run_meaning.specs.Runs.{Stage, TurnLog}
use Rattle.site_edge.specs.Lists.{TakesFirst}
use Rattle.site_edge.specs.declared.turn.Turn.{Turn}
use Rattle.site_model.specs.PlainSite.{site_view}
use Rattle.site_model.specs.declared.site.Site.{Site}
use Rattle.site_run.specs.Courses.{behind_over, course_of}
use Rattle.site_run.specs.Ends.{Stands, outside}
use Rattle.site_run.proofs.Adding.{at_none}
use Rattle.site_run.proofs.Ending.{IsStill, goes_on, stops}
use Rattle.site_run.proofs.Stopping.{ended_by}
use Rattle.site_run.proofs.driving.drive_turns.Goals as goal

-- before the first turn
pub loop-init : goal.loop-init
loop-init g c =
    let old = outside (g.W.World.turns c.args.world.now) (g.W.World.started c.args.world.now) (g.W.World.calls c.args.world.now) (g.S.Sink.written c.args.out.now) (g.S.Sink.kept_back c.args.out.now) in
    record {
      way = record {
        done = [];
        logs = [];
        many = refl;
        are = refl;
        stands = record { fresh = c.requires.fresh; stage = refl; feed = refl };
        at = (at_none old, λ h. h);
      };
      turns = omega arith;
      site = refl;
      zone = refl;
      made = c.requires.made;
      sink_counts = omega arith;
      sink_calm = λ calm. calm;
      world_counts = omega arith;
      world_calm = λ calm. calm;
    }

pub returns-in_err-drive_turn-clause-ends : goal.returns-in_err-drive_turn-clause-ends
returns-in_err-drive_turn-clause-ends g c =
    let l = c.loop in
    let v = l.invariant in
    let first = c.args.feed.now in
    let course = course_of c.args.engine.now.run [] c.args.style g.F.Feed.gives g.F.Feed.after first in
    let callers = g.C.Workers.callers c.args.workers.now in
    let begun = (behind_over course v.way.done v.way.logs).stage.begun in
    let old = outside (g.W.World.turns c.args.world.now) (g.W.World.started c.args.world.now) (g.W.World.calls c.args.world.now) (g.S.Sink.written c.args.out.now) (g.S.Sink.kept_back c.args.out.now) in
    let now = outside (g.W.World.turns l.world) (g.W.World.started l.world) (g.W.World.calls l.world) (g.S.Sink.written l.out) (g.S.Sink.kept_back l.out) in
    let taken = outside (g.W.World.turns c.next.new.self) (g.W.World.started c.next.new.self) (g.W.World.calls c.next.new.self) (g.S.Sink.written l.out) (g.S.Sink.kept_back l.out) in
    let new = outside (g.W.World.turns c.drive_turn.new.world) (g.W.World.started c.drive_turn.new.world) (g.W.World.calls c.drive_turn.new.world) (g.S.Sink.written c.drive_turn.new.out) (g.S.Sink.kept_back c.drive_turn.new.out) in
    let more : l.counter < c.args.limit = c.loop-test.true in
    let one = subst (TakesFirst now.turns taken.turns) c.in-Some.is c.in_ok-turn.ensures.ok in
    let still : IsStill now taken = record { started = c.next.ensures.same; calls = c.next.ensures.uncalled; written = refl; kept_back = refl } in
    let stands : List Turn → List TurnLog → Type 0 = λ done logs. Stands course g.F.Feed.after first done logs c.drive_turn.new.engine c.drive_turn.new.feed in
    ended_by c.from_residual-in_err-drive_turn.result c.in_err-drive_turn.field-0.0 callers course c.args.limit stands old new c.from_residual-in_err-drive_turn.ensures.1
    (stops callers c.args.engine.now.run c.args.style g.F.Feed.gives g.F.Feed.after first l.counter c.args.limit l.engine l.feed old now (omega (arith, more)) v.way c.in-Some.turn taken v.site v.zone more one still
    c.in_err-drive_turn.field-0.0 stands new (c.in_err-drive_turn.ensures.stops begun first v.way.stands.feed))

pub loop-preserved : goal.loop-preserved
loop-preserved g c =
    let l = c.loop in
    let v = l.invariant in
    let first = c.args.feed.now in
    let course = course_of c.args.engine.now.run [] c.args.style g.F.Feed.gives g.F.Feed.after first in
    let callers = g.C.Workers.callers c.args.workers.now in
    let begun = (behind_over course v.way.done v.way.logs).stage.begun in
    let old = outside (g.W.World.turns c.args.world.now) (g.W.World.started c.args.world.now) (g.W.World.calls c.args.world.now) (g.S.Sink.written c.args.out.now) (g.S.Sink.kept_back c.args.out.now) in
    let now = outside (g.W.World.turns l.world) (g.W.World.started l.world) (g.W.World.calls l.world) (g.S.Sink.written l.out) (g.S.Sink.kept_back l.out) in
    let taken = outside (g.W.World.turns c.next.new.self) (g.W.World.started c.next.new.self) (g.W.World.calls c.next.new.self) (g.S.Sink.written l.out) (g.S.Sink.kept_back l.out) in
    let new = outside (g.W.World.turns c.drive_turn.new.world) (g.W.World.started c.drive_turn.new.world) (g.W.World.calls c.drive_turn.new.world) (g.S.Sink.written c.drive_turn.new.out) (g.S.Sink.kept_back c.drive_turn.new.out) in
    let more : l.counter < c.args.limit = c.loop-test.true in
    let one = subst (TakesFirst now.turns taken.turns) c.in-Some.is c.in_ok-turn.ensures.ok in
    let still : IsStill now taken = record { started = c.next.ensures.same; calls = c.next.ensures.uncalled; written = refl; kept_back = refl } in
    let e = c.in_ok-drive_turn.ensures in
    let gone = e.goes begun first v.way.stands.feed in
    let one_turn : c.drive_turn.new.engine.run.turns ≡ l.engine.run.turns + 1 = ap (λ (st : Stage). st.turns) gone.after ∙ gone.is.number in
    let turns = v.turns in
    let out_before = v.sink_counts in
    let out_after = c.drive_turn.ensures.sink_counts in
    let world_before = v.world_counts in
    let world_next = c.next.ensures.counts in
    let world_after = c.drive_turn.ensures.world_counts in
    record {
      way =
          goes_on callers c.args.engine.now.run c.args.style g.F.Feed.gives g.F.Feed.after first l.counter c.args.limit l.engine l.feed old now (omega (arith, more)) v.way c.in-Some.turn taken v.site v.zone more one still
          new c.drive_turn.new.engine c.drive_turn.new.feed gone e.fresh e.feed;
      turns = omega (arith, one_turn, turns);
      site = e.site ∙ v.site;
      zone = e.zone ∙ v.zone;
      made = subst (λ (x : Site). g.F.Feed.made_for c.drive_turn.new.feed (site_view x)) v.site e.made;
      sink_counts = omega (arith, out_before, out_after);
      sink_calm = λ calm. c.drive_turn.ensures.sink_calm (v.sink_calm calm);
      world_counts = omega (arith, world_before, world_next, world_after);
      world_calm = λ calm. c.drive_turn.ensures.world_calm (c.next.ensures.calm (v.world_calm calm));
    }
