-- So many turns are done, and engine and feed stand behind them.
use Rattle.std.proofs.Common.{◌≡◌, ◌+◌, ◌≤◌, []}
use Rattle.site_model.specs.PlainSite.{site_view}
use Rattle.site_run.specs.Courses.{course_of}
use Rattle.site_run.specs.Ends.{outside}
use Rattle.site_run.proofs.Ending.{IsOnWay}
use Rattle.site_run.proofs.driving.drive_turns.Given as goal

abbrev pub invariant-loop : goal.invariant-loop
invariant-loop g l =
    let r = l.initial.engine.run in
    record {
      way : IsOnWay (g.C.Workers.callers l.workers) (course_of r [] l.style g.F.Feed.gives g.F.Feed.after l.initial.feed) g.F.Feed.after l.initial.feed l.counter l.engine l.feed
          (outside (g.W.World.turns l.initial.world) (g.W.World.started l.initial.world) (g.W.World.calls l.initial.world) (g.S.Sink.written l.initial.out) (g.S.Sink.kept_back l.initial.out)) (outside (g.W.World.turns l.world) (g.W.World.started l.world) (g.W.World.calls l.world) (g.S.Sink.written l.out) (g.S.Sink.kept_back l.out));
      turns : l.engine.run.turns ≡ r.turns + l.counter;
      site : l.engine.run.site ≡ r.site;
      zone : l.engine.run.zone ≡ r.zone;
      made : g.F.Feed.made_for l.feed (site_view r.site);
      sink_counts : g.S.Sink.faults l.initial.out ≤ g.S.Sink.faults l.out;
      sink_calm : g.S.Sink.calm l.initial.out → g.S.Sink.calm l.out;
      world_counts : g.W.World.faults l.initial.world ≤ g.W.World.faults l.world;
      world_calm : g.W.World.calm l.initial.world → g.W.World.calm l.world;
    }
