-- The engine is that of the site, behind these entries.
use Rattle.std.proofs.Common.{◌≡◌, [], ap, subst, sym}
use Rattle.run_meaning.specs.Runs.{start}
use Rattle.site_model.specs.PlainSite.{PlainSite, site_view}
use Rattle.site_posts.specs.Books.{histories_of}
use Rattle.site_run.specs.Ends.{outside}
use Rattle.site_run.specs.Logs.{EndsRun}
use Rattle.turn_engine.specs.Stages.{stage_of}
use Rattle.whole_runs.specs.Logs.{AnswersTurns, WentOver}
use Rattle.whole_runs.proofs.logs.write_site_log.Goals as goal

pub returns-in-Ok-clause-went : goal.returns-in-Ok-clause-went
returns-in-Ok-clause-went g c =
    let histories = histories_of c.args.books.items in
    let same = ap site_view c.in-Ok.ensures.site in
    let begin = subst (λ (x : PlainSite). stage_of c.in-Ok.engine.run [] ≡ start x histories) (sym same) c.in-Ok.ensures.start in
    let old = outside (g.W.World.turns c.args.world.now) (g.W.World.started c.args.world.now) (g.W.World.calls c.args.world.now) (g.S.Sink.written c.args.out.now) (g.S.Sink.kept_back c.args.out.now) in
    let new = outside (g.W.World.turns c.write_from.new.world) (g.W.World.started c.write_from.new.world) (g.W.World.calls c.write_from.new.world) (g.S.Sink.written c.write_from.new.out) (g.S.Sink.kept_back c.write_from.new.out) in
    subst (λ (x : PlainSite). WentOver c.write_from.result (g.C.Workers.callers c.args.workers.now) c.args.style c.args.recur c.args.limit x histories old new) same (c.write_from.ensures.went histories begin)

pub returns-in-Ok-clause-written : goal.returns-in-Ok-clause-written
returns-in-Ok-clause-written g c =
    let histories = histories_of c.args.books.items in
    let same = ap site_view c.in-Ok.ensures.site in
    let begin = subst (λ (x : PlainSite). stage_of c.in-Ok.engine.run [] ≡ start x histories) (sym same) c.in-Ok.ensures.start in
    subst (λ (x : PlainSite). EndsRun c.write_from.result (AnswersTurns (g.C.Workers.callers c.args.workers.now) c.args.style c.args.recur c.args.limit (g.W.World.turns c.args.world.now) x histories) (g.S.Sink.written c.args.out.now) (g.S.Sink.written c.write_from.new.out)) same (c.write_from.ensures.written histories begin)
