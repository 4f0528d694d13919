-- Nothing is fed.
use Rattle.std.proofs.Common.{[], false, inr}
use Rattle.site_model.specs.PlainSite.{site_view}
use Rattle.site_run.specs.Logs.{AnswersWorld, given_by}
use Rattle.whole_runs.specs.Logs.{AnswersTurns}
use Rattle.site_run.proofs.Wholes.{ended_as}
use Rattle.whole_runs.proofs.Given.{nothing_is}
use Rattle.whole_runs.proofs.logs.write_plain.Goals as goal

pub returns-clause-went : goal.returns-clause-went
returns-clause-went g c = λ histories begin. inr (given_by histories (λ _ _ _. []) (λ feed _ _. feed) c.new-feed.result, nothing_is (λ feed _ _. feed) c.new-feed.result histories, c.write_log.ensures.went histories begin)

pub returns-clause-written : goal.returns-clause-written
returns-clause-written g c = λ histories begin.
    let s = site_view c.args.engine.now.run.site in
    let callers = g.C.Workers.callers c.args.workers.now in
    let turns = g.W.World.turns c.args.world.now in
    let given = given_by histories (λ _ _ _. []) (λ feed _ _. feed) c.new-feed.result in
    ended_as c.write_log.result (AnswersWorld callers c.args.style c.args.limit given turns s) (AnswersTurns callers c.args.style false c.args.limit turns s histories) (g.S.Sink.written c.args.out.now) (g.S.Sink.written c.write_log.new.out)
    (λ w is. (given, nothing_is (λ feed _ _. feed) c.new-feed.result histories, is)) (c.write_log.ensures.written histories begin)
