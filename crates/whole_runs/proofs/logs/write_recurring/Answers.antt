-- What recurs is fed.
use Rattle.std.proofs.Common.{◌≡◌, true, inr, ap, subst}
use Rattle.down_recur.specs.Contents.{after, begun, gives}
use Rattle.site_model.specs.PlainSite.{site_view}
use Rattle.site_model.specs.declared.site.Site.{Site}
use Rattle.site_run.specs.Logs.{AnswersWorld, given_by}
use Rattle.turn_engine.specs.Ready.{IsZoneOf}
use Rattle.whole_runs.specs.Logs.{AnswersTurns}
use Rattle.whole_runs.specs.declared.feeding.RecurFeed.{RecurFeed}
use Rattle.site_run.proofs.Wholes.{ended_as}
use Rattle.whole_runs.proofs.Given.{recurring_is}
use Rattle.whole_runs.proofs.logs.write_recurring.Goals as goal

pub returns-clause-went : goal.returns-clause-went
returns-clause-went g c = λ histories began.
    let site = c.args.engine.now.run.site in
    let zone = c.in-Ok.zone in
    let feed = c.in-Ok-new.feed in
    let given = given_by histories (λ (feed : RecurFeed) histories moment. gives feed.recur histories moment) (λ (feed : RecurFeed) histories moment. record { recur = after feed.recur histories moment }) feed in
    let file = subst (λ (x : Site). IsZoneOf (site_view x).zone zone) c.site.ensures c.in-Ok.ensures in
    let fed = subst (λ (x : Site). feed.recur ≡ begun x zone) c.site-2.ensures c.in-Ok-new.ensures in
    inr (given, (zone, file, recurring_is site zone histories feed fed), c.write_log.ensures.went histories began)

pub returns-clause-written : goal.returns-clause-written
returns-clause-written g c = λ histories began.
    let site = c.args.engine.now.run.site in
    let s = site_view site in
    let zone = c.in-Ok.zone in
    let feed = c.in-Ok-new.feed in
    let callers = g.C.Workers.callers c.args.workers.now in
    let turns = g.W.World.turns c.args.world.now in
    let given = given_by histories (λ (feed : RecurFeed) histories moment. gives feed.recur histories moment) (λ (feed : RecurFeed) histories moment. record { recur = after feed.recur histories moment }) feed in
    let file = subst (λ (x : Site). IsZoneOf (site_view x).zone zone) c.site.ensures c.in-Ok.ensures in
    let fed = subst (λ (x : Site). feed.recur ≡ begun x zone) c.site-2.ensures c.in-Ok-new.ensures in
    ended_as c.write_log.result (AnswersWorld callers c.args.style c.args.limit given turns s) (AnswersTurns callers c.args.style true c.args.limit turns s histories) (g.S.Sink.written c.args.out.now) (g.S.Sink.written c.write_log.new.out)
    (λ w is. (given, (zone, file, recurring_is site zone histories feed fed), is)) (c.write_log.ensures.written histories began)
