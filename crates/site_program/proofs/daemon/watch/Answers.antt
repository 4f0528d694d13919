use Rattle.std.proofs.Common.{◌≡◌, IfOk, IfSome, Option, inl, inr, option_map, refl, rules, subst}
use Rattle.site_model.specs.PlainSite.{site_view}
use Rattle.run_replies.specs.Runs.{Files, replied}
use Rattle.site_answers.specs.SiteAnswers.{AnswersWatched, CameBehind}
use Rattle.site_program.specs.TaskAnswers.{AnswersSite}
use Rattle.site_replies.specs.Replies.{diagnoses, reply_view}
use Rattle.site_run.specs.Ends.{outside}
use Rattle.site_program.proofs.Answering.{diags_answer, no_site_found, site_answers, site_found}
use Rattle.site_run.proofs.Wholes.{ended, ended_as}
use Rattle.site_program.proofs.Ending.{unanswered, unread_through}
use Rattle.site_program.proofs.Remarking.{remarked_on, unread_unremarked}
use Rattle.site_program.proofs.daemon.watch.Goals as goal

pub returns-in-Ok-Site-clause-written : goal.returns-in-Ok-Site-clause-written
returns-in-Ok-Site-clause-written g c =
    let told = g.F.Files.told c.args.files.now in
    let a = c.in-Ok-Site in
    let asked = λ (all : Files). AnswersWatched (g.C.Workers.callers c.args.workers.now) c.args.style c.args.recur (option_map (λ name. name.now) c.args.state) (g.W.World.turns c.args.world.now) all in
    ended_as c.watch_site.result (λ w. IfSome (g.F.Files.told c.answer_remarked.new.files) (λ all. asked all (site_view a.site) w)) (λ w. IfSome told (λ all. AnswersSite all c.args.root.now (asked all) w)) (g.S.Sink.written c.args.out.now) (g.S.Sink.written c.watch_site.new.out)
    (λ w is. site_answers asked c.args.root.now told a.field-0 a.site a.field-0-is (λ files h. (a.ensures.files files h, λ bad decided. a.ensures.value files bad h decided)) w
    (subst (λ (t : Option Files). IfSome t (λ all. asked all (site_view a.site) w)) c.answer_remarked.ensures.same is))
    c.watch_site.ensures.written

pub returns-in-Ok-Site-clause-came : goal.returns-in-Ok-Site-clause-came
returns-in-Ok-Site-clause-came g c =
    let told = g.F.Files.told c.args.files.now in
    let a = c.in-Ok-Site in
    let old = outside (g.W.World.turns c.args.world.now) (g.W.World.started c.args.world.now) (g.W.World.calls c.args.world.now) (g.S.Sink.written c.args.out.now) (g.S.Sink.kept_back c.args.out.now) in
    let new = outside (g.W.World.turns c.watch_site.new.world) (g.W.World.started c.watch_site.new.world) (g.W.World.calls c.watch_site.new.world) (g.S.Sink.written c.watch_site.new.out) (g.S.Sink.kept_back c.watch_site.new.out) in
    inr (inr (record {
      site = site_view a.site;
      is = site_found c.args.root.now told a.field-0 a.site a.field-0-is (λ files h. (a.ensures.files files h, λ bad decided. a.ensures.value files bad h decided));
      came =
          subst (λ (t : Option Files). CameBehind c.watch_site.result (g.C.Workers.callers c.args.workers.now) c.args.style c.args.recur (option_map (λ name. name.now) c.args.state) t (site_view a.site) old new) c.answer_remarked.ensures.same c.watch_site.ensures.came;
    }))

pub returns-in-Ok-Diags-clause-written : goal.returns-in-Ok-Diags-clause-written
returns-in-Ok-Diags-clause-written g c =
    let told = g.F.Files.told c.args.files.now in
    let asked = λ (all : Files). AnswersWatched (g.C.Workers.callers c.args.workers.now) c.args.style c.args.recur (option_map (λ name. name.now) c.args.state) (g.W.World.turns c.args.world.now) all in
    let a = c.in-Ok-Diags in
    let reply = diagnoses a.files a.list in
    let made : IfOk c.diagnoses.result (λ x. reply_view x ≡ reply) = search rules in
    ended c.write_made.result (λ w. IfSome told (λ all. AnswersSite all c.args.root.now (asked all) w)) (g.S.Sink.written c.args.out.now) (g.S.Sink.written c.write_made.new.out) (
      replied reply,
      diags_answer asked c.args.root.now told a.field-0 a.files a.list a.field-0-is (λ files h. (a.ensures.files files h, λ bad decided. a.ensures.value files bad h decided)),
      c.write_made.ensures.written reply made,
    )

pub returns-in-Err-clause-through : goal.returns-in-Err-clause-through
returns-in-Err-clause-through g c = unread_through c.in-Err.fault c.status_of.result _ c.status_of.ensures

pub returns-in-Ok-Diags-clause-came : goal.returns-in-Ok-Diags-clause-came
returns-in-Ok-Diags-clause-came g c =
    let a = c.in-Ok-Diags in
    inr (inl (record {
      is =
          no_site_found c.args.root.now (g.F.Files.told c.args.files.now) a.field-0 a.files a.list a.field-0-is (λ files h. (a.ensures.files files h, λ bad decided. a.ensures.value files bad h decided));
      turns = refl;
      started = refl;
      calls = refl;
    }))

pub returns-in-Err-clause-came : goal.returns-in-Err-clause-came
returns-in-Err-clause-came g c = inl (unanswered c.in-Err.fault c.status_of.result _ c.status_of.ensures)

pub returns-in-Ok-Site-clause-remarked : goal.returns-in-Ok-Site-clause-remarked
returns-in-Ok-Site-clause-remarked g c =
    let a = c.in-Ok-Site in
    remarked_on _ c.args.recur c.args.root.now (g.F.Files.told c.args.files.now) a.field-0 (g.N.Remarks.remarked c.args.remarks.now) (g.N.Remarks.remarked c.answer_remarked.new.remarks)
    (λ files h. a.ensures.remarked files h) (λ files h. λ bad decided. a.ensures.value files bad h decided)

pub returns-in-Ok-Diags-clause-remarked : goal.returns-in-Ok-Diags-clause-remarked
returns-in-Ok-Diags-clause-remarked g c =
    let a = c.in-Ok-Diags in
    remarked_on _ c.args.recur c.args.root.now (g.F.Files.told c.args.files.now) a.field-0 (g.N.Remarks.remarked c.args.remarks.now) (g.N.Remarks.remarked c.answer_remarked.new.remarks)
    (λ files h. a.ensures.remarked files h) (λ files h. λ bad decided. a.ensures.value files bad h decided)

pub returns-in-Err-clause-remarked : goal.returns-in-Err-clause-remarked
returns-in-Err-clause-remarked g c = unread_unremarked c.in-Err.fault c.status_of.result c.args.recur c.args.root.now (g.F.Files.told c.args.files.now) _ _ c.status_of.ensures
