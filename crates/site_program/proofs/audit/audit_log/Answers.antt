use Rattle.std.proofs.Common.{◌≡◌, ℕ, IfOk, IfSome, Option, rules, subst}
use Rattle.site_edge.specs.Told.{find_file}
use Rattle.site_model.specs.PlainSite.{site_view}
use Rattle.run_replies.specs.Runs.{Files, replied}
use Rattle.log_audits.specs.Audits.{AnswersAudited}
use Rattle.site_program.specs.TaskAnswers.{AnswersSite}
use Rattle.site_replies.specs.Replies.{diagnoses, reply_view}
use Rattle.site_program.proofs.Answering.{diags_answer, site_answers}
use Rattle.site_run.specs.Logs.{EndsRun}
use Rattle.site_run.proofs.Wholes.{ended, ended_as}
use Rattle.site_program.proofs.Ending.{unread_through}
use Rattle.site_program.proofs.audit.audit_log.Goals as goal

pub returns-in-Ok-Site-clause-written : goal.returns-in-Ok-Site-clause-written
returns-in-Ok-Site-clause-written g c =
    let told = g.F.Files.told c.args.files.now in
    let a = c.in-Ok-Site in
    let log = c.args.log.now in
    let callers = g.C.Workers.callers c.args.workers.now in
    ended_as c.audit_site.result (λ w. IfSome (g.F.Files.told c.answer.new.files) (λ all. AnswersAudited callers log (site_view a.site) (find_file log all) w))
    (λ w. IfSome told (λ all. AnswersSite all c.args.root.now (λ s. AnswersAudited callers log s (find_file log all)) w)) (g.S.Sink.written c.args.out.now) (g.S.Sink.written c.audit_site.new.out)
    (λ w is. site_answers (λ all s. AnswersAudited callers log s (find_file log all)) c.args.root.now told a.field-0 a.site a.field-0-is (λ files h. (a.ensures.files files h, λ bad decided. a.ensures.value files bad h decided)) w
    (subst (λ (t : Option Files). IfSome t (λ all. AnswersAudited callers log (site_view a.site) (find_file log all) w)) c.answer.ensures.same is))
    (subst (λ (k : ℕ). EndsRun c.audit_site.result (λ w. IfSome (g.F.Files.told c.answer.new.files) (λ all. AnswersAudited k log (site_view a.site) (find_file log all) w)) (g.S.Sink.written c.args.out.now) (g.S.Sink.written c.audit_site.new.out)) c.count.ensures c.audit_site.ensures.written)

pub returns-in-Ok-Diags-clause-written : goal.returns-in-Ok-Diags-clause-written
returns-in-Ok-Diags-clause-written g c =
    let told = g.F.Files.told c.args.files.now in
    let a = c.in-Ok-Diags in
    let log = c.args.log.now in
    let callers = g.C.Workers.callers c.args.workers.now in
    let reply = diagnoses a.files a.list in
    let made : IfOk c.diagnoses.result (λ x. reply_view x ≡ reply) = search rules in
    ended c.write_made.result (λ w. IfSome told (λ all. AnswersSite all c.args.root.now (λ s. AnswersAudited callers log s (find_file log all)) w)) (g.S.Sink.written c.args.out.now) (g.S.Sink.written c.write_made.new.out) (
      replied reply,
      diags_answer (λ all s. AnswersAudited callers log s (find_file log all)) c.args.root.now told a.field-0 a.files a.list a.field-0-is (λ files h. (a.ensures.files files h, λ bad decided. a.ensures.value files bad h decided)),
      c.write_made.ensures.written reply made,
    )

pub returns-in-Err-clause-through : goal.returns-in-Err-clause-through
returns-in-Err-clause-through g c = unread_through c.in-Err.fault c.status_of.result _ c.status_of.ensures
