-- What is written is what answers to the one file.
use Rattle.std.proofs.Common.{◌≡◌, IfOk, Some, ◌∙◌, rules}
use Rattle.site_model.specs.PlainSite.{site_view}
use Rattle.run_replies.specs.Runs.{replied}
use Rattle.site_program.specs.TaskAnswers.{AnswersGenerated, IsCounted, files_of, root_name}
use Rattle.site_replies.specs.Replies.{diagnoses, reply_view}
use Rattle.site_program.proofs.Answering.{diags_answer, site_answers}
use Rattle.site_run.proofs.Wholes.{ended, ended_as}
use Rattle.site_program.proofs.generate.generate.Goals as goal

pub returns-in-Ok-Site-clause-written : goal.returns-in-Ok-Site-clause-written
returns-in-Ok-Site-clause-written g c =
    let a = c.in-Ok-Site in
    let told = c.in-Ok.ensures.told in
    ended_as c.write_counts.result (IsCounted c.args.hosts (site_view a.site)) (AnswersGenerated c.args.hosts) (g.S.Sink.written c.args.out.now) (g.S.Sink.written c.write_counts.new.out)
    (λ w is. site_answers (λ all. IsCounted c.args.hosts) root_name (Some (files_of c.args.hosts)) a.field-0 a.site a.field-0-is (λ all h. (a.ensures.files all (told ∙ h), λ bad decided. a.ensures.value all bad (told ∙ h) decided)) w is)
    c.write_counts.ensures.written

pub returns-in-Ok-Diags-clause-written : goal.returns-in-Ok-Diags-clause-written
returns-in-Ok-Diags-clause-written g c =
    let a = c.in-Ok-Diags in
    let told = c.in-Ok.ensures.told in
    let reply = diagnoses a.files a.list in
    let made : IfOk c.diagnoses.result (λ x. reply_view x ≡ reply) = search rules in
    ended c.write_made.result (AnswersGenerated c.args.hosts) (g.S.Sink.written c.args.out.now) (g.S.Sink.written c.write_made.new.out) (
      replied reply,
      diags_answer (λ all. IsCounted c.args.hosts) root_name (Some (files_of c.args.hosts)) a.field-0 a.files a.list a.field-0-is (λ all h. (a.ensures.files all (told ∙ h), λ bad decided. a.ensures.value all bad (told ∙ h) decided)),
      c.write_made.ensures.written reply made,
    )
