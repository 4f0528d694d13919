use Rattle.std.proofs.Common.{false, IfSome}
use Rattle.site_phases.specs.Phases.{answer_view}
use Rattle.run_replies.specs.Runs.{replied}
use Rattle.site_program.specs.TaskAnswers.{AnswersShown}
use Rattle.site_replies.specs.Replies.{config_reply, files_in}
use Rattle.site_replies.specs.declared.replies.Shown.TheVariants as shown
use Rattle.site_program.proofs.Answering.{shown_answers}
use Rattle.site_program.proofs.Remarking.{remarked_on, unread_unremarked}
use Rattle.site_run.proofs.Wholes.{ended}
use Rattle.site_program.proofs.Ending.{unread, unread_through}
use Rattle.site_program.proofs.config.count_objects.Goals as goal

pub returns-in-Ok-clause-written : goal.returns-in-Ok-clause-written
returns-in-Ok-clause-written g c =
    let a = c.in-Ok.answer in
    let told = g.F.Files.told c.args.files.now in
    let reply = config_reply shown.Count (files_in a) (answer_view a) in
    ended c.write_made.result (λ w. IfSome told (λ all. AnswersShown all shown.Count c.args.root.now w)) (g.S.Sink.written c.args.out.now) (g.S.Sink.written c.write_made.new.out) (
      replied reply,
      shown_answers shown.Count c.args.root.now told a (λ files h. (c.in-Ok.ensures.files files h, λ bad decided. c.in-Ok.ensures.value files bad h decided)),
      c.write_made.ensures.written reply c.reply_to_config.ensures,
    )

pub returns-in-Err-clause-written : goal.returns-in-Err-clause-written
returns-in-Err-clause-written g c =
    unread c.in-Err.fault c.status_of.result (λ w. IfSome (g.F.Files.told c.args.files.now) (λ all. AnswersShown all shown.Count c.args.root.now w)) (g.S.Sink.written c.args.out.now) c.status_of.ensures

pub returns-in-Err-clause-through : goal.returns-in-Err-clause-through
returns-in-Err-clause-through g c = unread_through c.in-Err.fault c.status_of.result _ c.status_of.ensures

pub returns-in-Ok-clause-remarked : goal.returns-in-Ok-clause-remarked
returns-in-Ok-clause-remarked g c =
    let a = c.in-Ok.answer in
    remarked_on _ false c.args.root.now (g.F.Files.told c.args.files.now) a (g.N.Remarks.remarked c.args.remarks.now) (g.N.Remarks.remarked c.answer_remarked.new.remarks)
    (λ files h. c.in-Ok.ensures.remarked files h) (λ files h. λ bad decided. c.in-Ok.ensures.value files bad h decided)

pub returns-in-Err-clause-remarked : goal.returns-in-Err-clause-remarked
returns-in-Err-clause-remarked g c = unread_unremarked c.in-Err.fault c.status_of.result false c.args.root.now (g.F.Files.told c.args.files.now) _ _ c.status_of.ensures
