use Rattle.std.proofs.Common.{IfSome}
use Rattle.site_phases.specs.Phases.{answer_view}
use Rattle.run_replies.specs.Runs.{replied}
use Rattle.site_program.specs.TaskAnswers.{AnswersShown}
use Rattle.site_replies.specs.Replies.{config_reply, files_in}
use Rattle.site_replies.specs.declared.replies.Shown.TheVariants as shown
use Rattle.site_program.proofs.Answering.{shown_answers}
use Rattle.site_run.proofs.Wholes.{ended}
use Rattle.site_program.proofs.Ending.{unread, unread_through}
use Rattle.site_program.proofs.config.list_objects.Goals as goal

pub returns-in-Ok-clause-written : goal.returns-in-Ok-clause-written
returns-in-Ok-clause-written g c =
    let a = c.in-Ok.answer in
    let told = g.F.Files.told c.args.files.now in
    let reply = config_reply shown.Listing (files_in a) (answer_view a) in
    ended c.write_made.result (λ w. IfSome told (λ all. AnswersShown all shown.Listing c.args.root.now w)) (g.S.Sink.written c.args.out.now) (g.S.Sink.written c.write_made.new.out) (
      replied reply,
      shown_answers shown.Listing c.args.root.now told a (λ files h. (c.in-Ok.ensures.files files h, λ bad decided. c.in-Ok.ensures.value files bad h decided)),
      c.write_made.ensures.written reply c.reply_to_config.ensures,
    )

pub returns-in-Err-clause-written : goal.returns-in-Err-clause-written
returns-in-Err-clause-written g c =
    unread c.in-Err.fault c.status_of.result (λ w. IfSome (g.F.Files.told c.args.files.now) (λ all. AnswersShown all shown.Listing c.args.root.now w)) (g.S.Sink.written c.args.out.now) c.status_of.ensures

pub returns-in-Err-clause-through : goal.returns-in-Err-clause-through
returns-in-Err-clause-through g c = unread_through c.in-Err.fault c.status_of.result _ c.status_of.ensures
