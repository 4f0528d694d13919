use Rattle.std.proofs.Common.{IfSome, None, Some, refl, subst}
use Rattle.site_edge.specs.Told.{ReadsFile, find_file}
use Rattle.site_model.specs.PlainSite.{site_view}
use Rattle.run_replies.specs.Runs.{replied}
use Rattle.site_answers.specs.SiteAnswers.{AnswersAsked}
use Rattle.site_replies.specs.Replies.{no_file}
use Rattle.run_replies.proofs.Finding.{as_found}
use Rattle.site_run.proofs.Wholes.{ended, ended_as}
use Rattle.site_answers.proofs.query.after_turns.Goals as goal

pub returns-in-Ok-Some-clause-written : goal.returns-in-Ok-Some-clause-written
returns-in-Ok-Some-clause-written g c =
    let told = g.F.Files.told c.args.files.now in
    let query = c.args.query.now in
    let s = site_view c.args.site in
    let callers = g.C.Workers.callers c.args.workers.now in
    ended_as c.answer_bytes.result (AnswersAsked callers query (Some c.in-Ok-Some.bytes) s c.args.turns)
    (λ w. IfSome told (λ all. AnswersAsked callers query (find_file query all) s c.args.turns w)) (g.S.Sink.written c.args.out.now) (g.S.Sink.written c.answer_bytes.new.out)
    (λ w is. as_found told query (Some c.in-Ok-Some.bytes) (λ o. AnswersAsked callers query o s c.args.turns w) (subst (ReadsFile query told) c.in-Ok-Some.field-0-is c.in-Ok-Some.ensures.bytes) is)
    c.answer_bytes.ensures.written

pub returns-in-Ok-None-clause-written : goal.returns-in-Ok-None-clause-written
returns-in-Ok-None-clause-written g c =
    let told = g.F.Files.told c.args.files.now in
    let query = c.args.query.now in
    let s = site_view c.args.site in
    let callers = g.C.Workers.callers c.args.workers.now in
    ended c.write_made.result (λ w. IfSome told (λ all. AnswersAsked callers query (find_file query all) s c.args.turns w)) (g.S.Sink.written c.args.out.now) (g.S.Sink.written c.write_made.new.out) (
      replied (no_file query),
      as_found told query None (λ o. AnswersAsked callers query o s c.args.turns (replied (no_file query))) (subst (ReadsFile query told) c.in-Ok-None.field-0-is c.in-Ok-None.ensures.bytes) refl,
      c.write_made.ensures.written (no_file query) c.no_file.ensures,
    )
