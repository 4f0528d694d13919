use Rattle.std.proofs.Common.{IfSome, None, Some, refl, subst}
use Rattle.site_edge.specs.Told.{ReadsFile, find_file}
use Rattle.site_model.specs.PlainSite.{site_view}
use Rattle.run_replies.specs.Runs.{Files, replied}
use Rattle.site_answers.specs.SiteAnswers.{AnswersQueried}
use Rattle.site_replies.specs.Replies.{no_file}
use Rattle.run_replies.proofs.Finding.{always, found_among, on_some}
use Rattle.site_run.proofs.Wholes.{ended, ended_as}
use Rattle.site_answers.proofs.query.query_site.Goals as goal

pub returns-in-Ok-Some-clause-written : goal.returns-in-Ok-Some-clause-written
returns-in-Ok-Some-clause-written g c =
    let told = g.F.Files.told c.args.files.now in
    let script = c.args.script.now in
    let query = c.args.query.now in
    let s = site_view c.args.site in
    let callers = g.C.Workers.callers c.args.workers.now in
    ended_as c.after_bytes.result (λ w. IfSome (g.F.Files.told c.read.new.self) (λ all. AnswersQueried callers script query s (Some c.in-Ok-Some.bytes) (find_file query all) w))
    (λ w. IfSome told (λ all. AnswersQueried callers script query s (find_file script all) (find_file query all) w)) (g.S.Sink.written c.args.out.now) (g.S.Sink.written c.after_bytes.new.out)
    (λ w is. found_among told script (Some c.in-Ok-Some.bytes) (λ all o. AnswersQueried callers script query s o (find_file query all) w) (subst (ReadsFile script told) c.in-Ok-Some.field-0-is c.in-Ok-Some.ensures.bytes)
    (subst (λ t. IfSome t (λ all. AnswersQueried callers script query s (Some c.in-Ok-Some.bytes) (find_file query all) w)) c.read.ensures.same is))
    c.after_bytes.ensures.written

pub returns-in-Ok-None-clause-written : goal.returns-in-Ok-None-clause-written
returns-in-Ok-None-clause-written g c =
    let told = g.F.Files.told c.args.files.now in
    let script = c.args.script.now in
    let query = c.args.query.now in
    let s = site_view c.args.site in
    let callers = g.C.Workers.callers c.args.workers.now in
    ended c.write_made.result (λ w. IfSome told (λ all. AnswersQueried callers script query s (find_file script all) (find_file query all) w)) (g.S.Sink.written c.args.out.now) (g.S.Sink.written c.write_made.new.out) (
      replied (no_file script),
      found_among told script None (λ all o. AnswersQueried callers script query s o (find_file query all) (replied (no_file script))) (subst (ReadsFile script told) c.in-Ok-None.field-0-is c.in-Ok-None.ensures.bytes) (on_some told (λ all. Unit {0}) (λ all. AnswersQueried callers script query s None (find_file query all) (replied (no_file script))) (λ all h. refl) (always told _ tt)),
      c.write_made.ensures.written (no_file script) c.no_file.ensures,
    )
