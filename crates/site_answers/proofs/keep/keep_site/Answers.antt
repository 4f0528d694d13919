-- The script is found, or it isn't there.
use Rattle.std.proofs.Common.{IfSome, None, Some, refl, subst}
use Rattle.site_edge.specs.Told.{ReadsFile, find_file}
use Rattle.site_model.specs.PlainSite.{site_view}
use Rattle.run_replies.specs.Runs.{replied}
use Rattle.site_answers.specs.SiteAnswers.{AnswersKept}
use Rattle.site_replies.specs.Replies.{no_file}
use Rattle.run_replies.proofs.Finding.{as_found}
use Rattle.site_run.proofs.Wholes.{ended, ended_as}
use Rattle.site_answers.proofs.keep.keep_site.Goals as goal

pub returns-in-Ok-Some-clause-written : goal.returns-in-Ok-Some-clause-written
returns-in-Ok-Some-clause-written g c =
    let told = g.F.Files.told c.args.files.now in
    let script = c.args.script.now in
    let s = site_view c.args.site in
    let callers = g.C.Workers.callers c.args.workers.now in
    ended_as c.keep_bytes.result (AnswersKept callers script s (Some c.in-Ok-Some.bytes))
    (λ w. IfSome told (λ all. AnswersKept callers script s (find_file script all) w)) (g.S.Sink.written c.args.out.now) (g.S.Sink.written c.keep_bytes.new.out)
    (λ w is. as_found told script (Some c.in-Ok-Some.bytes) (λ o. AnswersKept callers script s o w) (subst (ReadsFile script told) c.in-Ok-Some.field-0-is c.in-Ok-Some.ensures.bytes) is)
    c.keep_bytes.ensures.written

pub returns-in-Ok-None-clause-written : goal.returns-in-Ok-None-clause-written
returns-in-Ok-None-clause-written g c =
    let told = g.F.Files.told c.args.files.now in
    let script = c.args.script.now in
    let s = site_view c.args.site in
    let callers = g.C.Workers.callers c.args.workers.now in
    ended c.write_made.result (λ w. IfSome told (λ all. AnswersKept callers script s (find_file script all) w)) (g.S.Sink.written c.args.out.now) (g.S.Sink.written c.write_made.new.out) (
      replied (no_file script),
      as_found told script None (λ o. AnswersKept callers script s o (replied (no_file script))) (subst (ReadsFile script told) c.in-Ok-None.field-0-is c.in-Ok-None.ensures.bytes) refl,
      c.write_made.ensures.written (no_file script) c.no_file.ensures,
    )
