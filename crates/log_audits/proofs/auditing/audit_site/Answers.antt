-- The log is found, or it isn't there.
use Rattle.std.proofs.Common.{IfSome, None, Some, refl, subst}
use Rattle.run_replies.specs.Runs.{replied}
use Rattle.run_replies.proofs.Finding.{as_found}
use Rattle.site_edge.specs.Told.{ReadsFile, find_file}
use Rattle.site_model.specs.PlainSite.{site_view}
use Rattle.site_replies.specs.Replies.{no_file}
use Rattle.site_run.proofs.Wholes.{ended, ended_as}
use Rattle.log_audits.specs.Audits.{AnswersAudited}
use Rattle.log_audits.proofs.auditing.audit_site.Goals as goal

pub returns-in-Ok-Some-clause-written : goal.returns-in-Ok-Some-clause-written
returns-in-Ok-Some-clause-written g c =
    let told = g.F.Files.told c.args.files.now in
    let log = c.args.log.now in
    let s = site_view c.args.site in
    ended_as c.audit_bytes.result (AnswersAudited c.args.callers log s (Some c.in-Ok-Some.bytes)) (λ w. IfSome told (λ all. AnswersAudited c.args.callers log s (find_file log all) w)) (g.S.Sink.written c.args.out.now) (g.S.Sink.written c.audit_bytes.new.out)
    (λ w is. as_found told log (Some c.in-Ok-Some.bytes) (λ o. AnswersAudited c.args.callers log s o w) (subst (ReadsFile log told) c.in-Ok-Some.field-0-is c.in-Ok-Some.ensures.bytes) is)
    c.audit_bytes.ensures.written

pub returns-in-Ok-None-clause-written : goal.returns-in-Ok-None-clause-written
returns-in-Ok-None-clause-written g c =
    let told = g.F.Files.told c.args.files.now in
    let log = c.args.log.now in
    let s = site_view c.args.site in
    ended c.write_made.result (λ w. IfSome told (λ all. AnswersAudited c.args.callers log s (find_file log all) w)) (g.S.Sink.written c.args.out.now) (g.S.Sink.written c.write_made.new.out) (
      replied (no_file log),
      as_found told log None (λ o. AnswersAudited c.args.callers log s o (replied (no_file log))) (subst (ReadsFile log told) c.in-Ok-None.field-0-is c.in-Ok-None.ensures.bytes) refl,
      c.write_made.ensures.written (no_file log) c.no_file.ensures,
    )
