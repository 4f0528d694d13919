-- The verdict is that on these bytes.
use Rattle.std.proofs.Common.{ℕ, List, Some, refl, subst}
use Rattle.site_audit.specs.Audit.{IsVerdict}
use Rattle.site_model.specs.PlainSite.{site_view}
use Rattle.site_run.proofs.Wholes.{ended}
use Rattle.log_audits.specs.Audits.{AnswersAudited, judged}
use Rattle.log_audits.proofs.auditing.audit_bytes.Goals as goal

pub returns-in-Ok-clause-written : goal.returns-in-Ok-clause-written
returns-in-Ok-clause-written g c =
    let verdict = c.in-Ok.verdict in
    let s = site_view c.args.site in
    let is = subst (λ (bytes : List ℕ). IsVerdict c.args.callers s bytes verdict) c.as_slice.ensures c.in-Ok.ensures in
    ended c.write_verdict.result (AnswersAudited c.args.callers c.args.log.now s (Some c.args.bytes.now)) (g.S.Sink.written c.args.out.now) (g.S.Sink.written c.write_verdict.new.out)
    (judged verdict, (verdict, is, refl), c.write_verdict.ensures.written)
