use Rattle.std.proofs.Common.{◌≡◌, ◌<◌, ◌-◌, length, arith}
use Rattle.std.proofs.lemmas.Bool.Decides.{nat_tests}
use Rattle.site_audit.proofs.AuditLaws.{bad_next}
use Rattle.site_audit.proofs.auditing.verdict_after.Goals as goal

pub returns-else-is_empty-2 : goal.returns-else-is_empty-2
returns-else-is_empty-2 c =
    let past = c.loop-test.false in
    let none : c.args.agreed - c.loop.counter ≡ 0 = omega (arith, past) in
    let some : 0 < length c.loop.rest.now = grind (arith, nat_tests, c.is_empty-2.ensures, c.if-is_empty-2.false) in
    bad_next c.loop.line (c.args.agreed - c.loop.counter) c.loop.rest.now _ none some c.loop.invariant.0
