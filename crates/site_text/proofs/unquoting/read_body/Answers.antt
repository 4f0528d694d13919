use Rattle.std.proofs.Common.{◌≡◌, sym, subst, arith}
use Rattle.site_text.specs.ScriptReading.{with_front, body_of}
use Rattle.site_text.proofs.BodyLaws.{reads_front, reads_next}
use Rattle.site_text.proofs.unquoting.read_body.Goals as goal

pub loop-rest-init : goal.loop-rest-init
loop-rest-init c = record {
  within = omega (arith, c.split_at.ensures.back_len);
  reads = rw (c.in_ok-text.ensures.items, c.split_at.ensures.front, c.split_at.ensures.back, c.front_len.ensures.value) (reads_front c.args.bytes.now);
}

pub loop-rest-preserved : goal.loop-rest-preserved
loop-rest-preserved c = record {
  within = omega (arith, c.in-Some.ensures.shorter, c.loop-rest.invariant.within);
  reads = subst (λ t. with_front t (body_of c.in-Some.behind.now) ≡ body_of c.args.bytes.now) (sym c.in_ok-push.ensures.items)
      (reads_next c.loop-rest.text.items c.loop-rest.rest.now c.in-Some.behind.now c.in-Some.byte (body_of c.args.bytes.now) c.if-first-eq34.false c.in-Some.ensures.value c.loop-rest.invariant.reads);
}
