use Rattle.std.proofs.Common.{◌<◌, ◌≡◌, ◌-◌, length, refl, sym, ap, subst, arith}
use Rattle.std.specs.Result.{IfOk}
use Rattle.std.proofs.lemmas.Bool.Decides.{nat_tests}
use Rattle.dsl_lexer.specs.Strings.{body_of}
use Rattle.dsl_lexer.specs.Steps.{string_step}
use Rattle.dsl_lexer.proofs.Bodies.{reads_after, reads_bad, reads_nothing, quote_step}
use Rattle.dsl_lexer.proofs.strings.read_units.Goals as goal

pub loop-rest-preserved : goal.loop-rest-preserved
loop-rest-preserved c =
    let some : 0 < length c.loop-rest.rest.now = grind (arith, nat_tests) in
    let told = c.in-Byte.ensures {u = tt} in
    let next = reads_after c.loop-rest.value.items c.push.new.self.items c.loop-rest.rest.now c.split_at.result.1.now (length c.args.bytes.now) (body_of c.args.bytes.now) c.in-Byte.byte c.in-Byte.len
    c.loop-rest.invariant.within some told.within.0 told.within.1 told.value (c.in_ok-push-in-Byte.ensures {u = tt}).items c.split_at.ensures.back c.loop-rest.invariant.reads in
    record { within = next.0; reads = next.1 }

pub returns : goal.returns
returns c =
    let none : length c.loop-rest.rest.now ≡ 0 = grind (arith, nat_tests) in
    sym (ap string_step (reads_nothing c.loop-rest.value.items c.loop-rest.rest.now _ (body_of c.args.bytes.now) none c.loop-rest.invariant.reads))

pub returns-in-Quote : goal.returns-in-Quote
returns-in-Quote c =
    let some : 0 < length c.loop-rest.rest.now = grind (arith, nat_tests) in
    let same = quote_step c.loop-rest.value.items c.loop-rest.value.items c.loop-rest.rest.now (length c.args.bytes.now) (length c.args.bytes.now - length c.loop-rest.rest.now) (body_of c.args.bytes.now)
    some (c.in-Quote.ensures {u = tt}).value refl refl c.loop-rest.invariant.reads in
    subst (λ x. IfOk c.made_text.result (λ s. s ≡ x)) same c.made_text.ensures

pub returns-in-Bad : goal.returns-in-Bad
returns-in-Bad c =
    let some : 0 < length c.loop-rest.rest.now = grind (arith, nat_tests) in
    sym (ap string_step (reads_bad c.loop-rest.value.items c.loop-rest.rest.now _ (body_of c.args.bytes.now) some (c.in-Bad.ensures {u = tt}).value c.loop-rest.invariant.reads))
