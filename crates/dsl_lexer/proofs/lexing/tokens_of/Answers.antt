use Rattle.std.proofs.Common.{◌≡◌, ◌+◌, length, ap, sym, subst, ◌∙◌, arith}
use Rattle.std.specs.Str.{IsUtf8}
use Rattle.std.proofs.lemmas.Str.{IsUtf8-from_is_utf8}
use Rattle.std.proofs.lemmas.List.{length-drop}
use Rattle.dsl_lexer.specs.Brackets.{keeps}
use Rattle.dsl_lexer.specs.declared.stepping.Step.TheVariants as step
use Rattle.dsl_lexer.specs.Lexing.{lexed}
use Rattle.dsl_lexer.specs.Steps.{step_at}
use Rattle.dsl_lexer.proofs.StepLaws.{passed_within, taken_within}
use Rattle.dsl_lexer.proofs.Lexeds.{begins, passes_after, takes_after}
use Rattle.dsl_lexer.proofs.TokenTexts.{taken_utf8, not_text}
use Rattle.dsl_lexer.proofs.Utf8Laws.{alike_self, alike_after}
use Rattle.dsl_lexer.proofs.lexing.tokens_of.Goals as goal

passed_is : (c : goal.In-Passed) → step.Passed c.in-Passed.len ≡ step_at (keeps c.loop-rest.brackets.items) c.loop-rest.rest.now
passed_is c = sym c.in-Passed.is ∙ (c.in_ok-len.ensures {u = tt} ∙ ap (λ b. step_at b c.loop-rest.rest.now) (c.keeps_newlines.ensures ∙ ap keeps c.as_slice.ensures.value))

taken_is : (c : goal.In-Taken) → step.Taken c.in-Taken.len c.in-Taken.kind ≡ step_at (keeps c.loop-rest.brackets.items) c.loop-rest.rest.now
taken_is c = sym c.in-Taken.is ∙ (c.in_ok-len.ensures {u = tt} ∙ ap (λ b. step_at b c.loop-rest.rest.now) (c.keeps_newlines.ensures ∙ ap keeps c.as_slice.ensures.value))

pub loop-rest-init : goal.loop-rest-init
loop-rest-init c = record {
  text = alike_self c.args.bytes.now;
  reads = begins c.new-tokens.result c.args.start c.new-brackets.result.items c.args.bytes.now c.new-tokens.ensures c.new-brackets.ensures.items;
  line = omega arith;
  col = omega arith;
}

pub split_at-requires : goal.split_at-requires
split_at-requires c = (passed_within _ c.loop-rest.rest.now c.in-Passed.len (passed_is c)).1

pub loop-rest-smaller-in-Passed : goal.loop-rest-smaller-in-Passed
loop-rest-smaller-in-Passed c =
    let told : step.Passed c.in-Passed.len ≡ step_at (keeps c.loop-rest.brackets.items) c.loop-rest.rest.now =
    sym c.in-Passed.is ∙ (c.in_ok-len.ensures {u = tt} ∙ ap (λ b. step_at b c.loop-rest.rest.now) (c.keeps_newlines.ensures ∙ ap keeps c.as_slice.ensures.value)) in
    let within = passed_within _ c.loop-rest.rest.now c.in-Passed.len told in
    omega (arith, within.0, within.1, ap length c.split_at.ensures.back, length-drop c.in-Passed.len c.loop-rest.rest.now)

pub loop-rest-preserved-in-Passed : goal.loop-rest-preserved-in-Passed
loop-rest-preserved-in-Passed c =
    let told : step.Passed c.in-Passed.len ≡ step_at (keeps c.loop-rest.brackets.items) c.loop-rest.rest.now =
    sym c.in-Passed.is ∙ (c.in_ok-len.ensures {u = tt} ∙ ap (λ b. step_at b c.loop-rest.rest.now) (c.keeps_newlines.ensures ∙ ap keeps c.as_slice.ensures.value)) in
    let within = passed_within _ c.loop-rest.rest.now c.in-Passed.len told in
    let behind : length c.split_at.result.1.now + c.in-Passed.len ≡ length c.loop-rest.rest.now = omega (arith, within.1, ap length c.split_at.ensures.back, length-drop c.in-Passed.len c.loop-rest.rest.now) in
    record {
      text = alike_after c.loop-rest.rest.now c.split_at.result.0.now c.split_at.result.1.now c.args.bytes.now c.in-Passed.len c.split_at.ensures.front c.split_at.ensures.back
          (IsUtf8-from_is_utf8 c.split_at.result.0.now (sym c.is_text.ensures ∙ c.if-not-is_text.false)) c.loop-rest.invariant.text;
      reads = passes_after c.loop-rest.tokens c.loop-rest.place c.place_behind-place.result c.loop-rest.brackets.items c.loop-rest.rest.now c.split_at.result.0.now c.split_at.result.1.now (lexed c.args.start c.args.bytes.now) c.in-Passed.len
          (omega (arith, within.0, within.1)) within.0 told c.place_behind-place.ensures.value c.split_at.ensures.front c.split_at.ensures.back c.loop-rest.invariant.reads;
      line = omega (arith, behind, c.split_at.ensures.front_len, c.place_behind-place.ensures.line, c.loop-rest.invariant.line);
      col = omega (arith, behind, c.split_at.ensures.front_len, c.place_behind-place.ensures.col, c.loop-rest.invariant.col);
    }

pub split_at-requires-in-Taken : goal.split_at-requires-in-Taken
split_at-requires-in-Taken c = (taken_within _ c.loop-rest.rest.now c.in-Taken.len c.in-Taken.kind (taken_is c)).1

pub loop-rest-smaller : goal.loop-rest-smaller
loop-rest-smaller c =
    let told : step.Taken c.in-Taken.len c.in-Taken.kind ≡ step_at (keeps c.loop-rest.brackets.items) c.loop-rest.rest.now =
    sym c.in-Taken.is ∙ (c.in_ok-len.ensures {u = tt} ∙ ap (λ b. step_at b c.loop-rest.rest.now) (c.keeps_newlines.ensures ∙ ap keeps c.as_slice.ensures.value)) in
    let within = taken_within _ c.loop-rest.rest.now c.in-Taken.len c.in-Taken.kind told in
    omega (arith, within.0, within.1, ap length c.split_at-in-Taken.ensures.back, length-drop c.in-Taken.len c.loop-rest.rest.now)

pub loop-rest-preserved : goal.loop-rest-preserved
loop-rest-preserved c =
    let told : step.Taken c.in-Taken.len c.in-Taken.kind ≡ step_at (keeps c.loop-rest.brackets.items) c.loop-rest.rest.now =
    sym c.in-Taken.is ∙ (c.in_ok-len.ensures {u = tt} ∙ ap (λ b. step_at b c.loop-rest.rest.now) (c.keeps_newlines.ensures ∙ ap keeps c.as_slice.ensures.value)) in
    let within = taken_within _ c.loop-rest.rest.now c.in-Taken.len c.in-Taken.kind told in
    let behind : length c.split_at-in-Taken.result.1.now + c.in-Taken.len ≡ length c.loop-rest.rest.now = omega (arith, within.1, ap length c.split_at-in-Taken.ensures.back, length-drop c.in-Taken.len c.loop-rest.rest.now) in
    record {
      text = alike_after c.loop-rest.rest.now c.split_at-in-Taken.result.0.now c.split_at-in-Taken.result.1.now c.args.bytes.now c.in-Taken.len c.split_at-in-Taken.ensures.front c.split_at-in-Taken.ensures.back
          (subst IsUtf8 (sym c.split_at-in-Taken.ensures.front) (taken_utf8 _ c.loop-rest.rest.now c.in-Taken.len c.in-Taken.kind told)) c.loop-rest.invariant.text;
      reads = takes_after c.loop-rest.tokens c.push.new.self c.loop-rest.place c.place_behind-place-in-Taken.result c.loop-rest.brackets.items c.open_or_close.new.brackets.items c.loop-rest.rest.now c.split_at-in-Taken.result.0.now c.split_at-in-Taken.result.1.now
          (lexed c.args.start c.args.bytes.now) c.in-Taken.len c.in-Taken.kind
          (omega (arith, within.0, within.1)) within.0 told (c.in_ok-push-in-Taken.ensures {u = tt}).ok c.place_behind-place-in-Taken.ensures.value c.split_at-in-Taken.ensures.front (c.in_ok-open_or_close-in-Taken.ensures {u = tt}) c.split_at-in-Taken.ensures.back c.loop-rest.invariant.reads;
      line = omega (arith, behind, c.split_at-in-Taken.ensures.front_len, c.place_behind-place-in-Taken.ensures.line, c.loop-rest.invariant.line);
      col = omega (arith, behind, c.split_at-in-Taken.ensures.front_len, c.place_behind-place-in-Taken.ensures.col, c.loop-rest.invariant.col);
    }

pub returns-then-not-is_text-clause-found : goal.returns-then-not-is_text-clause-found
returns-then-not-is_text-clause-found c = λ u. absurd (not_text _ c.loop-rest.rest.now c.split_at.result.0.now c.args.bytes.now c.in-Passed.len c.is_text.result
    (sym c.in-Passed.is ∙ (c.in_ok-len.ensures {u = tt} ∙ ap (λ b. step_at b c.loop-rest.rest.now) (c.keeps_newlines.ensures ∙ ap keeps c.as_slice.ensures.value)))
    c.split_at.ensures.front c.is_text.ensures c.if-not-is_text.true c.loop-rest.invariant.text u)
