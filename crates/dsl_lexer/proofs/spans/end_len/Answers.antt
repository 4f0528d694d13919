use Rattle.std.proofs.Common.{◌∙◌, sym, ap, take, length}
use Rattle.std.specs.Str.{bytes_eq}
use Rattle.dsl_lexer.proofs.Ends.{find_more, find_here}
use Rattle.dsl_lexer.proofs.spans.end_len.Goals as goal

pub loop-len-preserved : goal.loop-len-preserved
loop-len-preserved c =
    c.loop-len.invariant
    ∙ find_more c.args.end.now c.args.text.now c.loop-len.len c.loop-len-test.true
    (ap (λ x. bytes_eq c.args.end.now (take (length c.args.end.now) x)) (sym c.split_at.ensures.back) ∙ (sym c.starts_with.ensures.value ∙ c.if-starts_with.false))

pub returns-then-starts_with-clause-value : goal.returns-then-starts_with-clause-value
returns-then-starts_with-clause-value c =
    find_here c.args.end.now c.args.text.now c.loop-len.len c.loop-len-test.true
    (ap (λ x. bytes_eq c.args.end.now (take (length c.args.end.now) x)) (sym c.split_at.ensures.back) ∙ (sym c.starts_with.ensures.value ∙ c.if-starts_with.true))
    ∙ sym c.loop-len.invariant
