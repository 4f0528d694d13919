use Rattle.std.proofs.Common.{sym, ap, ◌∙◌}
use Rattle.dsl_syntax.specs.SyntaxView.{expr_view}
use Rattle.dsl_parts.specs.ExprParts.{prefixes_view}
use Rattle.dsl_grammar.specs.Grammar.{with_prefixes}
use Rattle.dsl_parts.proofs.PartLists.{last_prefix}
use Rattle.dsl_parts.proofs.prefixes.applied.Goals as goal

pub loop-sign-preserved : goal.loop-sign-preserved
loop-sign-preserved c =
    let before = c.pop.new.self.items in
    ap (with_prefixes (prefixes_view before)) c.in_ok-whole.ensures ∙ sym (last_prefix before c.in-Some.sign (expr_view c.loop-sign.whole)) ∙
    ap (λ l. with_prefixes (prefixes_view l) (expr_view c.loop-sign.whole)) (sym c.in-Some.ensures.items) ∙ c.loop-sign.invariant
