use Rattle.std.proofs.Common.{ap, ◌∙◌}
use Rattle.dsl_syntax.specs.SyntaxView.{block_view, stmts_view, uses_view}
use Rattle.dsl_syntax.proofs.SyntaxRows.{made_block}
use Rattle.dsl_grammar.specs.Grammar.{bodied}
use Rattle.dsl_statements.proofs.objects.bodied_of.Goals as goal

pub returns : goal.returns
returns c = ap (bodied (uses_view c.args.uses.items)) (ap block_view c.in_ok-body.ensures.ok ∙ made_block c.shrink_to_fit.new.self ∙ ap stmts_view c.shrink_to_fit.ensures.items)
