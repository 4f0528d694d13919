-- Lists of parts with one more behind them, beside their plain values.
use Rattle.std.proofs.Common.{◌≡◌, ℕ, List, [], ◌∷◌, ◌++◌, Option, refl, ap}
use Rattle.dsl_syntax.specs.Syntax.{Expression, more_expressions, more_entries, more_uses, no_uses, expression, unary}
use Rattle.dsl_syntax.specs.SyntaxView.{expr_view, exprs_view, entries_view, uses_view, maybe_expr_view}
use Rattle.dsl_syntax.specs.declared.expr.Expr.{Expr}
use Rattle.dsl_syntax.specs.declared.used.Use.{Use}
use Rattle.dsl_syntax.specs.declared.expr_kind.ExprKind.TheViews.{out-Use, roll-Use}
use Rattle.dsl_syntax.proofs.SyntaxRows.{use_fields, made_use}
use Rattle.dsl_parts.specs.ExprParts.{prefixes_view}
use Rattle.dsl_grammar.specs.Grammar.{prefix, with_prefixes}
use Rattle.dsl_syntax.specs.Lists.{add_expression, add_entry, add_use}
use Rattle.dsl_parts.specs.declared.prefixes.PrefixSign.{PrefixSign}

pub prefixes_more : (ps : List PrefixSign) (p : PrefixSign) → prefixes_view (ps ++ p ∷ []) ≡ prefixes_view ps ++ prefix p.place p.op ∷ []
prefixes_more [] p = refl
prefixes_more (x ∷ ps) p = ap (λ l. prefix x.place x.op ∷ l) (prefixes_more ps p)

pub last_prefix : (ps : List PrefixSign) (p : PrefixSign) (e : Expression) → with_prefixes (prefixes_view (ps ++ p ∷ [])) e ≡ with_prefixes (prefixes_view ps) (expression p.place (unary p.op e))
last_prefix [] p e = refl
last_prefix (x ∷ ps) p e = ap (λ f. expression x.place (unary x.op f)) (last_prefix ps p e)
