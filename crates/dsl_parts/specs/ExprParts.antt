-- Parts of expressions, as the parser holds them, beside the grammar's values.
use Rattle.std.specs.Prelude.{List, [], ◌∷◌, ℕ}
use Rattle.dsl_syntax.specs.SyntaxView.{expr_view, exprs_view}
use Rattle.dsl_grammar.specs.Grammar.{Begun, begun, Prefix, prefix, Slots as GrammarSlots, slots}
use Rattle.dsl_lexer.specs.declared.token.Token.{Token}
use Rattle.dsl_rules.specs.Reading.{Read}
use Rattle.dsl_grammar.specs.Reading.{read_by}
use Rattle.dsl_grammar.specs.Terms.{Rule}
use Rattle.dsl_parts.specs.declared.nodes.Operand.{Operand}
use Rattle.dsl_parts.specs.declared.prefixes.PrefixSign.{PrefixSign}
use Rattle.dsl_parts.specs.declared.slots.Slots.{Slots}

abbrev pub operand_view : Operand → Begun
operand_view o = begun o.start (expr_view o.expr)

abbrev pub prefixes_view : List PrefixSign → List Prefix
prefixes_view [] = []
prefixes_view (p ∷ ps) = prefix p.place p.op ∷ prefixes_view ps

abbrev pub slots_view : Slots → GrammarSlots
slots_view s = slots (exprs_view s.items.items) s.full

-- what a production reads that has neither loops nor names, so that the bound is all the same
abbrev pub read_flat : {A : Type 0} → Rule A → List Token → Read Token A
read_flat g ts = read_by 0 g ts
