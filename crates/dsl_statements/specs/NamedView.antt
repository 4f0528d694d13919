-- The plain values of what the functions of the parser hand on.
use Rattle.std.specs.Prelude.{List, [], ◌∷◌}
use Rattle.std.specs.Arc.{arc_value}
use Rattle.dsl_syntax.specs.SyntaxView.{expr_view, uses_view, block_view, maybe_each_view}
use Rattle.dsl_syntax.specs.Syntax.{StatementKind}
use Rattle.dsl_lexer.specs.declared.word.Word.{Word}
use Rattle.dsl_lexer.specs.declared.word.Word.TheVariants as words
use Rattle.dsl_rules.specs.Alphabet.{Sort}
use Rattle.dsl_statements.specs.declared.objects.Bodied.{Bodied}
use Rattle.dsl_statements.specs.declared.applies.Headed.{Headed}
use Rattle.dsl_statements.specs.declared.applies.Heads.{Heads}
use Rattle.dsl_statements.specs.declared.inclusions.Located.{Located}
use Rattle.dsl_statements.specs.declared.objects.Named.{Named}
use Rattle.dsl_grammar.specs.Codes.{word_sort}
use Rattle.dsl_grammar.specs.Grammar.{bodied, headed, heads, located, named, object_named, template_named}
use Rattle.dsl_grammar.specs.Grammar as plain

abbrev pub bodied_view : Bodied → plain.Bodied
bodied_view b = bodied (uses_view b.uses.items) (block_view (arc_value b.body))

abbrev pub named_view : Named → plain.Named
named_view n = named n.kind (expr_view n.name) (bodied_view n.bodied)

abbrev pub heads_view : Heads → plain.Heads
heads_view h = heads h.to (maybe_each_view h.each)

abbrev pub headed_view : Headed → plain.Headed
headed_view h = headed (heads_view h.heads) (bodied_view h.bodied)

abbrev pub located_view : Located → plain.Located
located_view l = located l.place l.name

-- with which tokens heads begin
abbrev pub head_sorts : List Sort
head_sorts = word_sort words.To ∷ word_sort words.For ∷ []

-- the statement of a first word, a type, a name and a body
abbrev pub named_of : Word → plain.Named → StatementKind
named_of words.Object n = object_named n
named_of w n = template_named n
