-- The evaluation of expressions and statements: all of it together.
use Rattle.std.specs.Prelude.{ℕ, zero, suc}
use Rattle.site_base.specs.declared.place.Place.{Place}
use Rattle.site_base.specs.declared.diag_kind.DiagKind.TheVariants.{DepthLimit}
use Rattle.dsl_syntax.specs.Syntax as syntax
use Rattle.dsl_syntax.specs.Syntax.{Expression, expression, Statement, statement, StatementKind, Statements}
use Rattle.dsl_value.specs.declared.value.Value.{Value}
use Rattle.dsl_value.specs.declared.value.Value.TheVariants as value
use Rattle.eval_meaning.specs.Views.{View}
use Rattle.eval_meaning.specs.States.{State, Outcome, gives, ◌>>=◌, fault, step, globals_cell}
use Rattle.eval_meaning.specs.Parts.{Parts, place_of}
use Rattle.eval_meaning.specs.Literals.{string_value, array_with, dict_with}
use Rattle.eval_meaning.specs.Members.{member_with, index_with}
use Rattle.eval_meaning.specs.Operators.{unary_with, binary_with}
use Rattle.eval_meaning.specs.Frames.{name_value, ended}
use Rattle.eval_meaning.specs.Flow.{block_with, arms_with, while_with, for_with, return_with, var_with, throw_with, eval_with}
use Rattle.eval_meaning.specs.Targets.{set_with}
use Rattle.eval_meaning.specs.Functions.{function_with, define_with}
use Rattle.eval_meaning.specs.Calls.{callee_with, call_with}
use Rattle.eval_meaning.specs.Templates.{import_with}
use Rattle.eval_meaning.specs.Registration.{const_with, object_with, template_with, apply_rule_with}
use Rattle.eval_meaning.specs.Files.{include_with}
use Rattle.eval_meaning.specs.declared.callee.Callee.{Callee}
use Rattle.eval_meaning.specs.declared.flow.Flow.{Flow}
use Rattle.eval_meaning.specs.declared.flow.Flow.TheVariants.{On, Broken, Continued}

-- what an expression gives, whose parts are evaluated by `ev`
abbrev pub expression_with : View → Parts → Expression → State → Outcome Value
expression_with view ev (expression l syntax.null) s = gives value.Null s
expression_with view ev (expression l syntax.this) s = gives s.this s
expression_with view ev (expression l syntax.globals) s = gives (value.Ref globals_cell) s
expression_with view ev (expression l (syntax.boolean b)) s = gives (value.Bool b) s
expression_with view ev (expression l (syntax.number n)) s = gives (value.Number n) s
expression_with view ev (expression l (syntax.string t)) s = string_value l t s
expression_with view ev (expression l (syntax.name n)) s = name_value l n s
expression_with view ev (expression l (syntax.array es)) s = array_with ev l es s
expression_with view ev (expression l (syntax.dictionary es)) s = dict_with ev l es s
expression_with view ev (expression l (syntax.member e n)) s = member_with ev l e n s
expression_with view ev (expression l (syntax.index e k)) s = index_with ev l e k s
expression_with view ev (expression l (syntax.call e es)) s = call_with view ev l e es s
expression_with view ev (expression l (syntax.unary o e)) s = unary_with ev l o e s
expression_with view ev (expression l (syntax.binary o a b)) s = binary_with ev l o a b s
expression_with view ev (expression l (syntax.function_value f)) s = function_with ev l f s

-- what a statement does
abbrev pub statement_kind_with : View → Parts → Place → StatementKind → State → Outcome Flow
statement_kind_with view ev l (syntax.object kind e us b) s = object_with view ev l kind e us b s
statement_kind_with view ev l (syntax.template kind e us b) s = template_with view ev l kind e us b s
statement_kind_with view ev l (syntax.apply kind e to each us b) s = apply_rule_with ev l kind e to each us b s
statement_kind_with view ev l (syntax.const n e) s = const_with ev l n e s
statement_kind_with view ev l (syntax.include n at) s = include_with view ev l s
statement_kind_with view ev l (syntax.include_library n at) s = include_with view ev l s
statement_kind_with view ev l (syntax.include_all d p at) s = include_with view ev l s
statement_kind_with view ev l (syntax.import e) s = import_with view ev l e s
statement_kind_with view ev l (syntax.assign e) s = gives On s
statement_kind_with view ev l (syntax.ignore e) s = gives On s
statement_kind_with view ev l (syntax.set r ss o e) s = set_with ev l r ss o e s
statement_kind_with view ev l (syntax.var n e) s = var_with ev n e s
statement_kind_with view ev l (syntax.define n f) s = define_with ev l n f s
statement_kind_with view ev l (syntax.choose arms other) s = arms_with ev arms other s
statement_kind_with view ev l (syntax.while e b) s = while_with ev e b s
statement_kind_with view ev l (syntax.for x b) s = for_with ev x b s
statement_kind_with view ev l (syntax.return e) s = return_with ev e s
statement_kind_with view ev l syntax.break s = gives (Broken l) s
statement_kind_with view ev l syntax.continue s = gives (Continued l) s
statement_kind_with view ev l (syntax.throw e) s = throw_with ev l e s
statement_kind_with view ev l (syntax.eval e) s = eval_with ev e s

-- ---- steps and depth

-- On entry of a node its step is counted, and then nothing is run if no more nodes may be open.
abbrev pub too_deep : {A : Type 0} → Place → State → Outcome A
too_deep l s = step l s >>= λ _ s1. fault l DepthLimit s1

abbrev pub flow_too_deep : Statement → State → Outcome Flow
flow_too_deep (statement l k) s = too_deep l s

abbrev pub value_with : View → Parts → Expression → State → Outcome Value
value_with view ev e s = step (place_of e) s >>= λ _ s1. expression_with view ev e s1

abbrev pub flow_with : View → Parts → Statement → State → Outcome Flow
flow_with view ev (statement l k) s = step l s >>= λ _ s1. statement_kind_with view ev l k s1

abbrev pub called_value_with : View → Parts → Expression → State → Outcome Callee
called_value_with view ev e s = step (place_of e) s >>= λ _ s1. callee_with ev (expression_with view ev) e s1

-- the nodes that have these parts
abbrev pub one_more : View → Parts → Parts
one_more view ev = record { value = value_with view ev; flow = flow_with view ev; callee = called_value_with view ev }

-- How nodes are evaluated over a view where at most so many of them may still be open. A node is one of these, so its parts have one less.
unfoldable pub evaluated : View → ℕ → Parts
evaluated view zero = record { value = λ e s. too_deep (place_of e) s; flow = flow_too_deep; callee = λ e s. too_deep (place_of e) s }
evaluated view (suc depth) = one_more view (evaluated view depth)

-- the value of an expression
abbrev pub value_of : View → ℕ → Expression → State → Outcome Value
value_of view depth e s = (evaluated view depth).value e s

-- the body of an object, whose value is that of a `return` in it
abbrev pub body_of : View → ℕ → Statements → State → Outcome Value
body_of view depth b s = block_with (evaluated view depth) b s >>= ended
