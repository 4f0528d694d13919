-- What is called, and what is run in a frame of its own.
use Rattle.std.specs.Prelude.{◌==◌, List, length, slice_get, false, Option, Some, None, if◌then◌else◌}
use Rattle.std.specs.Arc.{arc_value}
use Rattle.site_base.specs.declared.place.Place.{Place}
use Rattle.site_base.specs.declared.diag_kind.DiagKind.TheVariants.{WrongType, Arity}
use Rattle.dsl_syntax.specs.Syntax.{Statements, no_statements, Function, function}
use Rattle.dsl_syntax.specs.SyntaxView.{stmts_view}
use Rattle.dsl_syntax.specs.declared.expr_kind.ExprKind.TheViews.{out-Func}
use Rattle.dsl_value.specs.Pairs.{Pairs}
use Rattle.dsl_value.specs.PlainStores.{Closure}
use Rattle.dsl_value.specs.declared.value.Value.{Value}
use Rattle.dsl_value.specs.declared.value.Value.TheVariants as value
use Rattle.eval_meaning.specs.States.{State, Outcome, gives, fault, ◌>>=◌}
use Rattle.eval_meaning.specs.Views.{View}
use Rattle.eval_meaning.specs.Parts.{Parts}
use Rattle.eval_meaning.specs.Registered.{PlainFile}
use Rattle.eval_meaning.specs.Frames.{first_locals, in_frame}
use Rattle.eval_meaning.specs.Flow.{block_with}
use Rattle.eval_meaning.specs.declared.flow.Flow.{Flow}
use Rattle.eval_meaning.specs.declared.flow.Flow.TheVariants.{On}
use Rattle.eval_meaning.specs.Functions.{bound, apply_with}
use Rattle.eval_meaning.specs.Calls.{library_with}
use Rattle.eval_meaning.specs.declared.callee.Callee.{Callee}
use Rattle.eval_meaning.specs.declared.callee.Callee.TheVariants as callee
use Rattle.load_work.specs.Imports.{PlainImported}
use Rattle.eval_steps.specs.declared.calls.Called.{Called}
use Rattle.eval_steps.specs.declared.calls.Called.TheVariants as called
use Rattle.eval_steps.specs.declared.calls.Prepared.{Prepared}

-- what is called, without a method's own value
abbrev pub called_of : Callee → Called
called_of (callee.Value v this) = called.Value v this
called_of (callee.Function c) = called.Library c
called_of (callee.Method c v) = called.Library c

abbrev pub called_by : View → Parts → Place → Called → List Value → State → Outcome Value
called_by view ev l (called.Value v this) vs s = apply_with ev l v this vs s
called_by view ev l (called.Library c) vs s = library_with view ev l c vs s

-- the body of a function that is called, and the locals that its frame begins with
abbrev pub plain_prepared : Prepared → PlainImported
plain_prepared p = record { body = stmts_view (out-Func (arc_value p.func)).block.items; locals = p.locals }

abbrev pub frame_of : Place → Function → Pairs → List Value → State → Outcome PlainImported
frame_of l (function ps us b) captured vs s = if length ps == length vs then gives (record { body = b; locals = first_locals captured (bound ps vs) }) s else fault l Arity s

abbrev pub closure_frame : Place → Option Closure → List Value → State → Outcome PlainImported
closure_frame l (Some f) vs s = frame_of l f.func f.captured vs s
closure_frame l None vs s = fault l WrongType s

abbrev pub prepared_by : Place → Value → List Value → State → Outcome PlainImported
prepared_by l (value.Func k) vs s = closure_frame l (slice_get s.functions k) vs s
prepared_by l v vs s = fault l WrongType s

-- a body that is called, and one that is imported, in a frame of its own
abbrev pub in_call : Parts → Value → PlainImported → State → Outcome Value
in_call ev this p s = in_frame this p.locals false (block_with ev p.body) s

abbrev pub in_import : Parts → PlainImported → State → Outcome Flow
in_import ev p s = in_frame s.this p.locals false (block_with ev p.body) s >>= λ _ s1. gives On s1

-- the statements of a file that is there
abbrev pub statements_in : Option PlainFile → Statements
statements_in (Some f) = f.statements
statements_in None = no_statements

abbrev pub frame_with : Statements → Pairs → PlainImported
frame_with b ls = record { body = b; locals = ls }
