-- Evaluations at other places: all of it together.
use Rattle.std.proofs.Common.{ℕ, zero, suc, List, []}
use Rattle.site_base.specs.declared.place.Place.{Place}
use Rattle.site_base.specs.declared.diag_kind.DiagKind.TheVariants.{DepthLimit}
use Rattle.dsl_syntax.specs.Syntax as syntax
use Rattle.dsl_syntax.specs.Syntax.{Expression, expression, Statement, statement, StatementKind, Statements}
use Rattle.dsl_value.specs.declared.value.Value.{Value}
use Rattle.dsl_value.specs.declared.value.Value.TheVariants as value
use Rattle.dsl_ops.specs.Table.{unary_outcome}
use Rattle.eval_meaning.specs.Views.{View}
use Rattle.eval_meaning.specs.States.{State, globals_cell}
use Rattle.eval_meaning.specs.Parts.{place_of}
use Rattle.eval_meaning.specs.Literals.{values_with, pairs_with}
use Rattle.eval_meaning.specs.Operators.{op_kind}
use Rattle.eval_meaning.specs.Frames.{named, name_in, ended}
use Rattle.eval_meaning.specs.Flow.{block_with}
use Rattle.eval_meaning.specs.Calls.{value_called, callee_with}
use Rattle.eval_meaning.specs.Files.{file_with}
use Rattle.eval_meaning.specs.Evaluation.{expression_with, statement_kind_with, too_deep, flow_too_deep, value_with, flow_with, called_value_with, evaluated, value_of, body_of}
use Rattle.eval_meaning.specs.declared.callee.Callee.{Callee}
use Rattle.eval_meaning.specs.declared.callee.Callee.TheVariants as callee
use Rattle.eval_meaning.specs.declared.flow.Flow.{Flow}
use Rattle.eval_meaning.specs.declared.flow.Flow.TheVariants.{Broken, Continued}
use Rattle.place_laws.specs.MovedSyntax.{moved_expression, moved_expressions, moved_entries, moved_statement, moved_statement_kind, moved_statements}
use Rattle.place_laws.specs.MovedStates.{moved_view}
use Rattle.place_laws.proofs.Moving.{Moving, P, same, moved, here, stops, binds, counts}
use Rattle.place_laws.proofs.Values.{strings, arrays, dicts, parts, settles, names, names_called, parts_called, members_called}
use Rattle.place_laws.proofs.Writes.{flow, goes_on, ends, throws}
use Rattle.place_laws.proofs.Nodes.{AreMoved, Nodes, next, values, pairs, functions, binaries}
use Rattle.place_laws.proofs.Flows.{blocks, arms, turns, fors, returns, vars, set_one, define_one}
use Rattle.place_laws.proofs.Called.{calls}
use Rattle.place_laws.proofs.Loads.{imports, constants, objects, templates, rules, files_one, includes}

module _ (m : Moving) where
  abbrev world : View
  world = moved_view m.move m.view

  module _ (n : Nodes m) where
    expressions : (e : Expression) (s : State) → P m same s (expression_with m.view n.ev e s) (expression_with world n.ew (moved_expression m.move e) (moved m s))
    expressions (expression l syntax.null) s = here m same value.Null s
    expressions (expression l syntax.this) s = here m same s.this s
    expressions (expression l syntax.globals) s = here m same (value.Ref globals_cell) s
    expressions (expression l (syntax.boolean b)) s = here m same (value.Bool b) s
    expressions (expression l (syntax.number k)) s = here m same (value.Number k) s
    expressions (expression l (syntax.string t)) s = strings m l t s
    expressions (expression l (syntax.name t)) s = names m l t s
    expressions (expression l (syntax.array es)) s = binds m same same s (values_with n.ev es [] s) (values_with n.ew (moved_expressions m.move es) [] (moved m s)) _ _ (values m n es [] s) (λ vs s1. arrays m l vs s1)
    expressions (expression l (syntax.dictionary es)) s = binds m same same s (pairs_with n.ev es [] s) (pairs_with n.ew (moved_entries m.move es) [] (moved m s)) _ _ (pairs m n es [] s) (λ ps s1. dicts m l ps s1)
    expressions (expression l (syntax.member e t)) s = next m n same e s _ _ (λ v s1. parts m l v (value.Str t) s1)
    expressions (expression l (syntax.index e k)) s = next m n same e s _ _ (λ v s1. next m n same k s1 _ _ (λ i s2. parts m l v i s2))
    expressions (expression l (syntax.call e es)) s = calls m n l e es s
    expressions (expression l (syntax.unary o e)) s = next m n same e s _ _ (λ v s1. settles m op_kind l 0 (unary_outcome s1.cells o v) s1)
    expressions (expression l (syntax.binary o a b)) s = binaries m n l o a b s
    expressions (expression l (syntax.function_value f)) s = functions m n l f s

    kinds : (l : Place) (k : StatementKind) (s : State) → P m (flow m) s (statement_kind_with m.view n.ev l k s) (statement_kind_with world n.ew (m.move l) (moved_statement_kind m.move k) (moved m s))
    kinds l (syntax.object kind e us b) s = objects m n l kind e us b s
    kinds l (syntax.template kind e us b) s = templates m n l kind e us b s
    kinds l (syntax.apply kind e to each us b) s = rules m n l kind e to each us b s
    kinds l (syntax.const t e) s = constants m n l t e s
    kinds l (syntax.include t at) s = includes m n l s
    kinds l (syntax.include_library t at) s = includes m n l s
    kinds l (syntax.include_all d t at) s = includes m n l s
    kinds l (syntax.import e) s = imports m n l e s
    kinds l (syntax.assign e) s = goes_on m s
    kinds l (syntax.ignore e) s = goes_on m s
    kinds l (syntax.set r ss o e) s = set_one m n l r ss o e s
    kinds l (syntax.var t o) s = vars m n t o s
    kinds l (syntax.define t f) s = define_one m n l t f s
    kinds l (syntax.choose a other) s = arms m n a other s
    kinds l (syntax.while e b) s = turns m n e b s.steps s
    kinds l (syntax.for x b) s = fors m n x b s
    kinds l (syntax.return o) s = returns m n o s
    kinds l syntax.break s = here m (flow m) (Broken l) s
    kinds l syntax.continue s = here m (flow m) (Continued l) s
    kinds l (syntax.throw e) s = next m n (flow m) e s _ _ (λ v s1. throws m l v s1)
    kinds l (syntax.eval e) s = next m n (flow m) e s _ _ (λ v s1. goes_on m s1)

    values_called : (e : Expression) (s : State) → P m same s (value_called (expression_with m.view n.ev e s)) (value_called (expression_with world n.ew (moved_expression m.move e) (moved m s)))
    values_called e s = binds m same same s (expression_with m.view n.ev e s) (expression_with world n.ew (moved_expression m.move e) (moved m s)) _ _ (expressions e s) (λ v s1. here m same (callee.Value v s1.this) s1)

    callees : (e : Expression) (s : State) → P m same s (callee_with n.ev (expression_with m.view n.ev) e s) (callee_with n.ew (expression_with world n.ew) (moved_expression m.move e) (moved m s))
    unfolding named
    callees (expression l (syntax.name t)) s = names_called m l t (named t s) s
    callees (expression l (syntax.member e t)) s = next m n same e s _ _ (λ v s1. members_called m l v t (name_in s1.cells t v) s1)
    callees (expression l (syntax.index e k)) s = next m n same e s _ _ (λ v s1. next m n same k s1 _ _ (λ i s2. parts_called m l v i s2))
    callees e s = values_called e s

    -- ---- steps and depth

    value_one : (e : Expression) (s : State) → P m same s (value_with m.view n.ev e s) (value_with world n.ew (moved_expression m.move e) (moved m s))
    value_one (expression l k) s = counts m same l s _ _ (λ s1. expressions (expression l k) s1)

    flow_one : (x : Statement) (s : State) → P m (flow m) s (flow_with m.view n.ev x s) (flow_with world n.ew (moved_statement m.move x) (moved m s))
    flow_one (statement l k) s = counts m (flow m) l s _ _ (λ s1. kinds l k s1)

    callee_one : (e : Expression) (s : State) → P m same s (called_value_with m.view n.ev e s) (called_value_with world n.ew (moved_expression m.move e) (moved m s))
    callee_one (expression l k) s = counts m same l s _ _ (λ s1. callees (expression l k) s1)

  deep : (A : Type 0) (f : A → A) (l : Place) (s : State) → P m f s (too_deep {A = A} l s) (too_deep (m.move l) (moved m s))
  deep A f l s = counts m f l s _ _ (λ s1. stops m A f l DepthLimit [] s1)

  value_deep : (A : Type 0) (e : Expression) (s : State) → P m same s (too_deep {A = A} (place_of e) s) (too_deep (place_of (moved_expression m.move e)) (moved m s))
  value_deep A (expression l k) s = deep A same l s

  flow_deep : (x : Statement) (s : State) → P m (flow m) s (flow_too_deep x s) (flow_too_deep (moved_statement m.move x) (moved m s))
  flow_deep (statement l k) s = deep Flow (flow m) l s

  at_depth : (depth : ℕ) → AreMoved m (evaluated m.view depth) (evaluated world depth)
  unfolding evaluated
  at_depth zero = record { value = λ e s. value_deep Value e s; flow = flow_deep; callee = λ e s. value_deep Callee e s }
  at_depth (suc depth) =
      let n : Nodes m = record { ev = evaluated m.view depth; ew = evaluated world depth; parts = at_depth depth } in
      record { value = value_one n; flow = flow_one n; callee = callee_one n }

  abbrev nodes : (depth : ℕ) → Nodes m
  nodes depth = record { ev = evaluated m.view depth; ew = evaluated world depth; parts = at_depth depth }

  -- ---- what comes of it

  pub value_at : (depth : ℕ) (e : Expression) (s : State) → P m same s (value_of m.view depth e s) (value_of world depth (moved_expression m.move e) (moved m s))
  value_at depth e s = (at_depth depth).value e s

  pub body_at : (depth : ℕ) (b : Statements) (s : State) → P m same s (body_of m.view depth b s) (body_of world depth (moved_statements m.move b) (moved m s))
  body_at depth b s = binds m (flow m) same s (block_with (evaluated m.view depth) b s) (block_with (evaluated world depth) (moved_statements m.move b) (moved m s)) ended ended (blocks m (nodes depth) b s) (ends m)

  pub file_at : (depth : ℕ) (order : List ℕ) (s : State) → P m same s (file_with m.view (evaluated m.view depth) order s) (file_with world (evaluated world depth) order (moved m s))
  file_at depth order s = files_one m (nodes depth) order s
