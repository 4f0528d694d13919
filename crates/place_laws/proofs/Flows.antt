-- Statements at other places, where it is true of their parts: blocks, choices, loops and assignments.
use Rattle.std.proofs.Common.{◌≡◌, ℕ, zero, suc, List, [], ◌∷◌, Option, Some, None, refl, sym, subst}
use Rattle.std.specs.Prelude.{option_map}
use Rattle.site_base.specs.declared.place.Place.{Place}
use Rattle.dsl_syntax.specs.Syntax as syntax
use Rattle.dsl_syntax.specs.Syntax.{Root, at_name, at_this, at_globals, Expression, expression, MaybeExpression, Loop, loop, Function, Steps, Arms, no_arms, more_arms, Statement, statement, StatementKind, Statements, no_statements, more_statements}
use Rattle.dsl_syntax.specs.declared.set_op.SetOp.{SetOp}
use Rattle.dsl_value.specs.Pairs.{Pairs}
use Rattle.dsl_value.specs.Contents.{PlainCell, array, dict, cell_at}
use Rattle.dsl_value.specs.declared.value.Value.{Value}
use Rattle.dsl_value.specs.declared.value.Value.TheVariants as value
use Rattle.eval_meaning.specs.States.{State, Outcome, gives}
use Rattle.eval_meaning.specs.Parts.{maybe_with}
use Rattle.eval_meaning.specs.Operators.{holds}
use Rattle.eval_meaning.specs.Frames.{set_local}
use Rattle.eval_meaning.specs.Flow.{onward, statement_with, block_with, truth_with, arms_with, loop_end, around, turn_with, turns_with, for_values, for_pairs, for_cell, for_each, for_with, return_with, var_with}
use Rattle.eval_meaning.specs.Targets.{keys_with, target_of, assigned, set_with}
use Rattle.eval_meaning.specs.Functions.{function_with, define_with}
use Rattle.eval_meaning.specs.declared.flow.Flow.{Flow}
use Rattle.eval_meaning.specs.declared.flow.Flow.TheVariants.{On, Returned, Broken, Continued}
use Rattle.place_laws.specs.MovedSyntax.{moved_expression, moved_maybe, moved_loop, moved_function, moved_steps, moved_arms, moved_statement, moved_statements}
use Rattle.place_laws.proofs.Moving.{Moving, P, same, moved, here, stops, binds, steps, choice}
use Rattle.place_laws.proofs.Writes.{flow, goes_on, sets, assigns, defines}
use Rattle.place_laws.proofs.Nodes.{Nodes, next, keys, maybes, functions}

module _ (m : Moving) (n : Nodes m) where
  abbrev maybe_flow : Option Flow → Option Flow
  maybe_flow o = option_map (flow m) o

  -- ---- blocks and choices

  statements_one : (x : Statement) (s : State) → P m (flow m) s (statement_with n.ev x s) (statement_with n.ew (moved_statement m.move x) (moved m s))
  statements_one (statement l (syntax.assign e)) s = goes_on m s
  statements_one (statement l (syntax.ignore e)) s = goes_on m s
  statements_one (statement l k) s = n.parts.flow (statement l k) s

  onwards : (f : Flow) (h k : State → Outcome Flow) (s : State) → ((t : State) → P m (flow m) t (h t) (k (moved m t))) → P m (flow m) s (onward f h s) (onward (flow m f) k (moved m s))
  onwards On h k s c = c s
  onwards (Returned v) h k s c = here m (flow m) (Returned v) s
  onwards (Broken l) h k s c = here m (flow m) (Broken l) s
  onwards (Continued l) h k s c = here m (flow m) (Continued l) s

  pub blocks : (b : Statements) (s : State) → P m (flow m) s (block_with n.ev b s) (block_with n.ew (moved_statements m.move b) (moved m s))
  blocks no_statements s = goes_on m s
  blocks (more_statements x xs) s =
      binds m (flow m) (flow m) s (statement_with n.ev x s) (statement_with n.ew (moved_statement m.move x) (moved m s)) _ _ (statements_one x s)
      (λ f s1. onwards f (block_with n.ev xs) (block_with n.ew (moved_statements m.move xs)) s1 (blocks xs))

  pub truths : (e : Expression) (s : State) → P m same s (truth_with n.ev e s) (truth_with n.ew (moved_expression m.move e) (moved m s))
  truths e s = next m n same e s _ _ (λ v s1. here m same (holds s1 v) s1)

  pub arms : (a : Arms) (other : Statements) (s : State) → P m (flow m) s (arms_with n.ev a other s) (arms_with n.ew (moved_arms m.move a) (moved_statements m.move other) (moved m s))
  arms no_arms other s = blocks other s
  arms (more_arms e b more) other s =
      binds m same (flow m) s (truth_with n.ev e s) (truth_with n.ew (moved_expression m.move e) (moved m s)) _ _ (truths e s)
      (λ t s1. choice m (flow m) t s1 _ _ _ _ (blocks b s1) (arms more other s1))

  -- ---- loops

  arounds : (o : Option Flow) (h k : State → Outcome Flow) (s : State) → ((t : State) → P m (flow m) t (h t) (k (moved m t))) → P m (flow m) s (around o h s) (around (maybe_flow o) k (moved m s))
  arounds None h k s c = c s
  arounds (Some f) h k s c = here m (flow m) f s

  loop_ends : (f : Flow) (s : State) → P m maybe_flow s (gives (loop_end f) s) (gives (loop_end (flow m f)) (moved m s))
  loop_ends On s = here m maybe_flow None s
  loop_ends (Continued l) s = here m maybe_flow None s
  loop_ends (Broken l) s = here m maybe_flow (Some On) s
  loop_ends (Returned v) s = here m maybe_flow (Some (Returned v)) s

  -- after a block of a loop
  around_ends : (f : Flow) (h k : State → Outcome Flow) (s : State) → ((t : State) → P m (flow m) t (h t) (k (moved m t))) → P m (flow m) s (around (loop_end f) h s) (around (loop_end (flow m f)) k (moved m s))
  around_ends On h k s c = c s
  around_ends (Continued l) h k s c = c s
  around_ends (Broken l) h k s c = here m (flow m) On s
  around_ends (Returned v) h k s c = here m (flow m) (Returned v) s

  turn_one : (e : Expression) (b : Statements) (s : State) → P m maybe_flow s (turn_with n.ev e b s) (turn_with n.ew (moved_expression m.move e) (moved_statements m.move b) (moved m s))
  turn_one e b s =
      binds m same maybe_flow s (truth_with n.ev e s) (truth_with n.ew (moved_expression m.move e) (moved m s)) _ _ (truths e s)
      (λ t s1. choice m maybe_flow t s1 _ _ _ _
      (binds m (flow m) maybe_flow s1 (block_with n.ev b s1) (block_with n.ew (moved_statements m.move b) (moved m s1)) _ _ (blocks b s1) (λ f s2. loop_ends f s2))
      (here m maybe_flow (Some On) s1))

  pub turns : (e : Expression) (b : Statements) (k : ℕ) (s : State) → P m (flow m) s (turns_with n.ev e b k s) (turns_with n.ew (moved_expression m.move e) (moved_statements m.move b) k (moved m s))
  turns (expression l e) b zero s = stops m _ (flow m) l _ _ s
  turns e b (suc k) s =
      binds m maybe_flow (flow m) s (turn_with n.ev e b s) (turn_with n.ew (moved_expression m.move e) (moved_statements m.move b) (moved m s)) _ _ (turn_one e b s)
      (λ o s1. arounds o (turns_with n.ev e b k) (turns_with n.ew (moved_expression m.move e) (moved_statements m.move b) k) s1 (turns e b k))

  over_values : (t : List ℕ) (b : Statements) (vs : List Value) (s : State) → P m (flow m) s (for_values n.ev t b vs s) (for_values n.ew t (moved_statements m.move b) vs (moved m s))
  over_values t b [] s = goes_on m s
  over_values t b (v ∷ vs) s =
      let s1 : State = set_local t v s in
      steps m (flow m) s s1 _ _ refl
      (binds m (flow m) (flow m) s1 (block_with n.ev b s1) (block_with n.ew (moved_statements m.move b) (moved m s1)) _ _ (blocks b s1)
      (λ f s2. around_ends f (for_values n.ev t b vs) (for_values n.ew t (moved_statements m.move b) vs) s2 (over_values t b vs)))

  over_pairs : (k t : List ℕ) (b : Statements) (ps : Pairs) (s : State) → P m (flow m) s (for_pairs n.ev k t b ps s) (for_pairs n.ew k t (moved_statements m.move b) ps (moved m s))
  over_pairs k t b [] s = goes_on m s
  over_pairs k t b (p ∷ ps) s =
      let s1 : State = set_local t p.1 (set_local k (value.Str p.0) s) in
      steps m (flow m) s s1 _ _ refl
      (binds m (flow m) (flow m) s1 (block_with n.ev b s1) (block_with n.ew (moved_statements m.move b) (moved m s1)) _ _ (blocks b s1)
      (λ f s2. around_ends f (for_pairs n.ev k t b ps) (for_pairs n.ew k t (moved_statements m.move b) ps) s2 (over_pairs k t b ps)))

  over_cell : (l : Place) (k : List ℕ) (o : Option (List ℕ)) (b : Statements) (c : PlainCell) (s : State) → P m (flow m) s (for_cell n.ev l k o b c s) (for_cell n.ew (m.move l) k o (moved_statements m.move b) c (moved m s))
  over_cell l k None b (array vs) s = over_values k b vs s
  over_cell l k (Some t) b (dict ps) s = over_pairs k t b ps s
  over_cell l k None b (dict ps) s = stops m _ (flow m) l _ _ s
  over_cell l k (Some t) b (array vs) s = stops m _ (flow m) l _ _ s

  over_each : (l : Place) (k : List ℕ) (o : Option (List ℕ)) (b : Statements) (v : Value) (s : State) → P m (flow m) s (for_each n.ev l k o b v s) (for_each n.ew (m.move l) k o (moved_statements m.move b) v (moved m s))
  over_each l k o b (value.Ref c) s = over_cell l k o b (cell_at s.cells c) s
  over_each l k o b v s = stops m _ (flow m) l _ _ s

  pub fors : (x : Loop) (b : Statements) (s : State) → P m (flow m) s (for_with n.ev x b s) (for_with n.ew (moved_loop m.move x) (moved_statements m.move b) (moved m s))
  fors (loop k o (expression l e)) b s = next m n (flow m) (expression l e) s _ _ (λ v s1. over_each l k o b v s1)

  -- ---- other statements

  pub returns : (o : MaybeExpression) (s : State) → P m (flow m) s (return_with n.ev o s) (return_with n.ew (moved_maybe m.move o) (moved m s))
  returns o s = binds m same (flow m) s (maybe_with n.ev o s) (maybe_with n.ew (moved_maybe m.move o) (moved m s)) _ _ (maybes m n o s) (λ v s1. here m (flow m) (Returned v) s1)

  pub vars : (t : List ℕ) (o : MaybeExpression) (s : State) → P m (flow m) s (var_with n.ev t o s) (var_with n.ew t (moved_maybe m.move o) (moved m s))
  vars t o s = binds m same (flow m) s (maybe_with n.ev o s) (maybe_with n.ew (moved_maybe m.move o) (moved m s)) _ _ (maybes m n o s) (λ v s1. sets m t v s1)

  target_same : (r : Root) (ks : List Value) (s : State) → target_of r ks (moved m s) ≡ target_of r ks s
  unfolding target_of
  target_same (at_name t) ks s = refl
  target_same at_this ks s = refl
  target_same at_globals ks s = refl

  assigns_to : (l : Place) (r : Root) (o : SetOp) (ks : List Value) (v : Value) (s : State) → P m (flow m) s (assigned l o (target_of r ks s) v s) (assigned (m.move l) o (target_of r ks (moved m s)) v (moved m s))
  assigns_to l r o ks v s = subst (λ t. P m (flow m) s (assigned l o (target_of r ks s) v s) (assigned (m.move l) o t v (moved m s))) (sym (target_same r ks s)) (assigns m l o (target_of r ks s) v s)

  pub set_one : (l : Place) (r : Root) (ss : Steps) (o : SetOp) (e : Expression) (s : State) → P m (flow m) s (set_with n.ev l r ss o e s) (set_with n.ew (m.move l) r (moved_steps m.move ss) o (moved_expression m.move e) (moved m s))
  set_one l r ss o e s =
      binds m same (flow m) s (keys_with n.ev ss [] s) (keys_with n.ew (moved_steps m.move ss) [] (moved m s)) _ _ (keys m n ss [] s)
      (λ ks s1. next m n (flow m) e s1 _ _ (λ v s2. assigns_to l r o ks v s2))

  pub define_one : (l : Place) (t : List ℕ) (f : Function) (s : State) → P m (flow m) s (define_with n.ev l t f s) (define_with n.ew (m.move l) t (moved_function m.move f) (moved m s))
  define_one l t f s = binds m same (flow m) s (function_with n.ev l f s) (function_with n.ew (m.move l) (moved_function m.move f) (moved m s)) _ _ (functions m n l f s) (λ v s1. defines m l t v s1)
