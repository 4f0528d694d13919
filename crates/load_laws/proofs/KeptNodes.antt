-- It does so at nodes, if it does so at their parts.
use Rattle.std.proofs.Common.{ℕ, zero, suc, List, [], ◌∷◌, ◌++◌, length, Bool, true, false, Option, Some, None, refl}
use Rattle.std.specs.Prelude.{nat_eq, slice_get, not}
use Rattle.site_base.specs.declared.place.Place.{Place}
use Rattle.dsl_syntax.specs.Syntax.{Root, Expression, Expressions, no_expressions, more_expressions, Entries, no_entries, more_entries, MaybeExpression, no_expression, some_expression, Loop, loop, Function, function, Uses, no_uses, more_uses, Steps, no_steps, member_step, index_step, Arms, no_arms, more_arms, Statement, statement, Statements, no_statements, more_statements}
use Rattle.dsl_syntax.specs.declared.set_op.SetOp.{SetOp}
use Rattle.dsl_syntax.specs.declared.bin_op.BinOp.{BinOp}
use Rattle.dsl_syntax.specs.declared.bin_op.BinOp.TheVariants as bin
use Rattle.dsl_value.specs.Pairs.{Pairs, put}
use Rattle.dsl_value.specs.Contents.{PlainCell, array, dict, cell_at}
use Rattle.dsl_value.specs.PlainStores.{Closure}
use Rattle.dsl_value.specs.declared.value.Value.{Value}
use Rattle.dsl_value.specs.declared.value.Value.TheVariants as value
use Rattle.dsl_lib.specs.declared.names.LibraryCall.{LibraryCall}
use Rattle.dsl_lib.specs.declared.names.LibraryCall.TheVariants as library
use Rattle.eval_meaning.specs.Views.{View}
use Rattle.eval_meaning.specs.States.{State, Outcome, ◌>>=◌}
use Rattle.eval_meaning.specs.Parts.{Parts, place_of, maybe_with}
use Rattle.eval_meaning.specs.Literals.{values_with, pairs_with}
use Rattle.eval_meaning.specs.Operators.{holds, both_with, and_with, or_with, binary_with}
use Rattle.eval_meaning.specs.Frames.{set_local}
use Rattle.eval_meaning.specs.Flow.{onward, is_passed, statement_with, block_with, truth_with, arms_with, loop_end, around, turn_with, turns_with, for_values, for_pairs, for_cell, for_each, for_with, return_with, var_with, thrown}
use Rattle.eval_meaning.specs.Targets.{keys_with, target_of, set_with}
use Rattle.eval_meaning.specs.Functions.{used_with, captured_with, function_with, defined, define_with, run_function, run_closure, apply_with}
use Rattle.eval_meaning.specs.Visits.{visited, mapped, filtered, found, map_with, filter_with, any_with, all_with, visits_by, elements}
use Rattle.eval_meaning.specs.Calls.{own_value, library_with, called_with, call_with}
use Rattle.eval_meaning.specs.declared.callee.Callee.{Callee}
use Rattle.eval_meaning.specs.declared.callee.Callee.TheVariants as callee
use Rattle.eval_meaning.specs.declared.flow.Flow.{Flow}
use Rattle.eval_meaning.specs.declared.flow.Flow.TheVariants.{On, Returned, Broken, Continued}
use Rattle.load_laws.proofs.KeptItems.{Keeps, here, stops, binds, steps, choice, gives_after, keeps_array}
use Rattle.load_laws.proofs.KeptValues.{keeps_operated, keeps_name, keeps_frame, keeps_put_in, keeps_assigned, keeps_plain, keeps_read_host, keeps_read_service}

-- ---- nodes, where it is true of their parts

pub record AreKeeping (ev : Parts) : Type 0 where
  pub value : (e : Expression) (s : State) → Keeps s (ev.value e s)
  pub flow : (x : Statement) (s : State) → Keeps s (ev.flow x s)
  pub callee : (e : Expression) (s : State) → Keeps s (ev.callee e s)

-- parts of which it is true
pub record Nodes : Type 0 where
  pub ev : Parts
  pub parts : AreKeeping ev

module _ (nodes : Nodes) where
  pub next : {B : Type 0} (e : Expression) (s : State) (f : Value → State → Outcome B) → ((v : Value) (s1 : State) → Keeps s1 (f v s1)) → Keeps s (nodes.ev.value e s >>= f)
  next e s f h = binds s (nodes.ev.value e s) f (nodes.parts.value e s) h

  pub keeps_values : (es : Expressions) (vs : List Value) (s : State) → Keeps s (values_with nodes.ev es vs s)
  keeps_values no_expressions vs s = here vs s
  keeps_values (more_expressions e es) vs s = next e s _ (λ v s1. keeps_values es (vs ++ v ∷ []) s1)

  pub keeps_pairs : (es : Entries) (ps : Pairs) (s : State) → Keeps s (pairs_with nodes.ev es ps s)
  keeps_pairs no_entries ps s = here ps s
  keeps_pairs (more_entries k e es) ps s = next e s _ (λ v s1. keeps_pairs es (ps ++ (k, v) ∷ []) s1)

  keeps_keys : (ss : Steps) (ks : List Value) (s : State) → Keeps s (keys_with nodes.ev ss ks s)
  keeps_keys no_steps ks s = here ks s
  keeps_keys (member_step n ss) ks s = keeps_keys ss (ks ++ value.Str n ∷ []) s
  keeps_keys (index_step e ss) ks s = next e s _ (λ k s1. keeps_keys ss (ks ++ k ∷ []) s1)

  keeps_maybe : (o : MaybeExpression) (s : State) → Keeps s (maybe_with nodes.ev o s)
  keeps_maybe no_expression s = here value.Null s
  keeps_maybe (some_expression e) s = nodes.parts.value e s

  keeps_used : (l : Place) (n : List ℕ) (o : MaybeExpression) (s : State) → Keeps s (used_with nodes.ev l n o s)
  keeps_used l n (some_expression e) s = nodes.parts.value e s
  keeps_used l n no_expression s = keeps_name l n s

  pub keeps_captured : (l : Place) (us : Uses) (ps : Pairs) (s : State) → Keeps s (captured_with nodes.ev l us ps s)
  keeps_captured l no_uses ps s = here ps s
  keeps_captured l (more_uses n o us) ps s = binds s (used_with nodes.ev l n o s) _ (keeps_used l n o s) (λ v s1. keeps_captured l us (put n v ps) s1)

  pub keeps_function : (l : Place) (f : Function) (s : State) → Keeps s (function_with nodes.ev l f s)
  keeps_function l (function ps us b) s = binds s (captured_with nodes.ev l us [] s) _ (keeps_captured l us [] s) (λ c s1. gives_after (value.Func (length s1.functions)) s1 _ refl)

  -- ---- operators

  keeps_both : (l : Place) (o : BinOp) (a b : Expression) (s : State) → Keeps s (both_with nodes.ev l o a b s)
  keeps_both l o a b s = next a s _ (λ x s1. next b s1 _ (λ y s2. keeps_operated l o x y s2))

  keeps_and : (a b : Expression) (s : State) → Keeps s (and_with nodes.ev a b s)
  keeps_and a b s = next a s _ (λ x s1. choice (holds s1 x) s1 _ _ (nodes.parts.value b s1) (here x s1))

  keeps_or : (a b : Expression) (s : State) → Keeps s (or_with nodes.ev a b s)
  keeps_or a b s = next a s _ (λ x s1. choice (holds s1 x) s1 _ _ (here x s1) (nodes.parts.value b s1))

  pub keeps_binary : (l : Place) (o : BinOp) (a b : Expression) (s : State) → Keeps s (binary_with nodes.ev l o a b s)
  keeps_binary l bin.And a b s = keeps_and a b s
  keeps_binary l bin.Or a b s = keeps_or a b s
  keeps_binary l o a b s = keeps_both l o a b s

  -- ---- blocks and choices

  keeps_statement : (x : Statement) (s : State) → Keeps s (statement_with nodes.ev x s)
  keeps_statement (statement l k) s = choice (is_passed k) s _ _ (here On s) (nodes.parts.flow (statement l k) s)

  keeps_onward : (fl : Flow) (f : State → Outcome Flow) (s : State) → ((s1 : State) → Keeps s1 (f s1)) → Keeps s (onward fl f s)
  keeps_onward On f s h = h s
  keeps_onward (Returned v) f s h = here (Returned v) s
  keeps_onward (Broken l) f s h = here (Broken l) s
  keeps_onward (Continued l) f s h = here (Continued l) s

  pub keeps_block : (b : Statements) (s : State) → Keeps s (block_with nodes.ev b s)
  keeps_block no_statements s = here On s
  keeps_block (more_statements x xs) s = binds s (statement_with nodes.ev x s) _ (keeps_statement x s) (λ f s1. keeps_onward f (block_with nodes.ev xs) s1 (keeps_block xs))

  keeps_truth : (e : Expression) (s : State) → Keeps s (truth_with nodes.ev e s)
  keeps_truth e s = next e s _ (λ v s1. here (holds s1 v) s1)

  pub keeps_arms : (arms : Arms) (other : Statements) (s : State) → Keeps s (arms_with nodes.ev arms other s)
  keeps_arms no_arms other s = keeps_block other s
  keeps_arms (more_arms e b more) other s = binds s (truth_with nodes.ev e s) _ (keeps_truth e s) (λ t s1. choice t s1 _ _ (keeps_block b s1) (keeps_arms more other s1))

  -- ---- loops

  keeps_around : (o : Option Flow) (f : State → Outcome Flow) (s : State) → ((s1 : State) → Keeps s1 (f s1)) → Keeps s (around o f s)
  keeps_around None f s h = h s
  keeps_around (Some fl) f s h = here fl s

  keeps_turn : (e : Expression) (b : Statements) (s : State) → Keeps s (turn_with nodes.ev e b s)
  keeps_turn e b s = binds s (truth_with nodes.ev e s) _ (keeps_truth e s) (λ t s1. choice t s1 _ _ (binds s1 (block_with nodes.ev b s1) _ (keeps_block b s1) (λ f s2. here (loop_end f) s2)) (here (Some On) s1))

  pub keeps_turns : (e : Expression) (b : Statements) (n : ℕ) (s : State) → Keeps s (turns_with nodes.ev e b n s)
  keeps_turns e b zero s = stops _ (place_of e) _ _ s
  keeps_turns e b (suc n) s = binds s (turn_with nodes.ev e b s) _ (keeps_turn e b s) (λ o s1. keeps_around o (turns_with nodes.ev e b n) s1 (keeps_turns e b n))

  keeps_for_values : (n : List ℕ) (b : Statements) (vs : List Value) (s : State) → Keeps s (for_values nodes.ev n b vs s)
  keeps_for_values n b [] s = here On s
  keeps_for_values n b (v ∷ vs) s =
      steps s (set_local n v s) _ refl
      (binds (set_local n v s) (block_with nodes.ev b (set_local n v s)) _ (keeps_block b (set_local n v s)) (λ f s1. keeps_around (loop_end f) (for_values nodes.ev n b vs) s1 (keeps_for_values n b vs)))

  keeps_for_pairs : (k n : List ℕ) (b : Statements) (ps : Pairs) (s : State) → Keeps s (for_pairs nodes.ev k n b ps s)
  keeps_for_pairs k n b [] s = here On s
  keeps_for_pairs k n b (p ∷ ps) s =
      let s0 : State = set_local k (value.Str p.0) s in
      let s9 : State = set_local n p.1 s0 in
      steps s s0 _ refl (steps s0 s9 _ refl
      (binds s9 (block_with nodes.ev b s9) _ (keeps_block b s9) (λ f s1. keeps_around (loop_end f) (for_pairs nodes.ev k n b ps) s1 (keeps_for_pairs k n b ps))))

  keeps_for_cell : (l : Place) (k : List ℕ) (o : Option (List ℕ)) (b : Statements) (c : PlainCell) (s : State) → Keeps s (for_cell nodes.ev l k o b c s)
  keeps_for_cell l k None b (array vs) s = keeps_for_values k b vs s
  keeps_for_cell l k (Some n) b (dict ps) s = keeps_for_pairs k n b ps s
  keeps_for_cell l k None b (dict ps) s = stops _ l _ _ s
  keeps_for_cell l k (Some n) b (array vs) s = stops _ l _ _ s

  keeps_for_each : (l : Place) (k : List ℕ) (o : Option (List ℕ)) (b : Statements) (v : Value) (s : State) → Keeps s (for_each nodes.ev l k o b v s)
  keeps_for_each l k o b (value.Ref c) s = keeps_for_cell l k o b (cell_at s.cells c) s
  keeps_for_each l k o b v s = stops _ l _ _ s

  pub keeps_for : (x : Loop) (b : Statements) (s : State) → Keeps s (for_with nodes.ev x b s)
  keeps_for (loop k o e) b s = next e s _ (λ v s1. keeps_for_each (place_of e) k o b v s1)

  -- ---- other statements

  pub keeps_return : (o : MaybeExpression) (s : State) → Keeps s (return_with nodes.ev o s)
  keeps_return o s = binds s (maybe_with nodes.ev o s) _ (keeps_maybe o s) (λ v s1. here (Returned v) s1)

  pub keeps_var : (n : List ℕ) (o : MaybeExpression) (s : State) → Keeps s (var_with nodes.ev n o s)
  keeps_var n o s = binds s (maybe_with nodes.ev o s) _ (keeps_maybe o s) (λ v s1. gives_after On s1 _ refl)

  pub keeps_thrown : (l : Place) (v : Value) (s : State) → Keeps s (thrown l v s)
  keeps_thrown l (value.Str t) s = stops _ l _ _ s
  keeps_thrown l v s = stops _ l _ _ s

  pub keeps_set : (l : Place) (r : Root) (ss : Steps) (o : SetOp) (e : Expression) (s : State) → Keeps s (set_with nodes.ev l r ss o e s)
  keeps_set l r ss o e s = binds s (keys_with nodes.ev ss [] s) _ (keeps_keys ss [] s) (λ ks s1. next e s1 _ (λ v s2. keeps_assigned l o (target_of r ks s2) v s2))

  keeps_defined : (l : Place) (n : List ℕ) (f : Value) (s : State) → Keeps s (defined l n f s)
  keeps_defined l n f s = choice s.in_file s _ _ (keeps_put_in l (value.Ref 0) (value.Str n) f s) (gives_after On s _ refl)

  pub keeps_define : (l : Place) (n : List ℕ) (f : Function) (s : State) → Keeps s (define_with nodes.ev l n f s)
  keeps_define l n f s = binds s (function_with nodes.ev l f s) _ (keeps_function l f s) (λ v s1. keeps_defined l n v s1)

  -- ---- calls

  keeps_run_function : (l : Place) (f : Function) (c : Pairs) (this : Value) (vs : List Value) (s : State) → Keeps s (run_function nodes.ev l f c this vs s)
  keeps_run_function l (function ps us b) c this vs s = choice (nat_eq (length ps) (length vs)) s _ _ (keeps_frame this _ false (block_with nodes.ev b) s (keeps_block b)) (stops _ l _ _ s)

  keeps_run_closure : (l : Place) (o : Option Closure) (this : Value) (vs : List Value) (s : State) → Keeps s (run_closure nodes.ev l o this vs s)
  keeps_run_closure l (Some f) this vs s = keeps_run_function l f.func f.captured this vs s
  keeps_run_closure l None this vs s = stops _ l _ _ s

  keeps_apply : (l : Place) (v this : Value) (vs : List Value) (s : State) → Keeps s (apply_with nodes.ev l v this vs s)
  keeps_apply l (value.Func k) this vs s = keeps_run_closure l (slice_get s.functions k) this vs s
  keeps_apply l v this vs s = stops _ l _ _ s

  keeps_visited : (l : Place) (f v : Value) (s : State) → Keeps s (visited nodes.ev l f v s)
  keeps_visited l f v s = keeps_apply l f s.this (v ∷ []) s

  keeps_mapped : (l : Place) (f : Value) (vs ws : List Value) (s : State) → Keeps s (mapped nodes.ev l f vs ws s)
  keeps_mapped l f [] ws s = here ws s
  keeps_mapped l f (v ∷ vs) ws s = binds s (visited nodes.ev l f v s) _ (keeps_visited l f v s) (λ w s1. keeps_mapped l f vs (ws ++ w ∷ []) s1)

  keeps_filtered : (l : Place) (f : Value) (vs ws : List Value) (s : State) → Keeps s (filtered nodes.ev l f vs ws s)
  keeps_filtered l f [] ws s = here ws s
  keeps_filtered l f (v ∷ vs) ws s = binds s (visited nodes.ev l f v s) _ (keeps_visited l f v s) (λ w s1. keeps_filtered l f vs _ s1)

  keeps_found : (l : Place) (wanted : Bool) (f : Value) (vs : List Value) (s : State) → Keeps s (found nodes.ev l wanted f vs s)
  keeps_found l wanted f [] s = here false s
  keeps_found l wanted f (v ∷ vs) s = binds s (visited nodes.ev l f v s) _ (keeps_visited l f v s) (λ w s1. choice _ s1 _ _ (here true s1) (keeps_found l wanted f vs s1))

  keeps_visits : (f : Value → List Value → State → Outcome Value) (l : Place) (vs : List Value) (s : State) → ((v : Value) (xs : List Value) (s1 : State) → Keeps s1 (f v xs s1)) → Keeps s (visits_by f l vs s)
  keeps_visits f l [] s h = stops _ l _ _ s
  keeps_visits f l (a ∷ []) s h = stops _ l _ _ s
  keeps_visits f l (a ∷ value.Func k ∷ []) s h = h (value.Func k) (elements s.cells a) s
  keeps_visits f l (a ∷ v ∷ []) s h = stops _ l _ _ s
  keeps_visits f l (a ∷ value.Func k ∷ w ∷ vs) s h = stops _ l _ _ s
  keeps_visits f l (a ∷ v ∷ w ∷ vs) s h = stops _ l _ _ s

  keeps_map : (l : Place) (f : Value) (vs : List Value) (s : State) → Keeps s (map_with nodes.ev l f vs s)
  keeps_map l f vs s = binds s (mapped nodes.ev l f vs [] s) _ (keeps_mapped l f vs [] s) (λ ws s1. keeps_array l ws s1)

  keeps_filter : (l : Place) (f : Value) (vs : List Value) (s : State) → Keeps s (filter_with nodes.ev l f vs s)
  keeps_filter l f vs s = binds s (filtered nodes.ev l f vs [] s) _ (keeps_filtered l f vs [] s) (λ ws s1. keeps_array l ws s1)

  keeps_any : (l : Place) (f : Value) (vs : List Value) (s : State) → Keeps s (any_with nodes.ev l f vs s)
  keeps_any l f vs s = binds s (found nodes.ev l true f vs s) _ (keeps_found l true f vs s) (λ b s1. here (value.Bool b) s1)

  keeps_all : (l : Place) (f : Value) (vs : List Value) (s : State) → Keeps s (all_with nodes.ev l f vs s)
  keeps_all l f vs s = binds s (found nodes.ev l false f vs s) _ (keeps_found l false f vs s) (λ b s1. here (value.Bool (not b)) s1)

  keeps_library : (view : View) (l : Place) (c : LibraryCall) (vs : List Value) (s : State) → Keeps s (library_with view nodes.ev l c vs s)
  keeps_library view l (library.Plain c) vs s = keeps_plain l c vs s
  keeps_library view l library.GetHost vs s = keeps_read_host view l vs s
  keeps_library view l library.GetService vs s = keeps_read_service view l vs s
  keeps_library view l library.Map vs s = keeps_visits (map_with nodes.ev l) l vs s (keeps_map l)
  keeps_library view l library.Filter vs s = keeps_visits (filter_with nodes.ev l) l vs s (keeps_filter l)
  keeps_library view l library.Any vs s = keeps_visits (any_with nodes.ev l) l vs s (keeps_any l)
  keeps_library view l library.All vs s = keeps_visits (all_with nodes.ev l) l vs s (keeps_all l)

  keeps_called : (view : View) (l : Place) (c : Callee) (vs : List Value) (s : State) → Keeps s (called_with view nodes.ev l c vs s)
  keeps_called view l (callee.Value v this) vs s = keeps_apply l v this vs s
  keeps_called view l (callee.Function c) vs s = keeps_library view l c vs s
  keeps_called view l (callee.Method c v) vs s = keeps_library view l c vs s

  pub keeps_call : (view : View) (l : Place) (e : Expression) (es : Expressions) (s : State) → Keeps s (call_with view nodes.ev l e es s)
  keeps_call view l e es s = binds s (nodes.ev.callee e s) _ (nodes.parts.callee e s) (λ c s1. binds s1 (values_with nodes.ev es (own_value c) s1) _ (keeps_values es (own_value c) s1) (λ vs s2. keeps_called view l c vs s2))
