-- What is true of every evaluation where it is true of each step.
use Rattle.std.proofs.Common.{◌≡◌, ◌≤◌, ◌<◌, ◌+◌, ◌-◌, ℕ, zero, suc, List, [], ◌∷◌, ◌++◌, length, take, drop, ◌||◌, Bool, true, false, cond, Option, Some, None, refl, arith}
use Rattle.std.specs.Prelude.{nat_lt, nat_eq, slice_get, not}
use Rattle.std.proofs.lemmas.Bool.Decides.{nat_tests}
use Rattle.site_base.specs.Quoted.{quoted}
use Rattle.site_base.specs.declared.place.Place.{Place}
use Rattle.site_base.specs.declared.diag_kind.DiagKind.{DiagKind}
use Rattle.site_base.specs.declared.diag_kind.DiagKind.TheVariants.{NotHere, StepLimit, SpaceLimit, UnknownType, BadTarget, NoAssign}
use Rattle.dsl_syntax.specs.Syntax as syntax
use Rattle.dsl_syntax.specs.Syntax.{Root, Expression, expression, ExpressionKind, Expressions, no_expressions, more_expressions, Entries, no_entries, more_entries, MaybeExpression, no_expression, some_expression, Loop, loop, MaybeLoop, Function, function, Uses, no_uses, more_uses, Steps, no_steps, member_step, index_step, Arms, no_arms, more_arms, Statement, statement, StatementKind, Statements, no_statements, more_statements}
use Rattle.dsl_syntax.specs.declared.set_op.SetOp.{SetOp}
use Rattle.dsl_syntax.specs.declared.set_op.SetOp.TheVariants as set
use Rattle.dsl_syntax.specs.declared.bin_op.BinOp.{BinOp}
use Rattle.dsl_syntax.specs.declared.bin_op.BinOp.TheVariants as bin
use Rattle.dsl_value.specs.Pairs.{Pairs, find, put, dict_of}
use Rattle.dsl_value.specs.Contents.{PlainCell, array, dict, cell_at, with_cell}
use Rattle.dsl_value.specs.PlainStores.{Closure}
use Rattle.dsl_value.specs.declared.value.Value.{Value}
use Rattle.dsl_value.specs.declared.value.Value.TheVariants as value
use Rattle.dsl_value.specs.Outcomes as comes
use Rattle.dsl_ops.specs.Members.{member_of, set_outcome}
use Rattle.dsl_ops.specs.Table.{binary_outcome, unary_outcome}
use Rattle.dsl_ops.specs.Units.{binary_units}
use Rattle.dsl_lib.specs.Library.{answer}
use Rattle.dsl_lib.specs.Names.{function_named, method_named}
use Rattle.dsl_lib.specs.Units.{units}
use Rattle.dsl_lib.specs.declared.names.LibraryCall.{LibraryCall}
use Rattle.dsl_lib.specs.declared.names.LibraryCall.TheVariants as library
use Rattle.dsl_lib.specs.declared.plain.Plain.{Plain}
use Rattle.eval_meaning.specs.Registered.{PlainTemplate, PlainFile, PlacedName}
use Rattle.eval_meaning.specs.Views.{View, Shown, host, service, template_in}
use Rattle.eval_meaning.specs.States as states
use Rattle.eval_meaning.specs.States.{State, Outcome, gives, faults, blocked, ◌>>=◌, done, fault, step, charge, with_new, globals_cell, Task, Loading}
use Rattle.eval_meaning.specs.Steps.{IsStep, framed, counted, charged, made, function_kept, written_to, loaded_to, Registers}
use Rattle.eval_meaning.specs.Steps as registers
use Rattle.eval_meaning.specs.Parts.{Parts, place_of, maybe_with}
use Rattle.eval_meaning.specs.Literals.{string_value, new_cell, new_array, new_dict, values_with, pairs_with}
use Rattle.eval_meaning.specs.Members.{or_wrong, part_value}
use Rattle.eval_meaning.specs.Operators.{op_kind, holds, operated, both_with, and_with, or_with, binary_with}
use Rattle.eval_meaning.specs.Settled.{contents, settled}
use Rattle.eval_meaning.specs.Frames.{first_locals, set_local, named, or_undefined, name_value, ended, entered, back_in, in_frame, name_in}
use Rattle.eval_meaning.specs.Flow.{onward, is_passed, statement_with, block_with, truth_with, arms_with, loop_end, around, turn_with, turns_with, for_values, for_pairs, for_cell, for_each, for_with, return_with, var_with, thrown}
use Rattle.eval_meaning.specs.Targets.{Target, to_local, into, keys_with, target_of, followed, member_kind, put_member, is_constant, put_in, made_inside, inside_by, inside, written, made_local, write_local, operated_on, set_value, assigned, set_with}
use Rattle.eval_meaning.specs.Functions.{used_with, captured_with, function_with, defined, define_with, run_function, run_closure, apply_with}
use Rattle.eval_meaning.specs.Library.{lib_kind, call_plain}
use Rattle.eval_meaning.specs.Objects.{read, read_host, read_service}
use Rattle.eval_meaning.specs.Visits.{visited, mapped, filtered, found, map_with, filter_with, any_with, all_with, visits_by, elements}
use Rattle.eval_meaning.specs.Calls.{function_called, name_called, part_called, method_called, member_called, value_called, callee_with, own_value, library_with, called_with, call_with}
use Rattle.eval_meaning.specs.Templates.{run_template, is_item, in_item, imported_by, import_with}
use Rattle.eval_meaning.specs.Registration.{loading, with_loading, is_load, at_load, is_fixed, with_constant, constant_set, name_by, name_with, prefix_by, prefix_with, condition_in, unless_condition, lawful, item_registered, object_with, template_by, template_registered, template_with, lawful_rule, rule_registered, apply_rule_with, is_among, types, groups, is_good_name, resolved_target, target_types, told_target, has_assign, has_loop, with_template, with_item, with_rule}
use Rattle.eval_meaning.specs.Files.{with_order, run_file, file_with, files_with, include_by}
use Rattle.eval_meaning.specs.Evaluation.{expression_with, statement_kind_with, too_deep, flow_too_deep, flow_with, one_more, evaluated, body_of}
use Rattle.eval_meaning.specs.declared.callee.Callee.{Callee}
use Rattle.eval_meaning.specs.declared.callee.Callee.TheVariants as callee
use Rattle.eval_meaning.specs.declared.flow.Flow.{Flow}
use Rattle.eval_meaning.specs.declared.flow.Flow.TheVariants.{On, Returned, Broken, Continued}
use Rattle.eval_meaning.specs.declared.read.Read.{Read}
use Rattle.eval_meaning.proofs.Sound.{IsSound, made_is, written_is, binary_sound, unary_sound, member_sound, call_sound}

-- the same site with other objects
abbrev pub other : View → List Shown → List Read → List (List ℕ) → View
other view objects absent whole = record view { objects = objects; absent = absent; whole = whole }

-- something that is true of every outcome over a view and of the one over the world where it is true of these
pub record IsRule (view world : View) : Type 1 where
  pub P : {A : Type 0} → State → Outcome A → Outcome A → Type 0
  pub here : {A : Type 0} (a : A) (s : State) → P s (gives a s) (gives a s)
  pub stops : (A : Type 0) (l : Place) (k : DiagKind) (t : List ℕ) (s : State) → P {A = A} s (faults l k t s.reads) (faults l k t s.reads)
  pub binds : {A B : Type 0} (s : State) (x y : Outcome A) (f g : A → State → Outcome B) → P s x y → ((a : A) (s1 : State) → P s1 (f a s1) (g a s1)) → P s (x >>= f) (y >>= g)
  pub steps : {A : Type 0} (s s1 : State) (x y : Outcome A) → IsStep s s1 → P s1 x y → P s x y
  pub hosts : (l : Place) (n : List ℕ) (s : State) → P s (read view l (host n) s) (read world l (host n) s)
  pub services : (l : Place) (h n : List ℕ) (s : State) → P s (read view l (service h n) s) (read world l (service h n) s)

module _ (view : View) (objects : List Shown) (absent : List Read) (whole : List (List ℕ)) (it : IsRule view (other view objects absent whole)) where
  abbrev world : View
  world = other view objects absent whole

  unfoldable pub P : {A : Type 0} → State → Outcome A → Outcome A → Type 0
  P s x y = it.P s x y

  here : {A : Type 0} (a : A) (s : State) → P s (gives a s) (gives a s)
  unfolding P
  here a s = it.here a s

  stops : (A : Type 0) (l : Place) (k : DiagKind) (t : List ℕ) (s : State) → P {A = A} s (faults l k t s.reads) (faults l k t s.reads)
  unfolding P
  stops A l k t s = it.stops A l k t s

  binds : {A B : Type 0} (s : State) (x y : Outcome A) (f g : A → State → Outcome B) → P s x y → ((a : A) (s1 : State) → P s1 (f a s1) (g a s1)) → P s (x >>= f) (y >>= g)
  unfolding P
  binds s x y f g h k = it.binds s x y f g h k

  steps : {A : Type 0} (s s1 : State) (x y : Outcome A) → IsStep s s1 → P s1 x y → P s x y
  unfolding P
  steps s s1 x y m h = it.steps s s1 x y m h

  hosts : (l : Place) (n : List ℕ) (s : State) → P s (read view l (host n) s) (read world l (host n) s)
  unfolding P
  hosts l n s = it.hosts l n s

  services : (l : Place) (h n : List ℕ) (s : State) → P s (read view l (service h n) s) (read world l (service h n) s)
  unfolding P
  services l h n s = it.services l h n s

  -- ---- choices

  choice : {A : Type 0} (b : Bool) (s : State) (x y z w : Outcome A) → P s x z → P s y w → P s (cond b x y) (cond b z w)
  choice true s x y z w h k = h
  choice false s x y z w h k = k

  gives_after : {A : Type 0} (a : A) (s s1 : State) → IsStep s s1 → P s (gives a s1) (gives a s1)
  gives_after a s s1 m = steps s s1 (gives a s1) (gives a s1) m (here a s1)

  -- ---- steps and space

  counts : {A : Type 0} (l : Place) (s : State) (f g : Unit {0} → State → Outcome A) → ((s1 : State) → P s1 (f tt s1) (g tt s1)) → P s (step l s >>= f) (step l s >>= g)
  counts l s f g h = by (nat_eq s.steps 0) refl
    where
      by : (b : Bool) → nat_eq s.steps 0 ≡ b → P s (cond b (fault l StepLimit s) (done (record s { steps = s.steps - 1 })) >>= f) (cond b (fault l StepLimit s) (done (record s { steps = s.steps - 1 })) >>= g)
      by true e = stops _ l StepLimit [] s
      by false e = steps s _ _ _ (counted (grind (arith, nat_tests))) (h (record s { steps = s.steps - 1 }))

  charges : {A : Type 0} (l : Place) (n : ℕ) (s : State) (f g : Unit {0} → State → Outcome A) → (n ≤ s.space → P s (f tt (record s { space = s.space - n })) (g tt (record s { space = s.space - n }))) → P s (charge l n s >>= f) (charge l n s >>= g)
  charges l n s f g h = by (nat_lt s.space n) refl
    where
      by : (b : Bool) → nat_lt s.space n ≡ b → P s (cond b (fault l SpaceLimit s) (done (record s { space = s.space - n })) >>= f) (cond b (fault l SpaceLimit s) (done (record s { space = s.space - n })) >>= g)
      by true e = stops _ l SpaceLimit [] s
      by false e = h (grind (arith, nat_tests))

  makes : (l : Place) (n : ℕ) (c : PlainCell) (s : State) → 0 < n → P s (new_cell l n c s) (new_cell l n c s)
  makes l n c s paid = charges l n s (λ _ s1. with_new c s1) (λ _ s1. with_new c s1) (λ le. gives_after (value.Ref (length s.cells)) s _ (made n c paid le))

  every_array : (l : Place) (vs : List Value) (s : State) → P s (new_array l vs s) (new_array l vs s)
  every_array l vs s = makes l (1 + length vs) (array vs) s (omega arith)

  every_dict : (l : Place) (ps : Pairs) (s : State) → P s (new_dict l ps s) (new_dict l ps s)
  every_dict l ps s = makes l (1 + length ps) (dict (dict_of ps [])) s (omega arith)

  every_string : (l : Place) (t : List ℕ) (s : State) → P s (string_value l t s) (string_value l t s)
  every_string l t s = charges l _ s (λ _ s1. gives (value.Str t) s1) (λ _ s1. gives (value.Str t) s1) (λ le. gives_after (value.Str t) s _ (charged _ le))

  -- ---- members and operators

  every_wrong : {A : Type 0} (l : Place) (o : Option A) (s : State) → P s (or_wrong l o s) (or_wrong l o s)
  every_wrong l None s = stops _ l _ _ s
  every_wrong l (Some a) s = here a s

  every_part : (l : Place) (v k : Value) (s : State) → P s (part_value l v k s) (part_value l v k s)
  unfolding part_value
  every_part l v k s = every_wrong l (member_of s.cells v k) s

  every_settled : {F : Type 0} (kind : F → DiagKind) (l : Place) (units_of : comes.Outcome F → ℕ) (o : comes.Outcome F) (s : State) → IsSound (contents s) units_of o → P s (settled kind l (units_of o) o s) (settled kind l (units_of o) o s)
  every_settled kind l units_of (comes.gives v) s h = charges l _ s (λ _ s1. gives v s1) (λ _ s1. gives v s1) (λ le. gives_after v s _ (charged _ le))
  every_settled kind l units_of (comes.makes c) s h = makes l _ c s (made_is (contents s) units_of c h)
  every_settled kind l units_of (comes.writes k c) s h =
      let w = written_is (contents s) units_of k c h in
      charges l _ s (λ _ s1. gives value.Null (record s1 { cells = with_cell s1.cells k c })) (λ _ s1. gives value.Null (record s1 { cells = with_cell s1.cells k c })) (λ le. gives_after value.Null s _ (written_to _ k c le w.0 w.1))
  every_settled kind l units_of (comes.refuses e) s h = stops _ l _ _ s

  every_operated : (l : Place) (o : BinOp) (a b : Value) (s : State) → P s (operated l o a b s) (operated l o a b s)
  unfolding operated
  every_operated l o a b s = every_settled op_kind l (λ x. binary_units s.cells o a b) (binary_outcome s.cells o a b) s (binary_sound (contents s) s.cells o a b)

  -- ---- names and frames

  every_undefined : (l : Place) (n : List ℕ) (s : State) (o : Option Value) → P s (or_undefined l n s o) (or_undefined l n s o)
  every_undefined l n s (Some v) = here v s
  every_undefined l n s None = stops _ l _ _ s

  every_name : (l : Place) (n : List ℕ) (s : State) → P s (name_value l n s) (name_value l n s)
  every_name l n s = every_undefined l n s (named n s)

  every_ended : (f : Flow) (s : State) → P s (ended f s) (ended f s)
  every_ended On s = here value.Null s
  every_ended (Returned v) s = here v s
  every_ended (Broken l) s = stops _ l _ _ s
  every_ended (Continued l) s = stops _ l _ _ s

  sets : (n : List ℕ) (v : Value) (s : State) → IsStep s (set_local n v s)
  sets n v s = framed s.this (put n v s.locals) s.in_file

  every_frame : (this : Value) (locals : Pairs) (in_file : Bool) (f g : State → Outcome Flow) (s : State) → ((s1 : State) → P s1 (f s1) (g s1)) → P s (in_frame this locals in_file f s) (in_frame this locals in_file g s)
  every_frame this locals in_file f g s h =
      steps s (entered this locals in_file s) _ _ (framed this locals in_file)
      (binds (entered this locals in_file s) (f (entered this locals in_file s)) (g (entered this locals in_file s)) _ _ (h (entered this locals in_file s))
      (λ fl s1. binds s1 (ended fl s1) (ended fl s1) _ _ (every_ended fl s1) (λ v s2. gives_after v s2 (back_in s s2) (framed s.this s.locals s.in_file))))

  -- ---- writes

  every_put_member : (l : Place) (container k v : Value) (s : State) → P s (put_member l container k v s) (put_member l container k v s)
  every_put_member l container k v s =
      let o = set_outcome (contents s) container k v in
      binds s (settled member_kind l (comes.made_units o) o s) (settled member_kind l (comes.made_units o) o s) _ _ (every_settled member_kind l (λ x. comes.made_units x) o s (member_sound (contents s) container k v)) (λ u s1. here On s1)

  every_put_in : (l : Place) (container k v : Value) (s : State) → P s (put_in l container k v s) (put_in l container k v s)
  unfolding put_in
  every_put_in l container k v s = choice (is_constant s.task container k) s _ _ _ _ (stops _ l _ _ s) (every_put_member l container k v s)

  every_made_inside : (l : Place) (container k : Value) (s : State) → P s (made_inside l container k s) (made_inside l container k s)
  every_made_inside l container k s = binds s (new_dict l [] s) (new_dict l [] s) _ _ (every_dict l [] s) (λ d s1. binds s1 (put_in l container k d s1) (put_in l container k d s1) _ _ (every_put_in l container k d s1) (λ u s2. here d s2))

  every_inside_by : (l : Place) (container k v : Value) (s : State) → P s (inside_by l container k v s) (inside_by l container k v s)
  every_inside_by l container k value.Null s = every_made_inside l container k s
  every_inside_by l container k v s = here v s

  inside_next : (l : Place) (container k : Value) (s : State) → P s (part_value l container k s >>= λ v s1. inside_by l container k v s1) (part_value l container k s >>= λ v s1. inside_by l container k v s1)
  inside_next l container k s = binds s (part_value l container k s) (part_value l container k s) _ _ (every_part l container k s) (λ v s1. every_inside_by l container k v s1)

  every_inside : (l : Place) (container k : Value) (s : State) → P s (inside l container k s) (inside l container k s)
  every_inside l value.Null k s = stops _ l _ _ s
  every_inside l (value.Bool b) k s = inside_next l (value.Bool b) k s
  every_inside l (value.Number b) k s = inside_next l (value.Number b) k s
  every_inside l (value.Str b) k s = inside_next l (value.Str b) k s
  every_inside l (value.Ref b) k s = inside_next l (value.Ref b) k s
  every_inside l (value.Func b) k s = inside_next l (value.Func b) k s

  every_written : (l : Place) (container : Value) (ks : List Value) (v : Value) (s : State) → P s (written l container ks v s) (written l container ks v s)
  every_written l container [] v s = stops _ l _ _ s
  every_written l container (k ∷ []) v s = every_put_in l container k v s
  every_written l container (k ∷ j ∷ ks) v s = binds s (inside l container k s) (inside l container k s) _ _ (every_inside l container k s) (λ d s1. every_written l d (j ∷ ks) v s1)

  every_made_local : (l : Place) (n : List ℕ) (s : State) → P s (made_local l n s) (made_local l n s)
  every_made_local l n s = binds s (new_dict l [] s) (new_dict l [] s) _ _ (every_dict l [] s) (λ d s1. gives_after d s1 _ (sets n d s1))

  every_write_local : (l : Place) (n : List ℕ) (container : Value) (ks : List Value) (v : Value) (s : State) → P s (write_local l n container ks v s) (write_local l n container ks v s)
  every_write_local l n container [] v s = gives_after On s _ (sets n v s)
  every_write_local l n value.Null (k ∷ ks) v s = binds s (made_local l n s) (made_local l n s) _ _ (every_made_local l n s) (λ d s1. every_written l d (k ∷ ks) v s1)
  every_write_local l n (value.Bool b) (k ∷ ks) v s = every_written l (value.Bool b) (k ∷ ks) v s
  every_write_local l n (value.Number b) (k ∷ ks) v s = every_written l (value.Number b) (k ∷ ks) v s
  every_write_local l n (value.Str b) (k ∷ ks) v s = every_written l (value.Str b) (k ∷ ks) v s
  every_write_local l n (value.Ref b) (k ∷ ks) v s = every_written l (value.Ref b) (k ∷ ks) v s
  every_write_local l n (value.Func b) (k ∷ ks) v s = every_written l (value.Func b) (k ∷ ks) v s

  every_followed : (l : Place) (v : Value) (ks : List Value) (s : State) → P s (followed l v ks s) (followed l v ks s)
  every_followed l v [] s = here v s
  every_followed l v (k ∷ ks) s = binds s (part_value l v k s) (part_value l v k s) _ _ (every_part l v k s) (λ w s1. every_followed l w ks s1)

  every_operated_on : (l : Place) (o : BinOp) (container : Value) (ks : List Value) (v : Value) (s : State) → P s (operated_on l o container ks v s) (operated_on l o container ks v s)
  every_operated_on l o container ks v s = binds s (followed l container ks s) (followed l container ks s) _ _ (every_followed l container ks s) (λ old s1. every_operated l o old v s1)

  every_set_value : (l : Place) (o : SetOp) (container : Value) (ks : List Value) (v : Value) (s : State) → P s (set_value l o container ks v s) (set_value l o container ks v s)
  every_set_value l set.Plain container ks v s = here v s
  every_set_value l set.Add container ks v s = every_operated_on l bin.Add container ks v s
  every_set_value l set.Sub container ks v s = every_operated_on l bin.Sub container ks v s
  every_set_value l set.Mul container ks v s = every_operated_on l bin.Mul container ks v s
  every_set_value l set.Div container ks v s = every_operated_on l bin.Div container ks v s

  every_assigned : (l : Place) (o : SetOp) (t : Target) (v : Value) (s : State) → P s (assigned l o t v s) (assigned l o t v s)
  unfolding assigned
  every_assigned l o (to_local n container ks) v s = binds s (set_value l o container ks v s) (set_value l o container ks v s) _ _ (every_set_value l o container ks v s) (λ w s1. every_write_local l n container ks w s1)
  every_assigned l o (into container ks) v s = binds s (set_value l o container ks v s) (set_value l o container ks v s) _ _ (every_set_value l o container ks v s) (λ w s1. every_written l container ks w s1)

  -- ---- the library

  every_plain : (l : Place) (c : Plain) (vs : List Value) (s : State) → P s (call_plain l c vs s) (call_plain l c vs s)
  unfolding call_plain
  every_plain l c vs s = every_settled lib_kind l (units c) (answer c (contents s) vs) s (call_sound c (contents s) vs)

  every_read_host : (l : Place) (vs : List Value) (s : State) → P s (read_host view l vs s) (read_host world l vs s)
  every_read_host l [] s = stops _ l _ _ s
  every_read_host l (value.Str n ∷ []) s = hosts l n s
  every_read_host l (v ∷ []) s = stops _ l _ _ s
  every_read_host l (value.Str n ∷ w ∷ vs) s = stops _ l _ _ s
  every_read_host l (v ∷ w ∷ vs) s = stops _ l _ _ s

  every_read_service : (l : Place) (vs : List Value) (s : State) → P s (read_service view l vs s) (read_service world l vs s)
  every_read_service l [] s = stops _ l _ _ s
  every_read_service l (value.Str h ∷ []) s = stops _ l _ _ s
  every_read_service l (v ∷ []) s = stops _ l _ _ s
  every_read_service l (value.Str h ∷ value.Str n ∷ []) s = services l h n s
  every_read_service l (value.Str h ∷ w ∷ []) s = stops _ l _ _ s
  every_read_service l (v ∷ w ∷ []) s = stops _ l _ _ s
  every_read_service l (value.Str h ∷ value.Str n ∷ u ∷ vs) s = stops _ l _ _ s
  every_read_service l (value.Str h ∷ w ∷ u ∷ vs) s = stops _ l _ _ s
  every_read_service l (v ∷ w ∷ u ∷ vs) s = stops _ l _ _ s

  -- ---- what is called

  every_function_called : (l : Place) (n : List ℕ) (o : Option LibraryCall) (s : State) → P s (function_called l n o s) (function_called l n o s)
  every_function_called l n (Some c) s = here (callee.Function c) s
  every_function_called l n None s = stops _ l _ _ s

  every_name_called : (l : Place) (n : List ℕ) (o : Option Value) (s : State) → P s (name_called l n o s) (name_called l n o s)
  every_name_called l n (Some v) s = here (callee.Value v s.this) s
  every_name_called l n None s = every_function_called l n (function_named n) s

  every_part_called : (l : Place) (v k : Value) (s : State) → P s (part_called l v k s) (part_called l v k s)
  every_part_called l v k s = binds s (part_value l v k s) (part_value l v k s) _ _ (every_part l v k s) (λ f s1. here (callee.Value f v) s1)

  every_method_called : (l : Place) (v : Value) (n : List ℕ) (o : Option LibraryCall) (s : State) → P s (method_called l v n o s) (method_called l v n o s)
  every_method_called l v n (Some c) s = here (callee.Method c v) s
  every_method_called l v n None s = every_part_called l v (value.Str n) s

  every_member_called : (l : Place) (v : Value) (n : List ℕ) (o : Option Value) (s : State) → P s (member_called l v n o s) (member_called l v n o s)
  every_member_called l v n (Some f) s = here (callee.Value f v) s
  every_member_called l v n None s = every_method_called l v n (method_named _ n) s

  -- ---- what a load registers

  load_step : {A : Type 0} (a : A) (f : Loading → Loading) → ((m : Loading) → Registers m (f m)) → (s : State) → P s (gives a (with_loading f s)) (gives a (with_loading f s))
  load_step a f own s = gives_after a s _ (loaded_to f own)

  every_constant_set : (l : Place) (n : List ℕ) (v : Value) (s : State) → P s (constant_set l n v s) (constant_set l n v s)
  every_constant_set l n v s =
      choice (is_fixed (find n (loading s).constants)) s _ _ _ _ (stops _ l _ _ s)
      (binds s (put_member l (value.Ref globals_cell) (value.Str n) v s) (put_member l (value.Ref globals_cell) (value.Str n) v s) _ _ (every_put_member l (value.Ref globals_cell) (value.Str n) v s) (λ u s1. load_step On (with_constant n) (λ m. registers.constant n) s1))

  every_name_by : (l : Place) (v : Value) (s : State) → P s (name_by l v s) (name_by l v s)
  every_name_by l (value.Str n) s = choice (is_good_name n) s _ _ _ _ (here n s) (stops _ l _ _ s)
  every_name_by l v s = stops _ l _ _ s

  every_prefix_by : (l : Place) (v : Value) (s : State) → P s (prefix_by l v s) (prefix_by l v s)
  every_prefix_by l (value.Str n) s = here (Some (record { name = n; place = l })) s
  every_prefix_by l v s = stops _ l _ _ s

  every_unless : (o : Option Place) (s : State) → P s (unless_condition o s) (unless_condition o s)
  every_unless (Some l) s = stops _ l _ _ s
  every_unless None s = here tt s

  every_lawful : (l : Place) (kind : List ℕ) (b : Statements) (s : State) → P s (lawful l kind b s) (lawful l kind b s)
  unfolding lawful
  every_lawful l kind b s = choice (not (is_among kind types)) s _ _ _ _ (stops _ l _ _ s) (choice (is_among kind groups) s _ _ _ _ (here tt s) (every_unless (condition_in b) s))

  every_template_by : (l : Place) (kind n : List ℕ) (ps : Pairs) (b : Statements) (o : Option PlainTemplate) (s : State) → P s (template_by view l kind n ps b o s) (template_by world l kind n ps b o s)
  every_template_by l kind n ps b (Some t) s = stops _ l _ _ s
  every_template_by l kind n ps b None s = load_step On (with_template l kind n ps b) (λ m. registers.template l kind n ps b) s

  every_at_load : (l : Place) (f g : Unit {0} → State → Outcome Flow) (s : State) → ((s1 : State) → P s1 (f tt s1) (g tt s1)) → P s (at_load l s >>= f) (at_load l s >>= g)
  every_at_load l f g s h = by (is_load s.task)
    where
      by : (b : Bool) → P s (cond b (done s) (fault l NotHere s) >>= f) (cond b (done s) (fault l NotHere s) >>= g)
      by true = h s
      by false = stops _ l _ _ s

  every_in_item : (l : Place) (f g : Unit {0} → State → Outcome Flow) (s : State) → ((s1 : State) → P s1 (f tt s1) (g tt s1)) → P s (in_item l s >>= f) (in_item l s >>= g)
  every_in_item l f g s h = by (is_item s.task)
    where
      by : (b : Bool) → P s (cond b (done s) (fault l NotHere s) >>= f) (cond b (done s) (fault l NotHere s) >>= g)
      by true = h s
      by false = stops _ l _ _ s

  -- ---- nodes, where it is true of their parts

  pub record AreEvery (ev ew : Parts) : Type 0 where
    pub value : (e : Expression) (s : State) → P s (ev.value e s) (ew.value e s)
    pub flow : (x : Statement) (s : State) → P s (ev.flow x s) (ew.flow x s)
    pub callee : (e : Expression) (s : State) → P s (ev.callee e s) (ew.callee e s)

  module _ (ev ew : Parts) (parts : AreEvery ev ew) where
    next : {B : Type 0} (e : Expression) (s : State) (f g : Value → State → Outcome B) → ((v : Value) (s1 : State) → P s1 (f v s1) (g v s1)) → P s (ev.value e s >>= f) (ew.value e s >>= g)
    next e s f g h = binds s (ev.value e s) (ew.value e s) f g (parts.value e s) h

    every_values : (es : Expressions) (vs : List Value) (s : State) → P s (values_with ev es vs s) (values_with ew es vs s)
    every_values no_expressions vs s = here vs s
    every_values (more_expressions e es) vs s = next e s _ _ (λ v s1. every_values es (vs ++ v ∷ []) s1)

    every_pairs : (es : Entries) (ps : Pairs) (s : State) → P s (pairs_with ev es ps s) (pairs_with ew es ps s)
    every_pairs no_entries ps s = here ps s
    every_pairs (more_entries k e es) ps s = next e s _ _ (λ v s1. every_pairs es (ps ++ (k, v) ∷ []) s1)

    every_keys : (ss : Steps) (ks : List Value) (s : State) → P s (keys_with ev ss ks s) (keys_with ew ss ks s)
    every_keys no_steps ks s = here ks s
    every_keys (member_step n ss) ks s = every_keys ss (ks ++ value.Str n ∷ []) s
    every_keys (index_step e ss) ks s = next e s _ _ (λ k s1. every_keys ss (ks ++ k ∷ []) s1)

    every_maybe : (o : MaybeExpression) (s : State) → P s (maybe_with ev o s) (maybe_with ew o s)
    every_maybe no_expression s = here value.Null s
    every_maybe (some_expression e) s = parts.value e s

    every_used : (l : Place) (n : List ℕ) (o : MaybeExpression) (s : State) → P s (used_with ev l n o s) (used_with ew l n o s)
    every_used l n (some_expression e) s = parts.value e s
    every_used l n no_expression s = every_name l n s

    every_captured : (l : Place) (us : Uses) (ps : Pairs) (s : State) → P s (captured_with ev l us ps s) (captured_with ew l us ps s)
    every_captured l no_uses ps s = here ps s
    every_captured l (more_uses n o us) ps s = binds s (used_with ev l n o s) (used_with ew l n o s) _ _ (every_used l n o s) (λ v s1. every_captured l us (put n v ps) s1)

    every_function : (l : Place) (f : Function) (s : State) → P s (function_with ev l f s) (function_with ew l f s)
    every_function l (function ps us b) s = binds s (captured_with ev l us [] s) (captured_with ew l us [] s) _ _ (every_captured l us [] s) (λ c s1. gives_after (value.Func (length s1.functions)) s1 _ (function_kept (record { func = function ps us b; captured = c })))

    -- ---- operators

    every_both : (l : Place) (o : BinOp) (a b : Expression) (s : State) → P s (both_with ev l o a b s) (both_with ew l o a b s)
    every_both l o a b s = next a s _ _ (λ x s1. next b s1 _ _ (λ y s2. every_operated l o x y s2))

    every_and : (a b : Expression) (s : State) → P s (and_with ev a b s) (and_with ew a b s)
    every_and a b s = next a s _ _ (λ x s1. choice (holds s1 x) s1 _ _ _ _ (parts.value b s1) (here x s1))

    every_or : (a b : Expression) (s : State) → P s (or_with ev a b s) (or_with ew a b s)
    every_or a b s = next a s _ _ (λ x s1. choice (holds s1 x) s1 _ _ _ _ (here x s1) (parts.value b s1))

    every_binary : (l : Place) (o : BinOp) (a b : Expression) (s : State) → P s (binary_with ev l o a b s) (binary_with ew l o a b s)
    every_binary l bin.And a b s = every_and a b s
    every_binary l bin.Or a b s = every_or a b s
    every_binary l o a b s = every_both l o a b s

    -- ---- blocks and choices

    every_statement : (x : Statement) (s : State) → P s (statement_with ev x s) (statement_with ew x s)
    every_statement (statement l k) s = choice (is_passed k) s _ _ _ _ (here On s) (parts.flow (statement l k) s)

    every_onward : (fl : Flow) (f g : State → Outcome Flow) (s : State) → ((s1 : State) → P s1 (f s1) (g s1)) → P s (onward fl f s) (onward fl g s)
    every_onward On f g s h = h s
    every_onward (Returned v) f g s h = here (Returned v) s
    every_onward (Broken l) f g s h = here (Broken l) s
    every_onward (Continued l) f g s h = here (Continued l) s

    pub every_block : (b : Statements) (s : State) → P s (block_with ev b s) (block_with ew b s)
    every_block no_statements s = here On s
    every_block (more_statements x xs) s = binds s (statement_with ev x s) (statement_with ew x s) _ _ (every_statement x s) (λ f s1. every_onward f (block_with ev xs) (block_with ew xs) s1 (every_block xs))

    every_truth : (e : Expression) (s : State) → P s (truth_with ev e s) (truth_with ew e s)
    every_truth e s = next e s _ _ (λ v s1. here (holds s1 v) s1)

    every_arms : (arms : Arms) (other : Statements) (s : State) → P s (arms_with ev arms other s) (arms_with ew arms other s)
    every_arms no_arms other s = every_block other s
    every_arms (more_arms e b more) other s = binds s (truth_with ev e s) (truth_with ew e s) _ _ (every_truth e s) (λ t s1. choice t s1 _ _ _ _ (every_block b s1) (every_arms more other s1))

    -- ---- loops

    every_around : (o : Option Flow) (f g : State → Outcome Flow) (s : State) → ((s1 : State) → P s1 (f s1) (g s1)) → P s (around o f s) (around o g s)
    every_around None f g s h = h s
    every_around (Some fl) f g s h = here fl s

    every_turn : (e : Expression) (b : Statements) (s : State) → P s (turn_with ev e b s) (turn_with ew e b s)
    every_turn e b s = binds s (truth_with ev e s) (truth_with ew e s) _ _ (every_truth e s) (λ t s1. choice t s1 _ _ _ _ (binds s1 (block_with ev b s1) (block_with ew b s1) _ _ (every_block b s1) (λ f s2. here (loop_end f) s2)) (here (Some On) s1))

    every_turns : (e : Expression) (b : Statements) (n : ℕ) (s : State) → P s (turns_with ev e b n s) (turns_with ew e b n s)
    every_turns e b zero s = stops _ (place_of e) _ _ s
    every_turns e b (suc n) s = binds s (turn_with ev e b s) (turn_with ew e b s) _ _ (every_turn e b s) (λ o s1. every_around o (turns_with ev e b n) (turns_with ew e b n) s1 (every_turns e b n))

    every_for_values : (n : List ℕ) (b : Statements) (vs : List Value) (s : State) → P s (for_values ev n b vs s) (for_values ew n b vs s)
    every_for_values n b [] s = here On s
    every_for_values n b (v ∷ vs) s =
        steps s (set_local n v s) _ _ (sets n v s)
        (binds (set_local n v s) (block_with ev b (set_local n v s)) (block_with ew b (set_local n v s)) _ _ (every_block b (set_local n v s)) (λ f s1. every_around (loop_end f) (for_values ev n b vs) (for_values ew n b vs) s1 (every_for_values n b vs)))

    every_for_pairs : (k n : List ℕ) (b : Statements) (ps : Pairs) (s : State) → P s (for_pairs ev k n b ps s) (for_pairs ew k n b ps s)
    every_for_pairs k n b [] s = here On s
    every_for_pairs k n b (p ∷ ps) s =
        let s0 : State = set_local k (value.Str p.0) s in
        let s9 : State = set_local n p.1 s0 in
        steps s s0 _ _ (sets k (value.Str p.0) s) (steps s0 s9 _ _ (sets n p.1 s0)
        (binds s9 (block_with ev b s9) (block_with ew b s9) _ _ (every_block b s9) (λ f s1. every_around (loop_end f) (for_pairs ev k n b ps) (for_pairs ew k n b ps) s1 (every_for_pairs k n b ps))))

    every_for_cell : (l : Place) (k : List ℕ) (o : Option (List ℕ)) (b : Statements) (c : PlainCell) (s : State) → P s (for_cell ev l k o b c s) (for_cell ew l k o b c s)
    every_for_cell l k None b (array vs) s = every_for_values k b vs s
    every_for_cell l k (Some n) b (dict ps) s = every_for_pairs k n b ps s
    every_for_cell l k None b (dict ps) s = stops _ l _ _ s
    every_for_cell l k (Some n) b (array vs) s = stops _ l _ _ s

    every_for_each : (l : Place) (k : List ℕ) (o : Option (List ℕ)) (b : Statements) (v : Value) (s : State) → P s (for_each ev l k o b v s) (for_each ew l k o b v s)
    every_for_each l k o b (value.Ref c) s = every_for_cell l k o b (cell_at s.cells c) s
    every_for_each l k o b v s = stops _ l _ _ s

    every_for : (x : Loop) (b : Statements) (s : State) → P s (for_with ev x b s) (for_with ew x b s)
    every_for (loop k o e) b s = next e s _ _ (λ v s1. every_for_each (place_of e) k o b v s1)

    -- ---- other statements

    every_return : (o : MaybeExpression) (s : State) → P s (return_with ev o s) (return_with ew o s)
    every_return o s = binds s (maybe_with ev o s) (maybe_with ew o s) _ _ (every_maybe o s) (λ v s1. here (Returned v) s1)

    every_var : (n : List ℕ) (o : MaybeExpression) (s : State) → P s (var_with ev n o s) (var_with ew n o s)
    every_var n o s = binds s (maybe_with ev o s) (maybe_with ew o s) _ _ (every_maybe o s) (λ v s1. gives_after On s1 _ (sets n v s1))

    every_thrown : (l : Place) (v : Value) (s : State) → P s (thrown l v s) (thrown l v s)
    every_thrown l (value.Str t) s = stops _ l _ _ s
    every_thrown l v s = stops _ l _ _ s

    every_set : (l : Place) (r : Root) (ss : Steps) (o : SetOp) (e : Expression) (s : State) → P s (set_with ev l r ss o e s) (set_with ew l r ss o e s)
    every_set l r ss o e s = binds s (keys_with ev ss [] s) (keys_with ew ss [] s) _ _ (every_keys ss [] s) (λ ks s1. next e s1 _ _ (λ v s2. every_assigned l o (target_of r ks s2) v s2))

    every_defined : (l : Place) (n : List ℕ) (f : Value) (s : State) → P s (defined l n f s) (defined l n f s)
    every_defined l n f s = choice s.in_file s _ _ _ _ (every_put_in l (value.Ref 0) (value.Str n) f s) (gives_after On s _ (sets n f s))

    every_define : (l : Place) (n : List ℕ) (f : Function) (s : State) → P s (define_with ev l n f s) (define_with ew l n f s)
    every_define l n f s = binds s (function_with ev l f s) (function_with ew l f s) _ _ (every_function l f s) (λ v s1. every_defined l n v s1)

    -- ---- calls

    every_run_function : (l : Place) (f : Function) (c : Pairs) (this : Value) (vs : List Value) (s : State) → P s (run_function ev l f c this vs s) (run_function ew l f c this vs s)
    every_run_function l (function ps us b) c this vs s = choice (nat_eq (length ps) (length vs)) s _ _ _ _ (every_frame this _ false (block_with ev b) (block_with ew b) s (every_block b)) (stops _ l _ _ s)

    every_run_closure : (l : Place) (o : Option Closure) (this : Value) (vs : List Value) (s : State) → P s (run_closure ev l o this vs s) (run_closure ew l o this vs s)
    every_run_closure l (Some f) this vs s = every_run_function l f.func f.captured this vs s
    every_run_closure l None this vs s = stops _ l _ _ s

    every_apply : (l : Place) (v this : Value) (vs : List Value) (s : State) → P s (apply_with ev l v this vs s) (apply_with ew l v this vs s)
    every_apply l (value.Func k) this vs s = every_run_closure l (slice_get s.functions k) this vs s
    every_apply l v this vs s = stops _ l _ _ s

    every_visited : (l : Place) (f v : Value) (s : State) → P s (visited ev l f v s) (visited ew l f v s)
    every_visited l f v s = every_apply l f s.this (v ∷ []) s

    every_mapped : (l : Place) (f : Value) (vs ws : List Value) (s : State) → P s (mapped ev l f vs ws s) (mapped ew l f vs ws s)
    every_mapped l f [] ws s = here ws s
    every_mapped l f (v ∷ vs) ws s = binds s (visited ev l f v s) (visited ew l f v s) _ _ (every_visited l f v s) (λ w s1. every_mapped l f vs (ws ++ w ∷ []) s1)

    every_filtered : (l : Place) (f : Value) (vs ws : List Value) (s : State) → P s (filtered ev l f vs ws s) (filtered ew l f vs ws s)
    every_filtered l f [] ws s = here ws s
    every_filtered l f (v ∷ vs) ws s = binds s (visited ev l f v s) (visited ew l f v s) _ _ (every_visited l f v s) (λ w s1. every_filtered l f vs _ s1)

    every_found : (l : Place) (wanted : Bool) (f : Value) (vs : List Value) (s : State) → P s (found ev l wanted f vs s) (found ew l wanted f vs s)
    every_found l wanted f [] s = here false s
    every_found l wanted f (v ∷ vs) s = binds s (visited ev l f v s) (visited ew l f v s) _ _ (every_visited l f v s) (λ w s1. choice _ s1 _ _ _ _ (here true s1) (every_found l wanted f vs s1))

    every_visits : (f g : Value → List Value → State → Outcome Value) (l : Place) (vs : List Value) (s : State) → ((v : Value) (xs : List Value) (s1 : State) → P s1 (f v xs s1) (g v xs s1)) → P s (visits_by f l vs s) (visits_by g l vs s)
    every_visits f g l [] s h = stops _ l _ _ s
    every_visits f g l (a ∷ []) s h = stops _ l _ _ s
    every_visits f g l (a ∷ value.Func k ∷ []) s h = h (value.Func k) (elements s.cells a) s
    every_visits f g l (a ∷ v ∷ []) s h = stops _ l _ _ s
    every_visits f g l (a ∷ value.Func k ∷ w ∷ vs) s h = stops _ l _ _ s
    every_visits f g l (a ∷ v ∷ w ∷ vs) s h = stops _ l _ _ s

    every_map : (l : Place) (f : Value) (vs : List Value) (s : State) → P s (map_with ev l f vs s) (map_with ew l f vs s)
    every_map l f vs s = binds s (mapped ev l f vs [] s) (mapped ew l f vs [] s) _ _ (every_mapped l f vs [] s) (λ ws s1. every_array l ws s1)

    every_filter : (l : Place) (f : Value) (vs : List Value) (s : State) → P s (filter_with ev l f vs s) (filter_with ew l f vs s)
    every_filter l f vs s = binds s (filtered ev l f vs [] s) (filtered ew l f vs [] s) _ _ (every_filtered l f vs [] s) (λ ws s1. every_array l ws s1)

    every_any : (l : Place) (f : Value) (vs : List Value) (s : State) → P s (any_with ev l f vs s) (any_with ew l f vs s)
    every_any l f vs s = binds s (found ev l true f vs s) (found ew l true f vs s) _ _ (every_found l true f vs s) (λ b s1. here (value.Bool b) s1)

    every_all : (l : Place) (f : Value) (vs : List Value) (s : State) → P s (all_with ev l f vs s) (all_with ew l f vs s)
    every_all l f vs s = binds s (found ev l false f vs s) (found ew l false f vs s) _ _ (every_found l false f vs s) (λ b s1. here (value.Bool (not b)) s1)

    every_library : (l : Place) (c : LibraryCall) (vs : List Value) (s : State) → P s (library_with view ev l c vs s) (library_with world ew l c vs s)
    every_library l (library.Plain c) vs s = every_plain l c vs s
    every_library l library.GetHost vs s = every_read_host l vs s
    every_library l library.GetService vs s = every_read_service l vs s
    every_library l library.Map vs s = every_visits (map_with ev l) (map_with ew l) l vs s (every_map l)
    every_library l library.Filter vs s = every_visits (filter_with ev l) (filter_with ew l) l vs s (every_filter l)
    every_library l library.Any vs s = every_visits (any_with ev l) (any_with ew l) l vs s (every_any l)
    every_library l library.All vs s = every_visits (all_with ev l) (all_with ew l) l vs s (every_all l)

    every_called : (l : Place) (c : Callee) (vs : List Value) (s : State) → P s (called_with view ev l c vs s) (called_with world ew l c vs s)
    every_called l (callee.Value v this) vs s = every_apply l v this vs s
    every_called l (callee.Function c) vs s = every_library l c vs s
    every_called l (callee.Method c v) vs s = every_library l c vs s

    every_call : (l : Place) (e : Expression) (es : Expressions) (s : State) → P s (call_with view ev l e es s) (call_with world ew l e es s)
    every_call l e es s = binds s (ev.callee e s) (ew.callee e s) _ _ (parts.callee e s) (λ c s1. binds s1 (values_with ev es (own_value c) s1) (values_with ew es (own_value c) s1) _ _ (every_values es (own_value c) s1) (λ vs s2. every_called l c vs s2))

    -- ---- templates and registration

    every_run_template : (l : Place) (n : List ℕ) (ps : Pairs) (o : Option PlainTemplate) (s : State) → P s (run_template ev l n ps o s) (run_template ew l n ps o s)
    every_run_template l n ps None s = stops _ l _ _ s
    every_run_template l n ps (Some t) s =
        binds s (in_frame s.this (first_locals t.captured ps) false (block_with ev t.body) s) (in_frame s.this (first_locals t.captured ps) false (block_with ew t.body) s) _ _
        (every_frame s.this (first_locals t.captured ps) false (block_with ev t.body) (block_with ew t.body) s (every_block t.body)) (λ v s1. here On s1)

    every_imported : (l : Place) (v : Value) (t : Task) (s : State) → P s (imported_by view ev l v t s) (imported_by world ew l v t s)
    every_imported l (value.Str n) (states.item kind ps) s = every_run_template l n ps (template_in kind n view.templates) s
    every_imported l (value.Str n) (states.load m) s = stops _ l _ _ s
    every_imported l (value.Str n) states.rule s = stops _ l _ _ s
    every_imported l v t s = stops _ l _ _ s

    every_import : (l : Place) (e : Expression) (s : State) → P s (import_with view ev l e s) (import_with world ew l e s)
    every_import l e s = every_in_item l _ _ s (λ s1. next e s1 _ _ (λ v s2. every_imported l v s2.task s2))

    every_object_name : (e : Expression) (s : State) → P s (name_with ev e s) (name_with ew e s)
    every_object_name e s = next e s _ _ (λ v s1. every_name_by (place_of e) v s1)

    every_prefix : (o : MaybeExpression) (s : State) → P s (prefix_with ev o s) (prefix_with ew o s)
    every_prefix no_expression s = here None s
    every_prefix (some_expression e) s = next e s _ _ (λ v s1. every_prefix_by (place_of e) v s1)

    every_item : (l : Place) (kind n : List ℕ) (ps : Pairs) (b : Statements) (s : State) → P s (item_registered view l kind n ps b s) (item_registered world l kind n ps b s)
    unfolding lawful
    every_item l kind n ps b s = by (is_among kind types) refl
      where
        by : (c : Bool) → is_among kind types ≡ c → P s (cond (not c) (faults l UnknownType (quoted kind) s.reads) (cond (is_among kind groups) (gives tt s) (unless_condition (condition_in b) s)) >>= λ _ s1. gives On (with_loading (with_item view l kind n ps b) s1)) (cond (not c) (faults l UnknownType (quoted kind) s.reads) (cond (is_among kind groups) (gives tt s) (unless_condition (condition_in b) s)) >>= λ _ s1. gives On (with_loading (with_item world l kind n ps b) s1))
        by true e = binds s (cond (is_among kind groups) (gives tt s) (unless_condition (condition_in b) s)) (cond (is_among kind groups) (gives tt s) (unless_condition (condition_in b) s)) _ _ (choice (is_among kind groups) s _ _ _ _ (here tt s) (every_unless (condition_in b) s)) (λ u s1. load_step On (with_item view l kind n ps b) (λ m. registers.object view l kind n ps b e) s1)
        by false e = stops _ l UnknownType (quoted kind) s

    every_object : (l : Place) (kind : List ℕ) (e : Expression) (us : Uses) (b : Statements) (s : State) → P s (object_with view ev l kind e us b s) (object_with world ew l kind e us b s)
    every_object l kind e us b s =
        every_at_load l _ _ s (λ s1. binds s1 (name_with ev e s1) (name_with ew e s1) _ _ (every_object_name e s1)
        (λ n s2. binds s2 (captured_with ev l us [] s2) (captured_with ew l us [] s2) _ _ (every_captured l us [] s2)
        (λ ps s3. every_item l kind n ps b s3)))

    every_template_registered : (l : Place) (kind n : List ℕ) (ps : Pairs) (b : Statements) (s : State) → P s (template_registered view l kind n ps b s) (template_registered world l kind n ps b s)
    every_template_registered l kind n ps b s = binds s (lawful l kind b s) (lawful l kind b s) _ _ (every_lawful l kind b s) (λ u s1. every_template_by l kind n ps b (template_in kind n (loading s1).templates) s1)

    every_template : (l : Place) (kind : List ℕ) (e : Expression) (us : Uses) (b : Statements) (s : State) → P s (template_with view ev l kind e us b s) (template_with world ew l kind e us b s)
    every_template l kind e us b s =
        every_at_load l _ _ s (λ s1. binds s1 (name_with ev e s1) (name_with ew e s1) _ _ (every_object_name e s1)
        (λ n s2. binds s2 (captured_with ev l us [] s2) (captured_with ew l us [] s2) _ _ (every_captured l us [] s2)
        (λ ps s3. every_template_registered l kind n ps b s3)))

    every_rule_registered : (l : Place) (kind : List ℕ) (n : Option PlacedName) (to : Option (List ℕ)) (each : MaybeLoop) (ps : Pairs) (b : Statements) (s : State) → P s (rule_registered l kind n to each ps b s) (rule_registered l kind n to each ps b s)
    unfolding lawful_rule
    every_rule_registered l kind n to each ps b s = by (is_among kind types) refl (is_among (resolved_target kind to) (target_types kind)) refl
      where
        by : (c : Bool) → is_among kind types ≡ c → (d : Bool) → is_among (resolved_target kind to) (target_types kind) ≡ d
            → P s (cond (not c) (faults l UnknownType (quoted kind) s.reads) (cond (not d) (faults l BadTarget (quoted (told_target kind to)) s.reads) (cond (has_assign b || has_loop each) (done s) (fault l NoAssign s))) >>= λ _ s1. gives On (with_loading (with_rule l kind n to each ps b) s1)) (cond (not c) (faults l UnknownType (quoted kind) s.reads) (cond (not d) (faults l BadTarget (quoted (told_target kind to)) s.reads) (cond (has_assign b || has_loop each) (done s) (fault l NoAssign s))) >>= λ _ s1. gives On (with_loading (with_rule l kind n to each ps b) s1))
        by true e true g = binds s (cond (has_assign b || has_loop each) (done s) (fault l NoAssign s)) (cond (has_assign b || has_loop each) (done s) (fault l NoAssign s)) _ _ (choice (has_assign b || has_loop each) s _ _ _ _ (here tt s) (stops _ l NoAssign [] s)) (λ u s1. load_step On (with_rule l kind n to each ps b) (λ m. registers.rule l kind n to each ps b e g) s1)
        by true e false g = stops _ l BadTarget (quoted (told_target kind to)) s
        by false e d g = stops _ l UnknownType (quoted kind) s

    every_rule : (l : Place) (kind : List ℕ) (e : MaybeExpression) (to : Option (List ℕ)) (each : MaybeLoop) (us : Uses) (b : Statements) (s : State) → P s (apply_rule_with ev l kind e to each us b s) (apply_rule_with ew l kind e to each us b s)
    every_rule l kind e to each us b s =
        every_at_load l _ _ s (λ s1. binds s1 (prefix_with ev e s1) (prefix_with ew e s1) _ _ (every_prefix e s1)
        (λ n s2. binds s2 (captured_with ev l us [] s2) (captured_with ew l us [] s2) _ _ (every_captured l us [] s2)
        (λ ps s3. every_rule_registered l kind n to each ps b s3)))

    -- ---- files

    every_run_file : (o : Option PlainFile) (s : State) → P s (run_file ev o s) (run_file ew o s)
    every_run_file (Some f) s = every_frame (value.Ref 0) [] true (block_with ev f.statements) (block_with ew f.statements) s (every_block f.statements)
    every_run_file None s = here value.Null s

    every_file : (order : List ℕ) (s : State) → P s (file_with view ev order s) (file_with world ew order s)
    every_file [] s = here value.Null s
    every_file (k ∷ []) s = here value.Null s
    every_file (k ∷ n ∷ order) s =
        let s0 : State = with_order (take n order) s in
        steps s s0 _ _ (loaded_to (λ m. record m { order = take n order }) (λ m. registers.ordered (take n order))) (binds s0 (run_file ev (slice_get view.files k) s0) (run_file ew (slice_get view.files k) s0) _ _ (every_run_file (slice_get view.files k) s0) (λ v s1. load_step v (λ m. record m { order = drop n order }) (λ m. registers.ordered (drop n order)) s1))

    every_files : (n : ℕ) (s : State) → P s (files_with view ev n s) (files_with world ew n s)
    every_files zero s = here On s
    every_files (suc n) s = binds s (file_with view ev (loading s).order s) (file_with world ew (loading s).order s) _ _ (every_file (loading s).order s) (λ v s1. every_files n s1)

    every_include_by : (order : List ℕ) (s : State) → P s (include_by view ev order s) (include_by world ew order s)
    every_include_by [] s = here On s
    every_include_by (n ∷ order) s = steps s (with_order order s) _ _ (loaded_to (λ m. record m { order = order }) (λ m. registers.ordered order)) (every_files n (with_order order s))

    -- ---- all of it

    every_expression : (e : Expression) (s : State) → P s (expression_with view ev e s) (expression_with world ew e s)
    every_expression (expression l syntax.null) s = here value.Null s
    every_expression (expression l syntax.this) s = here s.this s
    every_expression (expression l syntax.globals) s = here (value.Ref 0) s
    every_expression (expression l (syntax.boolean b)) s = here (value.Bool b) s
    every_expression (expression l (syntax.number n)) s = here (value.Number n) s
    every_expression (expression l (syntax.string t)) s = every_string l t s
    every_expression (expression l (syntax.name n)) s = every_name l n s
    every_expression (expression l (syntax.array es)) s = binds s (values_with ev es [] s) (values_with ew es [] s) _ _ (every_values es [] s) (λ vs s1. every_array l vs s1)
    every_expression (expression l (syntax.dictionary es)) s = binds s (pairs_with ev es [] s) (pairs_with ew es [] s) _ _ (every_pairs es [] s) (λ ps s1. every_dict l ps s1)
    every_expression (expression l (syntax.member e n)) s = next e s _ _ (λ v s1. every_part l v (value.Str n) s1)
    every_expression (expression l (syntax.index e k)) s = next e s _ _ (λ v s1. next k s1 _ _ (λ i s2. every_part l v i s2))
    every_expression (expression l (syntax.call e es)) s = every_call l e es s
    every_expression (expression l (syntax.unary o e)) s = next e s _ _ (λ v s1. every_settled op_kind l (λ x. 0) (unary_outcome s1.cells o v) s1 (unary_sound (contents s1) s1.cells o v))
    every_expression (expression l (syntax.binary o a b)) s = every_binary l o a b s
    every_expression (expression l (syntax.function_value f)) s = every_function l f s

    every_kind : (l : Place) (k : StatementKind) (s : State) → P s (statement_kind_with view ev l k s) (statement_kind_with world ew l k s)
    every_kind l (syntax.object kind e us b) s = every_object l kind e us b s
    every_kind l (syntax.template kind e us b) s = every_template l kind e us b s
    every_kind l (syntax.apply kind e to each us b) s = every_rule l kind e to each us b s
    every_kind l (syntax.const n e) s = every_at_load l _ _ s (λ s1. next e s1 _ _ (λ v s2. every_constant_set l n v s2))
    every_kind l (syntax.include n at) s = every_at_load l _ _ s (λ s1. every_include_by (loading s1).order s1)
    every_kind l (syntax.include_library n at) s = every_at_load l _ _ s (λ s1. every_include_by (loading s1).order s1)
    every_kind l (syntax.include_all d p at) s = every_at_load l _ _ s (λ s1. every_include_by (loading s1).order s1)
    every_kind l (syntax.import e) s = every_import l e s
    every_kind l (syntax.assign e) s = here On s
    every_kind l (syntax.ignore e) s = here On s
    every_kind l (syntax.set r ss o e) s = every_set l r ss o e s
    every_kind l (syntax.var n e) s = every_var n e s
    every_kind l (syntax.define n f) s = every_define l n f s
    every_kind l (syntax.choose arms other) s = every_arms arms other s
    every_kind l (syntax.while e b) s = every_turns e b s.steps s
    every_kind l (syntax.for x b) s = every_for x b s
    every_kind l (syntax.return e) s = every_return e s
    every_kind l syntax.break s = here (Broken l) s
    every_kind l syntax.continue s = here (Continued l) s
    every_kind l (syntax.throw e) s = next e s _ _ (λ v s1. every_thrown l v s1)
    every_kind l (syntax.eval e) s = next e s _ _ (λ v s1. here On s1)

    every_callee_other : (e : Expression) (s : State) → P s (value_called (expression_with view ev e s)) (value_called (expression_with world ew e s))
    every_callee_other e s = binds s (expression_with view ev e s) (expression_with world ew e s) _ _ (every_expression e s) (λ v s1. here (callee.Value v s1.this) s1)

    every_callee : (e : Expression) (s : State) → P s (callee_with ev (expression_with view ev) e s) (callee_with ew (expression_with world ew) e s)
    every_callee (expression l (syntax.name n)) s = every_name_called l n (named n s) s
    every_callee (expression l (syntax.member e n)) s = next e s _ _ (λ v s1. every_member_called l v n (name_in s1.cells n v) s1)
    every_callee (expression l (syntax.index e k)) s = next e s _ _ (λ v s1. next k s1 _ _ (λ i s2. every_part_called l v i s2))
    every_callee e s = every_callee_other e s

    every_flow : (x : Statement) (s : State) → P s (flow_with view ev x s) (flow_with world ew x s)
    every_flow (statement l k) s = counts l s _ _ (λ s1. every_kind l k s1)

    deeper : AreEvery (one_more view ev) (one_more world ew)
    deeper = record {
      value = λ e s. counts (place_of e) s _ _ (λ s1. every_expression e s1);
      flow = every_flow;
      callee = λ e s. counts (place_of e) s _ _ (λ s1. every_callee e s1);
    }

  every_too_deep : (A : Type 0) (l : Place) (s : State) → P {A = A} s (too_deep l s) (too_deep l s)
  every_too_deep A l s = counts l s _ _ (λ s1. stops _ l _ _ s1)

  flow_deep : (x : Statement) (s : State) → P s (flow_too_deep x s) (flow_too_deep x s)
  flow_deep (statement l k) s = every_too_deep _ l s

  pub every : (depth : ℕ) → AreEvery (evaluated view depth) (evaluated world depth)
  unfolding evaluated
  every zero = record { value = λ e s. every_too_deep _ (place_of e) s; flow = flow_deep; callee = λ e s. every_too_deep _ (place_of e) s }
  every (suc depth) = deeper (evaluated view depth) (evaluated world depth) (every depth)

  pub every_expression_at : (depth : ℕ) (e : Expression) (s : State) → P s (expression_with view (evaluated view depth) e s) (expression_with world (evaluated world depth) e s)
  every_expression_at depth e s = every_expression (evaluated view depth) (evaluated world depth) (every depth) e s

  pub every_body : (depth : ℕ) (b : Statements) (s : State) → P s (block_with (evaluated view depth) b s) (block_with (evaluated world depth) b s)
  every_body depth b s = every_block (evaluated view depth) (evaluated world depth) (every depth) b s

  pub every_result : (depth : ℕ) (b : Statements) (s : State) → P s (body_of view depth b s) (body_of world depth b s)
  every_result depth b s = binds s (block_with (evaluated view depth) b s) (block_with (evaluated world depth) b s) ended ended (every_body depth b s) every_ended

  -- the files of a load, by the order of its walk
  pub every_load : (depth : ℕ) (order : List ℕ) (s : State) → P s (file_with view (evaluated view depth) order s) (file_with world (evaluated world depth) order s)
  every_load depth order s = every_file (evaluated view depth) (evaluated world depth) (every depth) order s
