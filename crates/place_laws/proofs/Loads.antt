-- Imports and the statements of a load at other places, where it is true of their parts.
use Rattle.std.proofs.Common.{◌≡◌, ℕ, zero, suc, List, [], ◌∷◌, take, drop, Bool, true, false, cond, Option, Some, None, refl, sym, ap, subst}
use Rattle.std.specs.Prelude.{slice_get, option_map}
use Rattle.std.proofs.lemmas.Option.{slice_get-map}
use Rattle.site_base.specs.declared.place.Place.{Place}
use Rattle.site_base.specs.declared.diag_kind.DiagKind.TheVariants.{NotHere}
use Rattle.dsl_syntax.specs.Syntax.{Expression, expression, MaybeExpression, no_expression, some_expression, MaybeLoop, Uses, Statements}
use Rattle.dsl_value.specs.Pairs.{Pairs}
use Rattle.dsl_value.specs.declared.value.Value.{Value}
use Rattle.dsl_value.specs.declared.value.Value.TheVariants as value
use Rattle.eval_meaning.specs.Registered.{PlainTemplate, PlainFile}
use Rattle.eval_meaning.specs.Views.{View, template_in}
use Rattle.eval_meaning.specs.States as states
use Rattle.eval_meaning.specs.States.{State, Outcome, gives, ◌>>=◌, done, fault, Task, globals_cell}
use Rattle.eval_meaning.specs.Frames.{first_locals, in_frame}
use Rattle.eval_meaning.specs.Flow.{block_with}
use Rattle.eval_meaning.specs.Functions.{captured_with}
use Rattle.eval_meaning.specs.Templates.{run_template, is_item, in_item, imported_by, import_with}
use Rattle.eval_meaning.specs.Registration.{loading, name_with, prefix_with, object_with, template_with, apply_rule_with, const_with}
use Rattle.eval_meaning.specs.Files.{with_order, run_file, file_with, files_with, include_by, include_with}
use Rattle.eval_meaning.specs.declared.flow.Flow.{Flow}
use Rattle.place_laws.specs.MovedSyntax.{moved_expression, moved_maybe, moved_maybe_loop, moved_uses, moved_statements}
use Rattle.place_laws.specs.MovedStates.{moved_template, moved_file, moved_view, moved_task}
use Rattle.place_laws.proofs.Moving.{Moving, P, same, moved, here, stops, binds, steps}
use Rattle.place_laws.proofs.Lookups.{item_moved, loading_moved, changed_load, with_loading_moved, template_moved}
use Rattle.place_laws.proofs.Writes.{flow, goes_on, frames}
use Rattle.place_laws.proofs.Registered.{named, at_loads, registers, constants_set, names_by, prefixes_by, items_registered, templates_registered, rules_registered}
use Rattle.place_laws.proofs.Nodes.{Nodes, next, captures}
use Rattle.place_laws.proofs.Flows.{blocks}

module _ (m : Moving) (n : Nodes m) where
  abbrev world : View
  world = moved_view m.move m.view

  -- ---- imports

  in_items : (l : Place) (f g : Unit {0} → State → Outcome Flow) (s : State) → P m (flow m) s (f tt s) (g tt (moved m s)) → P m (flow m) s (in_item l s >>= f) (in_item (m.move l) (moved m s) >>= g)
  in_items l f g s c = subst (λ b. P m (flow m) s (in_item l s >>= f) (cond b (done (moved m s)) (fault (m.move l) NotHere (moved m s)) >>= g)) (sym (item_moved m.move s.task)) (by (is_item s.task))
    where
      by : (b : Bool) → P m (flow m) s (cond b (done s) (fault l NotHere s) >>= f) (cond b (done (moved m s)) (fault (m.move l) NotHere (moved m s)) >>= g)
      by true = c
      by false = stops m _ (flow m) l _ _ s

  runs_template : (l : Place) (t : List ℕ) (ps : Pairs) (o : Option PlainTemplate) (s : State) → P m (flow m) s (run_template n.ev l t ps o s) (run_template n.ew (m.move l) t ps (option_map (moved_template m.move) o) (moved m s))
  runs_template l t ps None s = stops m _ (flow m) l _ _ s
  runs_template l t ps (Some x) s =
      binds m same (flow m) s (in_frame s.this (first_locals x.captured ps) false (block_with n.ev x.body) s) (in_frame s.this (first_locals x.captured ps) false (block_with n.ew (moved_statements m.move x.body)) (moved m s)) _ _
      (frames m s.this (first_locals x.captured ps) false (block_with n.ev x.body) (block_with n.ew (moved_statements m.move x.body)) s (blocks m n x.body))
      (λ _ s1. goes_on m s1)

  imports_by : (l : Place) (v : Value) (t : Task) (s : State) → P m (flow m) s (imported_by m.view n.ev l v t s) (imported_by world n.ew (m.move l) v (moved_task m.move t) (moved m s))
  imports_by l (value.Str x) (states.item kind ps) s =
      subst (λ o. P m (flow m) s (run_template n.ev l x ps (template_in kind x m.view.templates) s) (run_template n.ew (m.move l) x ps o (moved m s)))
      (sym (template_moved m.move kind x m.view.templates)) (runs_template l x ps (template_in kind x m.view.templates) s)
  imports_by l (value.Str x) (states.load k) s = stops m _ (flow m) l _ _ s
  imports_by l (value.Str x) states.rule s = stops m _ (flow m) l _ _ s
  imports_by l v t s = stops m _ (flow m) l _ _ s

  pub imports : (l : Place) (e : Expression) (s : State) → P m (flow m) s (import_with m.view n.ev l e s) (import_with world n.ew (m.move l) (moved_expression m.move e) (moved m s))
  imports l e s = in_items l _ _ s (next m n (flow m) e s _ _ (λ v s1. imports_by l v s1.task s1))

  -- ---- constants, objects, templates and rules

  pub constants : (l : Place) (t : List ℕ) (e : Expression) (s : State) → P m (flow m) s (const_with n.ev l t e s) (const_with n.ew (m.move l) t (moved_expression m.move e) (moved m s))
  constants l t e s = at_loads m l _ _ s (λ at. next m n (flow m) e s _ _ (λ v s1. constants_set m l t v s1))

  names_with : (e : Expression) (s : State) → P m same s (name_with n.ev e s) (name_with n.ew (moved_expression m.move e) (moved m s))
  names_with (expression l k) s = next m n same (expression l k) s _ _ (λ v s1. names_by m l v s1)

  prefixes_with : (o : MaybeExpression) (s : State) → P m (named m) s (prefix_with n.ev o s) (prefix_with n.ew (moved_maybe m.move o) (moved m s))
  prefixes_with no_expression s = here m (named m) None s
  prefixes_with (some_expression (expression l k)) s = next m n (named m) (expression l k) s _ _ (λ v s1. prefixes_by m l v s1)

  pub objects : (l : Place) (kind : List ℕ) (e : Expression) (us : Uses) (b : Statements) (s : State) → P m (flow m) s (object_with m.view n.ev l kind e us b s) (object_with world n.ew (m.move l) kind (moved_expression m.move e) (moved_uses m.move us) (moved_statements m.move b) (moved m s))
  objects l kind e us b s =
      at_loads m l _ _ s (λ at. binds m same (flow m) s (name_with n.ev e s) (name_with n.ew (moved_expression m.move e) (moved m s)) _ _ (names_with e s)
      (λ t s1. binds m same (flow m) s1 (captured_with n.ev l us [] s1) (captured_with n.ew (m.move l) (moved_uses m.move us) [] (moved m s1)) _ _ (captures m n l us [] s1)
      (λ ps s2. items_registered m l kind t ps b at s2)))

  pub templates : (l : Place) (kind : List ℕ) (e : Expression) (us : Uses) (b : Statements) (s : State) → P m (flow m) s (template_with m.view n.ev l kind e us b s) (template_with world n.ew (m.move l) kind (moved_expression m.move e) (moved_uses m.move us) (moved_statements m.move b) (moved m s))
  templates l kind e us b s =
      at_loads m l _ _ s (λ at. binds m same (flow m) s (name_with n.ev e s) (name_with n.ew (moved_expression m.move e) (moved m s)) _ _ (names_with e s)
      (λ t s1. binds m same (flow m) s1 (captured_with n.ev l us [] s1) (captured_with n.ew (m.move l) (moved_uses m.move us) [] (moved m s1)) _ _ (captures m n l us [] s1)
      (λ ps s2. templates_registered m l kind t ps b at s2)))

  pub rules : (l : Place) (kind : List ℕ) (e : MaybeExpression) (to : Option (List ℕ)) (each : MaybeLoop) (us : Uses) (b : Statements) (s : State) → P m (flow m) s (apply_rule_with n.ev l kind e to each us b s) (apply_rule_with n.ew (m.move l) kind (moved_maybe m.move e) to (moved_maybe_loop m.move each) (moved_uses m.move us) (moved_statements m.move b) (moved m s))
  rules l kind e to each us b s =
      at_loads m l _ _ s (λ at. binds m (named m) (flow m) s (prefix_with n.ev e s) (prefix_with n.ew (moved_maybe m.move e) (moved m s)) _ _ (prefixes_with e s)
      (λ t s1. binds m same (flow m) s1 (captured_with n.ev l us [] s1) (captured_with n.ew (m.move l) (moved_uses m.move us) [] (moved m s1)) _ _ (captures m n l us [] s1)
      (λ ps s2. rules_registered m l kind t to each ps b s2)))

  -- ---- files

  runs_file : (o : Option PlainFile) (s : State) → P m same s (run_file n.ev o s) (run_file n.ew (option_map (moved_file m.move) o) (moved m s))
  runs_file (Some f) s = frames m (value.Ref globals_cell) [] true (block_with n.ev f.statements) (block_with n.ew (moved_statements m.move f.statements)) s (blocks m n f.statements)
  runs_file None s = here m same value.Null s

  order_moved : (order : List ℕ) (s : State) → with_order order (moved m s) ≡ moved m (with_order order s)
  order_moved order s = with_loading_moved m.move (λ x. record x { order = order }) (λ x. record x { order = order }) s (λ x. refl)

  -- something goes on with another order
  in_order : {A : Type 0} (f : A → A) (order : List ℕ) (s : State) (h k : State → Outcome A) → P m f (with_order order s) (h (with_order order s)) (k (moved m (with_order order s))) → P m f s (h (with_order order s)) (k (with_order order (moved m s)))
  in_order f order s h k c =
      subst (λ t. P m f s (h (with_order order s)) (k t)) (sym (order_moved order s))
      (steps m f s (with_order order s) (h (with_order order s)) (k (moved m (with_order order s))) (changed_load m.move (λ x. record x { order = order }) s.task) c)

  file_run : (k : ℕ) (s : State) → P m same s (run_file n.ev (slice_get m.view.files k) s) (run_file n.ew (slice_get world.files k) (moved m s))
  file_run k s = subst (λ o. P m same s (run_file n.ev (slice_get m.view.files k) s) (run_file n.ew o (moved m s))) (sym (slice_get-map (moved_file m.move) m.view.files k)) (runs_file (slice_get m.view.files k) s)

  pub files_one : (order : List ℕ) (s : State) → P m same s (file_with m.view n.ev order s) (file_with world n.ew order (moved m s))
  files_one [] s = here m same value.Null s
  files_one (k ∷ []) s = here m same value.Null s
  files_one (k ∷ t ∷ order) s =
      in_order same (take t order) s
      (λ s1. run_file n.ev (slice_get m.view.files k) s1 >>= λ v s2. gives v (with_order (drop t order) s2))
      (λ s1. run_file n.ew (slice_get world.files k) s1 >>= λ v s2. gives v (with_order (drop t order) s2))
      (binds m same same (with_order (take t order) s) (run_file n.ev (slice_get m.view.files k) (with_order (take t order) s)) (run_file n.ew (slice_get world.files k) (moved m (with_order (take t order) s))) _ _ (file_run k (with_order (take t order) s))
      (λ v s2. registers m same v (λ x. record x { order = drop t order }) (λ x. record x { order = drop t order }) s2 (λ x. refl)))

  -- the file at the front of the order that is left
  file_next : (s : State) → P m same s (file_with m.view n.ev (loading s).order s) (file_with world n.ew (loading (moved m s)).order (moved m s))
  file_next s = subst (λ o. P m same s (file_with m.view n.ev (loading s).order s) (file_with world n.ew o (moved m s))) (sym (ap (λ x. x.order) (loading_moved m.move s))) (files_one (loading s).order s)

  files_many : (k : ℕ) (s : State) → P m (flow m) s (files_with m.view n.ev k s) (files_with world n.ew k (moved m s))
  files_many zero s = goes_on m s
  files_many (suc k) s = binds m same (flow m) s (file_with m.view n.ev (loading s).order s) (file_with world n.ew (loading (moved m s)).order (moved m s)) _ _ (file_next s) (λ v s1. files_many k s1)

  includes_by : (order : List ℕ) (s : State) → P m (flow m) s (include_by m.view n.ev order s) (include_by world n.ew order (moved m s))
  includes_by [] s = goes_on m s
  includes_by (k ∷ order) s = in_order (flow m) order s (files_with m.view n.ev k) (files_with world n.ew k) (files_many k (with_order order s))

  pub includes : (l : Place) (s : State) → P m (flow m) s (include_with m.view n.ev l s) (include_with world n.ew (m.move l) (moved m s))
  includes l s =
      at_loads m l _ _ s (λ at. subst (λ o. P m (flow m) s (include_by m.view n.ev (loading s).order s) (include_by world n.ew o (moved m s))) (sym (ap (λ x. x.order) (loading_moved m.move s))) (includes_by (loading s).order s))
