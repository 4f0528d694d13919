-- What is looked up in moved syntax, states and views is what was looked up, moved.
use Rattle.std.proofs.Common.{◌≡◌, ℕ, zero, List, [], ◌∷◌, map, Bool, true, false, cond, Option, Some, None, refl, ap, ◌∙◌}
use Rattle.std.specs.Prelude.{slice_get, option_map, ◌&&◌}
use Rattle.std.specs.Str.{bytes_eq}
use Rattle.std.proofs.lemmas.Option.{slice_get-map}
use Rattle.site_base.specs.declared.place.Place.{Place}
use Rattle.dsl_syntax.specs.Syntax as syntax
use Rattle.dsl_syntax.specs.Syntax.{MaybeLoop, no_loop, some_loop, statement, Statements, no_statements, more_statements}
use Rattle.dsl_value.specs.declared.value.Value.{Value}
use Rattle.dsl_value.specs.declared.value.Value.TheVariants as value
use Rattle.eval_meaning.specs.Registered.{PlainTemplate, PlainFile}
use Rattle.eval_meaning.specs.Views.{template_in}
use Rattle.eval_meaning.specs.States as states
use Rattle.eval_meaning.specs.States.{State, Task, Loading}
use Rattle.eval_meaning.specs.Targets.{is_constant}
use Rattle.eval_meaning.specs.Templates.{is_item}
use Rattle.eval_meaning.specs.Registration.{loading, loading_of, changed, with_loading, is_load, condition_in, has_assign, loop_of, has_loop, is_of_library}
use Rattle.place_laws.specs.MovedSyntax.{moved_maybe_loop, moved_loop, moved_statements}
use Rattle.place_laws.specs.MovedStates.{moved_template, moved_file, moved_loading, moved_task, moved_state}

module _ (move : Place → Place) where
  -- ---- tasks

  pub load_moved : (t : Task) → is_load (moved_task move t) ≡ is_load t
  load_moved (states.load l) = refl
  load_moved (states.item kind bound) = refl
  load_moved states.rule = refl

  pub item_moved : (t : Task) → is_item (moved_task move t) ≡ is_item t
  item_moved (states.load l) = refl
  item_moved (states.item kind bound) = refl
  item_moved states.rule = refl

  pub constant_moved : (t : Task) (container k : Value) → is_constant (moved_task move t) container k ≡ is_constant t container k
  constant_moved (states.load l) (value.Ref zero) (value.Str n) = refl
  constant_moved (states.load l) container k = refl
  constant_moved (states.item kind bound) container k = refl
  constant_moved states.rule container k = refl

  loading_of_moved : (t : Task) → loading_of (moved_task move t) ≡ moved_loading move (loading_of t)
  loading_of_moved (states.load l) = refl
  loading_of_moved (states.item kind bound) = refl
  loading_of_moved states.rule = refl

  pub loading_moved : (s : State) → loading (moved_state move s) ≡ moved_loading move (loading s)
  loading_moved s = loading_of_moved s.task

  pub changed_load : (f : Loading → Loading) (t : Task) → is_load (changed f t) ≡ is_load t
  changed_load f (states.load l) = refl
  changed_load f (states.item kind bound) = refl
  changed_load f states.rule = refl

  changed_moved : (f g : Loading → Loading) (t : Task) → ((l : Loading) → g (moved_loading move l) ≡ moved_loading move (f l)) → changed g (moved_task move t) ≡ moved_task move (changed f t)
  changed_moved f g (states.load l) h = ap (λ x. states.load x) (h l)
  changed_moved f g (states.item kind bound) h = refl
  changed_moved f g states.rule h = refl

  -- what a load has come to is changed in the same way
  pub with_loading_moved : (f g : Loading → Loading) (s : State) → ((l : Loading) → g (moved_loading move l) ≡ moved_loading move (f l)) → with_loading g (moved_state move s) ≡ moved_state move (with_loading f s)
  with_loading_moved f g s h = ap (λ t. record (moved_state move s) { task = t }) (changed_moved f g s.task h)

  -- ---- views

  pub template_moved : (kind name : List ℕ) (ts : List PlainTemplate) → template_in kind name (map (moved_template move) ts) ≡ option_map (moved_template move) (template_in kind name ts)
  template_moved kind name [] = refl
  template_moved kind name (t ∷ ts) = by (bytes_eq kind t.kind && bytes_eq name t.name) (template_moved kind name ts)
    where
      by : (b : Bool) → template_in kind name (map (moved_template move) ts) ≡ option_map (moved_template move) (template_in kind name ts) → cond b (Some (moved_template move t)) (template_in kind name (map (moved_template move) ts)) ≡ option_map (moved_template move) (cond b (Some t) (template_in kind name ts))
      by true h = refl
      by false h = h

  of_library_moved : (o : Option PlainFile) → is_of_library (option_map (moved_file move) o) ≡ is_of_library o
  of_library_moved (Some f) = refl
  of_library_moved None = refl

  pub library_moved : (files : List PlainFile) (k : ℕ) → is_of_library (slice_get (map (moved_file move) files) k) ≡ is_of_library (slice_get files k)
  library_moved files k = ap is_of_library (slice_get-map (moved_file move) files k) ∙ of_library_moved (slice_get files k)

  -- ---- bodies and heads

  pub condition_moved : (b : Statements) → condition_in (moved_statements move b) ≡ option_map move (condition_in b)
  condition_moved no_statements = refl
  condition_moved (more_statements (statement l (syntax.assign e)) ss) = refl
  condition_moved (more_statements (statement l (syntax.ignore e)) ss) = refl
  condition_moved (more_statements (statement l k) ss) = condition_moved ss

  pub assign_moved : (b : Statements) → has_assign (moved_statements move b) ≡ has_assign b
  assign_moved no_statements = refl
  assign_moved (more_statements (statement l (syntax.assign e)) ss) = refl
  assign_moved (more_statements (statement l k) ss) = assign_moved ss

  pub loop_moved : (each : MaybeLoop) → loop_of (moved_maybe_loop move each) ≡ option_map (moved_loop move) (loop_of each)
  loop_moved no_loop = refl
  loop_moved (some_loop x) = refl

  pub has_loop_moved : (each : MaybeLoop) → has_loop (moved_maybe_loop move each) ≡ has_loop each
  has_loop_moved no_loop = refl
  has_loop_moved (some_loop x) = refl
