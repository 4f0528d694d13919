-- What is made of an item at other places.
use Rattle.std.proofs.Common.{◌≡◌, List, [], ◌∷◌, map, refl, ap, ◌∙◌}
use Rattle.site_base.specs.Data.{Data}
use Rattle.site_base.specs.declared.diag.Diag.{Diag}
use Rattle.site_base.specs.declared.place.Place.{Place}
use Rattle.object_types.specs.Checks.{object_faults}
use Rattle.object_types.specs.Names.{type_named}
use Rattle.dsl_value.specs.Pairs.{Pairs, dict_of}
use Rattle.dsl_value.specs.Contents.{dict}
use Rattle.dsl_value.specs.declared.value.Value.{Value}
use Rattle.eval_meaning.specs.Registered.{PlainItem}
use Rattle.eval_meaning.specs.Views.{View}
use Rattle.eval_meaning.specs.States.{State, ◌>>=◌, item, with_new}
use Rattle.eval_meaning.specs.Evaluation.{body_of}
use Rattle.eval_meaning.specs.Load.{most_open}
use Rattle.commit_meaning.specs.Answers as answer
use Rattle.commit_meaning.specs.Answers.{Answer, answered}
use Rattle.commit_meaning.specs.Starts.{fresh, values_of}
use Rattle.commit_meaning.specs.Items.{in_body, body_run, item_run, checked_by, checked, item_answer}
use Rattle.place_laws.specs.MovedSyntax.{moved_statements}
use Rattle.place_laws.specs.MovedStates.{moved_item, moved_view}
use Rattle.place_laws.proofs.Moving.{P, same, moved, binds, comes}
use Rattle.place_laws.proofs.Whole.{body_at}
use Rattle.commit_places.specs.MovedAnswers.{moved_diag, moved_object, moved_answer}
use Rattle.commit_places.proofs.Faults.{faults_moved}
use Rattle.commit_places.proofs.Starts.{m, world, anew, answers, cell_made, values_made, tree_taken}

module _ (move : Place → Place) (view : View) (i : PlainItem) where
  bodies : (bound : Pairs) (this : Value) (s : State) → P (m move view) same s (body_run view i bound this s) (body_run (world move view) (moved_item move i) bound this (moved (m move view) s))
  bodies bound this s =
      let t : State = in_body i bound this s in
      anew move view same s t (body_run view i bound this s) (body_run (world move view) (moved_item move i) bound this (moved (m move view) s)) refl
      (binds (m move view) same same t (body_of view most_open i.body t) (body_of (world move view) most_open (moved_statements move i.body) (moved (m move view) t)) _ _ (body_at (m move view) most_open i.body t)
      (λ v s1. tree_taken move view i.place this s1))

  from_presets : (bound presets : Pairs) (s : State) → P (m move view) same s (with_new (dict (dict_of presets [])) s >>= λ this s1. body_run view i bound this s1) (with_new (dict (dict_of presets [])) (moved (m move view) s) >>= λ this s1. body_run (world move view) (moved_item move i) bound this s1)
  from_presets bound presets s =
      binds (m move view) same same s (with_new (dict (dict_of presets [])) s) (with_new (dict (dict_of presets [])) (moved (m move view) s)) (λ this s1. body_run view i bound this s1) (λ this s1. body_run (world move view) (moved_item move i) bound this s1) (cell_made move view (dict (dict_of presets [])) s) (λ this s1. bodies bound this s1)

  from_names : (bound : Pairs) (s : State) → P (m move view) same s (values_of i.presets [] s >>= λ presets s1. (with_new (dict (dict_of presets [])) s1 >>= λ this s2. body_run view i bound this s2)) (values_of i.presets [] (moved (m move view) s) >>= λ presets s1. (with_new (dict (dict_of presets [])) s1 >>= λ this s2. body_run (world move view) (moved_item move i) bound this s2))
  from_names bound s = binds (m move view) same same s (values_of i.presets [] s) (values_of i.presets [] (moved (m move view) s)) _ _ (values_made move view i.presets [] s) (λ presets s1. from_presets bound presets s1)

  start : State
  start = fresh view.store (item i.kind []) []

  runs : P (m move view) same start (item_run view i) (item_run (world move view) (moved_item move i))
  unfolding item_run start
  runs = binds (m move view) same same start (values_of i.names [] start) (values_of i.names [] (moved (m move view) start)) _ _ (values_made move view i.names [] start) (λ bound s. from_names bound s)

  -- ---- the object

  checks_by : (d : Data) (ds : List Diag) → checked_by (moved_item move i) d (map (moved_diag move) ds) ≡ moved_answer move (moved_object move) (checked_by i d ds)
  checks_by d [] = refl
  checks_by d (f ∷ fs) = refl

  checks : (a : Answer Data) → checked (moved_item move i) (moved_answer move same a) ≡ moved_answer move (moved_object move) (checked i a)
  checks (answer.made d) = ap (checked_by (moved_item move i) d) (faults_moved move i.number i.place (type_named i.kind) d) ∙ checks_by d (object_faults (record { number = i.number; place = i.place }) (type_named i.kind) d)
  checks (answer.diagnosed ds) = refl
  checks (answer.blocked r) = refl

  pub item_moved : item_answer (moved_view move view) (moved_item move i) ≡ moved_answer move (moved_object move) (item_answer view i)
  unfolding item_answer start
  item_moved =
      ap (checked (moved_item move i)) (answers move view same i.number (item_run view i) (item_run (world move view) (moved_item move i)) (comes (m move view) same start _ _ refl runs))
      ∙ checks (answered i.number (item_run view i))
