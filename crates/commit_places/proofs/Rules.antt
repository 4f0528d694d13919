-- What a rule makes of a target at other places.
use Rattle.std.proofs.Common.{◌≡◌, ◌+◌, ℕ, List, [], ◌∷◌, ◌++◌, map, not, false, Option, Some, None, refl, sym, ap, ◌∙◌, subst}
use Rattle.std.specs.Prelude.{option_map, ◌||◌, ◌&&◌}
use Rattle.std.proofs.lemmas.List.{map-append}
use Rattle.site_base.specs.Quoted.{quoted}
use Rattle.site_base.specs.declared.place.Place.{Place}
use Rattle.site_base.specs.declared.diag_kind.DiagKind.TheVariants.{BadName}
use Rattle.dsl_syntax.specs.Syntax.{expression, Loop, loop}
use Rattle.eval_meaning.specs.Registered.{PlainItem, PlainRule, PlacedName}
use Rattle.eval_meaning.specs.Views.{View}
use Rattle.eval_meaning.specs.States.{State, gives, faults, ◌>>=◌, rule}
use Rattle.eval_meaning.specs.Registration.{is_good_name, is_load}
use Rattle.eval_meaning.specs.Evaluation.{value_of}
use Rattle.eval_meaning.specs.Load.{most_open}
use Rattle.commit_meaning.specs.Answers.{answered}
use Rattle.commit_meaning.specs.Starts.{Trees, fresh, values_of, trees_at}
use Rattle.commit_meaning.specs.Names.{Target, host, service, target_number, target_names}
use Rattle.commit_meaning.specs.Conditions.{Verdict, no_verdict, judged, is_kept}
use Rattle.commit_meaning.specs.Rules.{Element, of_value, in_rule, looped, elements_of, back_at, prefix, name_place, place_by, instance, named_instance, unless_dropped, element_judged, element_run, elements_run, first_number, rule_run, pair_number, instances}
use Rattle.place_laws.specs.MovedSyntax.{moved_expression, moved_loop, moved_statements}
use Rattle.place_laws.specs.MovedStates.{moved_item, moved_name, moved_rule, moved_view}
use Rattle.place_laws.proofs.Moving.{Moving, P, same, moved, here, stops, binds, steps, choice, choice_by, comes}
use Rattle.place_laws.proofs.Lookups.{assign_moved}
use Rattle.place_laws.proofs.Values.{wrongs}
use Rattle.place_laws.proofs.Whole.{value_at}
use Rattle.commit_places.specs.MovedAnswers.{moved_target, moved_answer}
use Rattle.commit_places.proofs.Starts.{m, world, anew, answers, values_made, trees_taken, judges}

-- ---- targets, which are looked at without their places

module _ (move : Place → Place) where
  pub number_same : (t : Target) → target_number (moved_target move t) ≡ target_number t
  number_same (host h) = refl
  number_same (service h s) = refl

  names_same : (t : Target) → target_names (moved_target move t) ≡ target_names t
  names_same (host h) = refl
  names_same (service h s) = refl

  instance_moved : (r : PlainRule) (t : Target) (k : ℕ) (n : List ℕ) (names : Trees) → instance (moved_rule move r) (moved_target move t) k n names ≡ moved_item move (instance r t k n names)
  instance_moved r (host h) k n names = refl
  instance_moved r (service h s) k n names = refl

  pair_same : (r : PlainRule) (t : Target) → pair_number (moved_rule move r) (moved_target move t) ≡ pair_number r t
  pair_same r (host h) = refl
  pair_same r (service h s) = refl

  -- ---- names

  prefix_same : (o : Option PlacedName) → prefix (option_map (moved_name move) o) ≡ prefix o
  prefix_same (Some n) = refl
  prefix_same None = refl

  name_place_moved : (r : PlainRule) (o : Option PlacedName) → name_place (moved_rule move r) (option_map (moved_name move) o) ≡ move (name_place r o)
  name_place_moved r (Some n) = refl
  name_place_moved r None = refl

  place_moved : (r : PlainRule) (o : Option Loop) → place_by (moved_rule move r) (option_map (moved_loop move) o) ≡ move (place_by r o)
  place_moved r (Some (loop k o (expression l e))) = refl
  place_moved r None = name_place_moved r r.name

  first_same : (o : Option Loop) → first_number (option_map (moved_loop move) o) ≡ first_number o
  first_same (Some x) = refl
  first_same None = refl

module _ (move : Place → Place) (view : View) (r : PlainRule) where
  abbrev c : Moving
  c = m move view

  abbrev there : PlainRule
  there = moved_rule move r

  abbrev items : List PlainItem → List PlainItem
  items is = map (moved_item move) is

  -- ---- what a `for` goes over

  loops : (names : Trees) (x : Loop) (s : State) → P c same s (looped view r names x s) (looped (world move view) there names (moved_loop move x) (moved c s))
  loops names (loop k o (expression l e)) s =
      binds c same same s (values_of names [] s) (values_of names [] (moved c s)) _ _ (values_made move view names [] s)
      (λ bound s1. let t : State = in_rule r.captured bound s1 in
      steps c same s1 t _ _ refl
      (binds c same same t (value_of view most_open (expression l e) t) (value_of (world move view) most_open (moved_expression move (expression l e)) (moved c t)) _ _ (value_at c most_open (expression l e) t)
      (λ v s2. wrongs c l (of_value s2.cells k o v) s2)))

  elements : (names : Trees) (o : Option Loop) (s : State) → P c same s (elements_of view r names o s) (elements_of (world move view) there names (option_map (moved_loop move) o) (moved c s))
  elements names (Some x) s = loops names x s
  elements names None s = here c same (record { key = []; bound = [] } ∷ []) s

  -- ---- one element

  named_one : (t : Target) (k : ℕ) (n : List ℕ) (names : Trees) (s : State) → P c items s (named_instance r t k n names s) (named_instance there (moved_target move t) k n names (moved c s))
  named_one t k n names s =
      choice c items (is_good_name n) s _ _ _ _
      (subst (λ i. P c items s (gives (instance r t k n names ∷ []) s) (gives (i ∷ []) (moved c s))) (sym (instance_moved move r t k n names)) (here c items (instance r t k n names ∷ []) s))
      (subst (λ l. P c items s (faults (place_by r r.loop) BadName (quoted n) s.reads) (faults l BadName (quoted n) s.reads)) (sym (place_moved move r r.loop)) (stops c _ items (place_by r r.loop) BadName (quoted n) s))

  kept_same : (v : Verdict) → is_kept there.body v ≡ is_kept r.body v
  kept_same v = ap (λ b. (v.assigned || not b) && not v.ignored) (assign_moved move r.body)

  kept_one : (t : Target) (k : ℕ) (e : Element) (names : Trees) (v : Verdict) (s : State) → P c items s (unless_dropped r t k e names v s) (unless_dropped there (moved_target move t) k e names v (moved c s))
  kept_one t k e names v s =
      choice_by c items (is_kept r.body v) (is_kept there.body v) s _ _ _ _ (kept_same v)
      (subst (λ p. P c items s (named_instance r t k (prefix r.name ++ e.key) names s) (named_instance there (moved_target move t) k (p ++ e.key) names (moved c s))) (sym (prefix_same move r.name)) (named_one t k (prefix r.name ++ e.key) names s))
      (here c items [] s)

  judges_one : (t : Target) (k : ℕ) (e : Element) (names : Trees) (s : State) → P c items s (element_judged view r t k e names s) (element_judged (world move view) there (moved_target move t) k e names (moved c s))
  judges_one t k e names s =
      binds c same items s (values_of names [] s) (values_of names [] (moved c s)) _ _ (values_made move view names [] s)
      (λ bound s1. let u : State = in_rule r.captured bound s1 in
      steps c items s1 u _ _ refl
      (binds c same items u (judged view r.body no_verdict u) (judged (world move view) (moved_statements move r.body) no_verdict (moved c u)) _ _ (judges move view r.body no_verdict u)
      (λ v s2. kept_one t k e names v s2)))

  runs_one : (t : Target) (k : ℕ) (e : Element) (s : State) → P c items s (element_run view r t k e s) (element_run (world move view) there (moved_target move t) k e (moved c s))
  runs_one t k e s =
      binds c same items s (trees_at r.place e.bound [] s) (trees_at (move r.place) e.bound [] (moved c s)) _ _ (trees_taken move view r.place e.bound [] s)
      (λ own s1. subst (λ names. P c items s1 (element_judged view r t k e (target_names t ++ own) s1) (element_judged (world move view) there (moved_target move t) k e (names ++ own) (moved c s1)))
      (sym (names_same move t)) (judges_one t k e (target_names t ++ own) s1))

  -- ---- all of them

  runs_all : (t : Target) (before : State) → is_load before.task ≡ false → (k : ℕ) (es : List Element) (is : List PlainItem) (s : State) → P c items s (elements_run view r t before k es is s) (elements_run (world move view) there (moved_target move t) (moved c before) k es (items is) (moved c s))
  runs_all t before h k [] is s = here c items is s
  runs_all t before h k (e ∷ es) is s =
      let u : State = back_at before s in
      anew move view items s u _ _ h
      (binds c items items u (element_run view r t k e u) (element_run (world move view) there (moved_target move t) k e (moved c u)) _ _ (runs_one t k e u)
      (λ js s1. subst (λ all. P c items s1 (elements_run view r t before (k + 1) es (is ++ js) s1) (elements_run (world move view) there (moved_target move t) (moved c before) (k + 1) es all (moved c s1)))
      (map-append (moved_item move) is js) (runs_all t before h (k + 1) es (is ++ js) s1)))

  from_elements : (t : Target) (es : List Element) (s : State) → P c items s (elements_run view r t s (first_number r.loop) es [] s) (elements_run (world move view) there (moved_target move t) (moved c s) (first_number there.loop) es [] (moved c s))
  unfolding P
  from_elements t es s = λ h. subst (λ k. P c items s (elements_run view r t s (first_number r.loop) es [] s) (elements_run (world move view) there (moved_target move t) (moved c s) k es [] (moved c s))) (sym (first_same move r.loop)) (runs_all t s h (first_number r.loop) es [] s) h

  start : State
  start = fresh view.store rule []

  runs : (t : Target) → P c items start (rule_run view r t) (rule_run (world move view) there (moved_target move t))
  unfolding rule_run start
  runs t =
      subst (λ names. P c items start (rule_run view r t) (elements_of (world move view) there names there.loop (moved c start) >>= λ es s. elements_run (world move view) there (moved_target move t) s (first_number there.loop) es [] s))
      (sym (names_same move t))
      (binds c same items start (elements_of view r (target_names t) r.loop start) (elements_of (world move view) there (target_names t) there.loop (moved c start)) _ _ (elements (target_names t) r.loop start) (λ es s. from_elements t es s))

  pub rule_moved : (t : Target) → instances (moved_view move view) there (moved_target move t) ≡ moved_answer move items (instances view r t)
  unfolding instances start
  rule_moved t =
      ap (λ n. answered n (rule_run (world move view) there (moved_target move t))) (pair_same move r t)
      ∙ answers move view items (pair_number r t) (rule_run view r t) (rule_run (world move view) there (moved_target move t)) (comes c items start _ _ refl (runs t))
