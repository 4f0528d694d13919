-- Items and objects of a wave are of types of this wave, and an object has the number of its item.
use Rattle.std.proofs.Common.{◌≡◌, ◌+◌, ℕ, List, [], ◌∷◌, ◌++◌, filter, cond, Bool, true, false, refl, ap, ◌∙◌}
use Rattle.std.specs.List.{flat_map, AllByRecursion}
use Rattle.site_base.specs.Data.{Data}
use Rattle.site_base.specs.Quoted.{quoted}
use Rattle.site_base.specs.declared.diag.Diag.{Diag}
use Rattle.site_base.specs.declared.diag_kind.DiagKind.TheVariants.{BadName}
use Rattle.site_model.specs.PlainSite.{PlainObject}
use Rattle.eval_meaning.specs.Registered.{PlainItem, PlainRule}
use Rattle.eval_meaning.specs.Views.{View}
use Rattle.eval_meaning.specs.States.{State, Outcome, gives, faults, blocked, ◌>>=◌, rule}
use Rattle.eval_meaning.specs.Registration.{is_good_name}
use Rattle.eval_meaning.specs.Load.{Loaded}
use Rattle.commit_meaning.specs.Answers as answer
use Rattle.commit_meaning.specs.Answers.{Answer, made_in, all_made, answered}
use Rattle.commit_meaning.specs.Starts.{Trees, fresh, values_of, trees_at}
use Rattle.commit_meaning.specs.Names.{Target, target_names}
use Rattle.commit_meaning.specs.Items.{item_run, checked, checked_by, item_answer}
use Rattle.commit_meaning.specs.Conditions.{Verdict, no_verdict, judged, is_kept}
use Rattle.commit_meaning.specs.Rules.{Element, in_rule, back_at, place_by, instance, named_instance, unless_dropped, element_judged, element_run, elements_run, elements_of, prefix, first_number, rule_run, pair_number, instances}
use Rattle.commit_meaning.specs.Worlds.{World, targets}
use Rattle.commit_meaning.specs.Waves.{view_before, is_in_wave, rule_answers, wave_answers, item_number, wave_items}
use Rattle.commit_meaning.proofs.Lists.{all_of_each, all_imp, all_append, all_filter, all_map, all_flat}
use Rattle.commit_meaning.proofs.Sorting.{all_by_number}

-- ---- what an evaluation gives, if it gives anything

abbrev pub Gives : {A : Type 0} → (A → Type 0) → Outcome A → Type 0
Gives P (gives a s) = P a
Gives P (faults l k t rs) = Unit {0}
Gives P (blocked r rs) = Unit {0}

gives_bind : {A B : Type 0} (P : A → Type 0) (Q : B → Type 0) (x : Outcome A) (f : A → State → Outcome B) → Gives P x → ((a : A) (s : State) → P a → Gives Q (f a s)) → Gives Q (x >>= f)
gives_bind P Q (gives a s) f h k = k a s h
gives_bind P Q (faults l j t rs) f h k = tt
gives_bind P Q (blocked r rs) f h k = tt

any_bind : {A B : Type 0} (Q : B → Type 0) (x : Outcome A) (f : A → State → Outcome B) → ((a : A) (s : State) → Gives Q (f a s)) → Gives Q (x >>= f)
any_bind Q (gives a s) f k = k a s
any_bind Q (faults l j t rs) f k = tt
any_bind Q (blocked r rs) f k = tt

-- ---- the items of a rule are of its type and have what it captured

abbrev pub IsOfRule : PlainRule → PlainItem → Type 0
IsOfRule r i = (i.kind ≡ r.kind) × (i.captured ≡ r.captured)

abbrev pub AreOf : PlainRule → List PlainItem → Type 0
AreOf r = AllByRecursion (IsOfRule r)

named_of : (r : PlainRule) (t : Target) (k : ℕ) (name : List ℕ) (names : Trees) (s : State) → Gives (AreOf r) (named_instance r t k name names s)
named_of r t k name names s = by (is_good_name name)
  where
    by : (b : Bool) → Gives (AreOf r) (cond b (gives (instance r t k name names ∷ []) s) (faults (place_by r r.loop) BadName (quoted name) s.reads))
    by true = ((refl, refl), tt)
    by false = tt

kept_of : (r : PlainRule) (t : Target) (k : ℕ) (e : Element) (names : Trees) (v : Verdict) (s : State) → Gives (AreOf r) (unless_dropped r t k e names v s)
kept_of r t k e names v s = by (is_kept r.body v)
  where
    by : (b : Bool) → Gives (AreOf r) (cond b (named_instance r t k (prefix r.name ++ e.key) names s) (gives [] s))
    by true = named_of r t k (prefix r.name ++ e.key) names s
    by false = tt

module _ (view : View) (r : PlainRule) (t : Target) where
  judged_of : (k : ℕ) (e : Element) (names : Trees) (s : State) → Gives (AreOf r) (element_judged view r t k e names s)
  judged_of k e names s = any_bind (AreOf r) (values_of names [] s) _ (λ bound s1. any_bind (AreOf r) (judged view r.body no_verdict (in_rule r.captured bound s1)) _ (λ v s2. kept_of r t k e names v s2))

  element_of : (k : ℕ) (e : Element) (s : State) → Gives (AreOf r) (element_run view r t k e s)
  element_of k e s = any_bind (AreOf r) (trees_at r.place e.bound [] s) _ (λ own s1. judged_of k e (target_names t ++ own) s1)

  elements_are_of : (before : State) (k : ℕ) (es : List Element) (is : List PlainItem) (s : State) → AreOf r is → Gives (AreOf r) (elements_run view r t before k es is s)
  elements_are_of before k [] is s h = h
  elements_are_of before k (e ∷ es) is s h =
      gives_bind (AreOf r) (AreOf r) (element_run view r t k e (back_at before s)) _ (element_of k e (back_at before s)) (λ js s1 q. elements_are_of before (k + 1) es (is ++ js) s1 (all_append (IsOfRule r) is js h q))

  run_of : Gives (AreOf r) (rule_run view r t)
  unfolding rule_run
  run_of = any_bind (AreOf r) (elements_of view r (target_names t) r.loop (fresh view.store rule [])) _ (λ es s. elements_are_of s (first_number r.loop) es [] s tt)

  pub instances_of : AreOf r (all_made (instances view r t))
  unfolding instances
  instances_of = by (rule_run view r t) run_of
    where
      by : (x : Outcome (List PlainItem)) → Gives (AreOf r) x → AreOf r (all_made (answered (pair_number r t) x))
      by (gives is s) h = h
      by (faults l k x rs) h = tt
      by (blocked q rs) h = tt

-- ---- the items of a wave are of its types

module _ (load : Loaded) (before : World) (w : ℕ) where
  abbrev pub IsOfWave : PlainItem → Type 0
  IsOfWave i = is_in_wave w i.kind ≡ true

  abbrev AnswersWave : Answer (List PlainItem) → Type 0
  AnswersWave a = AllByRecursion IsOfWave (all_made a)

  rule_items : (r : PlainRule) → is_in_wave w r.kind ≡ true → AllByRecursion AnswersWave (rule_answers load before r)
  rule_items r e =
      all_map (instances (view_before load before) r) (λ t. Unit {0}) AnswersWave (λ t u. all_imp (IsOfRule r) IsOfWave (λ i q. ap (is_in_wave w) q.0 ∙ e) (all_made (instances (view_before load before) r t)) (instances_of (view_before load before) r t)) (targets r.target before.objects) (all_of_each (λ t. Unit {0}) (λ t. tt) (targets r.target before.objects))

  answers_of : AllByRecursion AnswersWave (wave_answers load before w)
  answers_of = all_flat (rule_answers load before) (λ r. is_in_wave w r.kind ≡ true) AnswersWave rule_items (filter (λ r. is_in_wave w r.kind) load.rules) (all_filter (λ r. is_in_wave w r.kind) load.rules)

  pub items_of_wave : AllByRecursion IsOfWave (wave_items load before w)
  unfolding wave_items
  items_of_wave =
      all_by_number item_number IsOfWave (filter (λ i. is_in_wave w i.kind) load.items ++ flat_map all_made (wave_answers load before w))
      (all_append IsOfWave (filter (λ i. is_in_wave w i.kind) load.items) (flat_map all_made (wave_answers load before w)) (all_filter (λ i. is_in_wave w i.kind) load.items) (all_flat all_made AnswersWave IsOfWave (λ a h. h) (wave_answers load before w) answers_of))

-- ---- an object is of its item's type and has its number

pub record IsOf (i : PlainItem) (o : PlainObject) : Type 0 where
  pub kind : o.kind ≡ i.kind
  pub number : o.number ≡ i.number

pub made_of : (view : View) (i : PlainItem) → AllByRecursion (IsOf i) (made_in (item_answer view i))
unfolding item_answer
made_of view i = by (answered i.number (item_run view i))
  where
    by_faults : (d : Data) (fs : List Diag) → AllByRecursion (IsOf i) (made_in (checked_by i d fs))
    by_faults d [] = (record { kind = refl; number = refl }, tt)
    by_faults d (f ∷ fs) = tt

    by : (a : Answer Data) → AllByRecursion (IsOf i) (made_in (checked i a))
    by (answer.made d) = by_faults d _
    by (answer.diagnosed ds) = tt
    by (answer.blocked r) = tt
