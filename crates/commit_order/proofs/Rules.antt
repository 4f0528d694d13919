-- A rule makes the same of a target whatever the numbers of both.
use Rattle.std.proofs.Common.{◌≡◌, ◌+◌, ℕ, List, [], ◌∷◌, ◌++◌, map, Bool, true, false, cond, Option, Some, None, refl, sym, ap, ◌∙◌}
use Rattle.std.proofs.lemmas.List.{map-append}
use Rattle.site_base.specs.Quoted.{quoted}
use Rattle.site_base.specs.declared.diag_kind.DiagKind.TheVariants.{BadName}
use Rattle.dsl_syntax.specs.Syntax.{Loop, loop}
use Rattle.eval_meaning.specs.Registered.{PlainItem, PlainRule, PlacedName}
use Rattle.eval_meaning.specs.Views.{View}
use Rattle.eval_meaning.specs.States.{State, gives, faults, ◌>>=◌, rule}
use Rattle.eval_meaning.specs.Registration.{is_good_name}
use Rattle.commit_meaning.specs.Answers.{answered}
use Rattle.commit_meaning.specs.Starts.{Trees, fresh, values_of, trees_at}
use Rattle.commit_meaning.specs.Names.{Target, host, service, target_names}
use Rattle.commit_meaning.specs.Conditions.{Verdict, no_verdict, judged, is_kept}
use Rattle.commit_meaning.specs.Rules.{Element, in_rule, elements_of, back_at, prefix, name_place, place_by, instance, named_instance, unless_dropped, element_judged, element_run, elements_run, first_number, rule_run, pair_number, instances}
use Rattle.commit_order.specs.Unordered.{unordered_number, unordered_item, unordered_rule, unordered_target, unordered_answer}
use Rattle.commit_order.proofs.Numbers.{given, next, then_given, answers_given}

-- ---- what is looked at of targets and rules

names_same : (t : Target) → target_names (unordered_target t) ≡ target_names t
names_same (host h) = refl
names_same (service h s) = refl

instance_unordered : (r : PlainRule) (t : Target) (k : ℕ) (n : List ℕ) (names : Trees) → instance (unordered_rule r) (unordered_target t) k n names ≡ unordered_item (instance r t k n names)
instance_unordered r (host h) k n names = refl
instance_unordered r (service h s) k n names = refl

pair_unordered : (r : PlainRule) (t : Target) → pair_number (unordered_rule r) (unordered_target t) ≡ unordered_number (pair_number r t)
pair_unordered r (host h) = refl
pair_unordered r (service h s) = refl

name_place_same : (r : PlainRule) (o : Option PlacedName) → name_place (unordered_rule r) o ≡ name_place r o
name_place_same r (Some n) = refl
name_place_same r None = refl

place_same : (r : PlainRule) (o : Option Loop) → place_by (unordered_rule r) o ≡ place_by r o
place_same r (Some (loop k o e)) = refl
place_same r None = name_place_same r r.name

module _ (view : View) (r : PlainRule) (t : Target) where
  elements_same : (names : Trees) (o : Option Loop) (s : State) → elements_of view (unordered_rule r) names o s ≡ elements_of view r names o s
  elements_same names (Some (loop k o e)) s = refl
  elements_same names None s = refl

  -- ---- one element

  named_one : (k : ℕ) (n : List ℕ) (names : Trees) (s : State) → named_instance (unordered_rule r) (unordered_target t) k n names s ≡ given (map unordered_item) (named_instance r t k n names s)
  named_one k n names s = by (is_good_name n)
    where
      by : (b : Bool) → cond b (gives (instance (unordered_rule r) (unordered_target t) k n names ∷ []) s) (faults (place_by (unordered_rule r) r.loop) BadName (quoted n) s.reads) ≡ given (map unordered_item) (cond b (gives (instance r t k n names ∷ []) s) (faults (place_by r r.loop) BadName (quoted n) s.reads))
      by true = ap (λ i. gives (i ∷ []) s) (instance_unordered r t k n names)
      by false = ap (λ l. faults l BadName (quoted n) s.reads) (place_same r r.loop)

  kept_one : (k : ℕ) (e : Element) (names : Trees) (v : Verdict) (s : State) → unless_dropped (unordered_rule r) (unordered_target t) k e names v s ≡ given (map unordered_item) (unless_dropped r t k e names v s)
  kept_one k e names v s = by (is_kept r.body v)
    where
      by : (b : Bool) → cond b (named_instance (unordered_rule r) (unordered_target t) k (prefix r.name ++ e.key) names s) (gives [] s) ≡ given (map unordered_item) (cond b (named_instance r t k (prefix r.name ++ e.key) names s) (gives [] s))
      by true = named_one k (prefix r.name ++ e.key) names s
      by false = refl

  judges_one : (k : ℕ) (e : Element) (names : Trees) (s : State) → element_judged view (unordered_rule r) (unordered_target t) k e names s ≡ given (map unordered_item) (element_judged view r t k e names s)
  judges_one k e names s =
      then_given (map unordered_item) (values_of names [] s) _ _ (λ bound s1. then_given (map unordered_item) (judged view r.body no_verdict (in_rule r.captured bound s1)) _ _ (λ v s2. kept_one k e names v s2))

  runs_one : (k : ℕ) (e : Element) (s : State) → element_run view (unordered_rule r) (unordered_target t) k e s ≡ given (map unordered_item) (element_run view r t k e s)
  runs_one k e s =
      then_given (map unordered_item) (trees_at r.place e.bound [] s) _ _
      (λ own s1. ap (λ names. element_judged view (unordered_rule r) (unordered_target t) k e (names ++ own) s1) (names_same t) ∙ judges_one k e (target_names t ++ own) s1)

  -- ---- all of them

  runs_all : (before : State) (k : ℕ) (es : List Element) (is : List PlainItem) (s : State) → elements_run view (unordered_rule r) (unordered_target t) before k es (map unordered_item is) s ≡ given (map unordered_item) (elements_run view r t before k es is s)
  runs_all before k [] is s = refl
  runs_all before k (e ∷ es) is s =
      next (map unordered_item) (map unordered_item) (element_run view r t k e (back_at before s)) (element_run view (unordered_rule r) (unordered_target t) k e (back_at before s)) _ _ (runs_one k e (back_at before s))
      (λ js s1. ap (λ all. elements_run view (unordered_rule r) (unordered_target t) before (k + 1) es all s1) (sym (map-append unordered_item is js)) ∙ runs_all before (k + 1) es (is ++ js) s1)

  runs : rule_run view (unordered_rule r) (unordered_target t) ≡ given (map unordered_item) (rule_run view r t)
  unfolding rule_run
  runs =
      ap (λ names. elements_of view (unordered_rule r) names r.loop (fresh view.store rule []) >>= λ es s. elements_run view (unordered_rule r) (unordered_target t) s (first_number r.loop) es [] s) (names_same t)
      ∙ ap (λ x. x >>= λ es s. elements_run view (unordered_rule r) (unordered_target t) s (first_number r.loop) es [] s) (elements_same (target_names t) r.loop (fresh view.store rule []))
      ∙ then_given (map unordered_item) (elements_of view r (target_names t) r.loop (fresh view.store rule [])) _ _ (λ es s. runs_all s (first_number r.loop) es [] s)

pub rule_unordered : (view : View) (r : PlainRule) (t : Target) → instances view (unordered_rule r) (unordered_target t) ≡ unordered_answer (map unordered_item) (instances view r t)
unfolding instances
rule_unordered view r t =
    ap (λ n. answered n (rule_run view (unordered_rule r) (unordered_target t))) (pair_unordered r t)
    ∙ ap (answered (unordered_number (pair_number r t))) (runs view r t)
    ∙ answers_given (map unordered_item) (pair_number r t) (rule_run view r t)
