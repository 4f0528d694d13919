-- Over a world no item, no rule and no group is blocked.
use Rattle.std.proofs.Common.{◌+◌, ℕ, List, [], ◌∷◌, ◌++◌, Bool, true, false, cond, Option, Some, None, Result, Ok, Err}
use Rattle.site_base.specs.Data.{Data}
use Rattle.site_base.specs.Quoted.{quoted}
use Rattle.site_base.specs.declared.place.Place.{Place}
use Rattle.site_base.specs.declared.item_no.ItemNo.{ItemNo}
use Rattle.site_model.specs.PlainSite.{PlainObject}
use Rattle.site_base.specs.declared.diag_kind.DiagKind.TheVariants.{BadName}
use Rattle.object_types.specs.Names.{type_named}
use Rattle.object_types.specs.declared.attribute.Attribute.TheVariants as attribute
use Rattle.object_types.specs.declared.object_type.ObjectType.{ObjectType}
use Rattle.object_types.specs.declared.object_type.ObjectType.TheVariants as object
use Rattle.dsl_syntax.specs.Syntax.{Expression, Loop, loop, statement, assign, ignore, Statements, no_statements, more_statements}
use Rattle.dsl_value.specs.Pairs.{Pairs, dict_of}
use Rattle.dsl_value.specs.Contents.{dict}
use Rattle.dsl_value.specs.Walks.{tree_walked}
use Rattle.dsl_value.specs.declared.tree_fault.TreeFault.{TreeFault}
use Rattle.dsl_value.specs.declared.value.Value.{Value}
use Rattle.eval_meaning.specs.Registered.{PlainItem, PlainRule}
use Rattle.eval_meaning.specs.Registration.{is_good_name}
use Rattle.eval_meaning.specs.Views.{View, Sight, shown, absent, undecided, sight, host, IsDecided, IsWorld}
use Rattle.eval_meaning.specs.States.{State, Outcome, gives, faults, blocked, ◌>>=◌, item, rule, with_new}
use Rattle.eval_meaning.specs.Parts.{place_of}
use Rattle.eval_meaning.specs.Members.{or_wrong}
use Rattle.eval_meaning.specs.Flow.{truth_with}
use Rattle.eval_meaning.specs.Objects.{with_tree}
use Rattle.eval_meaning.specs.Follows.{IsOpen}
use Rattle.eval_meaning.specs.Evaluation.{evaluated, value_of, body_of}
use Rattle.eval_meaning.specs.Load.{most_open}
use Rattle.eval_meaning.specs.declared.read.Read.{Read}
use Rattle.eval_meaning.proofs.Open.{value_open, body_open}
use Rattle.commit_meaning.specs.Starts.{Trees, fresh, values_of, tree_by, tree_at, trees_at}
use Rattle.commit_meaning.specs.Names.{Target, target_names, text_of}
use Rattle.commit_meaning.specs.Items.{in_body, body_run, item_run}
use Rattle.commit_meaning.specs.Conditions.{Verdict, no_verdict, judged, is_kept}
use Rattle.commit_meaning.specs.Rules.{Element, of_value, in_rule, back_at, looped, elements_of, prefix, place_by, instance, named_instance, unless_dropped, element_judged, element_run, elements_run, first_number, rule_run}
use Rattle.commit_meaning.specs.Groups.{host_seen, service_seen, member_names, Taken, none_taken, group_run, caught, groups_run, groups_by, member_run}

-- ---- one evaluation after another

pub open_bind : {A B : Type 0} (x : Outcome A) (f : A → State → Outcome B) → IsOpen x → ((a : A) (s : State) → IsOpen (f a s)) → IsOpen (x >>= f)
open_bind (gives a s) f h k = k a s
open_bind (faults l j t rs) f h k = tt
open_bind (blocked r rs) f h k = absurd h

wrong_open : {A : Type 0} (l : Place) (o : Option A) (s : State) → IsOpen (or_wrong l o s)
wrong_open l None s = tt
wrong_open l (Some a) s = tt

-- ---- trees and values

values_open : (ts : Trees) (ps : Pairs) (s : State) → IsOpen (values_of ts ps s)
values_open [] ps s = tt
values_open (t ∷ ts) ps s = open_bind (with_tree t.1 s) (λ v s1. values_of ts (ps ++ (t.0, v) ∷ []) s1) tt (λ v s1. values_open ts (ps ++ (t.0, v) ∷ []) s1)

tree_open : (l : Place) (v : Value) (s : State) → IsOpen (tree_at l v s)
unfolding tree_at
tree_open l v s = by (tree_walked s.cells v)
  where
    by : (x : Result Data TreeFault) → IsOpen (tree_by l x s)
    by (Ok d) = tt
    by (Err e) = tt

trees_open : (l : Place) (ps : Pairs) (ts : Trees) (s : State) → IsOpen (trees_at l ps ts s)
trees_open l [] ts s = tt
trees_open l (p ∷ ps) ts s = open_bind (tree_at l p.1 s) (λ d s1. trees_at l ps (ts ++ (p.0, d) ∷ []) s1) (tree_open l p.1 s) (λ d s1. trees_open l ps (ts ++ (p.0, d) ∷ []) s1)

module _ (view : View) (whole : IsWorld view) where
  -- ---- items

  body_is_open : (i : PlainItem) (bound : Pairs) (this : Value) (s : State) → IsOpen (body_run view i bound this s)
  body_is_open i bound this s = open_bind (body_of view most_open i.body (in_body i bound this s)) (λ _ s1. tree_at i.place this s1) (body_open view whole most_open i.body (in_body i bound this s)) (λ _ s1. tree_open i.place this s1)

  pub item_open : (i : PlainItem) → IsOpen (item_run view i)
  unfolding item_run
  item_open i =
      open_bind (values_of i.names [] (fresh view.store (item i.kind []) [])) _ (values_open i.names [] (fresh view.store (item i.kind []) []))
      (λ bound s. open_bind (values_of i.presets [] s) _ (values_open i.presets [] s)
      (λ presets s1. open_bind (with_new (dict (dict_of presets [])) s1) _ tt (λ this s2. body_is_open i bound this s2)))

  -- ---- conditions

  truth_open : (e : Expression) (s : State) → IsOpen (truth_with (evaluated view most_open) e s)
  truth_open e s = open_bind (value_of view most_open e s) _ (value_open view whole most_open e s) (λ v s1. tt)

  judged_open : (b : Statements) (v : Verdict) (s : State) → IsOpen (judged view b v s)
  judged_open no_statements v s = tt
  judged_open (more_statements (statement l (assign e)) xs) v s = open_bind (truth_with (evaluated view most_open) e s) _ (truth_open e s) (λ t s1. judged_open xs _ s1)
  judged_open (more_statements (statement l (ignore e)) xs) v s = open_bind (truth_with (evaluated view most_open) e s) _ (truth_open e s) (λ t s1. judged_open xs _ s1)
  judged_open (more_statements x xs) v s = judged_open xs v s

  -- ---- rules

  looped_open : (r : PlainRule) (names : Trees) (x : Loop) (s : State) → IsOpen (looped view r names x s)
  looped_open r names (loop k o e) s =
      open_bind (values_of names [] s) _ (values_open names [] s)
      (λ bound s1. open_bind (value_of view most_open e (in_rule r.captured bound s1)) _ (value_open view whole most_open e (in_rule r.captured bound s1)) (λ v s2. wrong_open (place_of e) (of_value s2.cells k o v) s2))

  elements_open : (r : PlainRule) (names : Trees) (o : Option Loop) (s : State) → IsOpen (elements_of view r names o s)
  elements_open r names (Some x) s = looped_open r names x s
  elements_open r names None s = tt

  named_open : (r : PlainRule) (t : Target) (k : ℕ) (name : List ℕ) (names : Trees) (s : State) → IsOpen (named_instance r t k name names s)
  named_open r t k name names s = by (is_good_name name)
    where
      by : (b : Bool) → IsOpen (cond b (gives (instance r t k name names ∷ []) s) (faults (place_by r r.loop) BadName (quoted name) s.reads))
      by true = tt
      by false = tt

  kept_open : (r : PlainRule) (t : Target) (k : ℕ) (e : Element) (names : Trees) (v : Verdict) (s : State) → IsOpen (unless_dropped r t k e names v s)
  kept_open r t k e names v s = by (is_kept r.body v)
    where
      by : (b : Bool) → IsOpen (cond b (named_instance r t k (prefix r.name ++ e.key) names s) (gives [] s))
      by true = named_open r t k (prefix r.name ++ e.key) names s
      by false = tt

  judged_element_open : (r : PlainRule) (t : Target) (k : ℕ) (e : Element) (names : Trees) (s : State) → IsOpen (element_judged view r t k e names s)
  judged_element_open r t k e names s =
      open_bind (values_of names [] s) _ (values_open names [] s)
      (λ bound s1. open_bind (judged view r.body no_verdict (in_rule r.captured bound s1)) _ (judged_open r.body no_verdict (in_rule r.captured bound s1)) (λ v s2. kept_open r t k e names v s2))

  element_open : (r : PlainRule) (t : Target) (k : ℕ) (e : Element) (s : State) → IsOpen (element_run view r t k e s)
  element_open r t k e s = open_bind (trees_at r.place e.bound [] s) _ (trees_open r.place e.bound [] s) (λ own s1. judged_element_open r t k e (target_names t ++ own) s1)

  elements_run_open : (r : PlainRule) (t : Target) (before : State) (k : ℕ) (es : List Element) (is : List PlainItem) (s : State) → IsOpen (elements_run view r t before k es is s)
  elements_run_open r t before k [] is s = tt
  elements_run_open r t before k (e ∷ es) is s = open_bind (element_run view r t k e (back_at before s)) _ (element_open r t k e (back_at before s)) (λ js s1. elements_run_open r t before (k + 1) es (is ++ js) s1)

  pub rule_open : (r : PlainRule) (t : Target) → IsOpen (rule_run view r t)
  unfolding rule_run
  rule_open r t =
      open_bind (elements_of view r (target_names t) r.loop (fresh view.store rule [])) _ (elements_open r (target_names t) r.loop (fresh view.store rule [])) (λ es s. elements_run_open r t s (first_number r.loop) es [] s)

  -- ---- groups

  host_open : (r : Read) (o : Sight) (s : State) → IsDecided o → IsOpen (host_seen r o s)
  host_open r (shown d) s h = tt
  host_open r absent s h = tt
  host_open r undecided s h = absurd h

  service_open : (d : Data) (n : List ℕ) (s : State) → IsOpen (service_seen view d (host n) s)
  service_open d n s = open_bind (host_seen (host n) (sight view (host n)) s) _ (host_open (host n) (sight view (host n)) s (whole.hosts n)) (λ o s1. tt)

  names_open : (o : Option ObjectType) (d : Data) (s : State) → IsOpen (member_names view o d s)
  names_open (Some object.Host) d s = tt
  names_open (Some object.User) d s = tt
  names_open (Some object.Service) d s = service_open d (text_of d attribute.HostName) s
  names_open o d s = tt

  group_open : (names : Trees) (g : PlainItem) (s : State) → IsOpen (group_run view names g s)
  group_open names g s = open_bind (values_of names [] s) _ (values_open names [] s) (λ bound s1. judged_open g.body no_verdict (in_rule g.captured bound s1))

  caught_open : (n : ItemNo) (g : PlainItem) (t : Taken) (x : Outcome Verdict) → IsOpen x → IsOpen (caught view n g t x)
  caught_open n g t (gives v s) h = tt
  caught_open n g t (faults l k x rs) h = tt
  caught_open n g t (blocked r rs) h = absurd h

  groups_open : (n : ItemNo) (names : Trees) (gs : List PlainItem) (t : Taken) (s : State) → IsOpen (groups_run view n names gs t s)
  groups_open n names [] t s = tt
  groups_open n names (g ∷ gs) t s = open_bind (caught view n g t (group_run view names g s)) _ (caught_open n g t (group_run view names g s) (group_open names g s)) (λ t1 s1. groups_open n names gs t1 s1)

  by_open : (n : ItemNo) (gs : List PlainItem) (o : Option Trees) (s : State) → IsOpen (groups_by view n gs o s)
  by_open n gs (Some names) s = groups_open n names gs none_taken s
  by_open n gs None s = tt

  pub member_open : (gs : List PlainItem) (o : PlainObject) → IsOpen (member_run view gs o)
  unfolding member_run
  member_open gs o = open_bind (member_names view (type_named o.kind) o.tree (fresh view.store rule [])) _ (names_open (type_named o.kind) o.tree (fresh view.store rule [])) (λ names s. by_open o.number gs names s)
