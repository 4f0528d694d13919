-- What is answered over a view is answered over each view of which it is part.
use Rattle.std.proofs.Common.{◌≡◌, ◌+◌, ℕ, List, [], ◌∷◌, ◌++◌, Option, Some, None, refl, sym, ap, ◌∙◌, subst}
use Rattle.site_base.specs.Data.{Data}
use Rattle.site_base.specs.declared.item_no.ItemNo.{ItemNo}
use Rattle.site_model.specs.PlainSite.{PlainObject}
use Rattle.object_types.specs.Names.{type_named}
use Rattle.object_types.specs.declared.attribute.Attribute.TheVariants as attribute
use Rattle.object_types.specs.declared.object_type.ObjectType.{ObjectType}
use Rattle.object_types.specs.declared.object_type.ObjectType.TheVariants as object
use Rattle.dsl_syntax.specs.Syntax.{Expression, Loop, loop, statement, assign, ignore, Statements, no_statements, more_statements}
use Rattle.dsl_value.specs.Pairs.{Pairs, dict_of}
use Rattle.dsl_value.specs.Contents.{dict}
use Rattle.dsl_value.specs.declared.value.Value.{Value}
use Rattle.eval_meaning.specs.Registered.{PlainItem, PlainRule}
use Rattle.eval_meaning.specs.Views.{View, Sight, shown, absent, undecided, sight, IsPart}
use Rattle.eval_meaning.specs.States.{State, Outcome, gives, faults, blocked, ◌>>=◌, item, rule, with_new}
use Rattle.eval_meaning.specs.Parts.{place_of}
use Rattle.eval_meaning.specs.Members.{or_wrong}
use Rattle.eval_meaning.specs.Flow.{truth_with}
use Rattle.eval_meaning.specs.Views.{host}
use Rattle.eval_meaning.specs.Evaluation.{evaluated, value_of, body_of}
use Rattle.eval_meaning.specs.Load.{most_open}
use Rattle.eval_meaning.specs.declared.read.Read.{Read}
use Rattle.commit_meaning.specs.Answers as answer
use Rattle.commit_meaning.specs.Answers.{Answer, diag, answered}
use Rattle.commit_meaning.specs.Starts.{Trees, fresh, values_of, tree_at, trees_at}
use Rattle.commit_meaning.specs.Names.{Target, target_names, text_of}
use Rattle.commit_meaning.specs.Items.{in_body, body_run, item_run, checked, item_answer}
use Rattle.commit_meaning.specs.Conditions.{Verdict, no_verdict, judged}
use Rattle.commit_meaning.specs.Rules.{Element, of_value, in_rule, back_at, looped, elements_of, unless_dropped, element_judged, element_run, elements_run, first_number, rule_run, pair_number, instances}
use Rattle.commit_meaning.specs.Groups.{host_seen, service_seen, member_names, Taken, none_taken, taken_by, group_run, caught, groups_run, groups_by, member_run, settled, group_members}
use Rattle.commit_meaning.specs.Staying.{Stays, AnswersStay, Remains, EvaluationsRemain}
use Rattle.commit_meaning.proofs.ViewOutcomes.{remains_itself, remains_bind, remains_after}
use Rattle.commit_meaning.proofs.ViewRule.{evaluations_remain}

-- ---- answers

stays_itself : {A : Type 0} (a : Answer A) → Stays a a
stays_itself (answer.made a) = refl
stays_itself (answer.diagnosed ds) = refl
stays_itself (answer.blocked r) = tt

answered_stays : {A : Type 0} (n : ItemNo) (x y : Outcome A) → Remains x y → Stays (answered n x) (answered n y)
answered_stays n (gives a s) y h = ap (answered n) h
answered_stays n (faults l k t rs) y h = ap (answered n) h
answered_stays n (blocked r rs) y h = tt

checked_stays : (i : PlainItem) (a b : Answer Data) → Stays a b → Stays (checked i a) (checked i b)
checked_stays i (answer.made d) b h = subst (λ z. Stays (checked i (answer.made d)) (checked i z)) (sym h) (stays_itself (checked i (answer.made d)))
checked_stays i (answer.diagnosed ds) b h = ap (checked i) h
checked_stays i (answer.blocked r) b h = tt

settled_stays : (a b : Answer Taken) → Stays a b → Stays (settled a) (settled b)
settled_stays (answer.made t) b h = subst (λ z. Stays (settled (answer.made t)) (settled z)) (sym h) (stays_itself (settled (answer.made t)))
settled_stays (answer.diagnosed ds) b h = ap settled h
settled_stays (answer.blocked r) b h = tt

module _ (view world : View) (part : IsPart view world) (remain : EvaluationsRemain view world) where
  -- ---- items

  body_remains : (i : PlainItem) (bound : Pairs) (this : Value) (s : State) → Remains (body_run view i bound this s) (body_run world i bound this s)
  body_remains i bound this s = remains_bind (body_of view most_open i.body (in_body i bound this s)) (body_of world most_open i.body (in_body i bound this s)) _ _ (remain.body i.body (in_body i bound this s)) (λ v s1. remains_itself (tree_at i.place this s1))

  from_values : (i : PlainItem) (bound : Pairs) (s : State) → Remains (values_of i.presets [] s >>= λ presets s1. (with_new (dict (dict_of presets [])) s1 >>= λ this s2. body_run view i bound this s2)) (values_of i.presets [] s >>= λ presets s1. (with_new (dict (dict_of presets [])) s1 >>= λ this s2. body_run world i bound this s2))
  from_values i bound s = remains_after (values_of i.presets [] s) _ _ (λ presets s1. remains_after (with_new (dict (dict_of presets [])) s1) _ _ (λ this s2. body_remains i bound this s2))

  item_remains : (i : PlainItem) → Remains (item_run view i) (item_run world i)
  unfolding item_run
  item_remains i =
      subst (λ st. Remains (item_run view i) (values_of i.names [] (fresh st (item i.kind []) []) >>= λ bound s. (values_of i.presets [] s >>= λ presets s1. (with_new (dict (dict_of presets [])) s1 >>= λ this s2. body_run world i bound this s2)))) part.store
      (remains_after (values_of i.names [] (fresh view.store (item i.kind []) [])) _ _ (λ bound s. from_values i bound s))

  item_stays : (i : PlainItem) → Stays (item_answer view i) (item_answer world i)
  unfolding item_answer
  item_stays i = checked_stays i (answered i.number (item_run view i)) (answered i.number (item_run world i)) (answered_stays i.number (item_run view i) (item_run world i) (item_remains i))

  -- ---- conditions

  truth_remains : (e : Expression) (s : State) → Remains (truth_with (evaluated view most_open) e s) (truth_with (evaluated world most_open) e s)
  truth_remains e s = remains_bind (value_of view most_open e s) (value_of world most_open e s) _ _ (remain.value e s) (λ v s1. refl)

  judged_remains : (b : Statements) (v : Verdict) (s : State) → Remains (judged view b v s) (judged world b v s)
  judged_remains no_statements v s = refl
  judged_remains (more_statements (statement l (assign e)) xs) v s = remains_bind (truth_with (evaluated view most_open) e s) (truth_with (evaluated world most_open) e s) _ _ (truth_remains e s) (λ t s1. judged_remains xs _ s1)
  judged_remains (more_statements (statement l (ignore e)) xs) v s = remains_bind (truth_with (evaluated view most_open) e s) (truth_with (evaluated world most_open) e s) _ _ (truth_remains e s) (λ t s1. judged_remains xs _ s1)
  judged_remains (more_statements x xs) v s = judged_remains xs v s

  -- ---- rules

  looped_remains : (r : PlainRule) (names : Trees) (x : Loop) (s : State) → Remains (looped view r names x s) (looped world r names x s)
  looped_remains r names (loop k o e) s =
      remains_after (values_of names [] s) _ _ (λ bound s1. remains_bind (value_of view most_open e (in_rule r.captured bound s1)) (value_of world most_open e (in_rule r.captured bound s1)) _ _ (remain.value e (in_rule r.captured bound s1)) (λ v s2. remains_itself (or_wrong (place_of e) (of_value s2.cells k o v) s2)))

  elements_remain : (r : PlainRule) (names : Trees) (o : Option Loop) (s : State) → Remains (elements_of view r names o s) (elements_of world r names o s)
  elements_remain r names (Some x) s = looped_remains r names x s
  elements_remain r names None s = refl

  judged_element_remains : (r : PlainRule) (t : Target) (k : ℕ) (e : Element) (names : Trees) (s : State) → Remains (element_judged view r t k e names s) (element_judged world r t k e names s)
  judged_element_remains r t k e names s =
      remains_after (values_of names [] s) _ _ (λ bound s1. remains_bind (judged view r.body no_verdict (in_rule r.captured bound s1)) (judged world r.body no_verdict (in_rule r.captured bound s1)) _ _ (judged_remains r.body no_verdict (in_rule r.captured bound s1)) (λ v s2. remains_itself (unless_dropped r t k e names v s2)))

  element_remains : (r : PlainRule) (t : Target) (k : ℕ) (e : Element) (s : State) → Remains (element_run view r t k e s) (element_run world r t k e s)
  element_remains r t k e s = remains_after (trees_at r.place e.bound [] s) _ _ (λ own s1. judged_element_remains r t k e (target_names t ++ own) s1)

  elements_run_remain : (r : PlainRule) (t : Target) (before : State) (k : ℕ) (es : List Element) (is : List PlainItem) (s : State) → Remains (elements_run view r t before k es is s) (elements_run world r t before k es is s)
  elements_run_remain r t before k [] is s = refl
  elements_run_remain r t before k (e ∷ es) is s =
      remains_bind (element_run view r t k e (back_at before s)) (element_run world r t k e (back_at before s)) _ _ (element_remains r t k e (back_at before s)) (λ js s1. elements_run_remain r t before (k + 1) es (is ++ js) s1)

  rule_remains : (r : PlainRule) (t : Target) → Remains (rule_run view r t) (rule_run world r t)
  unfolding rule_run
  rule_remains r t =
      subst (λ st. Remains (rule_run view r t) (elements_of world r (target_names t) r.loop (fresh st rule []) >>= λ es s. elements_run world r t s (first_number r.loop) es [] s)) part.store
      (remains_bind (elements_of view r (target_names t) r.loop (fresh view.store rule [])) (elements_of world r (target_names t) r.loop (fresh view.store rule [])) _ _ (elements_remain r (target_names t) r.loop (fresh view.store rule [])) (λ es s. elements_run_remain r t s (first_number r.loop) es [] s))

  rule_stays : (r : PlainRule) (t : Target) → Stays (instances view r t) (instances world r t)
  unfolding instances
  rule_stays r t = answered_stays (pair_number r t) (rule_run view r t) (rule_run world r t) (rule_remains r t)

  -- ---- groups

  host_remains : (r : Read) (s : State) (o : Sight) → sight view r ≡ o → Remains (host_seen r o s) (host_seen r (sight world r) s)
  host_remains r s (shown d) e = ap (λ o. host_seen r o s) (part.shows r d e)
  host_remains r s absent e = ap (λ o. host_seen r o s) (part.lacks r e)
  host_remains r s undecided e = tt

  service_remains : (d : Data) (r : Read) (s : State) → Remains (service_seen view d r s) (service_seen world d r s)
  service_remains d r s = remains_bind (host_seen r (sight view r) s) (host_seen r (sight world r) s) _ _ (host_remains r s (sight view r) refl) (λ o s1. refl)

  names_remain : (o : Option ObjectType) (d : Data) (s : State) → Remains (member_names view o d s) (member_names world o d s)
  names_remain (Some object.Host) d s = refl
  names_remain (Some object.User) d s = refl
  names_remain (Some object.Service) d s = service_remains d (host (text_of d attribute.HostName)) s
  names_remain o d s = refl

  group_remains : (names : Trees) (g : PlainItem) (s : State) → Remains (group_run view names g s) (group_run world names g s)
  group_remains names g s = remains_after (values_of names [] s) _ _ (λ bound s1. judged_remains g.body no_verdict (in_rule g.captured bound s1))

  caught_remains : (n : ItemNo) (g : PlainItem) (t : Taken) (x y : Outcome Verdict) → Remains x y → Remains (caught view n g t x) (caught world n g t y)
  caught_remains n g t (gives v s) y h = ap (caught world n g t) h ∙ ap (λ st. gives (taken_by g.name v t) (fresh st rule s.reads)) (sym part.store)
  caught_remains n g t (faults l k x rs) y h = ap (caught world n g t) h ∙ ap (λ st. gives (record t { diags = t.diags ++ diag n l k x ∷ [] }) (fresh st rule rs)) (sym part.store)
  caught_remains n g t (blocked r rs) y h = tt

  groups_remain : (n : ItemNo) (names : Trees) (gs : List PlainItem) (t : Taken) (s : State) → Remains (groups_run view n names gs t s) (groups_run world n names gs t s)
  groups_remain n names [] t s = refl
  groups_remain n names (g ∷ gs) t s =
      remains_bind (caught view n g t (group_run view names g s)) (caught world n g t (group_run world names g s)) _ _ (caught_remains n g t (group_run view names g s) (group_run world names g s) (group_remains names g s)) (λ t1 s1. groups_remain n names gs t1 s1)

  by_remains : (n : ItemNo) (gs : List PlainItem) (o : Option Trees) (s : State) → Remains (groups_by view n gs o s) (groups_by world n gs o s)
  by_remains n gs (Some names) s = groups_remain n names gs none_taken s
  by_remains n gs None s = refl

  member_remains : (gs : List PlainItem) (o : PlainObject) → Remains (member_run view gs o) (member_run world gs o)
  unfolding member_run
  member_remains gs o =
      subst (λ st. Remains (member_run view gs o) (member_names world (type_named o.kind) o.tree (fresh st rule []) >>= λ names s. groups_by world o.number gs names s)) part.store
      (remains_bind (member_names view (type_named o.kind) o.tree (fresh view.store rule [])) (member_names world (type_named o.kind) o.tree (fresh view.store rule [])) _ _ (names_remain (type_named o.kind) o.tree (fresh view.store rule [])) (λ names s. by_remains o.number gs names s))

  member_stays : (gs : List PlainItem) (o : PlainObject) → Stays (group_members view gs o) (group_members world gs o)
  unfolding group_members
  member_stays gs o = settled_stays (answered o.number (member_run view gs o)) (answered o.number (member_run world gs o)) (answered_stays o.number (member_run view gs o) (member_run world gs o) (member_remains gs o))

  all_stay : AnswersStay view world
  all_stay = record { items = item_stays; rules = rule_stays; members = member_stays }

pub answers_stay : (view world : View) → IsPart view world → AnswersStay view world
answers_stay view world part = all_stay view world part (evaluations_remain view world part)
