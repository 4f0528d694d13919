-- Over views in which the same is found under each name the same is answered.
use Rattle.std.proofs.Common.{◌≡◌, ◌+◌, ℕ, List, [], ◌∷◌, ◌++◌, Option, Some, None, refl, ap, ◌∙◌}
use Rattle.std.specs.Prelude.{◌||◌}
use Rattle.site_base.specs.Data.{Data}
use Rattle.site_base.specs.declared.item_no.ItemNo.{ItemNo}
use Rattle.site_model.specs.PlainSite.{PlainObject}
use Rattle.object_types.specs.Names.{type_named}
use Rattle.object_types.specs.declared.attribute.Attribute.TheVariants as attribute
use Rattle.object_types.specs.declared.object_type.ObjectType.{ObjectType}
use Rattle.object_types.specs.declared.object_type.ObjectType.TheVariants as object
use Rattle.dsl_syntax.specs.Syntax.{Expression, Loop, loop, statement, assign, ignore, Statements, no_statements, more_statements}
use Rattle.dsl_value.specs.Pairs.{dict_of}
use Rattle.dsl_value.specs.Contents.{dict}
use Rattle.dsl_value.specs.PlainStores.{PlainStore}
use Rattle.eval_meaning.specs.Registered.{PlainItem, PlainRule}
use Rattle.eval_meaning.specs.Views.{View, host}
use Rattle.eval_meaning.specs.States.{State, Outcome, gives, faults, blocked, ◌>>=◌, item, rule, with_new}
use Rattle.eval_meaning.specs.Parts.{Parts, place_of}
use Rattle.eval_meaning.specs.Members.{or_wrong}
use Rattle.eval_meaning.specs.Frames.{ended}
use Rattle.eval_meaning.specs.Flow.{block_with, truth_with}
use Rattle.eval_meaning.specs.Evaluation.{evaluated}
use Rattle.eval_meaning.specs.Load.{most_open}
use Rattle.eval_meaning.specs.declared.read.Read.{Read}
use Rattle.commit_meaning.specs.Answers.{diag, answered}
use Rattle.commit_meaning.specs.Starts.{Trees, fresh, values_of, tree_at, trees_at}
use Rattle.commit_meaning.specs.Names.{Target, target_names, text_of}
use Rattle.commit_meaning.specs.Items.{in_body, item_run, checked, item_answer}
use Rattle.commit_meaning.specs.Conditions.{Verdict, no_verdict, judged}
use Rattle.commit_meaning.specs.Rules.{Element, of_value, in_rule, back_at, looped, elements_of, element_judged, element_run, elements_run, first_number, rule_run, pair_number, instances}
use Rattle.commit_meaning.specs.Groups.{host_seen, service_names, service_seen, member_names, Taken, none_taken, taken_by, group_run, caught, groups_run, groups_by, member_run, settled, group_members}
use Rattle.commit_order.specs.Alike.{LookAlike, AnswerAlike}
use Rattle.commit_order.proofs.Evaluations.{afterwards, both, evaluations}

-- an item by what its evaluation looks at
abbrev item_by : Parts → PlainStore → PlainItem → Outcome Data
item_by ev store i =
    values_of i.names [] (fresh store (item i.kind []) []) >>= λ bound s. (values_of i.presets [] s >>= λ presets s1. (with_new (dict (dict_of presets [])) s1 >>= λ this s2. (block_with ev i.body (in_body i bound this s2) >>= ended >>= λ _ s3. tree_at i.place this s3)))

module _ (view other : View) (alike : LookAlike view other) where
  evaluates : evaluated view most_open ≡ evaluated other most_open
  evaluates = evaluations view other alike most_open

  -- ---- items

  items_run : (i : PlainItem) → item_run view i ≡ item_run other i
  unfolding item_run
  items_run i = ap (λ ev. item_by ev view.store i) evaluates ∙ ap (λ store. item_by (evaluated other most_open) store i) alike.store

  items : (i : PlainItem) → item_answer view i ≡ item_answer other i
  unfolding item_answer
  items i = ap (λ x. checked i (answered i.number x)) (items_run i)

  -- ---- conditions

  truths : (e : Expression) (s : State) → truth_with (evaluated view most_open) e s ≡ truth_with (evaluated other most_open) e s
  truths e s = ap (λ ev. truth_with ev e s) evaluates

  judges : (b : Statements) (v : Verdict) (s : State) → judged view b v s ≡ judged other b v s
  judges no_statements v s = refl
  judges (more_statements (statement l (assign e)) xs) v s = both (truth_with (evaluated view most_open) e s) (truth_with (evaluated other most_open) e s) _ _ (truths e s) (λ t s1. judges xs (record v { assigned = v.assigned || t }) s1)
  judges (more_statements (statement l (ignore e)) xs) v s = both (truth_with (evaluated view most_open) e s) (truth_with (evaluated other most_open) e s) _ _ (truths e s) (λ t s1. judges xs (record v { ignored = v.ignored || t }) s1)
  judges (more_statements x xs) v s = judges xs v s

  -- ---- rules

  loops : (r : PlainRule) (names : Trees) (x : Loop) (s : State) → looped view r names x s ≡ looped other r names x s
  loops r names (loop k o e) s =
      ap (λ ev. values_of names [] s >>= λ bound s1. (ev.value e (in_rule r.captured bound s1) >>= λ v s2. or_wrong (place_of e) (of_value s2.cells k o v) s2)) evaluates

  elements : (r : PlainRule) (names : Trees) (o : Option Loop) (s : State) → elements_of view r names o s ≡ elements_of other r names o s
  elements r names (Some x) s = loops r names x s
  elements r names None s = refl

  judges_element : (r : PlainRule) (t : Target) (k : ℕ) (e : Element) (names : Trees) (s : State) → element_judged view r t k e names s ≡ element_judged other r t k e names s
  judges_element r t k e names s =
      afterwards (values_of names [] s) _ _ (λ bound s1. both (judged view r.body no_verdict (in_rule r.captured bound s1)) (judged other r.body no_verdict (in_rule r.captured bound s1)) _ _ (judges r.body no_verdict (in_rule r.captured bound s1)) (λ v s2. refl))

  runs_element : (r : PlainRule) (t : Target) (k : ℕ) (e : Element) (s : State) → element_run view r t k e s ≡ element_run other r t k e s
  runs_element r t k e s = afterwards (trees_at r.place e.bound [] s) _ _ (λ own s1. judges_element r t k e (target_names t ++ own) s1)

  runs_elements : (r : PlainRule) (t : Target) (before : State) (k : ℕ) (es : List Element) (is : List PlainItem) (s : State) → elements_run view r t before k es is s ≡ elements_run other r t before k es is s
  runs_elements r t before k [] is s = refl
  runs_elements r t before k (e ∷ es) is s =
      both (element_run view r t k e (back_at before s)) (element_run other r t k e (back_at before s)) _ _ (runs_element r t k e (back_at before s)) (λ js s1. runs_elements r t before (k + 1) es (is ++ js) s1)

  runs_rule : (r : PlainRule) (t : Target) → rule_run view r t ≡ rule_run other r t
  unfolding rule_run
  runs_rule r t =
      both (elements_of view r (target_names t) r.loop (fresh view.store rule [])) (elements_of other r (target_names t) r.loop (fresh view.store rule [])) _ _ (elements r (target_names t) r.loop (fresh view.store rule [])) (λ es s. runs_elements r t s (first_number r.loop) es [] s)
      ∙ ap (λ store. elements_of other r (target_names t) r.loop (fresh store rule []) >>= λ es s. elements_run other r t s (first_number r.loop) es [] s) alike.store

  rules : (r : PlainRule) (t : Target) → instances view r t ≡ instances other r t
  unfolding instances
  rules r t = ap (answered (pair_number r t)) (runs_rule r t)

  -- ---- groups

  sees_host : (d : Data) (r : Read) (s : State) → service_seen view d r s ≡ service_seen other d r s
  sees_host d r s = ap (λ o. host_seen r o s >>= λ h s1. gives (service_names d h) s1) (alike.sights r)

  names : (o : Option ObjectType) (d : Data) (s : State) → member_names view o d s ≡ member_names other o d s
  names (Some object.Host) d s = refl
  names (Some object.User) d s = refl
  names (Some object.Service) d s = sees_host d (host (text_of d attribute.HostName)) s
  names o d s = refl

  runs_group : (ts : Trees) (g : PlainItem) (s : State) → group_run view ts g s ≡ group_run other ts g s
  runs_group ts g s = afterwards (values_of ts [] s) _ _ (λ bound s1. judges g.body no_verdict (in_rule g.captured bound s1))

  catches : (n : ItemNo) (g : PlainItem) (t : Taken) (x : Outcome Verdict) → caught view n g t x ≡ caught other n g t x
  catches n g t (gives v s) = ap (λ store. gives (taken_by g.name v t) (fresh store rule s.reads)) alike.store
  catches n g t (faults l k x rs) = ap (λ store. gives (record t { diags = t.diags ++ diag n l k x ∷ [] }) (fresh store rule rs)) alike.store
  catches n g t (blocked r rs) = refl

  runs_groups : (n : ItemNo) (ts : Trees) (gs : List PlainItem) (t : Taken) (s : State) → groups_run view n ts gs t s ≡ groups_run other n ts gs t s
  runs_groups n ts [] t s = refl
  runs_groups n ts (g ∷ gs) t s =
      both (caught view n g t (group_run view ts g s)) (caught other n g t (group_run other ts g s)) _ _ (ap (caught view n g t) (runs_group ts g s) ∙ catches n g t (group_run other ts g s)) (λ t1 s1. runs_groups n ts gs t1 s1)

  by_names : (n : ItemNo) (gs : List PlainItem) (o : Option Trees) (s : State) → groups_by view n gs o s ≡ groups_by other n gs o s
  by_names n gs (Some ts) s = runs_groups n ts gs none_taken s
  by_names n gs None s = refl

  runs_members : (gs : List PlainItem) (o : PlainObject) → member_run view gs o ≡ member_run other gs o
  unfolding member_run
  runs_members gs o =
      both (member_names view (type_named o.kind) o.tree (fresh view.store rule [])) (member_names other (type_named o.kind) o.tree (fresh view.store rule [])) _ _ (names (type_named o.kind) o.tree (fresh view.store rule [])) (λ ts s. by_names o.number gs ts s)
      ∙ ap (λ store. member_names other (type_named o.kind) o.tree (fresh store rule []) >>= λ ts s. groups_by other o.number gs ts s) alike.store

  members : (gs : List PlainItem) (o : PlainObject) → group_members view gs o ≡ group_members other gs o
  unfolding group_members
  members gs o = ap (λ x. settled (answered o.number x)) (runs_members gs o)

  pub answers_alike : AnswerAlike view other
  answers_alike = record { items = items; rules = rules; members = members }
