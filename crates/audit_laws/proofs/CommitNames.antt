-- The names of a commit's objects: a host has a good one, and a service its own behind that of its host.
use Rattle.std.proofs.Common.{◌≡◌, ◌+◌, ℕ, zero, suc, List, [], ◌∷◌, ◌++◌, filter, cond, Bool, true, false, refl, sym, ap, ◌∙◌, Some}
use Rattle.std.specs.List.{flat_map, AllByRecursion}
use Rattle.std.specs.Str.{bytes_eq}
use Rattle.std.specs.declared.cmp.Ordering.{Ordering}
use Rattle.std.specs.declared.cmp.Ordering.TheVariants.{Less, Equal, Greater}
use Rattle.std.proofs.lemmas.Slice.Eq.{bytes_eq-Decides}
use Rattle.site_base.specs.Data as tree
use Rattle.site_base.specs.Data.{Data, Pairs, no_pairs, pair}
use Rattle.site_base.specs.Quoted.{quoted}
use Rattle.site_base.specs.declared.diag.Diag.{Diag}
use Rattle.site_base.specs.declared.diag_kind.DiagKind.TheVariants.{BadName}
use Rattle.site_model.specs.PlainSite.{PlainObject}
use Rattle.object_types.specs.Names.{attribute_name, type_named}
use Rattle.object_types.specs.declared.attribute.Attribute.TheVariants as attribute
use Rattle.object_types.specs.declared.object_type.ObjectType.TheVariants as object
use Rattle.dsl_value.specs.Pairs.{key_cmp}
use Rattle.conf_check.specs.References.{text_under}
use Rattle.conf_check.specs.References as references
use Rattle.eval_meaning.specs.Registered.{PlainItem, PlainRule}
use Rattle.eval_meaning.specs.Registration.{is_good_name}
use Rattle.eval_meaning.specs.Load.{Loaded}
use Rattle.eval_meaning.specs.States.{State, Outcome, gives, faults, blocked, ◌>>=◌, rule}
use Rattle.eval_meaning.specs.Views.{View}
use Rattle.load_laws.specs.GoodNames.{AreGood, IsGood}
use Rattle.commit_meaning.specs.Answers as answer
use Rattle.commit_meaning.specs.Answers.{Answer, made_in, all_made, answered}
use Rattle.commit_meaning.specs.Commits.{committed}
use Rattle.commit_meaning.specs.Conditions.{Verdict, no_verdict, judged, is_kept}
use Rattle.commit_meaning.specs.Groups.{grown, has_string, items_under, put_by, tree_grown, with_group, with_groups, with_last, with_pair}
use Rattle.commit_meaning.specs.Items.{item_run, checked, checked_by, item_answer}
use Rattle.commit_meaning.specs.Names.{Target, target_names, full_name_by, joined, text_of}
use Rattle.commit_meaning.specs.Rules.{Element, in_rule, back_at, place_by, instance, named_instance, unless_dropped, element_judged, element_run, elements_run, elements_of, prefix, first_number, rule_run, pair_number, instances}
use Rattle.commit_meaning.specs.Starts.{Trees, fresh, values_of, trees_at}
use Rattle.commit_meaning.specs.Waves.{view_before, is_in_wave, rule_answers, wave_answers, item_number, member_answer, wave_items, wave_objects, wave_grown, wave_world, world_after}
use Rattle.commit_meaning.specs.Worlds.{World, targets}
use Rattle.commit_meaning.proofs.ItemTypes.{Gives}
use Rattle.commit_meaning.proofs.Lists.{all_of_each, all_append, all_kept, all_map, all_flat}
use Rattle.commit_meaning.proofs.Sorting.{all_by_number}

-- ---- items

gives_bind : {A B : Type 0} (P : A → Type 0) (Q : B → Type 0) (x : Outcome A) (f : A → State → Outcome B) → Gives P x → ((a : A) (s : State) → P a → Gives Q (f a s)) → Gives Q (x >>= f)
gives_bind P Q (gives a s) f h k = k a s h
gives_bind P Q (faults l j t rs) f h k = tt
gives_bind P Q (blocked r rs) f h k = tt

any_bind : {A B : Type 0} (Q : B → Type 0) (x : Outcome A) (f : A → State → Outcome B) → ((a : A) (s : State) → Gives Q (f a s)) → Gives Q (x >>= f)
any_bind Q (gives a s) f k = k a s
any_bind Q (faults l j t rs) f k = tt
any_bind Q (blocked r rs) f k = tt

module _ (view : View) (r : PlainRule) (t : Target) where
  named_good : (k : ℕ) (name : List ℕ) (names : Trees) (s : State) → Gives AreGood (named_instance r t k name names s)
  named_good k name names s = by (is_good_name name) refl
    where
      by : (b : Bool) → is_good_name name ≡ b → Gives AreGood (cond b (gives (instance r t k name names ∷ []) s) (faults (place_by r r.loop) BadName (quoted name) s.reads))
      by true e = (e, tt)
      by false e = tt

  kept_good : (k : ℕ) (e : Element) (names : Trees) (v : Verdict) (s : State) → Gives AreGood (unless_dropped r t k e names v s)
  kept_good k e names v s = by (is_kept r.body v)
    where
      by : (b : Bool) → Gives AreGood (cond b (named_instance r t k (prefix r.name ++ e.key) names s) (gives [] s))
      by true = named_good k (prefix r.name ++ e.key) names s
      by false = tt

  judged_good : (k : ℕ) (e : Element) (names : Trees) (s : State) → Gives AreGood (element_judged view r t k e names s)
  judged_good k e names s = any_bind AreGood (values_of names [] s) _ (λ bound s1. any_bind AreGood (judged view r.body no_verdict (in_rule r.captured bound s1)) _ (λ v s2. kept_good k e names v s2))

  element_good : (k : ℕ) (e : Element) (s : State) → Gives AreGood (element_run view r t k e s)
  element_good k e s = any_bind AreGood (trees_at r.place e.bound [] s) _ (λ own s1. judged_good k e (target_names t ++ own) s1)

  elements_good : (before : State) (k : ℕ) (es : List Element) (is : List PlainItem) (s : State) → AreGood is → Gives AreGood (elements_run view r t before k es is s)
  elements_good before k [] is s h = h
  elements_good before k (e ∷ es) is s h =
      gives_bind AreGood AreGood (element_run view r t k e (back_at before s)) _ (element_good k e (back_at before s)) (λ js s1 q. elements_good before (k + 1) es (is ++ js) s1 (all_append IsGood is js h q))

  run_good : Gives AreGood (rule_run view r t)
  unfolding rule_run
  run_good = any_bind AreGood (elements_of view r (target_names t) r.loop (fresh view.store rule [])) _ (λ es s. elements_good s (first_number r.loop) es [] s tt)

  instances_good : AreGood (all_made (instances view r t))
  unfolding instances
  instances_good = by (rule_run view r t) run_good
    where
      by : (x : Outcome (List PlainItem)) → Gives AreGood x → AreGood (all_made (answered (pair_number r t) x))
      by (gives is s) h = h
      by (faults l k x rs) h = tt
      by (blocked q rs) h = tt

-- ---- objects

pub record IsObjectNamed (o : PlainObject) : Type 0 where
  pub host : type_named o.kind ≡ Some object.Host → is_good_name o.name ≡ true
  pub service : type_named o.kind ≡ Some object.Service → (own : List ℕ) × (o.name ≡ joined (text_of o.tree attribute.HostName ∷ []) own)

made_named : (view : View) (i : PlainItem) → IsGood i → AllByRecursion IsObjectNamed (made_in (item_answer view i))
unfolding item_answer
made_named view i good = by (answered i.number (item_run view i))
  where
    by_faults : (d : Data) (fs : List Diag) → AllByRecursion IsObjectNamed (made_in (checked_by i d fs))
    by_faults d [] = (
      record {
        host = λ e. ap (λ t. is_good_name (full_name_by t i.name d)) e ∙ good;
        service = λ e. (i.name, ap (λ t. full_name_by t i.name d) e);
      },
      tt,
    )
    by_faults d (f ∷ fs) = tt

    by : (a : Answer Data) → AllByRecursion IsObjectNamed (made_in (checked i a))
    by (answer.made d) = by_faults d _
    by (answer.diagnosed ds) = tt
    by (answer.blocked r) = tt

-- groups are another attribute
abbrev host_key : List ℕ
host_key = attribute_name attribute.HostName

abbrev groups_key : List ℕ
groups_key = attribute_name attribute.Groups

less_equal : Less ≡ Equal → ⊥
less_equal e = absurd cc

pair_keeps : (v : Data) (ps : Pairs) → text_under host_key (with_pair groups_key v ps) ≡ text_under host_key ps
pair_keeps v no_pairs = refl
pair_keeps v (pair j e ps) = by (bytes_eq j host_key) refl (key_cmp groups_key j) refl (pair_keeps v ps)
  where
    rest : Pairs
    rest = with_pair groups_key v ps

    old : List ℕ
    old = references.text_of e

    by : (b : Bool) → bytes_eq j host_key ≡ b → (o : Ordering) → key_cmp groups_key j ≡ o → text_under host_key rest ≡ text_under host_key ps → text_under host_key (put_by o groups_key v j e ps rest) ≡ cond b old (text_under host_key ps)
    by b h Less q ih = ap (λ b. cond b old (text_under host_key ps)) h
    by true h Equal q ih = absurd (less_equal (sym (ap (key_cmp groups_key) ((bytes_eq-Decides j host_key).0 h)) ∙ q))
    by false h Equal q ih = refl
    by true h Greater q ih = ap (λ b. cond b old (text_under host_key rest)) h
    by false h Greater q ih = ap (λ b. cond b old (text_under host_key rest)) h ∙ ih

groups_keep : (ns : List (List ℕ)) (ps : Pairs) → text_under host_key (with_groups ns ps) ≡ text_under host_key ps
groups_keep [] ps = refl
groups_keep (n ∷ ns) ps = groups_keep ns (with_group n ps) ∙ by (has_string n (items_under groups_key ps))
  where
    by : (b : Bool) → text_under host_key (cond b ps (with_pair groups_key (tree.list (with_last n (items_under groups_key ps))) ps)) ≡ text_under host_key ps
    by true = refl
    by false = pair_keeps (tree.list (with_last n (items_under groups_key ps))) ps

tree_keeps : (ns : List (List ℕ)) (d : Data) → text_of (tree_grown ns d) attribute.HostName ≡ text_of d attribute.HostName
tree_keeps ns tree.null = refl
tree_keeps ns (tree.boolean b) = refl
tree_keeps ns (tree.number n) = refl
tree_keeps ns (tree.string t) = refl
tree_keeps ns (tree.list ds) = refl
tree_keeps ns (tree.dict ps) = groups_keep ns ps

grown_named : (o : PlainObject) (a : Answer (List (List ℕ))) → IsObjectNamed o → IsObjectNamed (grown o a)
grown_named o (answer.made ns) h = record {
  host = h.host;
  service = λ e. let s = h.service e in (s.0, s.1 ∙ ap (λ t. joined (t ∷ []) s.0) (sym (tree_keeps ns o.tree)));
}
grown_named o (answer.diagnosed ds) h = h
grown_named o (answer.blocked r) h = h

-- ---- waves

module _ (load : Loaded) (good : AreGood load.items) where
  module _ (before : World) (w : ℕ) where
    abbrev MakesGood : Answer (List PlainItem) → Type 0
    MakesGood a = AreGood (all_made a)

    rule_good : (r : PlainRule) → Unit {0} → AllByRecursion MakesGood (rule_answers load before r)
    rule_good r u =
        all_map (instances (view_before load before) r) (λ t. Unit {0}) MakesGood (λ t u. instances_good (view_before load before) r t) (targets r.target before.objects) (all_of_each (λ t. Unit {0}) (λ t. tt) (targets r.target before.objects))

    answers_good : AllByRecursion MakesGood (wave_answers load before w)
    answers_good = all_flat (rule_answers load before) (λ r. Unit {0}) MakesGood rule_good (filter (λ r. is_in_wave w r.kind) load.rules) (all_of_each (λ r. Unit {0}) (λ r. tt) (filter (λ r. is_in_wave w r.kind) load.rules))

    items_good : AreGood (wave_items load before w)
    unfolding wave_items
    items_good =
        all_by_number item_number IsGood (filter (λ i. is_in_wave w i.kind) load.items ++ flat_map all_made (wave_answers load before w))
        (all_append IsGood (filter (λ i. is_in_wave w i.kind) load.items) (flat_map all_made (wave_answers load before w)) (all_kept IsGood (λ i. is_in_wave w i.kind) load.items good) (all_flat all_made MakesGood IsGood (λ a h. h) (wave_answers load before w) answers_good))

    objects_named : AllByRecursion IsObjectNamed (wave_objects load before w)
    objects_named = all_flat (λ i. made_in (item_answer (view_before load before) i)) IsGood IsObjectNamed (made_named (view_before load before)) (wave_items load before w) items_good

    grown_are_named : AllByRecursion IsObjectNamed (wave_grown load before w)
    grown_are_named = all_map (λ o. grown o (member_answer load before w o)) IsObjectNamed IsObjectNamed (λ o h. grown_named o (member_answer load before w o) h) (wave_objects load before w) objects_named

    wave_named : AllByRecursion IsObjectNamed before.objects → AllByRecursion IsObjectNamed (wave_world load before w).objects
    unfolding wave_world
    wave_named h = all_append IsObjectNamed before.objects (wave_grown load before w) h grown_are_named

  world_named : (w : ℕ) → AllByRecursion IsObjectNamed (world_after load w).objects
  world_named zero = tt
  world_named (suc w) = wave_named (world_after load w) (suc w) (world_named w)

  pub committed_named : AllByRecursion IsObjectNamed (committed load)
  committed_named = world_named 6
