-- One wave over worlds in another order.
use Rattle.std.proofs.Common.{◌≡◌, ℕ, List, [], ◌∷◌, ◌++◌, map, filter, Option, Some, None, refl, sym, ap, ◌∙◌}
use Rattle.std.specs.List.{flat_map, AllByRecursion}
use Rattle.std.specs.Str.{bytes_eq}
use Rattle.std.proofs.Math.Path.{fun_ext}
use Rattle.std.proofs.lemmas.List.{map-append}
use Rattle.site_base.specs.declared.diag.Diag.{Diag}
use Rattle.site_model.specs.PlainSite.{PlainObject}
use Rattle.object_types.specs.Names.{type_named, type_name}
use Rattle.object_types.specs.declared.object_type.ObjectType.{ObjectType}
use Rattle.eval_meaning.specs.Registered.{PlainItem, PlainRule}
use Rattle.eval_meaning.specs.Views.{View}
use Rattle.eval_meaning.specs.Load.{Loaded}
use Rattle.commit_meaning.specs.Answers as answer
use Rattle.commit_meaning.specs.Answers.{Answer, is_made, made_in, all_made, diags_in}
use Rattle.commit_meaning.specs.Names.{Target}
use Rattle.commit_meaning.specs.Items.{item_answer}
use Rattle.commit_meaning.specs.Rules.{instances}
use Rattle.commit_meaning.specs.Groups.{group_members, grown}
use Rattle.commit_meaning.specs.Worlds.{World, targets}
use Rattle.commit_meaning.specs.Waves.{view_before, is_in_wave, rule_answers, wave_answers, item_number, wave_items, wave_objects, group_type, group_made, wave_groups, groups_of, member_answer, wave_grown, wave_world, wave_faults}
use Rattle.commit_order.specs.Reordered.{Reordered, again}
use Rattle.commit_order.specs.Unordered.{unordered_item, unordered_rule, unordered_object, unordered_diag, unordered_target, unordered_answer}
use Rattle.commit_order.specs.Alike.{AnswerAlike, MakesNoGroup, AreReordered, AreApart, group_items}
use Rattle.commit_order.proofs.Lists.{between, back, all_reordered, joined, kept, mapped, flattened, of_each}
use Rattle.commit_order.proofs.Mapped.{flat_mapped, map_mapped, filter_mapped}
use Rattle.commit_order.proofs.Sorting.{sorted}
use Rattle.commit_order.proofs.Answers.{answers_alike}
use Rattle.commit_order.proofs.Items.{item_unordered}
use Rattle.commit_order.proofs.Rules.{rule_unordered}
use Rattle.commit_order.proofs.Groups.{groups_unordered}
use Rattle.commit_order.proofs.Names.{apart_unordered, first_reordered, worlds_look_alike}
use Rattle.commit_order.proofs.Targets.{targets_unordered, targets_reordered}
use Rattle.commit_order.proofs.Groupings.{groups_made}

-- ---- what is in answers without numbers

module _ {A : Type 0} (f : A → A) where
  is_made_same : (a : Answer A) → is_made (unordered_answer f a) ≡ is_made a
  is_made_same (answer.made x) = refl
  is_made_same (answer.diagnosed ds) = refl
  is_made_same (answer.blocked r) = refl

  made_unordered : (a : Answer A) → made_in (unordered_answer f a) ≡ map f (made_in a)
  made_unordered (answer.made x) = refl
  made_unordered (answer.diagnosed ds) = refl
  made_unordered (answer.blocked r) = refl

  all_unordered : (a : Answer (List A)) → all_made (unordered_answer (map f) a) ≡ map f (all_made a)
  all_unordered (answer.made xs) = refl
  all_unordered (answer.diagnosed ds) = refl
  all_unordered (answer.blocked r) = refl

  diags_unordered : (a : Answer A) → diags_in (unordered_answer f a) ≡ map unordered_diag (diags_in a)
  diags_unordered (answer.made x) = refl
  diags_unordered (answer.diagnosed ds) = refl
  diags_unordered (answer.blocked r) = refl

grown_unordered : (o : PlainObject) (a : Answer (List (List ℕ))) → grown (unordered_object o) (unordered_answer (λ ns. ns) a) ≡ unordered_object (grown o a)
grown_unordered o (answer.made ns) = refl
grown_unordered o (answer.diagnosed ds) = refl
grown_unordered o (answer.blocked r) = refl

groups_of_unordered : (t : Option ObjectType) (gs : List PlainItem) → groups_of t (map unordered_item gs) ≡ map unordered_item (groups_of t gs)
groups_of_unordered (Some t) gs = filter_mapped unordered_item (λ g. bytes_eq g.kind (type_name t)) (λ g. bytes_eq g.kind (type_name t)) (λ g. refl) gs
groups_of_unordered None gs = refl

-- ---- a wave by what comes of its parts

-- what rules come to
abbrev rules_by : (PlainRule → Target → Answer (List PlainItem)) → List PlainObject → ℕ → List PlainRule → List (Answer (List PlainItem))
rules_by instances os w rs = flat_map (λ r. map (instances r) (targets r.target os)) (filter (λ r. is_in_wave w r.kind) rs)

-- those items of a wave of which something is made
abbrev made_by : (PlainItem → Answer PlainObject) → ℕ → List PlainItem → List PlainItem
made_by items w is = filter (λ i. is_made (items i)) (filter (λ i. is_in_wave w i.kind) is)

-- the groups of its type that take an object
abbrev members_by : (List PlainItem → PlainObject → Answer (List (List ℕ))) → List PlainItem → PlainObject → Answer (List (List ℕ))
members_by members gs o = members (groups_of (group_type (type_named o.kind)) gs) o

-- objects in their groups
abbrev grown_all : (List PlainItem → PlainObject → Answer (List (List ℕ))) → List PlainItem → List PlainObject → List PlainObject
grown_all members gs os = map (λ o. grown o (members_by members gs o)) os

-- what is wrong
abbrev all_faults : (PlainItem → Answer PlainObject) → (List PlainItem → PlainObject → Answer (List (List ℕ))) → List PlainItem → List (Answer (List PlainItem)) → List PlainItem → List PlainObject → List Diag
all_faults items members gs answers is os =
    flat_map diags_in answers ++ (flat_map (λ i. diags_in (items i)) is ++ flat_map (λ o. diags_in (members_by members gs o)) os)

module _ (load : Loaded) (before : World) (w : ℕ) where
  abbrev view : View
  view = view_before load before

  rule_answers_by : (r : PlainRule) → map (instances view (unordered_rule r)) (targets r.target (map unordered_object before.objects)) ≡ map (unordered_answer (map unordered_item)) (rule_answers load before r)
  rule_answers_by r =
      ap (map (instances view (unordered_rule r))) (targets_unordered r.target before.objects)
      ∙ map_mapped unordered_target (unordered_answer (map unordered_item)) (instances view (unordered_rule r)) (instances view r) (rule_unordered view r) (targets r.target before.objects)

  answers_by : map (unordered_answer (map unordered_item)) (wave_answers load before w) ≡ rules_by (instances view) (map unordered_object before.objects) w (map unordered_rule load.rules)
  answers_by =
      sym (ap (flat_map (λ r. map (instances view r) (targets r.target (map unordered_object before.objects)))) (filter_mapped unordered_rule (λ r. is_in_wave w r.kind) (λ r. is_in_wave w r.kind) (λ r. refl) load.rules)
      ∙ flat_mapped unordered_rule (unordered_answer (map unordered_item)) (λ r. map (instances view r) (targets r.target (map unordered_object before.objects))) (rule_answers load before) rule_answers_by (filter (λ r. is_in_wave w r.kind) load.rules))

  from_rules : map unordered_item (flat_map all_made (wave_answers load before w)) ≡ flat_map all_made (map (unordered_answer (map unordered_item)) (wave_answers load before w))
  from_rules = sym (flat_mapped (unordered_answer (map unordered_item)) unordered_item all_made all_made (all_unordered unordered_item) (wave_answers load before w))

  unsorted : List PlainItem
  unsorted = filter (λ i. is_in_wave w i.kind) load.items ++ flat_map all_made (wave_answers load before w)

  unsorted_by : map unordered_item unsorted ≡ filter (λ i. is_in_wave w i.kind) (map unordered_item load.items) ++ flat_map all_made (map (unordered_answer (map unordered_item)) (wave_answers load before w))
  unfolding unsorted
  unsorted_by =
      map-append unordered_item (filter (λ i. is_in_wave w i.kind) load.items) (flat_map all_made (wave_answers load before w))
      ∙ ap (λ l. l ++ map unordered_item (flat_map all_made (wave_answers load before w))) (sym (filter_mapped unordered_item (λ i. is_in_wave w i.kind) (λ i. is_in_wave w i.kind) (λ i. refl) load.items))
      ∙ ap (λ l. filter (λ i. is_in_wave w i.kind) (map unordered_item load.items) ++ l) from_rules

  items_unsorted : Reordered (wave_items load before w) unsorted
  unfolding wave_items unsorted
  items_unsorted = sorted item_number (filter (λ i. is_in_wave w i.kind) load.items ++ flat_map all_made (wave_answers load before w))

  objects_by : map unordered_object (wave_objects load before w) ≡ flat_map (λ i. made_in (item_answer view i)) (map unordered_item (wave_items load before w))
  objects_by =
      sym (flat_mapped unordered_item unordered_object (λ i. made_in (item_answer view i)) (λ i. made_in (item_answer view i)) (λ i. ap made_in (item_unordered view i) ∙ made_unordered unordered_object (item_answer view i)) (wave_items load before w))

  made_same : (i : PlainItem) → is_made (item_answer view (unordered_item i)) ≡ is_made (item_answer view i)
  made_same i = ap is_made (item_unordered view i) ∙ is_made_same unordered_object (item_answer view i)

  groups_by : AllByRecursion MakesNoGroup load.rules → map unordered_item (filter (group_made view) (wave_items load before w)) ≡ made_by (item_answer view) w (map unordered_item (group_items load))
  groups_by no_group =
      ap (map unordered_item) (groups_made load no_group before w view)
      ∙ sym (ap (filter (λ i. is_made (item_answer view i))) (filter_mapped unordered_item (λ i. is_in_wave w i.kind) (λ i. is_in_wave w i.kind) (λ i. refl) (group_items load))
      ∙ filter_mapped unordered_item (λ i. is_made (item_answer view i)) (λ i. is_made (item_answer view i)) made_same (filter (λ i. is_in_wave w i.kind) (group_items load)))

  member_by : (o : PlainObject) → members_by (group_members view) (map unordered_item (wave_groups load before w)) (unordered_object o) ≡ unordered_answer (λ ns. ns) (member_answer load before w o)
  member_by o =
      ap (λ gs. group_members view gs (unordered_object o)) (groups_of_unordered (group_type (type_named o.kind)) (wave_groups load before w))
      ∙ groups_unordered view (groups_of (group_type (type_named o.kind)) (wave_groups load before w)) o

  grown_by : map unordered_object (wave_grown load before w) ≡ grown_all (group_members view) (map unordered_item (wave_groups load before w)) (map unordered_object (wave_objects load before w))
  grown_by =
      sym (map_mapped unordered_object unordered_object (λ o. grown o (members_by (group_members view) (map unordered_item (wave_groups load before w)) o)) (λ o. grown o (member_answer load before w o)) (λ o. ap (grown (unordered_object o)) (member_by o) ∙ grown_unordered o (member_answer load before w o)) (wave_objects load before w))

  -- ---- what is wrong

  rule_faults_by : map unordered_diag (flat_map diags_in (wave_answers load before w)) ≡ flat_map diags_in (map (unordered_answer (map unordered_item)) (wave_answers load before w))
  rule_faults_by = sym (flat_mapped (unordered_answer (map unordered_item)) unordered_diag diags_in diags_in (diags_unordered (map unordered_item)) (wave_answers load before w))

  item_faults_by : map unordered_diag (flat_map (λ i. diags_in (item_answer view i)) (wave_items load before w)) ≡ flat_map (λ i. diags_in (item_answer view i)) (map unordered_item (wave_items load before w))
  item_faults_by =
      sym (flat_mapped unordered_item unordered_diag (λ i. diags_in (item_answer view i)) (λ i. diags_in (item_answer view i)) (λ i. ap diags_in (item_unordered view i) ∙ diags_unordered unordered_object (item_answer view i)) (wave_items load before w))

  member_faults_by : map unordered_diag (flat_map (λ o. diags_in (member_answer load before w o)) (wave_objects load before w)) ≡ flat_map (λ o. diags_in (members_by (group_members view) (map unordered_item (wave_groups load before w)) o)) (map unordered_object (wave_objects load before w))
  member_faults_by =
      sym (flat_mapped unordered_object unordered_diag (λ o. diags_in (members_by (group_members view) (map unordered_item (wave_groups load before w)) o)) (λ o. diags_in (member_answer load before w o)) (λ o. ap diags_in (member_by o) ∙ diags_unordered (λ ns. ns) (member_answer load before w o)) (wave_objects load before w))

  faults_by : map unordered_diag (wave_faults load before w) ≡ all_faults (item_answer view) (group_members view) (map unordered_item (wave_groups load before w)) (map (unordered_answer (map unordered_item)) (wave_answers load before w)) (map unordered_item (wave_items load before w)) (map unordered_object (wave_objects load before w))
  faults_by =
      map-append unordered_diag (flat_map diags_in (wave_answers load before w)) (flat_map (λ i. diags_in (item_answer view i)) (wave_items load before w) ++ flat_map (λ o. diags_in (member_answer load before w o)) (wave_objects load before w))
      ∙ ap (λ l. map unordered_diag (flat_map diags_in (wave_answers load before w)) ++ l) (map-append unordered_diag (flat_map (λ i. diags_in (item_answer view i)) (wave_items load before w)) (flat_map (λ o. diags_in (member_answer load before w o)) (wave_objects load before w)))
      ∙ ap (λ l. l ++ (map unordered_diag (flat_map (λ i. diags_in (item_answer view i)) (wave_items load before w)) ++ map unordered_diag (flat_map (λ o. diags_in (member_answer load before w o)) (wave_objects load before w)))) rule_faults_by
      ∙ ap (λ l. flat_map diags_in (map (unordered_answer (map unordered_item)) (wave_answers load before w)) ++ (l ++ map unordered_diag (flat_map (λ o. diags_in (member_answer load before w o)) (wave_objects load before w)))) item_faults_by
      ∙ ap (λ l. flat_map diags_in (map (unordered_answer (map unordered_item)) (wave_answers load before w)) ++ (flat_map (λ i. diags_in (item_answer view i)) (map unordered_item (wave_items load before w)) ++ l)) member_faults_by

-- ---- the wave in both orders

-- worlds of the same objects, with the same groups
pub record SameWorlds (before other : World) : Type 0 where
  pub objects : Reordered (map unordered_object before.objects) (map unordered_object other.objects)
  pub groups : map unordered_item before.groups ≡ map unordered_item other.groups

all_unordered_rules : (rs : List PlainRule) → AllByRecursion MakesNoGroup rs → AllByRecursion MakesNoGroup (map unordered_rule rs)
all_unordered_rules [] h = tt
all_unordered_rules (r ∷ rs) h = (h.0, all_unordered_rules rs h.1)

all_rules : (rs : List PlainRule) → AllByRecursion MakesNoGroup (map unordered_rule rs) → AllByRecursion MakesNoGroup rs
all_rules [] h = tt
all_rules (r ∷ rs) h = (h.0, all_rules rs h.1)

module _ (load other : Loaded) (h : AreReordered load other) (before stands : World) (same : SameWorlds before stands) (apart : AreApart before.objects) (w : ℕ) where
  abbrev here : View
  here = view_before load before

  abbrev there : View
  there = view_before other stands

  apart_all : AreApart (map unordered_object before.objects)
  apart_all = apart_unordered before.objects apart

  answers : AnswerAlike here there
  answers = answers_alike here there (worlds_look_alike load other before.objects stands.objects (λ r. first_reordered r (map unordered_object before.objects) (map unordered_object stands.objects) same.objects apart_all) h.store h.templates)

  items_same : item_answer here ≡ item_answer there
  items_same = fun_ext answers.items

  rules_same : instances here ≡ instances there
  rules_same = fun_ext (λ r. fun_ext (λ t. answers.rules r t))

  members_same : group_members here ≡ group_members there
  members_same = fun_ext (λ gs. fun_ext (λ o. answers.members gs o))

  -- ---- rules

  rules_reordered : Reordered (rules_by (instances here) (map unordered_object before.objects) w (map unordered_rule load.rules)) (rules_by (instances here) (map unordered_object stands.objects) w (map unordered_rule other.rules))
  rules_reordered =
      again
      (of_each (λ r. map (instances here r) (targets r.target (map unordered_object before.objects))) (λ r. map (instances here r) (targets r.target (map unordered_object stands.objects)))
      (λ r. mapped (instances here r) (targets r.target (map unordered_object before.objects)) (targets r.target (map unordered_object stands.objects)) (targets_reordered (map unordered_object before.objects) (map unordered_object stands.objects) same.objects apart_all r.target))
      (filter (λ r. is_in_wave w r.kind) (map unordered_rule load.rules)))
      (flattened (λ r. map (instances here r) (targets r.target (map unordered_object stands.objects))) (filter (λ r. is_in_wave w r.kind) (map unordered_rule load.rules)) (filter (λ r. is_in_wave w r.kind) (map unordered_rule other.rules))
      (kept (λ r. is_in_wave w r.kind) (map unordered_rule load.rules) (map unordered_rule other.rules) h.rules))

  answers_reordered : Reordered (map (unordered_answer (map unordered_item)) (wave_answers load before w)) (map (unordered_answer (map unordered_item)) (wave_answers other stands w))
  answers_reordered =
      between _ _ _ _ (answers_by load before w)
      (answers_by other stands w ∙ ap (λ f. rules_by f (map unordered_object stands.objects) w (map unordered_rule other.rules)) (sym rules_same))
      rules_reordered

  -- ---- items and their objects

  unsorted_reordered : Reordered (map unordered_item (unsorted load before w)) (map unordered_item (unsorted other stands w))
  unsorted_reordered =
      between _ _ _ _ (unsorted_by load before w) (unsorted_by other stands w)
      (joined (filter (λ i. is_in_wave w i.kind) (map unordered_item load.items)) (filter (λ i. is_in_wave w i.kind) (map unordered_item other.items)) (flat_map all_made (map (unordered_answer (map unordered_item)) (wave_answers load before w))) (flat_map all_made (map (unordered_answer (map unordered_item)) (wave_answers other stands w)))
      (kept (λ i. is_in_wave w i.kind) (map unordered_item load.items) (map unordered_item other.items) h.items)
      (flattened all_made (map (unordered_answer (map unordered_item)) (wave_answers load before w)) (map (unordered_answer (map unordered_item)) (wave_answers other stands w)) answers_reordered))

  pub items_reordered : Reordered (map unordered_item (wave_items load before w)) (map unordered_item (wave_items other stands w))
  items_reordered =
      again (mapped unordered_item (wave_items load before w) (unsorted load before w) (items_unsorted load before w))
      (again unsorted_reordered (back (map unordered_item (wave_items other stands w)) (map unordered_item (unsorted other stands w)) (mapped unordered_item (wave_items other stands w) (unsorted other stands w) (items_unsorted other stands w))))

  objects_reordered : Reordered (map unordered_object (wave_objects load before w)) (map unordered_object (wave_objects other stands w))
  objects_reordered =
      between _ _ _ _ (objects_by load before w)
      (objects_by other stands w ∙ ap (λ f. flat_map (λ i. made_in (f i)) (map unordered_item (wave_items other stands w))) (sym items_same))
      (flattened (λ i. made_in (item_answer here i)) (map unordered_item (wave_items load before w)) (map unordered_item (wave_items other stands w)) items_reordered)

  -- ---- groups

  no_group : AllByRecursion MakesNoGroup other.rules
  no_group = all_rules other.rules (all_reordered MakesNoGroup (map unordered_rule load.rules) (map unordered_rule other.rules) h.rules (all_unordered_rules load.rules h.no_group))

  made_groups_same : map unordered_item (filter (group_made here) (wave_items load before w)) ≡ map unordered_item (filter (group_made there) (wave_items other stands w))
  made_groups_same =
      groups_by load before w h.no_group
      ∙ ap (made_by (item_answer here) w) h.groups
      ∙ ap (λ f. made_by f w (map unordered_item (group_items other))) items_same
      ∙ sym (groups_by other stands w no_group)

  groups_same : map unordered_item (wave_groups load before w) ≡ map unordered_item (wave_groups other stands w)
  groups_same =
      map-append unordered_item before.groups (filter (group_made here) (wave_items load before w))
      ∙ ap (λ l. l ++ map unordered_item (filter (group_made here) (wave_items load before w))) same.groups
      ∙ ap (λ l. map unordered_item stands.groups ++ l) made_groups_same
      ∙ sym (map-append unordered_item stands.groups (filter (group_made there) (wave_items other stands w)))

  grown_reordered : Reordered (map unordered_object (wave_grown load before w)) (map unordered_object (wave_grown other stands w))
  grown_reordered =
      between _ _ _ _ (grown_by load before w)
      (grown_by other stands w
      ∙ ap (λ gs. grown_all (group_members there) gs (map unordered_object (wave_objects other stands w))) (sym groups_same)
      ∙ ap (λ f. grown_all f (map unordered_item (wave_groups load before w)) (map unordered_object (wave_objects other stands w))) (sym members_same))
      (mapped (λ o. grown o (members_by (group_members here) (map unordered_item (wave_groups load before w)) o)) (map unordered_object (wave_objects load before w)) (map unordered_object (wave_objects other stands w)) objects_reordered)

  pub world_reordered : SameWorlds (wave_world load before w) (wave_world other stands w)
  unfolding wave_world
  world_reordered = record {
    objects = between _ _ _ _ (map-append unordered_object before.objects (wave_grown load before w)) (map-append unordered_object stands.objects (wave_grown other stands w)) (joined (map unordered_object before.objects) (map unordered_object stands.objects) (map unordered_object (wave_grown load before w)) (map unordered_object (wave_grown other stands w)) same.objects grown_reordered);
    groups = groups_same;
  }

  -- ---- what is wrong

  pub faults_reordered : Reordered (map unordered_diag (wave_faults load before w)) (map unordered_diag (wave_faults other stands w))
  faults_reordered =
      between _ _ _ _ (faults_by load before w)
      (faults_by other stands w
      ∙ ap (λ gs. all_faults (item_answer there) (group_members there) gs (map (unordered_answer (map unordered_item)) (wave_answers other stands w)) (map unordered_item (wave_items other stands w)) (map unordered_object (wave_objects other stands w))) (sym groups_same)
      ∙ ap (λ f. all_faults f (group_members there) (map unordered_item (wave_groups load before w)) (map (unordered_answer (map unordered_item)) (wave_answers other stands w)) (map unordered_item (wave_items other stands w)) (map unordered_object (wave_objects other stands w))) (sym items_same)
      ∙ ap (λ f. all_faults (item_answer here) f (map unordered_item (wave_groups load before w)) (map (unordered_answer (map unordered_item)) (wave_answers other stands w)) (map unordered_item (wave_items other stands w)) (map unordered_object (wave_objects other stands w))) (sym members_same))
      (joined _ _ _ _ (flattened diags_in _ _ answers_reordered) (joined _ _ _ _ (flattened (λ i. diags_in (item_answer here i)) _ _ items_reordered) (flattened (λ o. diags_in (members_by (group_members here) (map unordered_item (wave_groups load before w)) o)) _ _ objects_reordered)))
