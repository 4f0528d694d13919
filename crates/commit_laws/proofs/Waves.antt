-- A wave loses nothing.
use Rattle.std.proofs.Common.{◌≡◌, ℕ, suc, List, [], ◌∷◌, ◌++◌, filter, true, refl, subst}
use Rattle.std.specs.Prelude.{Contains}
use Rattle.std.specs.List.{flat_map, AllByRecursion}
use Rattle.std.proofs.lemmas.List.Elements.{Contains-append_left, Contains-append_right}
use Rattle.site_base.specs.declared.diag.Diag.{Diag}
use Rattle.site_base.specs.declared.item_no.ItemNo.{ItemNo}
use Rattle.site_model.specs.PlainSite.{PlainObject}
use Rattle.eval_meaning.specs.Load.{Loaded}
use Rattle.eval_meaning.specs.Registered.{PlainItem, PlainRule}
use Rattle.eval_meaning.specs.Views.{View}
use Rattle.commit_meaning.specs.Answers as answer
use Rattle.commit_meaning.specs.Answers.{Answer, all_made, diags_in, made_in}
use Rattle.commit_meaning.specs.Groups.{grown}
use Rattle.commit_meaning.specs.Items.{item_answer}
use Rattle.commit_meaning.specs.Names.{Target}
use Rattle.commit_meaning.specs.Rules.{instances, pair_number}
use Rattle.commit_meaning.specs.Waves.{group_type, groups_of, is_in_wave, item_number, member_answer, rule_answers, wave_answers, wave_grown, wave_groups, wave_items, wave_world, world_after}
use Rattle.commit_meaning.specs.Worlds.{World, targets}
use Rattle.commit_meaning.proofs.Deciding.{is_world}
use Rattle.commit_meaning.proofs.Lists.{all_imp}
use Rattle.object_types.specs.Names.{type_named}
use Rattle.commit_laws.specs.Accounts.{IsAnswerOf, AnswersAll, IsAccounted, told_in, items_in, objects_in, view_in, LosesNothing}
use Rattle.commit_laws.proofs.Among.{of_one, filtered_in, flat_in, mapped_in, sorted_in}
use Rattle.commit_laws.proofs.Told.{answers_all}

-- an answer whose diagnostics are told, and of which what is made stands where it has to
accounted : {A : Type 0} (n : ItemNo) (told : List Diag) (Stands : A → Type 0) (a : Answer A) → IsAnswerOf n a → AllByRecursion (Contains told) (diags_in a) → ((x : A) → a ≡ answer.made x → Stands x) → IsAccounted n told Stands a
accounted n told Stands (answer.made x) h c k = k x refl
accounted n told Stands (answer.diagnosed ds) h c k = (h.0, both ds h.1 c)
  where
    both : (fs : List Diag) → AllByRecursion (λ d. d.number ≡ n) fs → AllByRecursion (Contains told) fs → AllByRecursion (λ d. (d.number ≡ n) × Contains told d) fs
    both [] p q = tt
    both (f ∷ fs) p q = ((p.0, q.0), both fs p.1 q.1)
accounted n told Stands (answer.blocked r) h c k = absurd h

module _ (load : Loaded) (w : ℕ) where
  abbrev before : World
  before = world_after load w

  abbrev view : View
  view = view_in load w

  answers : AnswersAll view
  answers = answers_all view (is_world load before.objects)

  -- ---- what is told

  abbrev of_rules : List Diag
  of_rules = flat_map diags_in (wave_answers load before (suc w))

  abbrev of_items : List Diag
  of_items = flat_map (λ i. diags_in (item_answer view i)) (items_in load w)

  abbrev of_members : List Diag
  of_members = flat_map (λ o. diags_in (member_answer load before (suc w) o)) (objects_in load w)

  tells : (ds fs : List Diag) → ((d : Diag) → Contains fs d → Contains (told_in load w) d) → AllByRecursion (Contains fs) ds → AllByRecursion (Contains (told_in load w)) ds
  tells ds fs f h = all_imp (Contains fs) (Contains (told_in load w)) f ds h

  -- ---- items and rules

  abbrev own_rules : List PlainRule
  own_rules = filter (λ r. is_in_wave (suc w) r.kind) load.rules

  abbrev own_items : List PlainItem
  own_items = filter (λ i. is_in_wave (suc w) i.kind) load.items

  abbrev of_targets : List PlainItem
  of_targets = flat_map all_made (wave_answers load before (suc w))

  sorted_into : (i : PlainItem) → Contains (own_items ++ of_targets) i → Contains (items_in load w) i
  unfolding wave_items
  sorted_into i c = sorted_in item_number (own_items ++ of_targets) i c

  is_registered : (i : PlainItem) → Contains load.items i → is_in_wave (suc w) i.kind ≡ true → Contains (items_in load w) i
  is_registered i c e = sorted_into i (Contains-append_left own_items of_targets i (of_one (λ j. is_in_wave (suc w) j.kind ≡ true → Contains own_items j) load.items i (filtered_in (λ j. is_in_wave (suc w) j.kind) load.items) c e))

  of_answer : (r : PlainRule) → Contains load.rules r → is_in_wave (suc w) r.kind ≡ true → (t : Target) → Contains (targets r.target before.objects) t → Contains (wave_answers load before (suc w)) (instances view r t)
  of_answer r c e t d =
      let own : Contains own_rules r = of_one (λ q. is_in_wave (suc w) q.kind ≡ true → Contains own_rules q) load.rules r (filtered_in (λ q. is_in_wave (suc w) q.kind) load.rules) c e in
      of_one (Contains (wave_answers load before (suc w))) (rule_answers load before r) (instances view r t) (flat_in (rule_answers load before) own_rules r own) (mapped_in (instances view r) (targets r.target before.objects) t d)

  rule_accounted : (r : PlainRule) → Contains load.rules r → is_in_wave (suc w) r.kind ≡ true → (t : Target) → Contains (targets r.target before.objects) t → IsAccounted (pair_number r t) (told_in load w) (AllByRecursion (Contains (items_in load w))) (instances view r t)
  rule_accounted r c e t d =
      let own = of_answer r c e t d in
      accounted (pair_number r t) (told_in load w) (AllByRecursion (Contains (items_in load w))) (instances view r t) (answers.rules r t)
      (tells (diags_in (instances view r t)) of_rules (Contains-append_left of_rules (of_items ++ of_members)) (flat_in diags_in (wave_answers load before (suc w)) (instances view r t) own))
      (λ is h. all_imp (Contains of_targets) (Contains (items_in load w)) (λ i g. sorted_into i (Contains-append_right own_items of_targets i g)) is (stand is (instances view r t) h (flat_in all_made (wave_answers load before (suc w)) (instances view r t) own)))
    where
      stand : (is : List PlainItem) (a : Answer (List PlainItem)) → a ≡ answer.made is → AllByRecursion (Contains of_targets) (all_made a) → AllByRecursion (Contains of_targets) is
      stand is a h g = subst (λ b. AllByRecursion (Contains of_targets) (all_made b)) h g

  -- ---- objects

  item_accounted : (i : PlainItem) → Contains (items_in load w) i → IsAccounted i.number (told_in load w) (Contains (objects_in load w)) (item_answer view i)
  item_accounted i c =
      accounted i.number (told_in load w) (Contains (objects_in load w)) (item_answer view i) (answers.items i)
      (tells (diags_in (item_answer view i)) of_items (λ d g. Contains-append_right of_rules (of_items ++ of_members) d (Contains-append_left of_items of_members d g)) (flat_in (λ j. diags_in (item_answer view j)) (items_in load w) i c))
      (λ o h. one o (item_answer view i) h (flat_in (λ j. made_in (item_answer view j)) (items_in load w) i c))
    where
      one : (o : PlainObject) (a : Answer PlainObject) → a ≡ answer.made o → AllByRecursion (Contains (objects_in load w)) (made_in a) → Contains (objects_in load w) o
      one o a h g = (subst (λ b. AllByRecursion (Contains (objects_in load w)) (made_in b)) h g).0

  member_accounted : (o : PlainObject) → Contains (objects_in load w) o → IsAccounted o.number (told_in load w) (λ ns. Unit {0}) (member_answer load before (suc w) o)
  member_accounted o c =
      accounted o.number (told_in load w) (λ ns. Unit {0}) (member_answer load before (suc w) o) (answers.members (groups_of (group_type (type_named o.kind)) (wave_groups load before (suc w))) o)
      (tells (diags_in (member_answer load before (suc w) o)) of_members (λ d g. Contains-append_right of_rules (of_items ++ of_members) d (Contains-append_right of_items of_members d g)) (flat_in (λ p. diags_in (member_answer load before (suc w) p)) (objects_in load w) o c))
      (λ ns h. tt)

  object_stands : (o : PlainObject) → Contains (objects_in load w) o → Contains (world_after load (suc w)).objects (grown o (member_answer load before (suc w) o))
  unfolding wave_world
  object_stands o c = Contains-append_right before.objects (wave_grown load before (suc w)) (grown o (member_answer load before (suc w) o)) (mapped_in (λ p. grown p (member_answer load before (suc w) p)) (objects_in load w) o c)

  pub wave_loses_nothing : LosesNothing load w
  wave_loses_nothing = record { registered = is_registered; rules = rule_accounted; items = item_accounted; members = member_accounted; objects = object_stands }
