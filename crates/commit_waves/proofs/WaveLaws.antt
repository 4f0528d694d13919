-- What a wave comes to, from the parts in which it is run.
use Rattle.std.proofs.Common.{◌≡◌, ℕ, ◌≤◌, List, ◌++◌, length, map, Some, refl, sym, ap, ◌∙◌, subst, append_assoc}
use Rattle.std.specs.Prelude.{slice_get}
use Rattle.std.specs.List.{filter, flat_map}
use Rattle.std.proofs.lemmas.Option.{slice_get_past}
use Rattle.site_base.specs.declared.diag.Diag.{Diag}
use Rattle.site_model.specs.PlainSite.{PlainObject, object_view}
use Rattle.site_model.specs.declared.object.Object.{Object}
use Rattle.eval_meaning.specs.Load.{Loaded}
use Rattle.eval_meaning.specs.Registered.{PlainItem}
use Rattle.eval_meaning.specs.Views.{View}
use Rattle.commit_meaning.specs.Answers.{all_made, made_in, diags_in}
use Rattle.commit_meaning.specs.Groups.{grown}
use Rattle.commit_meaning.specs.Items.{item_answer}
use Rattle.commit_meaning.specs.Orders.{by_number}
use Rattle.commit_meaning.specs.Waves.{diag_number, group_made, is_in_wave, item_number, limited, most_items, view_before, wave_answers, wave_diags, wave_groups, wave_items, wave_world}
use Rattle.commit_meaning.specs.Worlds.{World}
use Rattle.wave_objects.specs.Members.{members_at}
use Rattle.wave_objects.specs.Steps.{over}

-- the groups that stand before a wave make none of its items
pub items_stay : (load : Loaded) (os : List Object) (gs : List PlainItem) (w : ℕ) → wave_items load (over os) w ≡ wave_items load (record { objects = map object_view os; groups = gs }) w
unfolding wave_items
items_stay load os gs w = refl

-- ---- what is made of them

-- a wave's items, the groups that stand after it, and its objects, over a view
pub record IsMade (load : Loaded) (before : World) (w : ℕ) (v : View) (is gs : List PlainItem) (os : List PlainObject) : Type 0 where
  pub items : is ≡ wave_items load before w
  pub groups : gs ≡ before.groups ++ filter (group_made v) is
  pub objects : os ≡ flat_map (λ i. made_in (item_answer v i)) is

module _ (load : Loaded) (before : World) (w : ℕ) where
  abbrev told : View
  told = view_before load before

  abbrev made : List PlainItem → List PlainObject
  made is = flat_map (λ i. made_in (item_answer told i)) is

  abbrev groups_with : List PlainItem → List PlainItem
  groups_with is = before.groups ++ filter (group_made told) is

  abbrev joined : List PlainItem → List PlainObject → List PlainObject
  joined gs os = map (λ o. grown o (members_at told gs o)) os

  abbrev world_of : List PlainItem → List PlainObject → World
  world_of gs os = record { objects = before.objects ++ os; groups = gs }

  groups_told : (is gs : List PlainItem) (os : List PlainObject) → IsMade load before w told is gs os → gs ≡ wave_groups load before w
  groups_told is gs os m = m.groups ∙ ap groups_with m.items

  world_told : (is gs : List PlainItem) (os js : List PlainObject) → IsMade load before w told is gs os → js ≡ joined gs os
      → world_of gs js ≡ wave_world load before w
  unfolding wave_world
  world_told is gs os js m ej =
      ap (world_of gs) ej
      ∙ ap (λ xs. world_of gs (joined gs xs)) m.objects
      ∙ ap (λ ys. world_of ys (joined ys (made is))) m.groups
      ∙ ap (λ zs. world_of (groups_with zs) (joined (groups_with zs) (made zs))) m.items

  abbrev faults_of : List PlainItem → List PlainItem → List PlainObject → List Diag
  faults_of is gs os = flat_map diags_in (wave_answers load before w) ++ (flat_map (λ i. diags_in (item_answer told i)) is ++ flat_map (λ o. diags_in (members_at told gs o)) os)

  diags_told : (is gs : List PlainItem) (os : List PlainObject) → IsMade load before w told is gs os → length is ≤ most_items
      → by_number diag_number (faults_of is gs os) ≡ wave_diags load before w
  unfolding wave_diags
  diags_told is gs os m few =
      ap (λ xs. by_number diag_number (faults_of is gs xs)) m.objects
      ∙ ap (λ ys. by_number diag_number (faults_of is ys (made is))) m.groups
      ∙ ap (λ zs. by_number diag_number (faults_of zs (groups_with zs) (made zs))) m.items
      ∙ sym (ap (λ o. limited o (by_number diag_number (faults_of (wave_items load before w) (groups_with (wave_items load before w)) (made (wave_items load before w)))))
      (ap (λ zs. slice_get zs most_items) (sym m.items) ∙ slice_get_past is most_items few))

  pub too_many : (is : List PlainItem) (i : PlainItem) (ds : List Diag) → is ≡ wave_items load before w → slice_get is most_items ≡ Some i → limited (Some i) ds ≡ wave_diags load before w
  unfolding wave_diags
  too_many is i ds ei there = ap (λ o. limited o (by_number diag_number (faults_of (wave_items load before w) (groups_with (wave_items load before w)) (made (wave_items load before w))))) (sym there ∙ ap (λ zs. slice_get zs most_items) ei)

  -- Over items of which the wave has the same, the rest of the load being the same, it comes to the same.
  module _ (is : List PlainItem) (e : filter (λ i. is_in_wave w i.kind) is ≡ filter (λ i. is_in_wave w i.kind) load.items) where
    abbrev other : Loaded
    other = record load { items = is }

    same_items : wave_items other before w ≡ wave_items load before w
    unfolding wave_items
    same_items = ap (λ xs. by_number item_number (xs ++ flat_map all_made (wave_answers load before w))) e

    pub same_world : wave_world other before w ≡ wave_world load before w
    unfolding wave_world
    same_world = ap (λ zs. world_of (groups_with zs) (joined (groups_with zs) (made zs))) same_items

    pub same_diags : wave_diags other before w ≡ wave_diags load before w
    unfolding wave_diags
    same_diags = ap (λ zs. limited (slice_get zs most_items) (by_number diag_number (faults_of zs (groups_with zs) (made zs)))) same_items

  -- the same over what is equal to the view of the world
  module _ (v : View) (e : v ≡ told) (is gs : List PlainItem) (os : List PlainObject) (m : IsMade load before w v is gs os) where
    made_told : IsMade load before w told is gs os
    made_told = subst (λ x. IsMade load before w x is gs os) e m

    pub groups_are : gs ≡ wave_groups load before w
    groups_are = groups_told is gs os made_told

    pub world_is : (ps js : List PlainObject) → ps ≡ before.objects ++ js → js ≡ map (λ o. grown o (members_at v gs o)) os
        → record { objects = ps; groups = gs } ≡ wave_world load before w
    world_is ps js ep ej = ap (λ (xs : List PlainObject). record { objects = xs; groups = gs }) ep ∙ world_told is gs os js made_told (ej ∙ ap (λ x. map (λ (o : PlainObject). grown o (members_at x gs o)) os) e)

    -- from what is wrong with rules, then with items too, and then with groups too
    pub diags_are : (rules items all : List Diag) → length is ≤ most_items → rules ≡ flat_map diags_in (wave_answers load before w)
        → items ≡ rules ++ flat_map (λ i. diags_in (item_answer v i)) is → all ≡ items ++ flat_map (λ o. diags_in (members_at v gs o)) os
        → by_number diag_number all ≡ wave_diags load before w
    diags_are rules items all few er ei ea =
        ap (by_number diag_number) (ea ∙ ap (λ ds. ds ++ flat_map (λ (o : PlainObject). diags_in (members_at v gs o)) os) (ei ∙ ap (λ ds. ds ++ flat_map (λ (i : PlainItem). diags_in (item_answer v i)) is) er)
        ∙ append_assoc (flat_map diags_in (wave_answers load before w)) (flat_map (λ i. diags_in (item_answer v i)) is) (flat_map (λ o. diags_in (members_at v gs o)) os)
        ∙ ap (λ x. flat_map diags_in (wave_answers load before w) ++ (flat_map (λ (i : PlainItem). diags_in (item_answer x i)) is ++ flat_map (λ (o : PlainObject). diags_in (members_at x gs o)) os)) e)
        ∙ diags_told is gs os made_told few
