-- One wave after another at other places.
use Rattle.std.proofs.Common.{◌≡◌, ℕ, zero, suc, List, ◌++◌, map, filter, Option, Some, None, refl, ap, ◌∙◌}
use Rattle.std.specs.Prelude.{slice_get, option_map, ◌&&◌}
use Rattle.std.specs.List.{flat_map}
use Rattle.std.specs.Str.{bytes_eq}
use Rattle.std.proofs.lemmas.Option.{slice_get-map}
use Rattle.site_base.specs.declared.diag.Diag.{Diag}
use Rattle.site_base.specs.declared.place.Place.{Place}
use Rattle.site_model.specs.PlainSite.{PlainObject}
use Rattle.object_types.specs.Names.{type_named, type_name}
use Rattle.object_types.specs.declared.object_type.ObjectType.{ObjectType}
use Rattle.eval_meaning.specs.Registered.{PlainItem, PlainRule}
use Rattle.eval_meaning.specs.Views.{View}
use Rattle.eval_meaning.specs.Load.{Loaded}
use Rattle.commit_meaning.specs.Answers as answer
use Rattle.commit_meaning.specs.Answers.{Answer, is_made, made_in, all_made, diags_in}
use Rattle.commit_meaning.specs.Items.{item_answer}
use Rattle.commit_meaning.specs.Rules.{instances}
use Rattle.commit_meaning.specs.Groups.{group_members, grown}
use Rattle.commit_meaning.specs.Worlds.{World, targets}
use Rattle.commit_meaning.specs.Orders.{by_number}
use Rattle.commit_meaning.specs.Waves.{view_before, is_in_wave, rule_answers, wave_answers, item_number, wave_items, wave_objects, group_type, is_group, group_made, wave_groups, groups_of, member_answer, wave_grown, wave_world, wave_faults, diag_number, most_items, limited, wave_diags, world_after, diags_of}
use Rattle.place_laws.specs.MovedStates.{moved_item, moved_rule, moved_loaded, moved_view}
use Rattle.commit_places.specs.MovedAnswers.{moved_diag, moved_object, moved_target, moved_answer}
use Rattle.commit_places.proofs.Lists.{joined, filter_moved, flat_moved, map_moved, by_number_moved}
use Rattle.commit_places.proofs.Items.{item_moved}
use Rattle.commit_places.proofs.Rules.{rule_moved}
use Rattle.commit_places.proofs.Groups.{groups_moved}
use Rattle.commit_places.proofs.Targets.{objects, view_moved, targets_moved}

module _ (move : Place → Place) where
  abbrev pub moved_world : World → World
  moved_world b = record { objects = objects move b.objects; groups = map (moved_item move) b.groups }

  -- ---- what is in answers

  module _ {A : Type 0} (f : A → A) where
    is_made_same : (a : Answer A) → is_made (moved_answer move f a) ≡ is_made a
    is_made_same (answer.made x) = refl
    is_made_same (answer.diagnosed ds) = refl
    is_made_same (answer.blocked r) = refl

    made_moved : (a : Answer A) → made_in (moved_answer move f a) ≡ map f (made_in a)
    made_moved (answer.made x) = refl
    made_moved (answer.diagnosed ds) = refl
    made_moved (answer.blocked r) = refl

    all_moved : (a : Answer (List A)) → all_made (moved_answer move (map f) a) ≡ map f (all_made a)
    all_moved (answer.made xs) = refl
    all_moved (answer.diagnosed ds) = refl
    all_moved (answer.blocked r) = refl

    diags_moved : (a : Answer A) → diags_in (moved_answer move f a) ≡ map (moved_diag move) (diags_in a)
    diags_moved (answer.made x) = refl
    diags_moved (answer.diagnosed ds) = refl
    diags_moved (answer.blocked r) = refl

  grown_moved : (o : PlainObject) (a : Answer (List (List ℕ))) → grown (moved_object move o) (moved_answer move (λ ns. ns) a) ≡ moved_object move (grown o a)
  grown_moved o (answer.made ns) = refl
  grown_moved o (answer.diagnosed ds) = refl
  grown_moved o (answer.blocked r) = refl

  groups_of_moved : (t : Option ObjectType) (gs : List PlainItem) → groups_of t (map (moved_item move) gs) ≡ map (moved_item move) (groups_of t gs)
  groups_of_moved (Some t) gs = filter_moved (moved_item move) (λ g. bytes_eq g.kind (type_name t)) (λ g. bytes_eq g.kind (type_name t)) (λ g. refl) gs
  groups_of_moved None gs = refl

  limited_moved : (o : Option PlainItem) (ds : List Diag) → limited (option_map (moved_item move) o) (map (moved_diag move) ds) ≡ map (moved_diag move) (limited o ds)
  limited_moved (Some i) ds = refl
  limited_moved None ds = refl

  -- ---- one wave

  module _ (load : Loaded) (b : World) (w : ℕ) where
    abbrev there : Loaded
    there = moved_loaded move load

    abbrev view : View
    view = view_before load b

    abbrev moved_rule_answer : Answer (List PlainItem) → Answer (List PlainItem)
    moved_rule_answer a = moved_answer move (map (moved_item move)) a

    rule_answers_moved : (r : PlainRule) → rule_answers there (moved_world b) (moved_rule move r) ≡ map moved_rule_answer (rule_answers load b r)
    rule_answers_moved r =
        ap (λ v. map (instances v (moved_rule move r)) (targets r.target (objects move b.objects))) (view_moved move load b.objects)
        ∙ ap (map (instances (moved_view move view) (moved_rule move r))) (targets_moved move r.target b.objects)
        ∙ map_moved (moved_target move) moved_rule_answer (instances (moved_view move view) (moved_rule move r)) (instances view r) (rule_moved move view r) (targets r.target b.objects)

    answers_moved : wave_answers there (moved_world b) w ≡ map moved_rule_answer (wave_answers load b w)
    answers_moved =
        ap (flat_map (rule_answers there (moved_world b))) (filter_moved (moved_rule move) (λ r. is_in_wave w r.kind) (λ r. is_in_wave w r.kind) (λ r. refl) load.rules)
        ∙ flat_moved (moved_rule move) moved_rule_answer (rule_answers there (moved_world b)) (rule_answers load b) rule_answers_moved (filter (λ r. is_in_wave w r.kind) load.rules)

    from_rules : flat_map all_made (wave_answers there (moved_world b) w) ≡ map (moved_item move) (flat_map all_made (wave_answers load b w))
    from_rules = ap (flat_map all_made) answers_moved ∙ flat_moved moved_rule_answer (moved_item move) all_made all_made (all_moved (moved_item move)) (wave_answers load b w)

    items_moved : wave_items there (moved_world b) w ≡ map (moved_item move) (wave_items load b w)
    unfolding wave_items
    items_moved =
        ap (by_number item_number) (joined (moved_item move) (filter (λ i. is_in_wave w i.kind) there.items) (flat_map all_made (wave_answers there (moved_world b) w)) (filter (λ i. is_in_wave w i.kind) load.items) (flat_map all_made (wave_answers load b w))
        (filter_moved (moved_item move) (λ i. is_in_wave w i.kind) (λ i. is_in_wave w i.kind) (λ i. refl) load.items) from_rules)
        ∙ by_number_moved (moved_item move) item_number (λ i. refl) (filter (λ i. is_in_wave w i.kind) load.items ++ flat_map all_made (wave_answers load b w))

    objects_moved : wave_objects there (moved_world b) w ≡ objects move (wave_objects load b w)
    objects_moved =
        ap (λ v. flat_map (λ i. made_in (item_answer v i)) (wave_items there (moved_world b) w)) (view_moved move load b.objects)
        ∙ ap (flat_map (λ i. made_in (item_answer (moved_view move view) i))) items_moved
        ∙ flat_moved (moved_item move) (moved_object move) (λ i. made_in (item_answer (moved_view move view) i)) (λ i. made_in (item_answer view i)) (λ i. ap made_in (item_moved move view i) ∙ made_moved (moved_object move) (item_answer view i)) (wave_items load b w)

    group_made_same : (i : PlainItem) → group_made (moved_view move view) (moved_item move i) ≡ group_made view i
    group_made_same i = ap (λ x. is_group (type_named i.kind) && x) (ap is_made (item_moved move view i) ∙ is_made_same (moved_object move) (item_answer view i))

    groups_stand : wave_groups there (moved_world b) w ≡ map (moved_item move) (wave_groups load b w)
    groups_stand =
        joined (moved_item move) (map (moved_item move) b.groups) (filter (group_made (view_before there (moved_world b))) (wave_items there (moved_world b) w)) b.groups (filter (group_made view) (wave_items load b w)) refl
        (ap (λ v. filter (group_made v) (wave_items there (moved_world b) w)) (view_moved move load b.objects)
        ∙ ap (filter (group_made (moved_view move view))) items_moved
        ∙ filter_moved (moved_item move) (group_made (moved_view move view)) (group_made view) group_made_same (wave_items load b w))

    member_moved : (o : PlainObject) → member_answer there (moved_world b) w (moved_object move o) ≡ moved_answer move (λ ns. ns) (member_answer load b w o)
    member_moved o =
        let t : Option ObjectType = group_type (type_named o.kind) in
        ap (λ v. group_members v (groups_of t (wave_groups there (moved_world b) w)) (moved_object move o)) (view_moved move load b.objects)
        ∙ ap (λ gs. group_members (moved_view move view) (groups_of t gs) (moved_object move o)) groups_stand
        ∙ ap (λ gs. group_members (moved_view move view) gs (moved_object move o)) (groups_of_moved t (wave_groups load b w))
        ∙ groups_moved move view (groups_of t (wave_groups load b w)) o

    grown_all : wave_grown there (moved_world b) w ≡ objects move (wave_grown load b w)
    grown_all =
        ap (map (λ o. grown o (member_answer there (moved_world b) w o))) objects_moved
        ∙ map_moved (moved_object move) (moved_object move) (λ o. grown o (member_answer there (moved_world b) w o)) (λ o. grown o (member_answer load b w o)) (λ o. ap (grown (moved_object move o)) (member_moved o) ∙ grown_moved o (member_answer load b w o)) (wave_objects load b w)

    wave_world_moved : wave_world there (moved_world b) w ≡ moved_world (wave_world load b w)
    unfolding wave_world
    wave_world_moved =
        ap (λ os. record { objects = os; groups = wave_groups there (moved_world b) w }) (joined (moved_object move) (objects move b.objects) (wave_grown there (moved_world b) w) b.objects (wave_grown load b w) refl grown_all)
        ∙ ap (λ gs. record { objects = objects move (b.objects ++ wave_grown load b w); groups = gs }) groups_stand

    -- ---- what is wrong

    rule_faults : flat_map diags_in (wave_answers there (moved_world b) w) ≡ map (moved_diag move) (flat_map diags_in (wave_answers load b w))
    rule_faults = ap (flat_map diags_in) answers_moved ∙ flat_moved moved_rule_answer (moved_diag move) diags_in diags_in (diags_moved (map (moved_item move))) (wave_answers load b w)

    item_faults : flat_map (λ i. diags_in (item_answer (view_before there (moved_world b)) i)) (wave_items there (moved_world b) w) ≡ map (moved_diag move) (flat_map (λ i. diags_in (item_answer view i)) (wave_items load b w))
    item_faults =
        ap (λ v. flat_map (λ i. diags_in (item_answer v i)) (wave_items there (moved_world b) w)) (view_moved move load b.objects)
        ∙ ap (flat_map (λ i. diags_in (item_answer (moved_view move view) i))) items_moved
        ∙ flat_moved (moved_item move) (moved_diag move) (λ i. diags_in (item_answer (moved_view move view) i)) (λ i. diags_in (item_answer view i)) (λ i. ap diags_in (item_moved move view i) ∙ diags_moved (moved_object move) (item_answer view i)) (wave_items load b w)

    member_faults : flat_map (λ o. diags_in (member_answer there (moved_world b) w o)) (wave_objects there (moved_world b) w) ≡ map (moved_diag move) (flat_map (λ o. diags_in (member_answer load b w o)) (wave_objects load b w))
    member_faults =
        ap (flat_map (λ o. diags_in (member_answer there (moved_world b) w o))) objects_moved
        ∙ flat_moved (moved_object move) (moved_diag move) (λ o. diags_in (member_answer there (moved_world b) w o)) (λ o. diags_in (member_answer load b w o)) (λ o. ap diags_in (member_moved o) ∙ diags_moved (λ ns. ns) (member_answer load b w o)) (wave_objects load b w)

    faults_moved : wave_faults there (moved_world b) w ≡ map (moved_diag move) (wave_faults load b w)
    faults_moved = joined (moved_diag move) _ _ _ _ rule_faults (joined (moved_diag move) _ _ _ _ item_faults member_faults)

    wave_diags_moved : wave_diags there (moved_world b) w ≡ map (moved_diag move) (wave_diags load b w)
    unfolding wave_diags
    wave_diags_moved =
        ap (λ is. limited (slice_get is most_items) (by_number diag_number (wave_faults there (moved_world b) w))) items_moved
        ∙ ap (λ o. limited o (by_number diag_number (wave_faults there (moved_world b) w))) (slice_get-map (moved_item move) (wave_items load b w) most_items)
        ∙ ap (λ ds. limited (option_map (moved_item move) (slice_get (wave_items load b w) most_items)) ds) (ap (by_number diag_number) faults_moved ∙ by_number_moved (moved_diag move) diag_number (λ d. refl) (wave_faults load b w))
        ∙ limited_moved (slice_get (wave_items load b w) most_items) (by_number diag_number (wave_faults load b w))

  -- ---- all waves

  pub world_moved : (load : Loaded) (w : ℕ) → world_after (moved_loaded move load) w ≡ moved_world (world_after load w)
  world_moved load zero = refl
  world_moved load (suc w) = ap (λ b. wave_world (moved_loaded move load) b (suc w)) (world_moved load w) ∙ wave_world_moved load (world_after load w) (suc w)

  pub diags_of_moved : (load : Loaded) (w : ℕ) → diags_of (moved_loaded move load) w ≡ map (moved_diag move) (diags_of load w)
  diags_of_moved load zero = refl
  diags_of_moved load (suc w) = ap (λ b. wave_diags (moved_loaded move load) b (suc w)) (world_moved load w) ∙ wave_diags_moved load (world_after load w) (suc w)
