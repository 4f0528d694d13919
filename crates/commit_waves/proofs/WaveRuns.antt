-- A wave as it is run: what its parts come to is what the wave comes to.
use Rattle.std.proofs.Common.{◌≡◌, ◌<◌, ◌≤◌, ℕ, List, [], ◌++◌, length, get_or, map, Some, sym, ap, ◌∙◌, subst}
use Rattle.std.specs.Prelude.{option_map}
use Rattle.std.specs.List.{filter, flat_map}
use Rattle.std.proofs.lemmas.List.{length-map, map-append}
use Rattle.std.proofs.lemmas.Option.{slice_get-get_or, slice_get-map}
use Rattle.site_base.specs.declared.diag.Diag.{Diag}
use Rattle.site_model.specs.PlainSite.{object_view}
use Rattle.site_model.specs.declared.object.Object.{Object}
use Rattle.dsl_load.specs.Loads.{IsLoad, plain_parts}
use Rattle.dsl_load.specs.declared.load_parts.LoadParts.{LoadParts}
use Rattle.eval_work.specs.Works.{view_of, plain_item}
use Rattle.eval_work.specs.declared.view.WorldView.{WorldView}
use Rattle.commit_meaning.specs.Answers.{made_in, diags_in}
use Rattle.commit_meaning.specs.Groups.{grown}
use Rattle.commit_meaning.specs.Items.{item_answer}
use Rattle.commit_meaning.specs.Orders.{by_number}
use Rattle.commit_meaning.specs.Waves.{diag_number, group_made, limited, most_items, view_before, wave_answers, wave_diags, wave_items, wave_world}
use Rattle.wave_order.specs.WaveItems.{plain_pending}
use Rattle.wave_order.specs.declared.pending.Pending.{Pending}
use Rattle.eval_work.specs.declared.item.Item.{Item}
use Rattle.wave_objects.specs.Captured.{AreNamed}
use Rattle.wave_objects.specs.Members.{members_at}
use Rattle.commit_waves.specs.Plain.{plain_world}
use Rattle.wave_objects.specs.Steps.{over}
use Rattle.commit_waves.proofs.NamedLaws.{groups_named, wave_named}
use Rattle.commit_waves.proofs.WaveLaws.{IsMade, diags_are, groups_are, items_stay, too_many, world_is}

-- ---- the run

module _ (p : LoadParts) (l : IsLoad p) (os : List Object) (old : List Item) (w : ℕ) (named : AreNamed p.store (map plain_item old)) (v : WorldView)
    (ev : view_of v ≡ view_before (plain_parts p) (plain_world os old)) (es : v.store.now ≡ p.store) (items : List Pending)
    (ei : map plain_pending items ≡ wave_items (plain_parts p) (over os) w) where
  -- what its items captured
  pub items_named : AreNamed v.store.now (map plain_pending items)
  items_named = subst (λ c. AreNamed c (map plain_pending items)) (sym es) (subst (AreNamed p.store) (sym ei) (wave_named p l (over os) w))

  items_here : map plain_pending items ≡ wave_items (plain_parts p) (plain_world os old) w
  items_here = ei ∙ items_stay (plain_parts p) os (map plain_item old) w

  -- the one item that is too many
  pub limit_told : (x : Pending) → most_items < length items → x ≡ get_or items most_items x
      → limited (Some (plain_pending x)) [] ≡ wave_diags (plain_parts p) (plain_world os old) w
  limit_told x more at =
      too_many (plain_parts p) (plain_world os old) w (map plain_pending items) (plain_pending x) [] items_here
      (slice_get-map plain_pending items most_items ∙ ap (option_map plain_pending) (slice_get-get_or items most_items x more ∙ ap Some (sym at)))

  module _ (made : List Object) (em : map object_view made ≡ flat_map (λ i. made_in (item_answer (view_of v) i)) (map plain_pending items)) (more : List Item)
      (eg : map plain_item more ≡ filter (group_made (view_of v)) (map plain_pending items)) (new : List Item) (en : map plain_item new ≡ map plain_item old ++ map plain_item more) where
    is_made : IsMade (plain_parts p) (plain_world os old) w (view_of v) (map plain_pending items) (map plain_item new) (map object_view made)
    is_made = record { items = items_here; groups = en ∙ ap (λ xs. map plain_item old ++ xs) eg; objects = em }

    -- what the groups captured then
    pub still_named : AreNamed p.store (map plain_item new)
    still_named =
        subst (AreNamed p.store) (sym (groups_are (plain_parts p) (plain_world os old) w (view_of v) ev (map plain_pending items) (map plain_item new) (map object_view made) is_made))
        (groups_named p l (plain_world os old) w named)

    pub groups_known : AreNamed v.store.now (map plain_item new)
    groups_known = subst (λ c. AreNamed c (map plain_item new)) (sym es) still_named

    -- the world then
    pub world_then : (joined ps : List Object) → map object_view joined ≡ map (λ o. grown o (members_at (view_of v) (map plain_item new) o)) (map object_view made) → ps ≡ os ++ joined
        → plain_world ps new ≡ wave_world (plain_parts p) (plain_world os old) w
    world_then joined ps ej ep =
        world_is (plain_parts p) (plain_world os old) w (view_of v) ev (map plain_pending items) (map plain_item new) (map object_view made) is_made (map object_view ps) (map object_view joined)
        (ap (map object_view) ep ∙ map-append object_view os joined) ej

    -- what is told of it
    pub wave_told : (rules both all : List Diag) → length items ≤ most_items → rules ≡ flat_map diags_in (wave_answers (plain_parts p) (over os) w)
        → both ≡ rules ++ flat_map (λ i. diags_in (item_answer (view_of v) i)) (map plain_pending items)
        → all ≡ both ++ flat_map (λ o. diags_in (members_at (view_of v) (map plain_item new) o)) (map object_view made)
        → by_number diag_number all ≡ wave_diags (plain_parts p) (plain_world os old) w
    wave_told rules both all few er eb ea =
        diags_are (plain_parts p) (plain_world os old) w (view_of v) ev (map plain_pending items) (map plain_item new) (map object_view made) is_made rules both all
        (subst (λ n. n ≤ most_items) (sym (length-map items plain_pending)) few) er eb ea
