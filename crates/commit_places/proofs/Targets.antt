-- The objects that are there, and the targets of rules among them, at other places.
use Rattle.std.proofs.Common.{◌≡◌, ℕ, List, [], ◌∷◌, map, codes, Bool, true, false, cond, Option, Some, None, refl, ap, ◌∙◌}
use Rattle.std.specs.Prelude.{option_map}
use Rattle.std.specs.List.{flat_map}
use Rattle.std.specs.Str.{bytes_eq}
use Rattle.site_base.specs.declared.place.Place.{Place}
use Rattle.site_model.specs.PlainSite.{PlainObject}
use Rattle.object_types.specs.declared.attribute.Attribute.TheVariants as attribute
use Rattle.eval_meaning.specs.Views as read
use Rattle.eval_meaning.specs.Views.{is_object}
use Rattle.eval_meaning.specs.Load.{Loaded}
use Rattle.eval_meaning.specs.declared.read.Read.{Read}
use Rattle.commit_meaning.specs.Names.{host, text_of}
use Rattle.commit_meaning.specs.Worlds.{shown_as, world_view, first_object, with_host, service_targets, of_kind, targets}
use Rattle.place_laws.specs.MovedStates.{moved_loaded, moved_view}
use Rattle.commit_places.specs.MovedAnswers.{moved_object, moved_target}
use Rattle.commit_places.proofs.Lists.{filter_moved, flat_moved, map_moved}

module _ (move : Place → Place) where
  abbrev pub objects : List PlainObject → List PlainObject
  objects os = map (moved_object move) os

  -- ---- what a view shows of objects

  shown_same : (os : List PlainObject) → map shown_as (objects os) ≡ map shown_as os
  shown_same [] = refl
  shown_same (o ∷ os) = ap (λ more. shown_as o ∷ more) (shown_same os)

  pub view_moved : (load : Loaded) (os : List PlainObject) → world_view (moved_loaded move load) (objects os) ≡ moved_view move (world_view load os)
  view_moved load os = ap (λ shown. record (moved_view move (world_view load os)) { objects = shown }) (shown_same os)

  -- ---- targets

  first_moved : (r : Read) (os : List PlainObject) → first_object r (objects os) ≡ option_map (moved_object move) (first_object r os)
  first_moved r [] = refl
  first_moved r (o ∷ os) = by (is_object r (shown_as o)) (first_moved r os)
    where
      by : (b : Bool) → first_object r (objects os) ≡ option_map (moved_object move) (first_object r os) → cond b (Some (moved_object move o)) (first_object r (objects os)) ≡ option_map (moved_object move) (cond b (Some o) (first_object r os))
      by true e = refl
      by false e = e

  host_moved : (s : PlainObject) (o : Option PlainObject) → with_host (moved_object move s) (option_map (moved_object move) o) ≡ map (moved_target move) (with_host s o)
  host_moved s (Some h) = refl
  host_moved s None = refl

  service_moved : (os : List PlainObject) (s : PlainObject) → service_targets (objects os) (moved_object move s) ≡ map (moved_target move) (service_targets os s)
  service_moved os s =
      ap (with_host (moved_object move s)) (first_moved (read.host (text_of s.tree attribute.HostName)) os)
      ∙ host_moved s (first_object (read.host (text_of s.tree attribute.HostName)) os)

  kind_moved : (kind : List ℕ) (os : List PlainObject) → of_kind kind (objects os) ≡ objects (of_kind kind os)
  kind_moved kind os = filter_moved (moved_object move) (λ o. bytes_eq o.kind kind) (λ o. bytes_eq o.kind kind) (λ o. refl) os

  pub targets_moved : (kind : List ℕ) (os : List PlainObject) → targets kind (objects os) ≡ map (moved_target move) (targets kind os)
  targets_moved kind os = by (bytes_eq kind (codes "Service"))
    where
      by : (b : Bool) → cond b (flat_map (service_targets (objects os)) (of_kind kind (objects os))) (map host (of_kind kind (objects os))) ≡ map (moved_target move) (cond b (flat_map (service_targets os) (of_kind kind os)) (map host (of_kind kind os)))
      by true = ap (flat_map (service_targets (objects os))) (kind_moved kind os) ∙ flat_moved (moved_object move) (moved_target move) (service_targets (objects os)) (service_targets os) (service_moved os) (of_kind kind os)
      by false = ap (map host) (kind_moved kind os) ∙ map_moved (moved_object move) (moved_target move) host host (λ o. refl) (of_kind kind os)
