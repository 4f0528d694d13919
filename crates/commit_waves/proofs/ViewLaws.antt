-- The view over a world.
use Rattle.std.proofs.Common.{◌≡◌, ℕ, List, [], ◌∷◌, map, refl, ap, ◌∙◌}
use Rattle.site_model.specs.PlainSite.{PlainObject, object_view}
use Rattle.site_model.specs.declared.object.Object.{Object}
use Rattle.object_types.specs.Names.{all_types, type_name}
use Rattle.eval_meaning.specs.Load.{Loaded}
use Rattle.eval_meaning.specs.Registered.{PlainRule}
use Rattle.eval_meaning.specs.Views.{Shown, View}
use Rattle.eval_meaning.specs.declared.read.Read.{Read}
use Rattle.eval_work.specs.Works.{shown_object}
use Rattle.commit_meaning.specs.Worlds.{shown_as, world_view}

-- objects are shown as their plain values are
pub shown_are : (os : List Object) → map shown_object os ≡ map shown_as (map object_view os)
shown_are [] = refl
shown_are (o ∷ os) = ap (λ ss. shown_object o ∷ ss) (shown_are os)

module _ (load : Loaded) where
  abbrev view_with : List PlainRule → List Shown → List Read → List (List ℕ) → View
  view_with rs ss ns ks = record { store = load.store; templates = load.templates; rules = rs; objects = ss; absent = ns; whole = ks; files = [] }

  pub view_is : (os : List PlainObject) (rs : List PlainRule) (ss : List Shown) (ns : List Read) (ks : List (List ℕ)) → rs ≡ load.rules → ss ≡ map shown_as os → ns ≡ []
      → ks ≡ map type_name all_types → view_with rs ss ns ks ≡ world_view load os
  view_is os rs ss ns ks er es en ek =
      ap (λ x. view_with x ss ns ks) er ∙ ap (λ x. view_with load.rules x ns ks) es ∙ ap (λ x. view_with load.rules (map shown_as os) x ks) en
      ∙ ap (λ x. view_with load.rules (map shown_as os) [] x) ek
