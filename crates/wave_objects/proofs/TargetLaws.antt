-- The targets of a type, gathered object by object.
use Rattle.std.proofs.Common.{◌≡◌, ℕ, List, [], ◌∷◌, ◌++◌, codes, map, Bool, true, false, cond, Option, Some, refl, ap, ◌∙◌}
use Rattle.std.specs.Prelude.{option_map, ◌&&◌}
use Rattle.std.specs.List.{flat_map}
use Rattle.std.specs.Str.{bytes_eq}
use Rattle.std.proofs.lemmas.Slice.Eq.{bytes_eq-Decides}
use Rattle.std.specs.Arc.{arc_value}
use Rattle.site_base.specs.View.{view}
use Rattle.site_model.specs.PlainSite.{PlainObject, object_view}
use Rattle.site_model.specs.declared.object.Object.{Object}
use Rattle.object_types.specs.declared.attribute.Attribute.TheVariants as attribute
use Rattle.eval_work.specs.Lists.{object_at}
use Rattle.commit_meaning.specs.Names.{Target, host, text_of}
use Rattle.commit_meaning.specs.Worlds.{first_object, of_kind, service_targets, targets, with_host}
use Rattle.wave_objects.specs.Targets.{targets_in, targets_of_one}

-- the targets that some of all objects are
abbrev pub some_targets : List ℕ → List PlainObject → List PlainObject → List Target
some_targets kind all os = cond (bytes_eq kind (codes "Service")) (flat_map (service_targets all) (of_kind kind os)) (map host (of_kind kind os))

one_more : (c : Bool) (all : List PlainObject) (o : PlainObject) (os : List PlainObject)
    → cond c (service_targets all o) (host o ∷ []) ++ cond c (flat_map (service_targets all) os) (map host os) ≡ cond c (flat_map (service_targets all) (o ∷ os)) (map host (o ∷ os))
one_more true all o os = refl
one_more false all o os = refl

gathered : (kind : List ℕ) (all os : List PlainObject) → targets_in kind all os ≡ some_targets kind all os
gathered kind all [] = none (bytes_eq kind (codes "Service"))
  where
    none : (c : Bool) → [] ≡ cond c [] (map host [])
    none true = refl
    none false = refl
gathered kind all (o ∷ os) = by (gathered kind all os) (bytes_eq o.kind kind) refl
  where
    by : targets_in kind all os ≡ some_targets kind all os → (b : Bool) → bytes_eq o.kind kind ≡ b
        → cond b (targets_of_one all o ++ targets_in kind all os) (targets_in kind all os)
        ≡ cond (bytes_eq kind (codes "Service")) (flat_map (service_targets all) (cond b (o ∷ of_kind kind os) (of_kind kind os))) (map host (cond b (o ∷ of_kind kind os) (of_kind kind os)))
    by rest true h =
        ap (λ ts. targets_of_one all o ++ ts) rest
        ∙ ap (λ k. cond (bytes_eq k (codes "Service")) (service_targets all o) (host o ∷ []) ++ some_targets kind all os) ((bytes_eq-Decides o.kind kind).0 h)
        ∙ one_more (bytes_eq kind (codes "Service")) all o (of_kind kind os)
    by rest false h = rest

pub targets_are : (kind : List ℕ) (all : List PlainObject) → targets_in kind all all ≡ targets kind all
targets_are kind all = gathered kind all all

-- ---- the host of a service

-- the first object of a type and a name is found among the objects as among their plain values
first_is : (kind name : List ℕ) (os : List Object) → first_object (record { kind = kind; name = name }) (map object_view os) ≡ option_map object_view (object_at kind name os)
first_is kind name [] = refl
first_is kind name (o ∷ os) = by (first_is kind name os) (bytes_eq kind o.kind && bytes_eq name o.name)
  where
    by : first_object (record { kind = kind; name = name }) (map object_view os) ≡ option_map object_view (object_at kind name os) → (b : Bool)
        → cond b (Some (object_view o)) (first_object (record { kind = kind; name = name }) (map object_view os)) ≡ option_map object_view (cond b (Some o) (object_at kind name os))
    by rest true = refl
    by rest false = rest

-- a service's one target, by the object that its host is
service_by_host : (os : List Object) (s : PlainObject) (found : Option Object) → object_at (codes "Host") (text_of s.tree attribute.HostName) os ≡ found
    → service_targets (map object_view os) s ≡ with_host s (option_map object_view found)
service_by_host os s found e = ap (with_host s) (first_is (codes "Host") (text_of s.tree attribute.HostName) os ∙ ap (option_map object_view) e)

-- the same among its targets
pub one_service : (os : List Object) (o : Object) (found : Option Object) → bytes_eq o.kind (codes "Service") ≡ true
    → object_at (codes "Host") (text_of (view (arc_value o.tree)) attribute.HostName) os ≡ found → targets_of_one (map object_view os) (object_view o) ≡ with_host (object_view o) (option_map object_view found)
one_service os o found is there =
    ap (λ b. cond b (service_targets (map object_view os) (object_view o)) (host (object_view o) ∷ [])) is ∙ service_by_host os (object_view o) found there
