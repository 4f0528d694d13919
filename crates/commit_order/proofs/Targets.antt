-- The targets of rules among objects in another order.
use Rattle.std.proofs.Common.{◌≡◌, ℕ, List, map, codes, Bool, true, false, cond, Option, Some, None, refl, ap, ◌∙◌}
use Rattle.std.specs.Prelude.{option_map}
use Rattle.std.specs.List.{flat_map}
use Rattle.std.specs.Str.{bytes_eq}
use Rattle.std.proofs.Math.Path.{fun_ext}
use Rattle.site_model.specs.PlainSite.{PlainObject}
use Rattle.object_types.specs.declared.attribute.Attribute.TheVariants as attribute
use Rattle.eval_meaning.specs.Views as read
use Rattle.commit_meaning.specs.Names.{host, text_of}
use Rattle.commit_meaning.specs.Worlds.{first_object, with_host, service_targets, of_kind, targets}
use Rattle.commit_order.proofs.Mapped.{flat_mapped, map_mapped, filter_mapped}
use Rattle.commit_order.specs.Reordered.{Reordered}
use Rattle.commit_order.specs.Unordered.{unordered_object, unordered_target}
use Rattle.commit_order.specs.Alike.{AreApart}
use Rattle.commit_order.proofs.Lists.{between, kept, mapped, flattened}
use Rattle.commit_order.proofs.Names.{first_reordered, first_unordered}

-- ---- objects without the numbers of statements

with_host_unordered : (s : PlainObject) (o : Option PlainObject) → with_host (unordered_object s) (option_map unordered_object o) ≡ map unordered_target (with_host s o)
with_host_unordered s (Some h) = refl
with_host_unordered s None = refl

service_unordered : (os : List PlainObject) (s : PlainObject) → service_targets (map unordered_object os) (unordered_object s) ≡ map unordered_target (service_targets os s)
service_unordered os s =
    ap (with_host (unordered_object s)) (first_unordered (read.host (text_of s.tree attribute.HostName)) os)
    ∙ with_host_unordered s (first_object (read.host (text_of s.tree attribute.HostName)) os)

kind_unordered : (kind : List ℕ) (os : List PlainObject) → of_kind kind (map unordered_object os) ≡ map unordered_object (of_kind kind os)
kind_unordered kind os = filter_mapped unordered_object (λ o. bytes_eq o.kind kind) (λ o. bytes_eq o.kind kind) (λ o. refl) os

pub targets_unordered : (kind : List ℕ) (os : List PlainObject) → targets kind (map unordered_object os) ≡ map unordered_target (targets kind os)
targets_unordered kind os = by (bytes_eq kind (codes "Service"))
  where
    by : (b : Bool) → cond b (flat_map (service_targets (map unordered_object os)) (of_kind kind (map unordered_object os))) (map host (of_kind kind (map unordered_object os))) ≡ map unordered_target (cond b (flat_map (service_targets os) (of_kind kind os)) (map host (of_kind kind os)))
    by true = ap (flat_map (service_targets (map unordered_object os))) (kind_unordered kind os) ∙ flat_mapped unordered_object unordered_target (service_targets (map unordered_object os)) (service_targets os) (service_unordered os) (of_kind kind os)
    by false = ap (map host) (kind_unordered kind os) ∙ map_mapped unordered_object unordered_target host host (λ o. refl) (of_kind kind os)

-- ---- objects in another order

module _ (os ps : List PlainObject) (h : Reordered os ps) (apart : AreApart os) where
  service_same : (s : PlainObject) → service_targets os s ≡ service_targets ps s
  service_same s = ap (with_host s) (first_reordered (read.host (text_of s.tree attribute.HostName)) os ps h apart)

  kind_reordered : (kind : List ℕ) → Reordered (of_kind kind os) (of_kind kind ps)
  kind_reordered kind = kept (λ o. bytes_eq o.kind kind) os ps h

  pub targets_reordered : (kind : List ℕ) → Reordered (targets kind os) (targets kind ps)
  targets_reordered kind = by (bytes_eq kind (codes "Service"))
    where
      by : (b : Bool) → Reordered (cond b (flat_map (service_targets os) (of_kind kind os)) (map host (of_kind kind os))) (cond b (flat_map (service_targets ps) (of_kind kind ps)) (map host (of_kind kind ps)))
      by true =
          between _ _ (flat_map (service_targets ps) (of_kind kind os)) (flat_map (service_targets ps) (of_kind kind ps)) (ap (λ f. flat_map f (of_kind kind os)) (fun_ext service_same)) refl
          (flattened (service_targets ps) (of_kind kind os) (of_kind kind ps) (kind_reordered kind))
      by false = mapped host (of_kind kind os) (of_kind kind ps) (kind_reordered kind)
