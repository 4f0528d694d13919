-- What recurs on a site at first.
use Rattle.std.proofs.Common.{◌≡◌, ℕ, ◌≤◌, min, not, ◌&&◌, Bool, true, false, cond, List, [], ◌∷◌, ◌++◌, Option, Some, None, codes, refl, sym, arith}
use Rattle.std.specs.List.{AllByRecursion, flat_map}
use Rattle.std.specs.Option.{option_map, option_to_list}
use Rattle.std.specs.Str.{bytes_eq}
use Rattle.site_base.specs.Data.{Data}
use Rattle.site_model.specs.Names.{place_of}
use Rattle.site_model.specs.PlainSite.{PlainObject, PlainSite}
use Rattle.object_types.specs.declared.attribute.Attribute.TheVariants as attribute
use Rattle.object_types.specs.declared.object_type.ObjectType.TheVariants as object
use Rattle.object_values.specs.Values.{seconds_at, text_at}
use Rattle.down_recur.proofs.Once.{of_contained}
use Rattle.down_recur.specs.Laws.{AreNew, IsNew}
use Rattle.down_recur.specs.Recurrings.{has_semicolon, is_nameable, made, made_by, made_of, recurring_of, recurrings, text_in, trigger_name}
use Rattle.down_recur.specs.declared.recurring.Recurring.{Recurring}

not_true : (b : Bool) → not b ≡ true → b ≡ false
not_true true e = sym e
not_true false e = refl

plain_text : (o : Option (List ℕ)) → is_nameable o ≡ true → has_semicolon (text_in o) ≡ false
plain_text None e = refl
plain_text (Some text) e = not_true (has_semicolon text) e

at_most : (n : ℕ) → min n 99999999999 ≤ 99999999999
at_most n = omega arith

module _ (tree : Data) (host : is_nameable (text_at object.ScheduledDowntime attribute.HostName tree) ≡ true) (service : is_nameable (text_at object.ScheduledDowntime attribute.ServiceName tree) ≡ true) where
  new_made : (trigger : Option ℕ) → IsNew (made tree trigger)
  new_made trigger = record {
    host = plain_text (text_at object.ScheduledDowntime attribute.HostName tree) host;
    service = service;
    duration = at_most (seconds_at object.ScheduledDowntime attribute.Duration tree);
    done = refl;
  }

  new_placed : (place : Option ℕ) → AllByRecursion IsNew (option_to_list (option_map (λ k. made tree (Some k)) place))
  new_placed None = tt
  new_placed (Some k) = (new_made (Some k), tt)

  new_by : (names : List (List ℕ)) (name : Option (List ℕ)) → AllByRecursion IsNew (option_to_list (made_by names tree name))
  new_by names None = (new_made None, tt)
  new_by names (Some name) = new_placed (place_of name names)

new_of : (names : List (List ℕ)) (tree : Data) → AllByRecursion IsNew (option_to_list (made_of names tree))
new_of names tree =
    by (is_nameable (text_at object.ScheduledDowntime attribute.HostName tree)) refl (is_nameable (text_at object.ScheduledDowntime attribute.ServiceName tree)) refl
  where
    by : (a : Bool) → is_nameable (text_at object.ScheduledDowntime attribute.HostName tree) ≡ a → (b : Bool) → is_nameable (text_at object.ScheduledDowntime attribute.ServiceName tree) ≡ b
        → AllByRecursion IsNew (option_to_list (cond (a && b) (made_by names tree (trigger_name tree)) None))
    by true h true k = new_by tree h k names (trigger_name tree)
    by true h false k = tt
    by false h b k = tt

new_object : (names : List (List ℕ)) (o : PlainObject) → AllByRecursion IsNew (option_to_list (recurring_of names o))
new_object names o = by (bytes_eq o.kind (codes "ScheduledDowntime"))
  where
    by : (b : Bool) → AllByRecursion IsNew (option_to_list (cond b (made_of names o.tree) None))
    by true = new_of names o.tree
    by false = tt

both_new : (xs ys : List Recurring) → AllByRecursion IsNew xs → AllByRecursion IsNew ys → AllByRecursion IsNew (xs ++ ys)
both_new [] ys h k = k
both_new (x ∷ xs) ys h k = (h.0, both_new xs ys h.1 k)

new_objects : (names : List (List ℕ)) (os : List PlainObject) → AllByRecursion IsNew (flat_map (λ o. option_to_list (recurring_of names o)) os)
new_objects names [] = tt
new_objects names (o ∷ os) =
    both_new (option_to_list (recurring_of names o)) (flat_map (λ o. option_to_list (recurring_of names o)) os) (new_object names o) (new_objects names os)

all_new : (s : PlainSite) → AllByRecursion IsNew (recurrings s)
unfolding recurrings
all_new s = new_objects s.names s.objects

pub are_new : AreNew
are_new s r h = of_contained IsNew (recurrings s) h.0 r (all_new s) h.1 h.2
