-- The names of the site are those of its checkables, and the names of each kind of thing differ in their lengths.
use Rattle.std.proofs.Common.{◌≡◌, ◌<◌, ◌^◌, ℕ, List, codes, length, map, sym, ap, ◌∙◌, subst, arith, lit<}
use Rattle.std.proofs.lemmas.List.{length-map}
use Rattle.site_model.specs.PlainSite.{PlainSite, full_names}
use Rattle.site_model.specs.Sound.{AreDistinct}
use Rattle.site_model.specs.declared.depend_spec.DependSpec.{DependSpec}
use Rattle.site_model.specs.declared.notify_spec.NotifySpec.{NotifySpec}
use Rattle.site_model.specs.declared.user_spec.UserSpec.{UserSpec}
use Rattle.log_cases.proofs.Distinct.{distinct_one, distinct_by_length}
use Rattle.log_cases.proofs.site.site.Goals as goal

-- a list is short where its names are
few : {A : Type 0} (f : A → List ℕ) (xs : List A) (names : List (List ℕ)) → map f xs ≡ names → length names < 2 ^ 32 → length xs < 2 ^ 32
few f xs names e h = subst (λ n. n < 2 ^ 32) (sym (ap length e) ∙ length-map xs f) h

pub returns : goal.returns
returns c =
    let plain = c.plain-site.ensures in
    let names = ap (λ (s : PlainSite). s.names) plain ∙ c.in_ok-names.ensures {u = tt} in
    let full = ap full_names plain ∙ c.in_ok-checkables.ensures {u = tt} in
    record {
      checkables = record {
        named = names ∙ sym full;
        distinct = subst AreDistinct (sym names) (distinct_by_length (codes "h") (codes "h!s \"1\"") (λ e. omega (arith, e)));
      };
      depends = subst AreDistinct (sym (c.in_ok-depends.ensures {u = tt})) (distinct_one (codes "h!s!d"));
      notifies = subst AreDistinct (sym (c.in_ok-notifies.ensures {u = tt})) (distinct_by_length (codes "h!s!m") (codes "h!s!sms") (λ e. omega (arith, e)));
      users = subst AreDistinct (sym (c.in_ok-users.ensures {u = tt})) (distinct_by_length (codes "ann") (codes "robert") (λ e. omega (arith, e)));
      few_depends = few (λ (d : DependSpec). d.name) _ _ (c.in_ok-depends.ensures {u = tt}) (lit< tt);
      few_notifies = few (λ (n : NotifySpec). n.name) _ _ (c.in_ok-notifies.ensures {u = tt}) (lit< tt);
      few_users = few (λ (u : UserSpec). u.name) _ _ (c.in_ok-users.ensures {u = tt}) (lit< tt);
    }
