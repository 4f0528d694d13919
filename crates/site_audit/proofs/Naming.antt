-- Looking for the first checkable that a line can name.
use Rattle.std.proofs.Common.{◌≡◌, ◌+◌, ◌<◌, ℕ, Bool, false, cond, List, ◌∷◌, length, drop, get_or, map, sym, ap, ◌∙◌, Option, Some}
use Rattle.site_model.specs.PlainSite.{PlainCheck, check_view}
use Rattle.site_model.specs.declared.check_spec.CheckSpec.{CheckSpec}
use Rattle.site_audit.specs.Commands.{first_named}
use Rattle.site_audit.proofs.Ordering.{drop_one}

module _ (test : PlainCheck → Bool) where
  pub test_fails : (i : ℕ) (cs : List CheckSpec) (c : CheckSpec) (all : Option (List ℕ)) → i < length cs → c ≡ get_or cs i c → false ≡ test (check_view c) → first_named test (map check_view (drop i cs)) ≡ all → first_named test (map check_view (drop (i + 1) cs)) ≡ all
  test_fails i cs c all l is other so_far =
      sym (ap (λ (xs : List CheckSpec). first_named test (map check_view xs)) (drop_one i cs c l)
      ∙ (ap (λ (x : CheckSpec). first_named test (check_view x ∷ map check_view (drop (i + 1) cs))) (sym is) ∙ ap (λ t. cond t (Some (check_view c).name) (first_named test (map check_view (drop (i + 1) cs)))) (sym other)))
      ∙ so_far
