-- Names that are added one after another.
use Rattle.std.proofs.Common.{◌≡◌, ℕ, ◌+◌, ◌<◌, ◌≤◌, cond, List, [], ◌∷◌, ◌++◌, length, map, drop, get_or, refl, sym, ap, ◌∙◌, subst, append_assoc, arith, length-append}
use Rattle.std.proofs.lemmas.List.{length-map}
use Rattle.site_model.specs.Names.{with_name}
use Rattle.site_model.specs.PlainSite.{check_view}
use Rattle.site_model.specs.Sound.{AreDistinct}
use Rattle.site_model.specs.declared.check_spec.CheckSpec.{CheckSpec}
use Rattle.object_lists.proofs.Steps.{next}
use Rattle.typed_site.specs.Checks.{check_name}
use Rattle.typed_site.proofs.DifferLaws.{new_name}

pub name_step : (specs : List CheckSpec) (i : ℕ) (spec : CheckSpec) (names more all : List (List ℕ)) → i < length specs → spec ≡ get_or specs i spec → AreDistinct all
    → more ≡ with_name spec.name names → names ++ map check_name (map check_view (drop i specs)) ≡ all → more ++ map check_name (map check_view (drop (i + 1) specs)) ≡ all
name_step specs i spec names more all inside same distinct named so_far =
    let rest = map check_name (map check_view (drop (i + 1) specs)) in
    let whole : names ++ spec.name ∷ rest ≡ all = sym (ap (λ ss. names ++ map check_name (map check_view ss)) (next specs i spec inside same)) ∙ so_far in
    let fresh = new_name names spec.name rest (subst AreDistinct (sym whole) distinct) in
    ap (λ ns. ns ++ rest) (named ∙ ap (λ b. cond b names (names ++ spec.name ∷ [])) fresh)
    ∙ append_assoc names (spec.name ∷ []) rest
    ∙ whole

-- what stands so far is no longer than all
pub name_room : (names before : List (List ℕ)) (specs : List CheckSpec) (rest : List (List ℕ)) → names ++ rest ≡ before ++ map check_name (map check_view specs) → length names ≤ length before + length specs
name_room names before specs rest so_far =
    let same : length (names ++ rest) ≡ length (before ++ map check_name (map check_view specs)) = ap length so_far in
    omega (arith, same, length-append names rest, length-append before (map check_name (map check_view specs)), length-map (map check_view specs) check_name, length-map specs check_view)
