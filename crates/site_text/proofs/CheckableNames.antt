-- The name of a checkable at its place.
use Rattle.std.proofs.Common.{◌≡◌, ℕ, ◌<◌, List, [], length, map, get_or, sym, ap, ◌∙◌, arith}
use Rattle.std.proofs.lemmas.List.{get_or-map, length-map}
use Rattle.site_model.specs.PlainSite.{PlainCheck, check_view}
use Rattle.site_model.specs.declared.check_spec.CheckSpec.{CheckSpec}

pub name_at : (cs : List CheckSpec) (k : ℕ) (c : CheckSpec) → k < length cs → c ≡ get_or cs k c → c.name ≡ get_or (map (λ p. p.name) (map check_view cs)) k []
name_at cs k c inside here =
    let name : PlainCheck → List ℕ = λ p. p.name in
    let views : List PlainCheck = map check_view cs in
    let within : k < length views = omega (arith, length-map cs check_view) in
    ap (λ (s : CheckSpec). s.name) here
    ∙ sym (ap name (get_or-map check_view cs k c (check_view c) inside))
    ∙ sym (get_or-map name views k (check_view c) [] within)
