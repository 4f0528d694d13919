-- Trees under the keys of a dictionary.
use Rattle.std.proofs.Common.{◌≡◌, ℕ, List, [], ◌∷◌, ◌++◌, length, map, slice_get, Some, None, sym, ap, ◌∙◌}
use Rattle.std.proofs.lemmas.List.{map-append, length-map}
use Rattle.site_base.specs.Data.{Data}
use Rattle.site_base.specs.View.{view, pair_view}
use Rattle.site_base.specs.declared.tree.Tree.{Tree}
use Rattle.dsl_value.specs.Pairs.{Pairs}
use Rattle.dsl_value.specs.Paths.{keyed}
use Rattle.dsl_value.specs.declared.value.Value.{Value}

-- no key is left
pub keyed_none : (ps : Pairs) (made : List (List ℕ × Tree)) (d : Data) (n : ℕ) → n ≡ length made → slice_get ps n ≡ None → map pair_view made ≡ keyed (slice_get ps (length (map pair_view made))) (map pair_view made) d
keyed_none ps made d n e none =
    let same : length (map pair_view made) ≡ n = length-map made pair_view ∙ sym e in
    sym (ap (λ o. keyed o (map pair_view made) d) (ap (slice_get ps) same ∙ none))

-- the tree is added under the key that comes next
pub keyed_some : (ps : Pairs) (made new : List (List ℕ × Tree)) (k : List ℕ) (t : Tree) (p : List ℕ × Value) (n : ℕ) → n ≡ length made → slice_get ps n ≡ Some p → k ≡ p.0 → new ≡ made ++ (k, t) ∷ []
    → map pair_view new ≡ keyed (slice_get ps (length (map pair_view made))) (map pair_view made) (view t)
keyed_some ps made new k t p n e is key pushed =
    let same : length (map pair_view made) ≡ n = length-map made pair_view ∙ sym e in
    ap (map pair_view) pushed ∙ map-append pair_view made ((k, t) ∷ [])
    ∙ ap (λ x. map pair_view made ++ (x, view t) ∷ []) key
    ∙ sym (ap (λ o. keyed o (map pair_view made) (view t)) (ap (slice_get ps) same ∙ is))
