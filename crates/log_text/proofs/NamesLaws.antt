-- Names that are added one after another.
use Rattle.std.proofs.Common.{◌≡◌, ℕ, suc, ◌+◌, ◌<◌, ◌||◌, Bool, true, false, cond, List, [], ◌∷◌, ◌++◌, length, map, get_or, take, refl, sym, ap, ◌∙◌, arith}
use Rattle.std.proofs.lemmas.List.{get_or-map, get_or-take, length-map, length-take, take_more}
use Rattle.std.proofs.lemmas.Slice.Eq.{bytes_eq-Decides}
use Rattle.std.specs.List.{list_any}
use Rattle.std.specs.Str.{bytes_eq}
use Rattle.site_model.specs.Names.{with_name}
use Rattle.site_model.specs.Sound.{AreDistinct}

lacks : (name : List ℕ) (ns : List (List ℕ)) → ((j : ℕ) → j < length ns → get_or ns j name ≡ name → ⊥) → list_any (bytes_eq name) ns ≡ false
lacks name [] h = refl
lacks name (n ∷ ns) h = by (lacks name ns (λ j inside e. h (suc j) (omega arith) e)) (bytes_eq name n) refl
  where
    by : list_any (bytes_eq name) ns ≡ false → (t : Bool) → bytes_eq name n ≡ t → (t || list_any (bytes_eq name) ns) ≡ false
    by others true hit = absurd (h 0 (omega arith) (sym ((bytes_eq-Decides name n).0 hit)))
    by others false miss = others

-- a name that differs from those before it is added
pub names_more : {X : Type 0} (f : X → List ℕ) (xs : List X) (i : ℕ) (x : X) → AreDistinct (map f xs) → i < length xs → x ≡ get_or xs i x → with_name (f x) (take i (map f xs)) ≡ take (i + 1) (map f xs)
names_more f xs i x apart inside at =
    let ms : List (List ℕ) = map f xs in
    let name : List ℕ = f x in
    let within : i < length ms = omega (arith, length-map xs f) in
    let here : get_or ms i name ≡ name = get_or-map f xs i x name inside ∙ ap f (sym at) in
    let fresh : list_any (bytes_eq name) (take i ms) ≡ false =
    lacks name (take i ms) (λ j lt e.
    let before : j < i = omega (arith, length-take i ms) in
    apart j i name before within (sym (get_or-take i ms j name before) ∙ (e ∙ sym here))) in
    ap (λ t. cond t (take i ms) (take i ms ++ name ∷ [])) fresh ∙ (ap (λ n. take i ms ++ n ∷ []) (sym here) ∙ sym (take_more ms i name within))
