-- What is open while a tree is copied, one more or less of it.
use Rattle.std.proofs.Common.{◌≡◌, ◌+◌, ◌*◌, ◌≤◌, ◌<◌, ℕ, Result, Ok, Err, IfOk, List, [], ◌∷◌, ◌++◌, length, map, Vec, Global, refl, sym, ap, ◌∙◌, arith}
use Rattle.std.proofs.lemmas.List.{append-nil}
use Rattle.site_base.specs.Data.{Data, list, dict}
use Rattle.site_base.specs.View.{view, pair_view, items_of, pairs_of}
use Rattle.site_base.specs.Weight.{weight, items_weight, pairs_weight}
use Rattle.site_base.specs.declared.tree.Tree.{Tree}
use Rattle.site_base.specs.declared.tree.Tree as tree
use Rattle.site_base.proofs.Views.{view-List, view-Dict}
use Rattle.site_base.specs.Copying.{filled, wrapped, work_in, work_of, work_outside}
use Rattle.site_base.specs.declared.copying.Open.{Open}
use Rattle.site_base.specs.declared.copying.Step.{Step}
use Rattle.site_base.specs.declared.memory.OutOfMemory.{OutOfMemory}

pub wrapped_end : (os : List Open) (o : Open) (d : Data) → wrapped (os ++ o ∷ []) d ≡ wrapped os (filled o d)
wrapped_end [] o d = refl
wrapped_end (p ∷ os) o d = ap (filled p) (wrapped_end os o d)

pub work_end : (os : List Open) (o : Open) → work_outside (os ++ o ∷ []) ≡ work_outside os + work_in o
work_end [] o = omega arith
work_end (p ∷ os) o = omega (arith, work_end os o)

no_parts : {A : Type 0} (xs : List A) → length xs ≡ 0 → xs ≡ []
no_parts [] none = refl
no_parts (x ∷ xs) none = absurd (omega (arith, none))

-- nothing is left of a list or dictionary
pub list_end : (made : Vec Tree Global) (left : List Tree) → length left ≡ 0 → view (tree.List made) ≡ list (items_of (map view made.items ++ map view left))
list_end made left none = view-List made ∙ ap (λ ds. list (items_of ds)) (sym (append-nil (map view made.items)) ∙ ap (λ ts. map view made.items ++ map view ts) (sym (no_parts left none)))

pub dict_end : (made : Vec (List ℕ × Tree) Global) (left : List (List ℕ × Tree)) → length left ≡ 0 → view (tree.Dict made) ≡ dict (pairs_of (map pair_view made.items ++ map pair_view left))
dict_end made left none = view-Dict made ∙ ap (λ ds. dict (pairs_of ds)) (sym (append-nil (map pair_view made.items)) ∙ ap (λ ps. map pair_view made.items ++ map pair_view ps) (sym (no_parts left none)))

-- or a first part is
pub list_next : (made : List Data) (left : List Tree) (t : Tree) (rest : List Tree) → left ≡ t ∷ rest → list (items_of (made ++ view t ∷ map view rest)) ≡ list (items_of (made ++ map view left))
list_next made left t rest e = ap (λ ts. list (items_of (made ++ map view ts))) (sym e)

pub dict_next : (made : List (List ℕ × Data)) (left : List (List ℕ × Tree)) (key : List ℕ) (p : List ℕ × Tree) (rest : List (List ℕ × Tree)) → key ≡ p.0 → left ≡ p ∷ rest
    → dict (pairs_of (made ++ (key, view p.1) ∷ map pair_view rest)) ≡ dict (pairs_of (made ++ map pair_view left))
dict_next made left key p rest same e = ap (λ k. dict (pairs_of (made ++ (k, view p.1) ∷ map pair_view rest))) same ∙ ap (λ ps. dict (pairs_of (made ++ map pair_view ps))) (sym e)

pub work_next : (left : List Tree) (t : Tree) (rest : List Tree) → left ≡ t ∷ rest → (1 + 2 * items_weight rest) + 2 * weight t ≤ 1 + 2 * items_weight left
work_next left t rest e = let same : items_weight left ≡ items_weight (t ∷ rest) = ap items_weight e in omega (arith, same)

pub work_next_pair : (left : List (List ℕ × Tree)) (p : List ℕ × Tree) (rest : List (List ℕ × Tree)) → left ≡ p ∷ rest → (1 + 2 * pairs_weight rest) + 2 * weight p.1 ≤ 1 + 2 * pairs_weight left
work_next_pair left p rest e = let same : pairs_weight left ≡ pairs_weight (p ∷ rest) = ap pairs_weight e in omega (arith, same)

pub less_if : (r : Result Step OutOfMemory) (m n : ℕ) → m < n → IfOk r (λ s. work_of s ≤ m) → IfOk r (λ s. work_of s < n)
less_if (Ok s) m n lt le = omega (arith, lt, le)
less_if (Err e) m n lt le = tt
