-- The dependencies on a cycle are one list.
use Rattle.std.proofs.Common.{◌≡◌, ◌≢◌, ℕ, zero, suc, ◌+◌, ◌<◌, ◌≤◌, List, [], ◌∷◌, ◌++◌, length, get_or, slice_get, All, AllPairs, Contains, Option, Some, None, refl, sym, ap, ap₂, ◌∙◌, subst, arith}
use Rattle.site_base.specs.declared.diag.Diag.{Diag}
use Rattle.site_model.specs.PlainSite.{PlainSite}
use Rattle.site_model.specs.declared.depend_spec.DependSpec.{DependSpec}
use Rattle.depend_graph.specs.Cycles.{AreOnCycles, IsOnCycle}
use Rattle.depend_graph.specs.Parents.{HasParents}
use Rattle.site_phases.specs.CycleFaults.{AreTurning, cycle_faults, turning}
use Rattle.site_phases.proofs.Bounded.{are_turning}

abbrev Rising : List ℕ → Type 0
Rising xs = AllPairs (λ j k. j < k) xs

none_in : (k : ℕ) → Contains [] k → ⊥
none_in k (i, low, at) = absurd (omega (arith, low))

rest_rises : (x : ℕ) (xs : List ℕ) → Rising (x ∷ xs) → Rising xs
rest_rises x xs h i j d low high = h (suc i) (suc j) d (omega (arith, low)) (omega (arith, high))

here : (x : ℕ) (xs : List ℕ) → Contains (x ∷ xs) x
here x xs = (0, omega arith, refl)

in_rest : (x k : ℕ) (xs : List ℕ) → Contains xs k → Contains (x ∷ xs) k
in_rest x k xs (i, low, at) = (suc i, omega (arith, low), at)

above : (x k : ℕ) (xs : List ℕ) → Rising (x ∷ xs) → Contains xs k → x < k
above x k xs h (i, low, at) = let less = h 0 (suc i) k (omega arith) (omega (arith, low)) in subst (λ m. x < m) at less

least : (x k : ℕ) (xs : List ℕ) → Rising (x ∷ xs) → Contains (x ∷ xs) k → x ≤ k
least x k xs h (zero, low, at) = let same : x ≡ k = at in omega arith
least x k xs h (suc i, low, at) = let less = above x k xs h (i, omega (arith, low), at) in omega (arith, less)

behind : (x k : ℕ) (xs : List ℕ) → Contains (x ∷ xs) k → x < k → Contains xs k
behind x k xs (zero, low, at) less = let same : x ≡ k = at in absurd (omega (arith, less))
behind x k xs (suc i, low, at) less = (i, omega (arith, low), at)

-- lists that rise and have the same numbers are the same
pub rising_same : (xs ys : List ℕ) → Rising xs → Rising ys → ((k : ℕ) → Contains xs k → Contains ys k) → ((k : ℕ) → Contains ys k → Contains xs k) → xs ≡ ys
rising_same [] [] h k there back = refl
rising_same [] (y ∷ ys) h k there back = absurd (none_in y (back y (here y ys)))
rising_same (x ∷ xs) [] h k there back = absurd (none_in x (there x (here x xs)))
rising_same (x ∷ xs) (y ∷ ys) h k there back =
    let low = least y x ys k (there x (here x xs)) in
    let high = least x y xs h (back y (here y ys)) in
    let same : x ≡ y = omega (arith, low, high) in
    ap₂ (λ z zs. z ∷ zs) same
    (rising_same xs ys (rest_rises x xs h) (rest_rises y ys k)
    (λ n c. let less = above x n xs h c in behind y n ys (there n (in_rest x n xs c)) (omega (arith, less, same)))
    (λ n c. let less = above y n ys k c in behind x n xs (back n (in_rest y n ys c)) (omega (arith, less, same))))

pub one_turning : (s : PlainSite) (xs ys : List ℕ) → AreOnCycles s xs → AreTurning s ys → xs ≡ ys
one_turning s xs ys on t = rising_same xs ys on.rising t.rising (λ k c. (t.all k).1 ((on.all k).0 c)) (λ k c. (on.all k).1 ((t.all k).0 c))

at_place : {A : Type 0} (P : A → Type 0) (xs : List A) (k : ℕ) (x : A) → slice_get xs k ≡ Some x → All P xs → P x
at_place P [] k x at h = absurd cc
at_place P (y ∷ ys) zero x at h = let e : y ≡ x = cc in subst P e (h 0 x (omega arith))
at_place P (y ∷ ys) (suc k) x at h = at_place P ys k x at (λ j d l. h (suc j) d (omega (arith, l)))

-- none turns where none is on a cycle
pub none_turn : (s : PlainSite) (turning : List ℕ) → All (λ (d : DependSpec). ¬ IsOnCycle s d) s.depends → AreTurning s turning → [] ≡ cycle_faults s turning
none_turn s [] free t = refl
none_turn s (k ∷ ks) free t =
    let found = (t.all k).0 (here k ks) in
    absurd (at_place (λ (d : DependSpec). ¬ IsOnCycle s d) s.depends k found.0 found.1 free found.2)

-- some dependencies are told
pub some_told : (s : PlainSite) (turning : List ℕ) (ds : List Diag) → turning ≢ [] → ds ≡ cycle_faults s turning → ds ≡ [] → ⊥
some_told s [] ds some is none = some refl
some_told s (k ∷ ks) ds some is none = let wrong = sym is ∙ none in cc

-- the same of those that are calculated
pub quiet : (s : PlainSite) → HasParents s → All (λ (d : DependSpec). ¬ IsOnCycle s d) s.depends → [] ≡ cycle_faults s (turning s)
quiet s sound free = none_turn s (turning s) free (are_turning s sound)

pub all_told : (s : PlainSite) (xs : List ℕ) → HasParents s → AreOnCycles s xs → cycle_faults s xs ≡ cycle_faults s (turning s)
all_told s xs sound on = ap (cycle_faults s) (one_turning s xs (turning s) on (are_turning s sound))

-- what is told of dependencies that are on cycles, or are none where none is, is told of those that are calculated
pub told_of : (s : PlainSite) (xs : List ℕ) → HasParents s → (xs ≢ [] → AreOnCycles s xs) → (xs ≡ [] → All (λ (d : DependSpec). ¬ IsOnCycle s d) s.depends)
    → cycle_faults s xs ≡ cycle_faults s (turning s)
told_of s [] sound some none = quiet s sound (none refl)
told_of s (x ∷ xs) sound some none = all_told s (x ∷ xs) sound (some (λ e. cc))
