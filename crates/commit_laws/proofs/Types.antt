-- Each type of which a load registers objects or rules has its wave.
use Rattle.std.proofs.Common.{◌≡◌, ◌<◌, ◌||◌, ℕ, suc, List, [], ◌∷◌, Bool, true, false, refl, sym, subst, arith, true≢false}
use Rattle.std.specs.List.{list_any, AllByRecursion}
use Rattle.std.specs.Str.{bytes_eq}
use Rattle.std.proofs.lemmas.Slice.Eq.{bytes_eq-Decides}
use Rattle.object_types.specs.Names.{type_named}
use Rattle.eval_meaning.specs.Registration.{is_among, types}
use Rattle.commit_meaning.specs.Waves.{is_in_wave}

-- what is true of each of some names is true of a name that is among them
pub of_among : (P : List ℕ → Type 0) (n : List ℕ) (ns : List (List ℕ)) → AllByRecursion P ns → is_among n ns ≡ true → P n
of_among P n [] h e = absurd (true≢false (sym e))
of_among P n (m ∷ ns) h e = by (of_among P n ns h.1) (bytes_eq n m) refl e
  where
    by : (is_among n ns ≡ true → P n) → (b : Bool) → bytes_eq n m ≡ b → (b || list_any (bytes_eq n) ns) ≡ true → P n
    by others true q g = subst P (sym ((bytes_eq-Decides n m).0 q)) h.0
    by others false q g = others g

-- one of the six waves
abbrev pub HasWave : List ℕ → Type 0
HasWave kind = (w : ℕ) × (w < 6) × (is_in_wave (suc w) kind ≡ true)

each_has_wave : AllByRecursion HasWave types
unfolding type_named
each_has_wave =
    ((3, omega arith, refl), ((4, omega arith, refl), ((2, omega arith, refl), ((2, omega arith, refl), ((1, omega arith, refl), ((0, omega arith, refl), ((0, omega arith, refl), ((0, omega arith, refl), ((1, omega arith, refl), ((5, omega arith, refl), ((5, omega arith, refl), ((5, omega arith, refl), ((0, omega arith, refl), ((0, omega arith, refl), ((0, omega arith, refl), ((0, omega arith, refl), ((0, omega arith, refl), ((0, omega arith, refl), ((0, omega arith, refl), ((0, omega arith, refl), ((0, omega arith, refl), ((0, omega arith, refl), tt))))))))))))))))))))))

pub has_wave : (kind : List ℕ) → is_among kind types ≡ true → HasWave kind
has_wave kind e = of_among HasWave kind types each_has_wave e
