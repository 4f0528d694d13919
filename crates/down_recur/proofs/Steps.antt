-- One more of a list was changed.
use Rattle.std.proofs.Common.{◌≡◌, ℕ, zero, suc, ◌+◌, ◌<◌, ◌≤◌, List, [], ◌∷◌, ◌++◌, map, take, drop, length, get_or, refl, sym, ap, ◌∙◌, arith, add-one}
use Rattle.std.proofs.Math.ListN.{set}
use Rattle.std.specs.List.{AllByRecursion}

module _ {A B : Type 0} (f : A → B) (g : B → B) where
  -- the plain values of a list, of which so many were changed
  abbrev pub AreChanged : ℕ → List A → List B → Type 0
  AreChanged i xs ps = map f xs ≡ map g (take i ps) ++ drop i ps

  abbrev head_or : B → List B → B
  head_or d [] = d
  head_or d (x ∷ xs) = x

  abbrev tail_of : List B → List B
  tail_of [] = []
  tail_of (x ∷ xs) = xs

  next_suc : (i : ℕ) (xs : List A) (ps : List B) (d : A) → AreChanged i xs ps → i < length xs → drop i ps ≡ f (get_or xs i d) ∷ drop (suc i) ps
  next_suc i [] ps d e h = absurd (omega arith)
  next_suc zero (x ∷ xs) [] d e h = absurd cc
  next_suc (suc i) (x ∷ xs) [] d e h = absurd cc
  next_suc zero (x ∷ xs) (p ∷ ps) d e h = ap (λ q. q ∷ ps) (sym (ap (head_or p) e))
  next_suc (suc i) (x ∷ xs) (p ∷ ps) d e h = next_suc i xs ps d (ap tail_of e) (omega arith)

  changed_suc : (i : ℕ) (xs : List A) (ps : List B) (d v : A) → AreChanged i xs ps → i < length xs → f v ≡ g (f (get_or xs i d)) → AreChanged (suc i) (set xs i v) ps
  changed_suc i [] ps d v e h t = absurd (omega arith)
  changed_suc zero (x ∷ xs) [] d v e h t = absurd cc
  changed_suc (suc i) (x ∷ xs) [] d v e h t = absurd cc
  changed_suc zero (x ∷ xs) (p ∷ ps) d v e h t =
      ap (λ q. q ∷ map f xs) (t ∙ ap g (ap (head_or p) e)) ∙ ap (λ l. g p ∷ l) (ap tail_of e)
  changed_suc (suc i) (x ∷ xs) (p ∷ ps) d v e h t =
      ap (λ q. q ∷ map f (set xs i v)) (ap (head_or p) e) ∙ ap (λ l. g p ∷ l) (changed_suc i xs ps d v (ap tail_of e) (omega arith) t)

  -- the next one still is as it was
  pub next_is : (i : ℕ) (xs : List A) (ps : List B) (d : A) → AreChanged i xs ps → i < length xs → drop i ps ≡ f (get_or xs i d) ∷ drop (i + 1) ps
  next_is i xs ps d e h = next_suc i xs ps d e h ∙ ap (λ k. f (get_or xs i d) ∷ drop k ps) (sym (add-one i))

  -- and once it is changed one more is
  pub changed_more : (i : ℕ) (xs : List A) (ps : List B) (d v : A) → AreChanged i xs ps → i < length xs → f v ≡ g (f (get_or xs i d)) → AreChanged (i + 1) (set xs i v) ps
  changed_more i xs ps d v e h t = changed_suc i xs ps d v e h t ∙ ap (λ k. map g (take k ps) ++ drop k ps) (sym (add-one i))

module _ {A : Type 0} (P : A → Type 0) where
  -- what holds of each holds of each once it holds of the new one
  pub all_set : (i : ℕ) (xs : List A) (v : A) → AllByRecursion P xs → P v → AllByRecursion P (set xs i v)
  all_set i [] v h p = tt
  all_set zero (x ∷ xs) v h p = (p, h.1)
  all_set (suc i) (x ∷ xs) v h p = (h.0, all_set i xs v h.1 p)

-- ---- behind the end

pub none_behind : {A B : Type 0} (f : A → B) (i : ℕ) (xs : List A) → length xs ≤ i → drop i (map f xs) ≡ []
none_behind f zero [] h = refl
none_behind f (suc i) [] h = refl
none_behind f zero (x ∷ xs) h = absurd (omega arith)
none_behind f (suc i) (x ∷ xs) h = none_behind f i xs (omega arith)

pub all_of_map : {A B : Type 0} (f : A → B) (i : ℕ) (xs : List A) → length xs ≤ i → take i (map f xs) ≡ map f xs
all_of_map f zero [] h = refl
all_of_map f (suc i) [] h = refl
all_of_map f zero (x ∷ xs) h = absurd (omega arith)
all_of_map f (suc i) (x ∷ xs) h = ap (λ l. f x ∷ l) (all_of_map f i xs (omega arith))
