-- What is known of names, and one more answer.
use Rattle.std.proofs.Common.{◌≡◌, ℕ, zero, suc, Bool, true, false, cond, List, [], ◌∷◌, map, slice_get, Option, Some, None, String, string_bytes, Global, refl, sym, ap, subst, ◌∙◌}
use Rattle.std.specs.String.{string_eq}
use Rattle.std.specs.Str.{bytes_eq}
use Rattle.std.proofs.lemmas.Slice.Eq.{bytes_eq-Decides}
use Rattle.indexmap.specs.IndexMap.{insert_entry}
use Rattle.conf_sources.specs.Known.{Answer, answer_of, AreKnown, IsKnown}

or_else : {A : Type 0} → A → Option A → A
or_else d None = d
or_else d (Some x) = x

some_is : {A : Type 0} (x y : A) → Some x ≡ Some y → x ≡ y
unfolding or_else
some_is x y e = ap (or_else x) e

-- nothing is known of any name
pub nothing_known : (told : Option (List (List ℕ × List ℕ))) → IsKnown told [] []
nothing_known told = record { below = λ all e i a s. absurd (cc s); described = λ all e i a s. absurd (cc s) }

front : (what : List ℕ → List (List ℕ)) (a : Answer) (others : List Answer) → a.1 ≡ what a.0 → AreKnown what others → AreKnown what (a ∷ others)
front what a others e h = go
  where
    go : (i : ℕ) (b : Answer) → slice_get (a ∷ others) i ≡ Some b → b.1 ≡ what b.0
    go zero b s = subst (λ x. x.1 ≡ what x.0) (some_is a b s) e
    go (suc i) b s = h i b s

later : (what : List ℕ → List (List ℕ)) (a : Answer) (others : List Answer) → AreKnown what (a ∷ others) → AreKnown what others
later what a others h = λ i b s. h (suc i) b s

same_key : (k y : String Global) → string_eq k y ≡ true → string_bytes k ≡ string_bytes y
same_key k y e = (bytes_eq-Decides (string_bytes k) (string_bytes y)).0 e

pub kept : (what : List ℕ → List (List ℕ)) (es : List (String Global × List (List ℕ))) (k : String Global) (v : List (List ℕ)) → AreKnown what (map answer_of es) → v ≡ what (string_bytes k) → AreKnown what (map answer_of (insert_entry string_eq es k v))
kept what [] k v h e = front what (string_bytes k, v) [] e h
kept what (x ∷ es) k v h e = by (string_eq k x.0) refl (kept what es k v (later what (answer_of x) (map answer_of es) h) e)
  where
    by : (b : Bool) → string_eq k x.0 ≡ b → AreKnown what (map answer_of (insert_entry string_eq es k v)) → AreKnown what (map answer_of (cond b ((x.0, v) ∷ es) (x ∷ insert_entry string_eq es k v)))
    by true q more = front what (string_bytes x.0, v) (map answer_of es) (e ∙ ap what (same_key k x.0 q)) (later what (answer_of x) (map answer_of es) h)
    by false q more = front what (answer_of x) (map answer_of (insert_entry string_eq es k v)) (h 0 (answer_of x) refl) more
