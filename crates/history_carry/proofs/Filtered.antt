-- What a function gives of the first things of a list.
use Rattle.std.proofs.Common.{◌≡◌, ℕ, ◌+◌, ◌<◌, List, [], ◌∷◌, ◌++◌, length, map, get_or, take, Option, Some, None, refl, sym, ap, ◌∙◌}
use Rattle.std.proofs.lemmas.List.{take_more}
use Rattle.std.proofs.lemmas.List.Elements.{filter_map-append}
use Rattle.std.specs.List.{cons_option, filter_map}
use Rattle.std.specs.Option.{option_to_list}
use Rattle.site_model.specs.PlainSite.{check_view}
use Rattle.site_model.specs.declared.check_spec.CheckSpec.{CheckSpec}

single : {B : Type 0} (o : Option B) → cons_option o [] ≡ option_to_list o
single None = refl
single (Some b) = refl

-- one thing more
pub given_more : {A B : Type 0} (f : A → Option B) (xs : List A) (i : ℕ) (d : A) → i < length xs → filter_map f (take (i + 1) xs) ≡ filter_map f (take i xs) ++ option_to_list (f (get_or xs i d))
given_more f xs i d inside =
    ap (filter_map f) (take_more xs i d inside)
    ∙ filter_map-append f (take i xs) (get_or xs i d ∷ [])
    ∙ ap (λ ys. filter_map f (take i xs) ++ ys) (single (f (get_or xs i d)))

-- a loop's step: what is given of one thing more is added
pub step : {A B : Type 0} (f : A → Option B) (xs : List A) (i : ℕ) (d : A) (old new : List B) (o : Option B) → i < length xs → old ≡ filter_map f (take i xs) → o ≡ f (get_or xs i d) → new ≡ old ++ option_to_list o → new ≡ filter_map f (take (i + 1) xs)
step f xs i d old new o inside before one added =
    added
    ∙ ap (λ ys. ys ++ option_to_list o) before
    ∙ ap (λ x. filter_map f (take i xs) ++ option_to_list x) one
    ∙ sym (given_more f xs i d inside)

-- checkables have the names of their plain values
pub checks_named : (cs : List CheckSpec) → map (λ (c : CheckSpec). c.name) cs ≡ map (λ c. c.name) (map check_view cs)
checks_named [] = refl
checks_named (c ∷ cs) = ap (λ ns. c.name ∷ ns) (checks_named cs)
