-- Texts and arrays that are counted before they are made.
use Rattle.std.proofs.Common.{◌≡◌, ℕ, zero, suc, ℤ, pos, ◌+ℤ◌, ◌-ℤ◌, ◌+◌, ◌-◌, ◌/◌, ◌<◌, ◌≤◌, List, [], ◌∷◌, ◌++◌, length, true, false, cond, ◌&&◌, ◌==◌, Option, Some, None, is_some, refl, sym, ap, subst, ◌∙◌, arith, length-append}
use Rattle.std.specs.List.{flat_map, list_all}
use Rattle.std.specs.Str.Pattern.{FindsText, SplitsAroundMatch}
use Rattle.std.proofs.lemmas.Bool.{false≢true}
use Rattle.std.proofs.lemmas.Bool.Decides.{nat_tests}
use Rattle.dsl_value.specs.Contents.{Contents}
use Rattle.dsl_value.specs.Outcomes.{made_units}
use Rattle.dsl_value.specs.declared.value.Value.{Value}
use Rattle.dsl_value.specs.declared.value.Value.TheVariants.{Str}
use Rattle.dsl_lib.specs.Answers.{gives, counted, typed}
use Rattle.dsl_lib.specs.Arguments.{two, three, text_in, items_in}
use Rattle.dsl_lib.specs.Arrays.{and_also, all_in, joined, join}
use Rattle.dsl_lib.specs.Limits.{bytes_in, is_scalar, scalar_bytes, separated_bytes}
use Rattle.dsl_lib.specs.Scalars.{scalar_text}
use Rattle.dsl_lib.specs.Sets.{numbers_from, numbers_below, ranged, steps_below}
use Rattle.dsl_lib.specs.Texts.{replace, replaced, replaced_behind}
use Rattle.dsl_lib.proofs.Parts.{replaced_step, replaced_none}

pub length_numbers : (n : ℕ) (first step : ℤ) → length (numbers_from n first step) ≡ n
length_numbers zero first step = refl
length_numbers (suc n) first step = ap suc (length_numbers n (first +ℤ step) step)

pub steps_are : (z step : ℤ) (d s : ℕ) → z ≡ pos d → step ≡ pos s → steps_below z step ≡ (d + (s - 1)) / s
steps_are z step d s e f = ap (λ x. steps_below x step) e ∙ ap (steps_below (pos d)) f

pub over_ranged : (first end step : ℤ) (d s most : ℕ) → end -ℤ first ≡ pos d → step ≡ pos s → 0 < s → most ≤ (d + (s - 1)) / s → most < made_units (ranged first end step)
over_ranged first end step d zero most e f some le = absurd (omega (arith, some))
over_ranged first end step d (suc n) most e f some le =
    let long = length_numbers (steps_below (end -ℤ first) (pos (suc n))) first (pos (suc n)) in
    let steps = steps_are (end -ℤ first) (pos (suc n)) d (suc n) e refl in
    subst (λ z. most < made_units (ranged first end z)) (sym f) (let lt : most < 1 + length (numbers_below first end (pos (suc n))) = omega (arith, long, steps, le) in lt)

-- ---- joined texts

abbrev list_in : Option (List (List ℕ)) → List (List ℕ)
list_in None = []
list_in (Some ts) = ts

flat_bytes : (separator : List ℕ) (vs : List Value) (ts : List (List ℕ)) → all_in scalar_text vs ≡ Some ts → length (flat_map (λ t. separator ++ t) ts) ≡ separated_bytes separator vs
flat_bytes separator [] ts e = ap (λ o. length (flat_map (λ t. separator ++ t) (list_in o))) (sym e)
flat_bytes separator (v ∷ vs) ts e = by (scalar_text v) (all_in scalar_text vs) refl refl e (flat_bytes separator vs)
  where
    by : (o : Option (List ℕ)) (r : Option (List (List ℕ))) → scalar_text v ≡ o → all_in scalar_text vs ≡ r → and_also o r ≡ Some ts
        → ((us : List (List ℕ)) → all_in scalar_text vs ≡ Some us → length (flat_map (λ t. separator ++ t) us) ≡ separated_bytes separator vs) → length (flat_map (λ t. separator ++ t) ts) ≡ separated_bytes separator (v ∷ vs)
    by None r p q h behind = cc
    by (Some t) None p q h behind = cc
    by (Some t) (Some us) p q h behind =
        let rest = behind us q in
        let here : scalar_bytes v ≡ length t = ap bytes_in p in
        let is : length (flat_map (λ x. separator ++ x) ts) ≡ length (flat_map (λ x. separator ++ x) (t ∷ us)) = ap (λ o. length (flat_map (λ x. separator ++ x) (list_in o))) (sym h) in
        let a = length-append (separator ++ t) (flat_map (λ x. separator ++ x) us) in
        let b = length-append separator t in
        omega (arith, rest, here, is, a, b)

joined_flat : (separator : List ℕ) (ts : List (List ℕ)) → 0 < length ts → length separator + length (joined separator ts) ≡ length (flat_map (λ t. separator ++ t) ts)
joined_flat separator [] some = absurd (omega (arith, some))
joined_flat separator (t ∷ ts) some =
    let a = length-append (separator ++ t) (flat_map (λ x. separator ++ x) ts) in
    let b = length-append separator t in
    let d = length-append t (flat_map (λ x. separator ++ x) ts) in
    omega (arith, a, b, d)

-- as many bytes as were counted
pub joined_bytes : (separator : List ℕ) (vs : List Value) (ts : List (List ℕ)) (most : ℕ) → all_in scalar_text vs ≡ Some ts → most + length separator < separated_bytes separator vs → most < length (joined separator ts)
joined_bytes separator vs [] most e h = let none = flat_bytes separator vs [] e in absurd (omega (arith, none, h))
joined_bytes separator vs (t ∷ ts) most e h =
    let all = flat_bytes separator vs (t ∷ ts) e in
    let flat = joined_flat separator (t ∷ ts) (omega arith) in
    omega (arith, all, flat, h)

-- scalars have texts
scalars_read : (vs : List Value) → list_all is_scalar vs ≡ true → (ts : List (List ℕ)) × (all_in scalar_text vs ≡ Some ts)
scalars_read [] h = ([], refl)
scalars_read (v ∷ vs) h = by (scalar_text v) refl h (scalars_read vs)
  where
    by : (o : Option (List ℕ)) → scalar_text v ≡ o → (is_some o && list_all is_scalar vs) ≡ true → (list_all is_scalar vs ≡ true → (ts : List (List ℕ)) × (all_in scalar_text vs ≡ Some ts)) → (ts : List (List ℕ)) × (all_in scalar_text (v ∷ vs) ≡ Some ts)
    by None e h behind = absurd (false≢true h)
    by (Some t) e h behind =
        let rest : (ts : List (List ℕ)) × (all_in scalar_text vs ≡ Some ts) = behind h in
        (t ∷ rest.0, ap (λ o. and_also o (all_in scalar_text vs)) e ∙ ap (and_also (Some t)) rest.1)

pub over_joined : (s : Contents) (args : List Value) (of sep : Value) (vs : List Value) (t : List ℕ) (most : ℕ) → two args ≡ Some (of, sep) → items_in s.cells of ≡ Some vs → text_in sep ≡ Some t
    → list_all is_scalar vs ≡ true → most + length t < separated_bytes t vs → most < made_units (join s args)
over_joined s args of sep vs t most two_are items_are text_is scalars over =
    let read : (us : List (List ℕ)) × (all_in scalar_text vs ≡ Some us) = scalars_read vs scalars in
    let ts = read.0 in
    let texts_are = read.1 in
    let is : join s args ≡ gives (Str (joined t ts)) =
    ap (λ o. counted o (λ a. typed (items_in s.cells a.0) (λ xs. typed (text_in a.1) (λ separator. typed (all_in scalar_text xs) (λ us. gives (Str (joined separator us))))))) two_are
    ∙ ap (λ o. typed o (λ xs. typed (text_in sep) (λ separator. typed (all_in scalar_text xs) (λ us. gives (Str (joined separator us)))))) items_are
    ∙ ap (λ o. typed o (λ separator. typed (all_in scalar_text vs) (λ us. gives (Str (joined separator us))))) text_is
    ∙ ap (λ o. typed o (λ us. gives (Str (joined t us)))) texts_are in
    subst (λ a. most < made_units a) (sym is) (joined_bytes t vs ts most texts_are over)

-- ---- replaced parts

pub replaced_length : (part by s front back : List ℕ) → 0 < length part → SplitsAroundMatch (FindsText part) s front back → length (replaced_behind part by 0 s) ≡ (length front + length by) + length (replaced_behind part by 0 back)
replaced_length part by s front back some splits =
    let all = ap length (replaced_step part by s front back some splits) in
    let a = length-append front (by ++ replaced_behind part by 0 back) in
    let b = length-append by (replaced_behind part by 0 back) in
    omega (arith, all, a, b)

pub replaced_rest : (part by s : List ℕ) → 0 < length part → FindsText part s None → length (replaced_behind part by 0 s) ≡ length s
replaced_rest part by s some lacks = ap length (replaced_none part by s some lacks)

pub over_replaced : (args : List Value) (a b c : Value) (t part by : List ℕ) (most : ℕ) → three args ≡ Some (a, b, c) → text_in a ≡ Some t → text_in b ≡ Some part → text_in c ≡ Some by → 0 < length part
    → most < length (replaced_behind part by 0 t) → most < made_units (replace args)
over_replaced args a b c t part by most are t_is part_is by_is some over =
    let is : replace args ≡ gives (Str (replaced t part by)) =
    ap (λ o. counted o (λ x. typed (text_in x.0) (λ u. typed (text_in x.1) (λ p. typed (text_in x.2) (λ q. gives (Str (replaced u p q))))))) are
    ∙ ap (λ o. typed o (λ u. typed (text_in b) (λ p. typed (text_in c) (λ q. gives (Str (replaced u p q)))))) t_is
    ∙ ap (λ o. typed o (λ p. typed (text_in c) (λ q. gives (Str (replaced t p q))))) part_is
    ∙ ap (λ o. typed o (λ q. gives (Str (replaced t part q)))) by_is in
    subst (λ x. most < made_units x) (sym is) (by_part part some over)
  where
    by_part : (p : List ℕ) → 0 < length p → most < length (replaced_behind p by 0 t) → most < length (replaced t p by)
    by_part [] none h = absurd (omega (arith, none))
    by_part (x ∷ xs) some h =
        let no : (length (x ∷ xs) == 0) ≡ false = grind (arith, nat_tests) in
        subst (λ b. most < length (cond b t (replaced_behind (x ∷ xs) by 0 t))) (sym no) h
