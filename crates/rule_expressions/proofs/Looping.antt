-- The elements of a `for`.
use Rattle.std.proofs.Common.{◌≡◌, ℕ, List, [], ◌∷◌, ◌++◌, map, Option, Some, None, Result, Ok, Err, Vec, Global, refl, sym, ap, ◌∙◌, subst, append_assoc, append-nil}
use Rattle.std.specs.Prelude.{option_map, IfOk}
use Rattle.dsl_value.specs.Pairs.{Pairs}
use Rattle.dsl_value.specs.Contents.{Contents}
use Rattle.dsl_value.specs.declared.value.Value.{Value}
use Rattle.dsl_value.specs.declared.value.Value.TheVariants as value
use Rattle.eval_work.specs.Kept.{PairsNamed}
use Rattle.site_base.specs.declared.memory.OutOfMemory.{OutOfMemory}
use Rattle.commit_meaning.specs.Rules.{Element, of_strings, of_pairs}
use Rattle.rule_expressions.specs.Named.{ElementsNamed, MaybeElementsNamed}
use Rattle.rule_expressions.specs.Plain.{plain_elements}
use Rattle.rule_expressions.specs.declared.loops.Element.{Element as Made}

-- elements that are there, and those that follow, if there are some
abbrev pub after : List Element → Option (List Element) → Option (List Element)
after es None = None
after es (Some fs) = Some (es ++ fs)

pub after_one : (es : List Element) (e : Element) (o : Option (List Element)) → after es (option_map (λ fs. e ∷ fs) o) ≡ after (es ++ e ∷ []) o
after_one es e None = refl
after_one es e (Some fs) = ap Some (sym (append_assoc es (e ∷ []) fs))

-- ---- what they name

strings_name : (c : Contents) (n : List ℕ) (vs : List Value) → MaybeElementsNamed c (of_strings n vs)
strings_name c n [] = tt
strings_name c n (value.Str t ∷ vs) = one_more (of_strings n vs) (strings_name c n vs)
  where
    one_more : (o : Option (List Element)) → MaybeElementsNamed c o → MaybeElementsNamed c (option_map (λ es. record { key = t; bound = (n, value.Str t) ∷ [] } ∷ es) o)
    one_more None h = tt
    one_more (Some es) h = ((tt, tt), h)
strings_name c n (v ∷ vs) = tt

pairs_name : (c : Contents) (k n : List ℕ) (ps : Pairs) → PairsNamed c ps → ElementsNamed c (of_pairs k n ps)
pairs_name c k n [] h = tt
pairs_name c k n (p ∷ ps) h = ((tt, (h.0, tt)), pairs_name c k n ps h.1)

pub strings_named : (c : Contents) (n : List ℕ) (vs : List Value) (r : Result (Option (Vec Made Global)) OutOfMemory) → IfOk r (λ o. option_map plain_elements o ≡ of_strings n vs) → IfOk r (λ o. MaybeElementsNamed c (option_map plain_elements o))
strings_named c n vs (Ok o) e = subst (MaybeElementsNamed c) (sym e) (strings_name c n vs)
strings_named c n vs (Err x) e = tt

pub pairs_named : (c : Contents) (k n : List ℕ) (ps : Pairs) (r : Result (Option (Vec Made Global)) OutOfMemory) → IfOk r (λ o. option_map plain_elements o ≡ Some (of_pairs k n ps)) → PairsNamed c ps → IfOk r (λ o. MaybeElementsNamed c (option_map plain_elements o))
pairs_named c k n ps (Ok o) e h = subst (MaybeElementsNamed c) (sym e) (pairs_name c k n ps h)
pairs_named c k n ps (Err x) e h = tt
