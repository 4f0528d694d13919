-- Stores whose functions are plain syntax.
use Rattle.std.proofs.Common.{◌≡◌, List, [], ◌∷◌, ◌++◌, map, refl, sym, ap, ◌∙◌}
use Rattle.std.proofs.lemmas.List.{length-map}
use Rattle.std.proofs.lemmas.Option.{slice_get-map}
use Rattle.dsl_value.specs.Contents.{PlainFunction}
use Rattle.dsl_value.specs.PlainStores.{Closure, closure, PlainStore, plain_store, IsPlainly}
use Rattle.std.specs.Option.{option_map}

map_last : (fs : List PlainFunction) (f : PlainFunction) → map closure (fs ++ f ∷ []) ≡ map closure fs ++ closure f ∷ []
map_last [] f = refl
map_last (g ∷ fs) f = ap (λ cs. closure g ∷ cs) (map_last fs f)

abbrev with_closures : PlainStore → List Closure → PlainStore
with_closures s functions = record { cells = s.cells; base = s.base; functions = functions }

pub is_plainly : IsPlainly
is_plainly = record {
  cells = λ s t cells e. ap plain_store e;
  adds = λ s t f e. ap plain_store e ∙ ap (with_closures (plain_store s)) (map_last s.functions f);
  finds = λ s k f e. slice_get-map closure s.functions k ∙ ap (option_map closure) (sym e);
  counts = λ s. length-map s.functions closure;
}
