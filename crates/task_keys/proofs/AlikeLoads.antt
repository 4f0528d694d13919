-- Loads whose stores and templates have the same keys.
use Rattle.std.proofs.Common.{◌≡◌, ℕ, List, [], ◌∷◌, map, refl, sym, ap, ◌∙◌}
use Rattle.dsl_value.specs.Contents.{PlainCell}
use Rattle.dsl_value.specs.PlainStores.{Closure, PlainStore}
use Rattle.eval_meaning.specs.Load.{Loaded}
use Rattle.place_laws.specs.Alike.{nowhere}
use Rattle.place_laws.specs.MovedStates.{moved_closure, moved_template}
use Rattle.kept_tasks.specs.Bare.{Agree}
use Rattle.task_keys.specs.LoadKeys.{HaveSameKeys, cell_key, closure_key, template_key}
use Rattle.task_keys.proofs.Again.{closure_stays, template_stays}
use Rattle.task_keys.proofs.Alike.{same_all}
use Rattle.task_keys.proofs.Telling.{ap2, told}
use Rattle.task_keys.proofs.TellingTasks.{same_closure, same_template}
use Rattle.task_keys.proofs.TellingValues.{same_cell}

abbrev same : PlainCell → PlainCell
same c = c

map_same : (cs : List PlainCell) → map same cs ≡ cs
map_same [] = refl
map_same (c ∷ cs) = ap (λ ds. c ∷ ds) (map_same cs)

all_cells : (cs ds : List PlainCell) → map cell_key cs ≡ map cell_key ds → cs ≡ ds
all_cells cs ds e = sym (map_same cs) ∙ same_all cell_key same (λ c d h. told (same_cell c d) h) cs ds e ∙ map_same ds

all_closures : (fs gs : List Closure) → map closure_key fs ≡ map closure_key gs → map (moved_closure nowhere) fs ≡ map (moved_closure nowhere) gs
all_closures fs gs e = same_all closure_key (moved_closure nowhere) (λ f g h. told (same_closure f g) h) fs gs e

abbrev store_of : ℕ → List PlainCell → List Closure → PlainStore
store_of b cs fs = record { cells = cs; base = b; functions = fs }

pub agrees : (p q : Loaded) → HaveSameKeys p q → Agree p q
agrees p q h = record {
  store = ap (λ b. store_of b p.store.cells (map (moved_closure nowhere) p.store.functions)) h.base ∙ ap2 (store_of q.store.base) (all_cells p.store.cells q.store.cells h.cells) (all_closures p.store.functions q.store.functions h.functions);
  templates = same_all template_key (moved_template nowhere) (λ t u e. told (same_template t u) e) p.templates q.templates h.templates;
}

-- ---- the other way

keys_stay : {A : Type 0} (key : A → List ℕ) (moved : A → A) → ((x : A) → key (moved x) ≡ key x) → (xs : List A) → map key (map moved xs) ≡ map key xs
keys_stay key moved h [] = refl
keys_stay key moved h (x ∷ xs) = ap2 (λ k ks. k ∷ ks) (h x) (keys_stay key moved h xs)

pub agreed : (p q : Loaded) → Agree p q → HaveSameKeys p q
agreed p q a = record {
  base = ap (λ (s : PlainStore). s.base) a.store;
  cells = ap (λ (s : PlainStore). map cell_key s.cells) a.store;
  functions =
      sym (keys_stay closure_key (moved_closure nowhere) closure_stays p.store.functions)
      ∙ ap (λ (s : PlainStore). map closure_key s.functions) a.store
      ∙ keys_stay closure_key (moved_closure nowhere) closure_stays q.store.functions;
  templates =
      sym (keys_stay template_key (moved_template nowhere) template_stays p.templates)
      ∙ ap (map template_key) a.templates
      ∙ keys_stay template_key (moved_template nowhere) template_stays q.templates;
}
