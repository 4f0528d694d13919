-- Orders get their words one after another.
use Rattle.std.proofs.Common.{◌≡◌, ℕ, List, [], ◌∷◌, ◌++◌, map, refl, sym, ap, ◌∙◌, append_assoc}
use Rattle.check_plan.specs.declared.ordered.Ordered.{Ordered}
use Rattle.run_meaning.specs.Runs.{due_of, due_with}
use Rattle.run_meaning.specs.Turns as turns
use Rattle.run_meaning.specs.Turns.{Command, Reported, words, missing}

pub orders_more : (f : Ordered → turns.Ordered) (x : Ordered) (rest left : List Ordered) (done more all : List turns.Ordered) → left ≡ x ∷ rest → more ≡ done ++ f x ∷ [] → done ++ map f left ≡ all → more ++ map f rest ≡ all
orders_more f x rest left done more all is grown so_far =
    ap (λ os. os ++ map f rest) grown ∙ append_assoc done (f x ∷ []) (map f rest) ∙ ap (λ xs. done ++ map f xs) (sym is) ∙ so_far

due_step : (n : ℕ) (c : Command) (rs : List Reported) → due_with n c rs ≡ due_with n c [] ++ rs
due_step n (words ws) rs = refl
due_step n (missing name) rs = refl

pub due_more : (f : Ordered → turns.Ordered) (x : Ordered) (rest left : List Ordered) (done more all : List Reported) → left ≡ x ∷ rest → more ≡ done ++ due_of (f x ∷ []) → done ++ due_of (map f left) ≡ all → more ++ due_of (map f rest) ≡ all
due_more f x rest left done more all is grown so_far =
    ap (λ rs. rs ++ due_of (map f rest)) grown
    ∙ append_assoc done (due_of (f x ∷ [])) (due_of (map f rest))
    ∙ ap (λ rs. done ++ rs) (sym (due_step (f x).number (f x).command (due_of (map f rest))))
    ∙ ap (λ xs. done ++ due_of (map f xs)) (sym is)
    ∙ so_far
