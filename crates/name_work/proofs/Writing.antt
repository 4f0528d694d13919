-- A value is written at the last of some keys, where the others lead.
use Rattle.std.proofs.Common.{◌≡◌, List, [], ◌∷◌, ◌++◌, refl, sym, ◌∙◌}
use Rattle.site_base.specs.declared.place.Place.{Place}
use Rattle.dsl_value.specs.declared.value.Value.{Value}
use Rattle.eval_meaning.specs.States.{State, Outcome, gives, faults, blocked, ◌>>=◌}
use Rattle.eval_meaning.specs.Targets.{inside, written, put_in}
use Rattle.name_work.specs.Reaching.{reached}

same_after : {A B : Type 0} (o : Outcome A) (f g : A → State → Outcome B) → ((a : A) (s : State) → f a s ≡ g a s) → (o >>= f) ≡ (o >>= g)
same_after (gives a s) f g h = h a s
same_after (faults l k t rs) f g h = refl
same_after (blocked r rs) f g h = refl

one_after : {A B C : Type 0} (o : Outcome A) (f : A → State → Outcome B) (g : B → State → Outcome C) → ((o >>= f) >>= g) ≡ (o >>= λ a s. f a s >>= g)
one_after (gives a s) f g = refl
one_after (faults l k t rs) f g = refl
one_after (blocked r rs) f g = refl

inside_first : (l : Place) (c j : Value) (ks : List Value) (k v : Value) (s : State) → written l c (j ∷ (ks ++ k ∷ [])) v s ≡ (inside l c j s >>= λ d s1. written l d (ks ++ k ∷ []) v s1)
inside_first l c j [] k v s = refl
inside_first l c j (i ∷ ks) k v s = refl

pub written_last : (l : Place) (c : Value) (ks : List Value) (k v : Value) (s : State) → written l c (ks ++ k ∷ []) v s ≡ (reached l c ks s >>= λ d s1. put_in l d k v s1)
written_last l c [] k v s = refl
written_last l c (j ∷ ks) k v s =
    inside_first l c j ks k v s
    ∙ same_after (inside l c j s) (λ d s1. written l d (ks ++ k ∷ []) v s1) (λ d s1. reached l d ks s1 >>= λ e s2. put_in l e k v s2) (λ d s1. written_last l d ks k v s1)
    ∙ sym (one_after (inside l c j s) (λ d s1. reached l d ks s1) (λ d s1. put_in l d k v s1))
