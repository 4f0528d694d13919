-- The items of a load that are left after so many waves.
use Rattle.std.proofs.Common.{◌≡◌, ◌<◌, ◌==◌, ℕ, List, [], ◌∷◌, map, not, Bool, true, false, cond, arith, refl, sym, ap, ◌∙◌, subst}
use Rattle.std.proofs.lemmas.Bool.Decides.{nat_tests}
use Rattle.std.specs.List.{filter}
use Rattle.dsl_load.specs.Loads.{IsLoad}
use Rattle.dsl_load.specs.declared.load_parts.LoadParts.{LoadParts}
use Rattle.eval_meaning.specs.Registered.{PlainItem}
use Rattle.eval_work.specs.Kept.{PairsNamed}
use Rattle.eval_work.specs.Works.{plain_item}
use Rattle.eval_work.specs.declared.item.Item.{Item}
use Rattle.commit_meaning.specs.Waves.{is_in_wave, wave_of_kind}
use Rattle.commit_meaning.proofs.Lists.{all_kept}
use Rattle.wave_objects.specs.Captured.{AreNamed}
use Rattle.commit_waves.proofs.NamedLaws.{items_named}

-- ---- what is kept of what was kept

is_false : (b : Bool) → (b ≡ true → ⊥) → b ≡ false
is_false true f = absurd (f refl)
is_false false f = refl

-- what passes a test that passes another one passes that one first
through : {A : Type 0} (p q : A → Bool) → ((a : A) → q a ≡ true → p a ≡ true) → (xs : List A) → filter q (filter p xs) ≡ filter q xs
through p q h [] = refl
through p q h (x ∷ xs) = by (through p q h xs) (p x) refl
  where
    by : filter q (filter p xs) ≡ filter q xs → (b : Bool) → p x ≡ b → filter q (cond b (x ∷ filter p xs) (filter p xs)) ≡ cond (q x) (x ∷ filter q xs) (filter q xs)
    by rest true e = ap (λ ys. cond (q x) (x ∷ ys) ys) rest
    by rest false e =
        let out : q x ≡ false = is_false (q x) (λ is. absurd (let no : false ≡ true = sym e ∙ h x is in cc)) in
        rest ∙ sym (ap (λ c. cond c (x ∷ filter q xs) (filter q xs)) out)

-- ---- waves

abbrev pub of_wave : ℕ → List PlainItem → List PlainItem
of_wave w is = filter (λ i. is_in_wave w i.kind) is

abbrev pub others : ℕ → List PlainItem → List PlainItem
others w is = filter (λ i. not (is_in_wave w i.kind)) is

once : (w : ℕ) (is : List PlainItem) → of_wave w (of_wave w is) ≡ of_wave w is
once w is = through (λ (i : PlainItem). is_in_wave w i.kind) (λ (i : PlainItem). is_in_wave w i.kind) (λ i e. e) is

other_number : (n w v : ℕ) → w < v → (n == v) ≡ true → not (n == w) ≡ true
other_number n w v less e = grind (arith, nat_tests, less, e)

later : (w v : ℕ) → w < v → (is : List PlainItem) → of_wave v (others w is) ≡ of_wave v is
later w v less is =
    through (λ (i : PlainItem). not (is_in_wave w i.kind)) (λ (i : PlainItem). is_in_wave v i.kind) (λ i e. other_number (wave_of_kind i.kind) w v less e) is

-- what is left of a load after so many waves: all items of later ones
pub record IsLeft (p : LoadParts) (left : List Item) (k : ℕ) : Type 0 where
  pub items : (w : ℕ) → k < w → of_wave w (map plain_item left) ≡ of_wave w (map plain_item p.items.items)
  pub named : AreNamed p.store (map plain_item left)

-- all of it is left before the first
pub all_left : (p : LoadParts) → IsLoad p → (k : ℕ) → IsLeft p p.items.items k
all_left p l k = record { items = λ w h. refl; named = items_named p.store p.items.items l.items }

module _ (p : LoadParts) (left : List Item) (k w : ℕ) (next : k < w) (l : IsLeft p left k) where
  -- those of the wave
  module _ (mine : List Item) (e : map plain_item mine ≡ of_wave w (map plain_item left)) where
    pub these : of_wave w (map plain_item mine) ≡ of_wave w (map plain_item p.items.items)
    these = ap (of_wave w) e ∙ once w (map plain_item left) ∙ l.items w next

    pub these_named : AreNamed p.store (map plain_item mine)
    these_named = subst (AreNamed p.store) (sym e) (all_kept (λ (i : PlainItem). PairsNamed p.store i.captured) (λ i. is_in_wave w i.kind) (map plain_item left) l.named)

  -- and the others
  pub fewer_left : (more : List Item) → map plain_item more ≡ others w (map plain_item left) → IsLeft p more w
  fewer_left more e = record {
    items = λ v h. ap (of_wave v) e ∙ later w v h (map plain_item left) ∙ l.items v (omega (arith, next, h));
    named = subst (AreNamed p.store) (sym e) (all_kept (λ (i : PlainItem). PairsNamed p.store i.captured) (λ i. not (is_in_wave w i.kind)) (map plain_item left) l.named);
  }
