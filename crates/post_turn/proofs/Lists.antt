-- Lists read by get_elem?, and beginnings of lists.
use Rattle.std.proofs.Common.{◌≡◌, ◌⊎◌, ℕ, zero, suc, ◌<◌, List, [], ◌∷◌, ◌++◌, length, drop, slice_index_or, refl, sym, ap, ◌∙◌, inl, inr, ⊎_elim, arith, append_assoc, append-nil}
use Rattle.std.proofs.lemmas.List.Elements.{filter-append}
use Rattle.std.proofs.Math.Seq.{drop-append_seam}
use Rattle.std.specs.Prelude.{eqb}
use mathlib.Core.Option.{some, some-injective, some-ne-none}
use lib.ListN.{get_elem?}
use Rattle.post_turn.specs.History.{IsFront, Continues, entries_of}

module _ {A : Type 0} where
  pub single : (x y : A) (i : ℕ) → get_elem? (x ∷ []) i ≡ some y → x ≡ y
  single x y zero e = some-injective x y e
  single x y (suc i) e = absurd (some-ne-none y (sym e))

  pub snoc_at : (q : List A) (x y : A) (i : ℕ) → get_elem? (q ++ x ∷ []) i ≡ some y → (get_elem? q i ≡ some y) ⊎ ((i ≡ length q) × (x ≡ y))
  snoc_at [] x y zero e = inr (refl, some-injective x y e)
  snoc_at [] x y (suc i) e = absurd (some-ne-none y (sym e))
  snoc_at (z ∷ q) x y zero e = inl e
  snoc_at (z ∷ q) x y (suc i) e = ⊎_elim inl (λ t. inr (ap suc t.0, t.1)) (snoc_at q x y i e)

  pub below : (q : List A) (y : A) (i : ℕ) → get_elem? q i ≡ some y → i < length q
  below [] y i e = absurd (some-ne-none y (sym e))
  below (z ∷ q) y zero e = omega arith
  below (z ∷ q) y (suc i) e = let h = below q y i e in omega arith

  pub same_at : (q : List A) (x y : A) (i : ℕ) → get_elem? q i ≡ some x → get_elem? q i ≡ some y → x ≡ y
  same_at q x y i e f = some-injective x y (sym e ∙ f)

  pub first_is : (q : List A) (x : A) → get_elem? q 0 ≡ some x → (r : List A) × (q ≡ x ∷ r)
  first_is [] x e = absurd (some-ne-none x (sym e))
  first_is (y ∷ r) x e = (r, ap (λ z. z ∷ r) (some-injective y x e))

  pub front_refl : (xs : List A) → IsFront xs xs
  front_refl xs = record { rest = []; whole = sym (append-nil xs) }

  pub front_trans : (xs ys zs : List A) → IsFront xs ys → IsFront ys zs → IsFront xs zs
  front_trans xs ys zs a b = record { rest = a.rest ++ b.rest; whole = b.whole ∙ ap (λ l. l ++ b.rest) a.whole ∙ append_assoc xs a.rest b.rest }

-- what holds of each element at its place, and of one more behind them
pub all_snoc : {A : Type 0} (P : ℕ → A → Type 0) (xs : List A) (x : A) → ((k : ℕ) (d : A) → k < length xs → P k (slice_index_or xs k d)) → P (length xs) x → (k : ℕ) (d : A) → k < length (xs ++ x ∷ []) → P k (slice_index_or (xs ++ x ∷ []) k d)
all_snoc P [] x h p zero d lt = p
all_snoc P [] x h p (suc k) d lt = absurd (omega arith)
all_snoc P (y ∷ ys) x h p zero d lt = h zero d (omega arith)
all_snoc P (y ∷ ys) x h p (suc k) d lt = all_snoc (λ k. P (suc k)) ys x (λ k d lt. h (suc k) d (omega arith)) p k d (omega arith)

-- a history that stays
pub stays : {E : Type 0} (caller_of : E → ℕ) (k : ℕ) (xs ys : List E) → ys ≡ xs → Continues caller_of k xs ys
stays caller_of k xs ys e = record { rest = []; whole = e ∙ sym (append-nil xs); own = refl; others = λ j h. refl }

-- the own entries of a history that went on by own entries alone
pub own_after : {E : Type 0} (caller_of : E → ℕ) (k : ℕ) (seen mine history : List E) → Continues caller_of k seen history → entries_of caller_of k seen ≡ mine → entries_of caller_of k history ≡ mine ++ drop (length seen) history
own_after caller_of k seen mine history more e =
    ap (entries_of caller_of k) more.whole ∙ filter-append (λ e. eqb (caller_of e) k) seen more.rest ∙ (λ i. e i ++ more.own i)
    ∙ ap (λ l. mine ++ l) (sym (ap (drop (length seen)) more.whole ∙ drop-append_seam seen more.rest))
