-- Things of which no two have one number.
use Rattle.std.proofs.Common.{◌≡◌, ◌≢◌, ◌<◌, ℕ, zero, suc, List, [], ◌∷◌, ◌++◌, length, filter, cond, Bool, true, false, refl, sym, ap, ◌∙◌, arith, true≢false, AllPairs, slice_index_or}
use Rattle.std.specs.List.{flat_map, AllByRecursion}
use Rattle.std.specs.Ordering.{is_gt, ordering_reverse}
use Rattle.std.specs.declared.cmp.Ordering.{Ordering}
use Rattle.std.specs.declared.cmp.Ordering.TheVariants.{Less, Equal, Greater}
use Rattle.std.proofs.lemmas.Map.Lookups.{exact_bytes}
use Rattle.site_base.specs.Order.{fields, by_fields}
use Rattle.site_base.specs.declared.item_no.ItemNo.{ItemNo}
use Rattle.commit_meaning.specs.Orders.{is_behind, inserted, by_number}
use Rattle.commit_meaning.proofs.Lists.{AllLater, all_append, all_imp, all_kept, later_append}
use Rattle.commit_meaning.proofs.Sorting.{total, other_way, Rises, all_inserted, by_number_rises}

-- ---- numbers

-- a number of its fields
number_of : List ℕ → ItemNo
number_of (a ∷ b ∷ c ∷ d ∷ e ∷ []) = record { item = a; target = record { item = b; host = c; key = d }; key = e }
number_of other = record { item = 0; target = record { item = 0; host = 0; key = 0 }; key = 0 }

pub one_number : (a b : ItemNo) → by_fields a b ≡ Equal → a ≡ b
unfolding number_of
one_number a b e = ap number_of (exact_bytes (fields a) (fields b) e)

-- of two numbers that differ one is behind the other
pub behind_by : (a b : ItemNo) → is_behind a b ≡ false → a ≢ b → is_behind b a ≡ true
behind_by a b h apart = ap is_gt (total.antisymm b a) ∙ by (by_fields a b) refl h
  where
    by : (r : Ordering) → by_fields a b ≡ r → is_gt r ≡ false → is_gt (ordering_reverse r) ≡ true
    by Less e g = refl
    by Equal e g = absurd (apart (one_number a b e))
    by Greater e g = absurd (true≢false g)

pub never_behind_itself : (a : ItemNo) → is_behind a a ≡ true → ⊥
never_behind_itself a h = true≢false (sym h ∙ other_way a a h)

-- ---- lists

module _ {A : Type 0} where
  all_at : (P : A → Type 0) (xs : List A) → ((k : ℕ) (d : A) → k < length xs → P (slice_index_or xs k d)) → AllByRecursion P xs
  all_at P [] h = tt
  all_at P (x ∷ xs) h = (h zero x (omega arith), all_at P xs (λ k d w. h (suc k) d (omega arith)))

  pub later_from_pairs : (R : A → A → Type 0) (xs : List A) → AllPairs R xs → AllLater R xs
  later_from_pairs R [] h = tt
  later_from_pairs R (x ∷ xs) h = (all_at (R x) xs (λ k d w. h zero (suc k) d (omega arith) (omega arith)), later_from_pairs R xs (λ i j d a b. h (suc i) (suc j) d (omega arith) (omega arith)))

  pub later_kept : (R : A → A → Type 0) (p : A → Bool) (xs : List A) → AllLater R xs → AllLater R (filter p xs)
  later_kept R p [] h = tt
  later_kept R p (x ∷ xs) h = by (later_kept R p xs h.1) (all_kept (R x) p xs h.0) (p x)
    where
      by : AllLater R (filter p xs) → AllByRecursion (R x) (filter p xs) → (b : Bool) → AllLater R (cond b (x ∷ filter p xs) (filter p xs))
      by rest own true = (own, rest)
      by rest own false = rest

  pub later_imp : (R S : A → A → Type 0) → ((a b : A) → R a b → S a b) → (xs : List A) → AllLater R xs → AllLater S xs
  later_imp R S f [] h = tt
  later_imp R S f (x ∷ xs) h = (all_imp (R x) (S x) (f x) xs h.0, later_imp R S f xs h.1)

  -- both of what is true of each element, and of each two
  beside : (P : A → Type 0) (R : A → A → Type 0) (x : A) (xs : List A) → P x → AllByRecursion P xs → AllByRecursion (R x) xs → AllByRecursion (λ y. P x × P y × R x y) xs
  beside P R x [] p h k = tt
  beside P R x (y ∷ ys) p h k = ((p, h.0, k.0), beside P R x ys p h.1 k.1)

  pub later_with : (P : A → Type 0) (R : A → A → Type 0) (xs : List A) → AllByRecursion P xs → AllLater R xs → AllLater (λ a b. P a × P b × R a b) xs
  later_with P R [] h k = tt
  later_with P R (x ∷ xs) h k = (beside P R x xs h.0 h.1 k.0, later_with P R xs h.1 k.1)

  pub later_both : (R S T : A → A → Type 0) → ((a b : A) → R a b → S a b → T a b) → (xs : List A) → AllLater R xs → AllLater S xs → AllLater T xs
  later_both R S T f [] h k = tt
  later_both R S T f (x ∷ xs) h k = (both xs h.0 k.0, later_both R S T f xs h.1 k.1)
    where
      both : (ys : List A) → AllByRecursion (R x) ys → AllByRecursion (S x) ys → AllByRecursion (T x) ys
      both [] p q = tt
      both (y ∷ ys) p q = (f x y p.0 q.0, both ys p.1 q.1)

-- each two, one of either list
abbrev pub Across : {B : Type 0} → (B → B → Type 0) → List B → List B → Type 0
Across S xs ys = AllByRecursion (λ x. AllByRecursion (S x) ys) xs

module _ {A B : Type 0} (f : A → List B) (P : A → Type 0) (R : A → A → Type 0) (S : B → B → Type 0) where
  across : (x : A) → P x → ((b : A) → P b → R x b → Across S (f x) (f b)) → (xs : List A) → AllByRecursion P xs → AllByRecursion (R x) xs → Across S (f x) (flat_map f xs)
  across x p two [] h k = none (f x)
    where
      none : (ys : List B) → AllByRecursion (λ y. AllByRecursion (S y) []) ys
      none [] = tt
      none (y ∷ ys) = (tt, none ys)
  across x p two (y ∷ ys) h k = joined (f x) (two y h.0 k.0) (across x p two ys h.1 k.1)
    where
      joined : (zs : List B) → Across S zs (f y) → Across S zs (flat_map f ys) → Across S zs (f y ++ flat_map f ys)
      joined [] a b = tt
      joined (z ∷ zs) a b = (all_append (S z) (f y) (flat_map f ys) a.0 b.0, joined zs a.1 b.1)

  -- each element becomes some that stand to each other as the elements did
  pub later_made : ((a : A) → P a → AllLater S (f a)) → ((a b : A) → P a → P b → R a b → Across S (f a) (f b)) → (xs : List A) → AllByRecursion P xs → AllLater R xs → AllLater S (flat_map f xs)
  later_made one two [] h k = tt
  later_made one two (x ∷ xs) h k = later_append S (f x) (flat_map f xs) (one x h.0) (later_made one two xs h.1 k.1) (across x h.0 (λ b p r. two x b h.0 p r) xs h.1 k.0)

-- ---- by numbers

module _ {A : Type 0} (n : A → ItemNo) where
  abbrev pub Differ : A → A → Type 0
  Differ a b = n a ≢ n b

  inserted_apart : (a : A) (xs : List A) → AllByRecursion (Differ a) xs → AllLater Differ xs → AllLater Differ (inserted n a xs)
  inserted_apart a [] h k = (tt, tt)
  inserted_apart a (b ∷ bs) h k = by (inserted_apart a bs h.1 k.1) (is_behind (n a) (n b))
    where
      by : AllLater Differ (inserted n a bs) → (c : Bool) → AllLater Differ (cond c (b ∷ inserted n a bs) (a ∷ b ∷ bs))
      by rest true = (all_inserted n (Differ b) a bs (λ e. h.0 (sym e)) k.0, rest)
      by rest false = (h, k)

  sorted_apart : (xs : List A) → AllLater Differ xs → AllLater Differ (by_number n xs)
  sorted_apart [] h = tt
  sorted_apart (x ∷ xs) h = inserted_apart x (by_number n xs) (all_sorted xs h.0) (sorted_apart xs h.1)
    where
      all_sorted : (ys : List A) → AllByRecursion (Differ x) ys → AllByRecursion (Differ x) (by_number n ys)
      all_sorted [] k = tt
      all_sorted (y ∷ ys) k = all_inserted n (Differ x) y (by_number n ys) k.0 (all_sorted ys k.1)

  abbrev pub Follows : A → A → Type 0
  Follows a b = is_behind (n b) (n a) ≡ true

  -- things of which no two have one number rise, once they are sorted by numbers
  pub sorted_follow : (xs : List A) → AllLater Differ xs → AllLater Follows (by_number n xs)
  sorted_follow xs h = later_both (Rises n) Differ Follows (λ a b r d. behind_by (n a) (n b) r d) (by_number n xs) (by_number_rises n xs) (sorted_apart xs h)
