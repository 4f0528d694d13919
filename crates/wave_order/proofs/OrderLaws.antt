-- What is sorted by numbers is what the definition gives, for things as for their plain values.
use Rattle.std.proofs.Common.{◌≡◌, List, [], ◌∷◌, map, cond, Bool, true, false, refl, sym, ap, subst, ◌∙◌}
use Rattle.std.specs.List.Sorted.{IsSortedByKey, IsStableByKey}
use Rattle.std.specs.Ordering.{nat_cmp, ordering_then}
use Rattle.std.specs.declared.cmp.Ordering.{Ordering}
use Rattle.std.specs.declared.cmp.Ordering.TheVariants.{Less, Equal, Greater}
use Rattle.site_base.specs.Order.{by_fields}
use Rattle.site_base.specs.declared.item_no.ItemNo.{ItemNo}
use Rattle.conf_check.specs.Ordering.{number_cmp}
use Rattle.commit_meaning.specs.Orders.{is_behind, inserted, by_number}
use Rattle.commit_meaning.proofs.OneOrder.{only_by_number}

-- ---- the order of numbers

then_last : (c : Ordering) → ordering_then c Equal ≡ c
then_last Less = refl
then_last Equal = refl
then_last Greater = refl

then_three : (a b c : Ordering) → ordering_then (ordering_then a b) c ≡ ordering_then a (ordering_then b c)
then_three Less b c = refl
then_three Equal b c = refl
then_three Greater b c = refl

same_cmp : (a b : ItemNo) → number_cmp a b ≡ by_fields a b
same_cmp a b =
    let c1 = nat_cmp a.item b.item in
    let c2 = nat_cmp a.target.item b.target.item in
    let c3 = nat_cmp a.target.host b.target.host in
    let c4 = nat_cmp a.target.key b.target.key in
    let c5 = nat_cmp a.key b.key in
    ap (ordering_then c1)
    (then_three c2 (ordering_then c3 c4) c5
    ∙ ap (ordering_then c2) (then_three c3 c4 c5 ∙ ap (λ o. ordering_then c3 (ordering_then c4 o)) (sym (then_last c5))))

one_cmp : number_cmp ≡ by_fields
one_cmp = λ i a b. same_cmp a b i

-- ---- sorted things

module _ {A : Type 0} (n : A → ItemNo) where
  pub sorted : (given done : List A) → IsSortedByKey n number_cmp done → IsStableByKey n number_cmp given done → done ≡ by_number n given
  sorted given done rising stable =
      only_by_number n given done
      (subst (λ cmp. IsSortedByKey n cmp done) one_cmp rising)
      (subst (λ cmp. IsStableByKey n cmp given done) one_cmp stable)

module _ {A B : Type 0} (f : A → B) (n : B → ItemNo) where
  map_inserted : (a : A) (xs : List A) → map f (inserted (λ x. n (f x)) a xs) ≡ inserted n (f a) (map f xs)
  map_inserted a [] = refl
  map_inserted a (x ∷ xs) = by (map_inserted a xs) (is_behind (n (f a)) (n (f x)))
    where
      by : map f (inserted (λ y. n (f y)) a xs) ≡ inserted n (f a) (map f xs) → (b : Bool) → map f (cond b (x ∷ inserted (λ y. n (f y)) a xs) (a ∷ x ∷ xs)) ≡ cond b (f x ∷ inserted n (f a) (map f xs)) (f a ∷ f x ∷ map f xs)
      by rest true = ap (λ l. f x ∷ l) rest
      by rest false = refl

  pub map_by_number : (xs : List A) → map f (by_number (λ x. n (f x)) xs) ≡ by_number n (map f xs)
  map_by_number [] = refl
  map_by_number (x ∷ xs) = map_inserted x (by_number (λ y. n (f y)) xs) ∙ ap (inserted n (f x)) (map_by_number xs)
