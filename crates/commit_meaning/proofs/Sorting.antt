-- Things by their numbers stand in that order.
use Rattle.std.proofs.Common.{◌≡◌, List, [], ◌∷◌, cond, Bool, true, false, refl, sym, ap, ◌∙◌, true≢false}
use Rattle.std.specs.List.{AllByRecursion}
use Rattle.std.specs.Ordering.{is_gt, ordering_reverse}
use Rattle.std.specs.declared.cmp.Ordering.{Ordering}
use Rattle.std.specs.declared.cmp.Ordering.TheVariants.{Less, Equal, Greater}
use Rattle.std.specs.Cmp.{IsTotalOrder}
use Rattle.std.proofs.lemmas.Cmp.{on_total, nat_list_cmp_total, upto}
use Rattle.site_base.specs.Order.{fields, by_fields}
use Rattle.site_base.specs.declared.item_no.ItemNo.{ItemNo}
use Rattle.commit_meaning.specs.Orders.{is_behind, inserted, by_number}
use Rattle.commit_meaning.proofs.Lists.{AllLater, all_imp}

pub total : IsTotalOrder by_fields
total = on_total fields nat_list_cmp_total

turned : (r : Ordering) → is_gt r ≡ true → is_gt (ordering_reverse r) ≡ false
turned Less h = absurd (true≢false (sym h))
turned Equal h = absurd (true≢false (sym h))
turned Greater h = refl

pub other_way : (a b : ItemNo) → is_behind a b ≡ true → is_behind b a ≡ false
other_way a b h = ap is_gt (total.antisymm b a) ∙ turned (by_fields a b) h

pub numbers_chain : (a b c : ItemNo) → is_behind a b ≡ false → is_behind b c ≡ false → is_behind a c ≡ false
numbers_chain a b c h k = upto total a b c h k

module _ {A : Type 0} (n : A → ItemNo) where
  abbrev pub Rises : A → A → Type 0
  Rises a b = is_behind (n a) (n b) ≡ false

  pub all_inserted : (P : A → Type 0) (a : A) (xs : List A) → P a → AllByRecursion P xs → AllByRecursion P (inserted n a xs)
  all_inserted P a [] p h = (p, tt)
  all_inserted P a (b ∷ bs) p h = by (all_inserted P a bs p h.1) (is_behind (n a) (n b))
    where
      by : AllByRecursion P (inserted n a bs) → (c : Bool) → AllByRecursion P (cond c (b ∷ inserted n a bs) (a ∷ b ∷ bs))
      by rest true = (h.0, rest)
      by rest false = (p, h)

  pub all_by_number : (P : A → Type 0) (xs : List A) → AllByRecursion P xs → AllByRecursion P (by_number n xs)
  all_by_number P [] h = tt
  all_by_number P (x ∷ xs) h = all_inserted P x (by_number n xs) h.0 (all_by_number P xs h.1)

  inserted_rises : (a : A) (xs : List A) → AllLater Rises xs → AllLater Rises (inserted n a xs)
  inserted_rises a [] h = (tt, tt)
  inserted_rises a (b ∷ bs) h = by (inserted_rises a bs h.1) (is_behind (n a) (n b)) refl
    where
      by : AllLater Rises (inserted n a bs) → (c : Bool) → is_behind (n a) (n b) ≡ c → AllLater Rises (cond c (b ∷ inserted n a bs) (a ∷ b ∷ bs))
      by rest true e = (all_inserted (Rises b) a bs (other_way (n a) (n b) e) h.0, rest)
      by rest false e = ((e, all_imp (Rises b) (Rises a) (λ x g. numbers_chain (n a) (n b) (n x) e g) bs h.0), h)

  pub by_number_rises : (xs : List A) → AllLater Rises (by_number n xs)
  by_number_rises [] = tt
  by_number_rises (x ∷ xs) = inserted_rises x (by_number n xs) (by_number_rises xs)
