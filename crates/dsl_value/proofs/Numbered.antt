-- Numbers of cells that were found equal.
use Rattle.std.proofs.Common.{◌≡◌, ℕ, ◌+◌, ◌*◌, ◌<◌, Bool, true, false, cond, List, refl, sym, ap, subst, ◌∙◌, arith}
use Rattle.std.specs.BTreeMap.{is_at}
use Rattle.std.specs.BTreeSet.{BTreeSet, contains, Updates}
use Rattle.std.specs.List.{list_any}
use Rattle.std.specs.FinMap.{nat_cmp-IsAntisymmetric}
use Rattle.std.specs.Ordering.{nat_cmp, is_eq}
use Rattle.std.specs.declared.cmp.Ordering.{Ordering}
use Rattle.std.specs.declared.cmp.Ordering.TheVariants.{Less, Equal, Greater}
use Rattle.dsl_value.specs.Contents.{PlainCell}
use Rattle.dsl_value.specs.Known.{AreEqual, number_of}

module _ (levels a b levels' a' b' : ℕ) (few : levels < 128) (few' : levels' < 128) (fits : b < 4294967296) (fits' : b' < 4294967296) (same : number_of levels a b ≡ number_of levels' a' b') where
  same_levels : levels ≡ levels'
  same_levels = omega (arith, few, few', same)

  outer : a * 4294967296 + b ≡ a' * 4294967296 + b'
  outer = omega (arith, few, few', same)

  same_right : b ≡ b'
  same_right = omega (arith, fits, fits', outer)

  same_left : a ≡ a'
  same_left = omega (arith, fits, fits', outer)

  -- one number is of one pair of cells
  pub one_pair : (cells : List PlainCell) → AreEqual cells levels a b → AreEqual cells levels' a' b'
  one_pair cells h = subst (λ n. AreEqual cells n a' b') same_levels (subst (λ k. AreEqual cells levels k b') same_left (subst (λ k. AreEqual cells levels a k) same_right h))

-- each number of the set is one of cells that are equal
abbrev pub AllEqual : List PlainCell → BTreeSet ℕ → Type 0
AllEqual cells numbers = (levels a b : ℕ) → levels < 128 → b < 4294967296 → contains nat_cmp numbers (number_of levels a b) ≡ true → AreEqual cells levels a b

ties : (o : Ordering) → is_eq o ≡ true → o ≡ Equal
ties Equal e = refl
ties Less e = cc
ties Greater e = cc

pub one_more : (cells : List PlainCell) (old new : BTreeSet ℕ) (key levels a b : ℕ) → key ≡ number_of levels a b → levels < 128 → b < 4294967296 → Updates nat_cmp old new key true → AllEqual cells old → AreEqual cells levels a b → AllEqual cells new
one_more cells old new key levels a b is few fits updates known equal levels' a' b' few' fits' there =
    by (is_eq (nat_cmp key (number_of levels' a' b'))) refl (sym (updates.0 (number_of levels' a' b')) ∙ there)
  where
    by : (e : Bool) → is_eq (nat_cmp key (number_of levels' a' b')) ≡ e → cond e true (contains nat_cmp old (number_of levels' a' b')) ≡ true → AreEqual cells levels' a' b'
    by true e h = one_pair levels a b levels' a' b' few few' fits fits' (sym is ∙ nat_cmp-IsAntisymmetric key (number_of levels' a' b') (ties _ e)) cells equal
    by false e h = known levels' a' b' few' fits' h

-- where there is no memory for one more, the others stay
pub unchanged : (cells : List PlainCell) (old new : BTreeSet ℕ) → new.keys ≡ old.keys → AllEqual cells old → AllEqual cells new
unchanged cells old new same known levels a b few fits there = known levels a b few fits (ap (list_any (is_at (nat_cmp (number_of levels a b)))) (sym same) ∙ there)
