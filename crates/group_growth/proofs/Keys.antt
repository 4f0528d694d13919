-- Keys that are compared.
use Rattle.std.proofs.Common.{◌≡◌, ℕ, List, Bool, true, false, refl, sym, ap, ◌∙◌}
use Rattle.std.specs.Str.{bytes_eq}
use Rattle.std.specs.declared.cmp.Ordering.TheVariants.{Equal, Greater}
use Rattle.std.proofs.lemmas.Cmp.{nat_list_cmp_total, tied_itself}
use Rattle.std.proofs.lemmas.Map.Lookups.{exact_bytes}
use Rattle.std.proofs.lemmas.Slice.Eq.{bytes_eq-Decides}
use Rattle.dsl_value.specs.Pairs.{key_cmp}

pub itself : (k : List ℕ) → key_cmp k k ≡ Equal
itself k = tied_itself nat_list_cmp_total k

pub own : (k : List ℕ) → bytes_eq k k ≡ true
own k = (bytes_eq-Decides k k).1 refl

pub same : (a b : List ℕ) → bytes_eq a b ≡ true → a ≡ b
same a b h = (bytes_eq-Decides a b).0 h

-- equal keys compare so
pub level : (a b : List ℕ) → bytes_eq a b ≡ true → key_cmp b a ≡ Equal
level a b h = ap (key_cmp b) (same a b h) ∙ itself b

pub even : (k j : List ℕ) → key_cmp k j ≡ Equal → bytes_eq j k ≡ true
even k j e = ap (λ x. bytes_eq x k) (sym (exact_bytes k j e)) ∙ own k

-- a key that another is behind is another
pub other : (j k : List ℕ) → key_cmp k j ≡ Greater → bytes_eq j k ≡ false
other j k h = by (bytes_eq j k) refl
  where
    by : (b : Bool) → bytes_eq j k ≡ b → b ≡ false
    by true e = let bad : Equal ≡ Greater = sym (level j k e) ∙ h in absurd cc
    by false e = refl
