-- Texts that stand between quotes as they are.
use Rattle.std.proofs.Common.{◌≡◌, ℕ, ◌&&◌, Bool, true, false, List, [], ◌∷◌, ◌++◌, refl, ap, ◌∙◌, arith}
use Rattle.std.proofs.lemmas.Bool.Decides.{nat_tests}
use Rattle.std.specs.List.{flat_map, list_all}
use Rattle.site_base.specs.Quoted.{escaped, quoted}
use Rattle.site_text.specs.Lines.{stands_as_it_is}

byte_as_it_is : (b : ℕ) → stands_as_it_is b ≡ true → escaped b ≡ b ∷ []
byte_as_it_is b e = grind (arith, nat_tests)

both : (a b : Bool) → (a && b) ≡ true → (a ≡ true) × (b ≡ true)
both true b e = (refl, e)
both false b e = cc

as_it_is : (t : List ℕ) → list_all stands_as_it_is t ≡ true → flat_map escaped t ≡ t
as_it_is [] e = refl
as_it_is (b ∷ t) e =
    let parts : (stands_as_it_is b ≡ true) × (list_all stands_as_it_is t ≡ true) = both (stands_as_it_is b) (list_all stands_as_it_is t) e in
    ap (λ x. x ++ flat_map escaped t) (byte_as_it_is b parts.0) ∙ ap (λ x. b ∷ x) (as_it_is t parts.1)

pub quoted_as_it_is : (t : List ℕ) → list_all stands_as_it_is t ≡ true → quoted t ≡ 34 ∷ t ++ 34 ∷ []
quoted_as_it_is t e = ap (λ x. 34 ∷ x ++ 34 ∷ []) (as_it_is t e)
