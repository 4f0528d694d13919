-- Replacing is from left to right.
use Rattle.std.proofs.Common.{◌≡◌, ℕ, zero, suc, ◌-◌, ◌<◌, ◌≤◌, ◌==◌, Bool, true, false, cond, List, [], ◌∷◌, ◌++◌, length, refl, sym, ap, subst, ◌∙◌, arith, length-append}
use Rattle.std.proofs.lemmas.Bool.Decides.{nat_tests}
use Rattle.dsl_lib.specs.Texts.{begins_with, replaced_behind, replaced}
use Rattle.dsl_lib.specs.Laws.{IsReplaced, ends, replaces, keeps}
use Rattle.dsl_lib.proofs.Parts.{begins_is, replaced_here}

kept : (part by bs : List ℕ) (b : ℕ) → begins_with (b ∷ bs) part ≡ false → replaced_behind part by 0 (b ∷ bs) ≡ b ∷ replaced_behind part by 0 bs
kept part by bs b e = ap (λ t. cond t (by ++ replaced_behind part by (length part - 1) bs) (b ∷ replaced_behind part by 0 bs)) e

there : (part by t rest : List ℕ) → 0 < length part → t ≡ part ++ rest → replaced_behind part by 0 t ≡ by ++ replaced_behind part by 0 rest
there part by t rest some e = ap (replaced_behind part by 0) e ∙ replaced_here part by rest some

shorter : (part t rest : List ℕ) (n : ℕ) → 0 < length part → t ≡ part ++ rest → length t ≤ suc n → length rest ≤ n
shorter part t rest n some e le =
    let long = ap length e ∙ length-append part rest in
    omega (arith, some, le, long)

at_front : (n b : ℕ) (part by bs : List ℕ) (test : Bool) → begins_with (b ∷ bs) part ≡ test → 0 < length part → length (b ∷ bs) ≤ suc n
    → ((t : List ℕ) → length t ≤ n → IsReplaced part by t (replaced_behind part by 0 t)) → IsReplaced part by (b ∷ bs) (replaced_behind part by 0 (b ∷ bs))
at_front n b part by bs true e some le more =
    let found : (rest : List ℕ) × (b ∷ bs ≡ part ++ rest) = begins_is (b ∷ bs) part e in
    subst (IsReplaced part by (b ∷ bs)) (sym (there part by (b ∷ bs) found.0 some found.1)) (replaces found.1 (more found.0 (shorter part (b ∷ bs) found.0 n some found.1 le)))
at_front n b part by bs false e some le more = subst (IsReplaced part by (b ∷ bs)) (sym (kept part by bs b e)) (keeps e (more bs (omega (arith, le))))

is_replaced : (n : ℕ) (part by t : List ℕ) → 0 < length part → length t ≤ n → IsReplaced part by t (replaced_behind part by 0 t)
is_replaced n part by [] some le = ends
is_replaced zero part by (b ∷ bs) some le = absurd (omega (arith, le))
is_replaced (suc n) part by (b ∷ bs) some le = at_front n b part by bs (begins_with (b ∷ bs) part) refl some le (λ t short. is_replaced n part by t some short)

some_part : (n : ℕ) → 0 < n → (n == 0) ≡ false
some_part n some = grind (arith, nat_tests)

not_empty : (t part by : List ℕ) → 0 < length part → replaced t part by ≡ replaced_behind part by 0 t
not_empty t part by some = ap (λ b. cond b t (replaced_behind part by 0 t)) (some_part (length part) some)

pub replaced_is : (t part by : List ℕ) → 0 < length part → IsReplaced part by t (replaced t part by)
replaced_is t part by some = subst (IsReplaced part by t) (sym (not_empty t part by some)) (is_replaced (length t) part by t some (omega arith))

one_out : (part by t out : List ℕ) → 0 < length part → IsReplaced part by t out → out ≡ replaced_behind part by 0 t
one_out part by _ _ some ends = refl
one_out part by t _ some (replaces {rest = rest} {out = out} e r) = ap (λ x. by ++ x) (one_out part by rest out some r) ∙ sym (there part by t rest some e)
one_out part by _ _ some (keeps {b = b} {bs = bs} {out = out} e r) = ap (λ x. b ∷ x) (one_out part by bs out some r) ∙ sym (kept part by bs b e)

pub replaced_only : (t part by out : List ℕ) → 0 < length part → IsReplaced part by t out → out ≡ replaced t part by
replaced_only t part by out some r = one_out part by t out some r ∙ sym (not_empty t part by some)
