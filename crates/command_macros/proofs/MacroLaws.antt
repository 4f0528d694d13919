-- What is made of macros, depth by depth.
use Rattle.std.proofs.Common.{◌≡◌, ◌≢◌, ◌-◌, ℕ, zero, suc, List, Option, Some, None, refl, sym, ap, ◌∙◌, arith}
use Rattle.site_base.specs.Data.{Data}
use Rattle.command_macros.specs.Lookups.{Scope, value_of}
use Rattle.command_macros.specs.Macros.{text_with, found_made, macro_made}
use Rattle.command_macros.specs.Made.{Made, missing}
use Rattle.command_macros.specs.Values.{value_made}

pub macro_deep : (s : Scope) (left : ℕ) (name : List ℕ) → left ≡ 0 → macro_made s left name ≡ missing name
unfolding macro_made
macro_deep s zero name e = refl
macro_deep s (suc left) name e = absurd (omega arith)

pub macro_on : (s : Scope) (left : ℕ) (name : List ℕ) (d : Option Data) → left ≢ 0 → d ≡ value_of s name → macro_made s left name ≡ found_made (text_with (macro_made s (left - 1))) name d
unfolding macro_made
macro_on s zero name d e h = absurd (e refl)
macro_on s (suc left) name d e h =
    let one : suc left - 1 ≡ left = omega arith in
    ap (found_made (text_with (macro_made s left)) name) (sym h) ∙ ap (λ n. found_made (text_with (macro_made s n)) name d) (sym one)
