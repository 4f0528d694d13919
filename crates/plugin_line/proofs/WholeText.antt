-- Which bytes are a text as they are.
use Rattle.std.proofs.Common.{◌≡◌, ℕ, ◌<◌, false, cond, List, length, map, arith, ap, ◌==◌, eq-eqb}
use Rattle.std.proofs.lemmas.Bool.Decides.{nat_tests}
use Rattle.std.proofs.lemmas.Str.{utf8_valid_len-IsUtf8}
use Rattle.std.specs.Str.{IsUtf8}
use Rattle.std.specs.Str.Lossy.{utf8_valid_len}
use Rattle.plugin_line.specs.Output.{in_ascii, text_of}

pub text_of_text : (bs : List ℕ) → IsUtf8 bs → text_of bs ≡ bs
text_of_text bs text =
    ap (λ b. cond b bs (map in_ascii bs)) (eq-eqb (utf8_valid_len bs) (length bs) (utf8_valid_len-IsUtf8 bs text))

pub text_of_others : (bs : List ℕ) (n : ℕ) → utf8_valid_len bs ≡ n → n < length bs → text_of bs ≡ map in_ascii bs
text_of_others bs n is short =
    let differs : (utf8_valid_len bs == length bs) ≡ false = grind (arith, nat_tests) in
    ap (λ b. cond b bs (map in_ascii bs)) differs
