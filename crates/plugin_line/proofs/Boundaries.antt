-- A text may be cut where blanks end or begin.
use Rattle.std.proofs.Common.{◌≡◌, ℕ, ◌+◌, ◌-◌, ◌<◌, true, List, length, reverse, get_or, arith, subst, sym, ap, ◌∙◌}
use Rattle.std.specs.List.{prefix_len, suffix_len}
use Rattle.std.specs.Str.{IsUtf8, IsCharBoundary}
use Rattle.std.proofs.lemmas.Bool.Decides.{nat_tests}
use Rattle.std.proofs.lemmas.List.{get_or-reverse}
use Rattle.std.proofs.lemmas.List.Sums.{prefix_len-le-length, prefix_len_passes, suffix_len-le-length}
use Rattle.std.proofs.lemmas.Str.{IsCharBoundary-after_ascii}
use Rattle.plugin_line.specs.Output.{is_blank}

blank_is_ascii : (b : ℕ) → is_blank b ≡ true → b < 128
blank_is_ascii b e = grind (arith, nat_tests)

-- behind the blanks in front
pub front_boundary : (bs : List ℕ) → IsUtf8 bs → (n : ℕ) → n ≡ prefix_len is_blank bs → 0 < n → IsCharBoundary bs n
front_boundary bs text n is some =
    let last : n - 1 < prefix_len is_blank bs = omega arith in
    let inside : n - 1 < length bs = omega (arith, prefix_len-le-length is_blank bs) in
    let ascii : get_or bs (n - 1) 0 < 128 = blank_is_ascii (get_or bs (n - 1) 0) (prefix_len_passes is_blank bs (n - 1) 0 last) in
    let back : (n - 1) + 1 ≡ n = omega arith in
    let P : ℕ → Type 0 = λ k. IsCharBoundary bs k in
    subst P back (IsCharBoundary-after_ascii bs (n - 1) text inside ascii)

-- the k-th byte from the end
blank_back : (bs : List ℕ) (n k : ℕ) → k < suffix_len is_blank bs → k < length bs → length bs - 1 - k ≡ n → is_blank (get_or bs n 0) ≡ true
blank_back bs n k some inside here =
    ap (λ i. is_blank (get_or bs i 0)) (sym here)
    ∙ ap is_blank (sym (get_or-reverse bs k 0 inside))
    ∙ prefix_len_passes is_blank (reverse bs) k 0 some

last_blank : (bs : List ℕ) (n : ℕ) → n ≡ length bs - suffix_len is_blank bs → n < length bs → is_blank (get_or bs n 0) ≡ true
last_blank bs n is more =
    blank_back bs n (suffix_len is_blank bs - 1)
    (omega (arith, suffix_len-le-length is_blank bs))
    (omega (arith, suffix_len-le-length is_blank bs))
    (omega (arith, suffix_len-le-length is_blank bs))

-- where the blanks at the end begin
pub back_boundary : (bs : List ℕ) (n : ℕ) → n ≡ length bs - suffix_len is_blank bs → IsCharBoundary bs n
back_boundary bs n is =
    (omega arith, λ more high. absurd (let ascii : get_or bs n 0 < 128 = blank_is_ascii (get_or bs n 0) (last_blank bs n is more) in omega arith))
