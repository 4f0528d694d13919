-- The lines of a text.
use Rattle.std.proofs.Common.{◌≡◌, ◌<◌, ◌+◌, ◌==◌, ℕ, List, [], ◌∷◌, ◌++◌, Bool, true, false, not, length, get_or, Option, Some, None, IfSome, MatchOption, refl, sym, ap, ◌∙◌, subst, append_assoc, arith, length-append}
use Rattle.std.proofs.lemmas.Bool.Decides.{nat_tests}
use Rattle.std.proofs.lemmas.List.{append-nil}
use Rattle.std.proofs.lemmas.List.Folds.{concat-append}
use Rattle.std.proofs.lemmas.List.Sums.{prefix_len_stops, split_at_first}
use Rattle.std.specs.List.{after_first, before_first, concat, position_or_len}
use denote.Ref.{Bor}

same_byte : (b c : ℕ) → (b == c) ≡ true → b ≡ c
same_byte b c e = grind (arith, nat_tests, e)

it_passes : (t : Bool) → not t ≡ false → t ≡ true
it_passes true e = refl
it_passes false e = absurd cc

-- what stands before the first such byte, the byte, and what stands behind it
cut_at : (c : ℕ) (text : List ℕ) → position_or_len (λ b. b == c) text < length text → text ≡ before_first (λ b. b == c) text ++ c ∷ after_first (λ b. b == c) text
cut_at c text h =
    let at = get_or text (position_or_len (λ b. b == c) text) 0 in
    let same = same_byte at c (it_passes (at == c) (prefix_len_stops (λ b. not (b == c)) text 0 h)) in
    split_at_first (λ b. b == c) text 0 h ∙ ap (λ x. before_first (λ b. b == c) text ++ x ∷ after_first (λ b. b == c) text) same

-- what `split_once` gives
abbrev IsCutOnce : ℕ → List ℕ → Option (Bor (List ℕ) × Bor (List ℕ)) → Type 0
IsCutOnce c text r =
    MatchOption r (position_or_len (λ b. b == c) text ≡ length text)
    (λ x. (x.0.now ≡ before_first (λ b. b == c) text) × (x.1.now ≡ after_first (λ b. b == c) text) × (position_or_len (λ b. b == c) text < length text))

pub cut_once : (c : ℕ) (text : List ℕ) (r : Option (Bor (List ℕ) × Bor (List ℕ))) → IsCutOnce c text r → IfSome r (λ x. text ≡ x.0.now ++ c ∷ x.1.now)
cut_once c text None h = tt
cut_once c text (Some x) h = cut_at c text h.2 ∙ (λ i. sym h.0 i ++ c ∷ sym h.1 i)

pub cut_shorter : (c : ℕ) (text : List ℕ) (r : Option (Bor (List ℕ) × Bor (List ℕ))) → IsCutOnce c text r → IfSome r (λ x. length x.1.now < length text)
cut_shorter c text None h = tt
cut_shorter c text (Some x) h =
    let cut = ap length (cut_once c text (Some x) h) in
    let both = length-append x.0.now (c ∷ x.1.now) in
    omega (arith, cut, both)

-- one line more
pub more_lines : (ls : List (List ℕ)) (line behind rest text : List ℕ) → rest ≡ line ++ 10 ∷ behind → concat ls ++ rest ≡ text → concat (ls ++ (line ++ 10 ∷ []) ∷ []) ++ behind ≡ text
more_lines ls line behind rest text cut e =
    let one = line ++ 10 ∷ [] in
    ap (λ xs. xs ++ behind) (concat-append ls (one ∷ []) ∙ ap (λ xs. concat ls ++ xs) (append-nil one))
    ∙ append_assoc (concat ls) one behind
    ∙ ap (λ xs. concat ls ++ xs) (append_assoc line (10 ∷ []) behind ∙ sym cut)
    ∙ e

-- what is left is the last one, or nothing
pub last_line : (ls : List (List ℕ)) (rest text : List ℕ) → concat ls ++ rest ≡ text → concat (ls ++ rest ∷ []) ≡ text
last_line ls rest text e = concat-append ls (rest ∷ []) ∙ ap (λ xs. concat ls ++ xs) (append-nil rest) ∙ e

pub no_line : (ls : List (List ℕ)) (rest text : List ℕ) → rest ≡ [] → concat ls ++ rest ≡ text → concat ls ≡ text
no_line ls rest text none e = sym (append-nil (concat ls)) ∙ ap (λ xs. concat ls ++ xs) (sym none) ∙ e
