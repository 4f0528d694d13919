-- Where the first end stands.
use Rattle.std.proofs.Common.{◌≡◌, ℕ, suc, ◌+◌, ◌<◌, List, ◌∷◌, length, take, drop, get_or, true, false, cond, Option, Some, None, refl, sym, ap, ◌∙◌, drop-cons, arith}
use Rattle.std.specs.Str.{bytes_eq}
use Rattle.dsl_lexer.specs.Steps.{find_end, one_more}

abbrev pub shifted : ℕ → Option ℕ → Option ℕ
shifted n None = None
shifted n (Some m) = Some (n + m)

shifted_more : (n : ℕ) (o : Option ℕ) → shifted n (one_more o) ≡ shifted (suc n) o
shifted_more n None = refl
shifted_more n (Some m) = let e : n + suc m ≡ suc n + m = omega arith in ap Some e

pub find_more : (end text : List ℕ) (len : ℕ) → len < length text → bytes_eq end (take (length end) (drop len text)) ≡ false → shifted len (find_end end (drop len text)) ≡ shifted (len + 1) (find_end end (drop (len + 1) text))
find_more end text len lt other =
    let e : drop len text ≡ get_or text len 0 ∷ drop (suc len) text = drop-cons text len 0 lt in
    let no_here : bytes_eq end (take (length end) (get_or text len 0 ∷ drop (suc len) text)) ≡ false = ap (λ x. bytes_eq end (take (length end) x)) (sym e) ∙ other in
    let one : suc len ≡ len + 1 = omega arith in
    ap (λ x. shifted len (find_end end x)) e
    ∙ (ap (λ t. shifted len (cond t (Some 0) (one_more (find_end end (drop (suc len) text))))) no_here
    ∙ (shifted_more len (find_end end (drop (suc len) text))
    ∙ ap (λ k. shifted k (find_end end (drop k text))) one))

pub find_here : (end text : List ℕ) (len : ℕ) → len < length text → bytes_eq end (take (length end) (drop len text)) ≡ true → Some len ≡ shifted len (find_end end (drop len text))
find_here end text len lt same =
    let e : drop len text ≡ get_or text len 0 ∷ drop (suc len) text = drop-cons text len 0 lt in
    let here : bytes_eq end (take (length end) (get_or text len 0 ∷ drop (suc len) text)) ≡ true = ap (λ x. bytes_eq end (take (length end) x)) (sym e) ∙ same in
    let none : len + 0 ≡ len = omega arith in
    sym (ap (λ x. shifted len (find_end end x)) e
    ∙ (ap (λ t. shifted len (cond t (Some 0) (one_more (find_end end (drop (suc len) text))))) here
    ∙ ap Some none))
