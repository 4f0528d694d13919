-- Which mark a text begins with: the longest one.
use Rattle.std.proofs.Common.{◌≡◌, ℕ, ◌<◌, ◌≤◌, List, [], ◌∷◌, ◌++◌, length, take, drop, Bool, true, false, cond, ◌&&◌, nat_le, Option, Some, None, refl, sym, ap, ◌∙◌, subst, ◌⊎◌, inl, inr, arith}
use Rattle.std.proofs.lemmas.Bool.Decides.{nat_tests}
use Rattle.std.specs.List.{list_all}
use Rattle.std.specs.Str.{bytes_eq}
use Rattle.dsl_lexer.specs.declared.sign.Sign.{Sign}
use Rattle.dsl_lexer.specs.declared.sign.Sign.TheVariants as sign
use Rattle.dsl_lexer.specs.declared.mark.Mark.{Mark}
use Rattle.dsl_lexer.specs.declared.mark.Mark.TheVariants as mark
use Rattle.dsl_lexer.specs.Marks.{mark_spelling, begins, mark_among, mark_of, all_marks}
use Rattle.dsl_lexer.specs.Tokens.{IsLongest}
use Rattle.dsl_lexer.proofs.Bytes.{same_bytes, both_first, both_second, front_is}

abbrev Among : Mark → List Mark → Type 0
Among m [] = ⊥
Among m (x ∷ xs) = (x ≡ m) ⊎ Among m xs

abbrev is_at_most : ℕ → Mark → Bool
is_at_most n m = nat_le (length (mark_spelling m)) n

abbrev descends : List Mark → Bool
descends [] = true
descends (m ∷ ms) = list_all (is_at_most (length (mark_spelling m))) ms && descends ms

sign_among : (s : Sign) → Among (mark.Sign s) all_marks
sign_among sign.NotIn = inr (inl refl)
sign_among sign.AddSet = inr (inr (inr (inr (inl refl))))
sign_among sign.SubtractSet = inr (inr (inr (inr (inr (inl refl)))))
sign_among sign.MultiplySet = inr (inr (inr (inr (inr (inr (inl refl))))))
sign_among sign.DivideSet = inr (inr (inr (inr (inr (inr (inr (inl refl)))))))
sign_among sign.Arrow = inr (inr (inr (inr (inr (inr (inr (inr (inl refl))))))))
sign_among sign.Equal = inr (inr (inr (inr (inr (inr (inr (inr (inr (inl refl)))))))))
sign_among sign.NotEqual = inr (inr (inr (inr (inr (inr (inr (inr (inr (inr (inl refl))))))))))
sign_among sign.AtMost = inr (inr (inr (inr (inr (inr (inr (inr (inr (inr (inr (inl refl)))))))))))
sign_among sign.AtLeast = inr (inr (inr (inr (inr (inr (inr (inr (inr (inr (inr (inr (inl refl))))))))))))
sign_among sign.ShiftLeft = inr (inr (inr (inr (inr (inr (inr (inr (inr (inr (inr (inr (inr (inl refl)))))))))))))
sign_among sign.ShiftRight = inr (inr (inr (inr (inr (inr (inr (inr (inr (inr (inr (inr (inr (inr (inl refl))))))))))))))
sign_among sign.And = inr (inr (inr (inr (inr (inr (inr (inr (inr (inr (inr (inr (inr (inr (inr (inl refl)))))))))))))))
sign_among sign.Or = inr (inr (inr (inr (inr (inr (inr (inr (inr (inr (inr (inr (inr (inr (inr (inr (inl refl))))))))))))))))
sign_among sign.OpenParen = inr (inr (inr (inr (inr (inr (inr (inr (inr (inr (inr (inr (inr (inr (inr (inr (inr (inr (inr (inl refl)))))))))))))))))))
sign_among sign.CloseParen = inr (inr (inr (inr (inr (inr (inr (inr (inr (inr (inr (inr (inr (inr (inr (inr (inr (inr (inr (inr (inl refl))))))))))))))))))))
sign_among sign.OpenBracket = inr (inr (inr (inr (inr (inr (inr (inr (inr (inr (inr (inr (inr (inr (inr (inr (inr (inr (inr (inr (inr (inl refl)))))))))))))))))))))
sign_among sign.CloseBracket = inr (inr (inr (inr (inr (inr (inr (inr (inr (inr (inr (inr (inr (inr (inr (inr (inr (inr (inr (inr (inr (inr (inl refl))))))))))))))))))))))
sign_among sign.OpenBrace = inr (inr (inr (inr (inr (inr (inr (inr (inr (inr (inr (inr (inr (inr (inr (inr (inr (inr (inr (inr (inr (inr (inr (inl refl)))))))))))))))))))))))
sign_among sign.CloseBrace = inr (inr (inr (inr (inr (inr (inr (inr (inr (inr (inr (inr (inr (inr (inr (inr (inr (inr (inr (inr (inr (inr (inr (inr (inl refl))))))))))))))))))))))))
sign_among sign.Dot = inr (inr (inr (inr (inr (inr (inr (inr (inr (inr (inr (inr (inr (inr (inr (inr (inr (inr (inr (inr (inr (inr (inr (inr (inr (inl refl)))))))))))))))))))))))))
sign_among sign.Comma = inr (inr (inr (inr (inr (inr (inr (inr (inr (inr (inr (inr (inr (inr (inr (inr (inr (inr (inr (inr (inr (inr (inr (inr (inr (inr (inl refl))))))))))))))))))))))))))
sign_among sign.Semicolon = inr (inr (inr (inr (inr (inr (inr (inr (inr (inr (inr (inr (inr (inr (inr (inr (inr (inr (inr (inr (inr (inr (inr (inr (inr (inr (inr (inl refl)))))))))))))))))))))))))))
sign_among sign.Set = inr (inr (inr (inr (inr (inr (inr (inr (inr (inr (inr (inr (inr (inr (inr (inr (inr (inr (inr (inr (inr (inr (inr (inr (inr (inr (inr (inr (inl refl))))))))))))))))))))))))))))
sign_among sign.Plus = inr (inr (inr (inr (inr (inr (inr (inr (inr (inr (inr (inr (inr (inr (inr (inr (inr (inr (inr (inr (inr (inr (inr (inr (inr (inr (inr (inr (inr (inl refl)))))))))))))))))))))))))))))
sign_among sign.Minus = inr (inr (inr (inr (inr (inr (inr (inr (inr (inr (inr (inr (inr (inr (inr (inr (inr (inr (inr (inr (inr (inr (inr (inr (inr (inr (inr (inr (inr (inr (inl refl))))))))))))))))))))))))))))))
sign_among sign.Star = inr (inr (inr (inr (inr (inr (inr (inr (inr (inr (inr (inr (inr (inr (inr (inr (inr (inr (inr (inr (inr (inr (inr (inr (inr (inr (inr (inr (inr (inr (inr (inl refl)))))))))))))))))))))))))))))))
sign_among sign.Slash = inr (inr (inr (inr (inr (inr (inr (inr (inr (inr (inr (inr (inr (inr (inr (inr (inr (inr (inr (inr (inr (inr (inr (inr (inr (inr (inr (inr (inr (inr (inr (inr (inl refl))))))))))))))))))))))))))))))))
sign_among sign.Percent = inr (inr (inr (inr (inr (inr (inr (inr (inr (inr (inr (inr (inr (inr (inr (inr (inr (inr (inr (inr (inr (inr (inr (inr (inr (inr (inr (inr (inr (inr (inr (inr (inr (inl refl)))))))))))))))))))))))))))))))))
sign_among sign.Not = inr (inr (inr (inr (inr (inr (inr (inr (inr (inr (inr (inr (inr (inr (inr (inr (inr (inr (inr (inr (inr (inr (inr (inr (inr (inr (inr (inr (inr (inr (inr (inr (inr (inr (inl refl))))))))))))))))))))))))))))))))))
sign_among sign.Tilde = inr (inr (inr (inr (inr (inr (inr (inr (inr (inr (inr (inr (inr (inr (inr (inr (inr (inr (inr (inr (inr (inr (inr (inr (inr (inr (inr (inr (inr (inr (inr (inr (inr (inr (inr (inl refl)))))))))))))))))))))))))))))))))))
sign_among sign.Less = inr (inr (inr (inr (inr (inr (inr (inr (inr (inr (inr (inr (inr (inr (inr (inr (inr (inr (inr (inr (inr (inr (inr (inr (inr (inr (inr (inr (inr (inr (inr (inr (inr (inr (inr (inr (inl refl))))))))))))))))))))))))))))))))))))
sign_among sign.Greater = inr (inr (inr (inr (inr (inr (inr (inr (inr (inr (inr (inr (inr (inr (inr (inr (inr (inr (inr (inr (inr (inr (inr (inr (inr (inr (inr (inr (inr (inr (inr (inr (inr (inr (inr (inr (inr (inl refl)))))))))))))))))))))))))))))))))))))
sign_among sign.BitAnd = inr (inr (inr (inr (inr (inr (inr (inr (inr (inr (inr (inr (inr (inr (inr (inr (inr (inr (inr (inr (inr (inr (inr (inr (inr (inr (inr (inr (inr (inr (inr (inr (inr (inr (inr (inr (inr (inr (inl refl))))))))))))))))))))))))))))))))))))))
sign_among sign.BitXor = inr (inr (inr (inr (inr (inr (inr (inr (inr (inr (inr (inr (inr (inr (inr (inr (inr (inr (inr (inr (inr (inr (inr (inr (inr (inr (inr (inr (inr (inr (inr (inr (inr (inr (inr (inr (inr (inr (inr (inl refl)))))))))))))))))))))))))))))))))))))))
sign_among sign.BitOr = inr (inr (inr (inr (inr (inr (inr (inr (inr (inr (inr (inr (inr (inr (inr (inr (inr (inr (inr (inr (inr (inr (inr (inr (inr (inr (inr (inr (inr (inr (inr (inr (inr (inr (inr (inr (inr (inr (inr (inr (inl refl))))))))))))))))))))))))))))))))))))))))

mark_in : (m : Mark) → Among m all_marks
mark_in (mark.Sign s) = sign_among s
mark_in mark.Hash = inr (inr (inr (inr (inr (inr (inr (inr (inr (inr (inr (inr (inr (inr (inr (inr (inr (inl refl)))))))))))))))))
mark_in mark.DoubleSlash = inr (inr (inl refl))
mark_in mark.BlockComment = inr (inr (inr (inl refl)))
mark_in mark.Quote = inr (inr (inr (inr (inr (inr (inr (inr (inr (inr (inr (inr (inr (inr (inr (inr (inr (inr (inl refl))))))))))))))))))
mark_in mark.LongString = inl refl

all_descend : descends all_marks ≡ true
all_descend = refl

-- the mark with a spelling
abbrev with_spelling : List Mark → List ℕ → Option Mark
with_spelling [] text = None
with_spelling (m ∷ ms) text = cond (bytes_eq (mark_spelling m) text) (Some m) (with_spelling ms text)

sign_with : (s : Sign) → with_spelling all_marks (mark_spelling (mark.Sign s)) ≡ Some (mark.Sign s)
sign_with sign.NotIn = refl
sign_with sign.AddSet = refl
sign_with sign.SubtractSet = refl
sign_with sign.MultiplySet = refl
sign_with sign.DivideSet = refl
sign_with sign.Arrow = refl
sign_with sign.Equal = refl
sign_with sign.NotEqual = refl
sign_with sign.AtMost = refl
sign_with sign.AtLeast = refl
sign_with sign.ShiftLeft = refl
sign_with sign.ShiftRight = refl
sign_with sign.And = refl
sign_with sign.Or = refl
sign_with sign.OpenParen = refl
sign_with sign.CloseParen = refl
sign_with sign.OpenBracket = refl
sign_with sign.CloseBracket = refl
sign_with sign.OpenBrace = refl
sign_with sign.CloseBrace = refl
sign_with sign.Dot = refl
sign_with sign.Comma = refl
sign_with sign.Semicolon = refl
sign_with sign.Set = refl
sign_with sign.Plus = refl
sign_with sign.Minus = refl
sign_with sign.Star = refl
sign_with sign.Slash = refl
sign_with sign.Percent = refl
sign_with sign.Not = refl
sign_with sign.Tilde = refl
sign_with sign.Less = refl
sign_with sign.Greater = refl
sign_with sign.BitAnd = refl
sign_with sign.BitXor = refl
sign_with sign.BitOr = refl

mark_with : (m : Mark) → with_spelling all_marks (mark_spelling m) ≡ Some m
mark_with (mark.Sign s) = sign_with s
mark_with mark.Hash = refl
mark_with mark.DoubleSlash = refl
mark_with mark.BlockComment = refl
mark_with mark.Quote = refl
mark_with mark.LongString = refl

same_mark : (m n : Mark) → mark_spelling m ≡ mark_spelling n → m ≡ n
same_mark m n e =
    let found : with_spelling all_marks (mark_spelling m) ≡ Some n = ap (with_spelling all_marks) e ∙ mark_with n in
    let own = mark_with m in
    cc

pub begins_front : (m : Mark) (text : List ℕ) → begins m text ≡ true → text ≡ mark_spelling m ++ drop (length (mark_spelling m)) text
begins_front m text e = front_is (mark_spelling m) text (both_first _ _ e)

at_most : (n : ℕ) (ms : List Mark) (m : Mark) → list_all (is_at_most n) ms ≡ true → Among m ms → length (mark_spelling m) ≤ n
at_most n [] m h a = absurd a
at_most n (x ∷ xs) m h (inl e) = let is : is_at_most n m ≡ true = ap (is_at_most n) (sym e) ∙ both_first _ _ h in grind (arith, nat_tests)
at_most n (x ∷ xs) m h (inr a) = at_most n xs m (both_second _ _ h) a

record Found (ms : List Mark) (m : Mark) (text : List ℕ) : Type 0 where
  stands : begins m text ≡ true
  longest : (other : Mark) → Among other ms → begins other text ≡ true → length (mark_spelling other) ≤ length (mark_spelling m)

among_sound : (ms : List Mark) (text : List ℕ) (m : Mark) → descends ms ≡ true → mark_among ms text ≡ Some m → Found ms m text
among_sound [] text m d e = cc
among_sound (x ∷ xs) text m d e = by (λ e. among_sound xs text m (both_second _ _ d) e) (begins x text) refl e
  where
    by : (mark_among xs text ≡ Some m → Found xs m text) → (t : Bool) → begins x text ≡ t → cond t (Some x) (mark_among xs text) ≡ Some m → Found (x ∷ xs) m text
    by found true is e =
        let same : x ≡ m = cc in
        record {
          stands = ap (λ y. begins y text) (sym same) ∙ is;
          longest = λ other a b. first other a (subst (λ y. list_all (is_at_most (length (mark_spelling y))) xs ≡ true) same (both_first _ _ d)) same;
        }
      where
        first : (other : Mark) → Among other (x ∷ xs) → list_all (is_at_most (length (mark_spelling m))) xs ≡ true → x ≡ m → length (mark_spelling other) ≤ length (mark_spelling m)
        first other (inl e) h same = let is : other ≡ m = cc in let n = ap (λ y. length (mark_spelling y)) is in omega arith
        first other (inr a) h same = at_most (length (mark_spelling m)) xs other h a
    by found false is e =
        let more = found e in
        record { stands = more.stands; longest = λ other a b. rest other a b more }
      where
        rest : (other : Mark) → Among other (x ∷ xs) → begins other text ≡ true → Found xs m text → length (mark_spelling other) ≤ length (mark_spelling m)
        rest other (inl e) b more = let no_way : begins x text ≡ true = ap (λ y. begins y text) e ∙ b in absurd cc
        rest other (inr a) b more = more.longest other a b

pub mark_sound : (text : List ℕ) (m : Mark) → mark_of text ≡ Some m → IsLongest m text
unfolding mark_of
mark_sound text m e =
    let f = among_sound all_marks text m all_descend e in
    record { stands = f.stands; longest = λ other b. f.longest other (mark_in other) b }

among_none : (ms : List Mark) (text : List ℕ) (m : Mark) → mark_among ms text ≡ None → Among m ms → begins m text ≡ true → ⊥
among_none [] text m e a b = a
among_none (x ∷ xs) text m e a b = by (λ e a. among_none xs text m e a b) (begins x text) refl e a
  where
    by : (mark_among xs text ≡ None → Among m xs → ⊥) → (t : Bool) → begins x text ≡ t → cond t (Some x) (mark_among xs text) ≡ None → Among m (x ∷ xs) → ⊥
    by more true is e a = cc
    by more false is e (inl same) = let no_way : begins x text ≡ true = ap (λ y. begins y text) same ∙ b in cc
    by more false is e (inr a) = more e a

pub mark_none : (text : List ℕ) (m : Mark) → mark_of text ≡ None → begins m text ≡ true → ⊥
unfolding mark_of
mark_none text m e b = among_none all_marks text m e (mark_in m) b

pub mark_complete : (text : List ℕ) (m : Mark) → IsLongest m text → mark_of text ≡ Some m
mark_complete text m h = by (mark_of text) refl
  where
    by : (o : Option Mark) → mark_of text ≡ o → o ≡ Some m
    by None e = absurd (mark_none text m e h.stands)
    by (Some n) e =
        let g = mark_sound text n e in
        let size : length (mark_spelling n) ≡ length (mark_spelling m) = omega (arith, g.longest m h.stands, h.longest n g.stands) in
        let left : bytes_eq (mark_spelling n) (take (length (mark_spelling n)) text) ≡ true = both_first _ _ g.stands in
        let right : bytes_eq (mark_spelling m) (take (length (mark_spelling m)) text) ≡ true = both_first _ _ h.stands in
        ap Some (same_mark n m (same_bytes _ _ left ∙ (ap (λ k. take k text) size ∙ sym (same_bytes _ _ right))))

sign_some : (s : Sign) → 0 < length (mark_spelling (mark.Sign s))
sign_some sign.NotIn = omega arith
sign_some sign.AddSet = omega arith
sign_some sign.SubtractSet = omega arith
sign_some sign.MultiplySet = omega arith
sign_some sign.DivideSet = omega arith
sign_some sign.Arrow = omega arith
sign_some sign.Equal = omega arith
sign_some sign.NotEqual = omega arith
sign_some sign.AtMost = omega arith
sign_some sign.AtLeast = omega arith
sign_some sign.ShiftLeft = omega arith
sign_some sign.ShiftRight = omega arith
sign_some sign.And = omega arith
sign_some sign.Or = omega arith
sign_some sign.OpenParen = omega arith
sign_some sign.CloseParen = omega arith
sign_some sign.OpenBracket = omega arith
sign_some sign.CloseBracket = omega arith
sign_some sign.OpenBrace = omega arith
sign_some sign.CloseBrace = omega arith
sign_some sign.Dot = omega arith
sign_some sign.Comma = omega arith
sign_some sign.Semicolon = omega arith
sign_some sign.Set = omega arith
sign_some sign.Plus = omega arith
sign_some sign.Minus = omega arith
sign_some sign.Star = omega arith
sign_some sign.Slash = omega arith
sign_some sign.Percent = omega arith
sign_some sign.Not = omega arith
sign_some sign.Tilde = omega arith
sign_some sign.Less = omega arith
sign_some sign.Greater = omega arith
sign_some sign.BitAnd = omega arith
sign_some sign.BitXor = omega arith
sign_some sign.BitOr = omega arith

pub mark_some : (m : Mark) → 0 < length (mark_spelling m)
mark_some (mark.Sign s) = sign_some s
mark_some mark.Hash = omega arith
mark_some mark.DoubleSlash = omega arith
mark_some mark.BlockComment = omega arith
mark_some mark.Quote = omega arith
mark_some mark.LongString = omega arith
