-- Parameters, captured names, functions and the heads of loops, printed from their parts.
use Rattle.std.proofs.Common.{◌≡◌, ℕ, List, [], ◌∷◌, ◌++◌, true, false, codes, Option, Some, None, refl, sym, ap, ◌∙◌, subst, append_assoc, append-nil}
use Rattle.site_base.specs.declared.place.Place.{Place}
use Rattle.dsl_syntax.specs.Syntax.{Expression, expression, MaybeExpression, no_expression, some_expression, Function, function, function_value, Uses, no_uses, Statements, loop as a_loop}
use Rattle.dsl_tree.specs.Spelling.{names_text, params_text}
use Rattle.dsl_lexer.specs.Letters.{goes_on}
use Rattle.dsl_lexer.specs.declared.sign.Sign.{Sign}
use Rattle.dsl_lexer.specs.declared.sign.Sign.TheVariants as signs
use Rattle.dsl_lexer.specs.declared.word.Word.TheVariants as words
use Rattle.dsl_rules.specs.Grammar.{Pair, left, right, always}
use Rattle.dsl_grammar.specs.Codes.{sign_sort, word_sort, ident_sort}
use Rattle.dsl_syntax.specs.Lists.{add_use, Captured, captured}
use Rattle.dsl_grammar.specs.Terms.{Rule, sign, behind, maybe, IDENT}
use Rattle.dsl_grammar.specs.Grammar.{Expr, Block, Whole, Prim, FunctionLiteral, FunctionFunc, Func, Params, Names, add_name, MaybeUse, UseList, UseNames, OneUse, add_captured, Valued, LoopHead}
use Rattle.dsl_print.specs.Bare.{bare_expression, bare_uses, bare_statements, nowhere}
use Rattle.dsl_print.proofs.Good.{IsIdent, AreIdents}
use Rattle.dsl_print.proofs.Printed.{Front, anything, some, one_of, opens_some, Prints, prints_both, prints_made, prints_left, prints_right, prints_here, prints_rec, prints_blank, prints_empty, prints_text, prints_wide}
use Rattle.dsl_print.proofs.Loops.{Further, turns_end, turns_more, prints_loop}
use Rattle.dsl_print.proofs.Spelled.{prints_word, prints_ident, prints_open_paren, prints_close_paren, prints_comma, prints_set, prints_arrow}
use Rattle.dsl_print.proofs.Alike.{Is, IsMaybe, IsUses, IsFunction, IsLoop, IsBlock}

-- Parameters.

-- names, each behind a comma, and with the first one
abbrev names_later : List (List ℕ) → List ℕ
names_later [] = []
names_later (n ∷ ns) = 44 ∷ 32 ∷ (n ++ names_later ns)

abbrev names_inner : List (List ℕ) → List ℕ
names_inner [] = []
names_inner (n ∷ ns) = n ++ names_later ns

later_is : (ns : List (List ℕ)) → names_later ns ++ 41 ∷ [] ≡ names_text true ns
later_is [] = refl
later_is (n ∷ ns) = ap (λ z. 44 ∷ 32 ∷ z) (append_assoc n (names_later ns) (41 ∷ []) ∙ ap (λ z. n ++ z) (later_is ns))

inner_is : (ns : List (List ℕ)) → names_inner ns ++ 41 ∷ [] ≡ names_text false ns
inner_is [] = refl
inner_is (n ∷ ns) = append_assoc n (names_later ns) (41 ∷ []) ∙ ap (λ z. n ++ z) (later_is ns)

later_ends : (ns : List (List ℕ)) (rest : List ℕ) → goes_on rest ≡ false → goes_on (names_later ns ++ rest) ≡ false
later_ends [] rest e = e
later_ends (n ∷ ns) rest e = refl

module _ {b : List Sign} where
  names_turns : (ns : List (List ℕ)) → AreIdents ns → (rest : List ℕ) → goes_on rest ≡ false → (all a : List (List ℕ)) → a ++ ns ≡ all → (p : Place) → Further b b false (sign_sort signs.Comma ∷ []) always add_name (behind (sign signs.Comma) IDENT) (λ v. v ≡ all) (names_later ns) rest a p
  names_turns [] i rest e all a q = turns_end rest a (sym (append-nil a) ∙ q)
  names_turns (n ∷ ns) i rest e all a q =
      turns_more {W = λ m. m ≡ n} (sign_sort signs.Comma) (44 ∷ 32 ∷ n) (names_later ns) rest a refl refl refl
      (prints_both {X = λ m. m ≡ n} (44 ∷ []) (32 ∷ n) (names_later ns ++ rest) (prints_comma _) (prints_blank n (names_later ns ++ rest) (prints_ident n (names_later ns ++ rest) i.0 (later_ends ns rest e))) (λ v w i j. j))
      (λ v iv. names_turns ns i.1 rest e all (a ++ v ∷ []) (append_assoc a (v ∷ []) ns ∙ (ap (λ z. a ++ z ∷ ns) iv ∙ q)))

  names_print : (ns : List (List ℕ)) → AreIdents ns → (rest : List ℕ) → goes_on rest ≡ false → Prints b b (maybe (λ ns. ns) [] Names) (λ v. v ≡ ns) anything (names_inner ns) rest
  unfolding Names
  names_print [] i rest e = prints_right [] rest (prints_empty rest refl)
  names_print (n ∷ ns) i rest e =
      prints_wide anything (n ++ names_later ns) rest (λ ts k. refl)
      (prints_left _ rest (prints_made {V = λ v. v ≡ n ∷ ns} _ rest (prints_loop {V = λ a. a ≡ n ∷ []} n (names_later ns) rest
      (prints_made {V = λ m. m ≡ n} n (names_later ns ++ rest) (prints_ident n (names_later ns ++ rest) i.0 (later_ends ns rest e)) (λ v j. ap (λ z. z ∷ []) j))
      (λ a j. names_turns ns i.1 rest e (n ∷ ns) a (ap (λ z. z ++ ns) j)))
      (λ v j. j)))

-- "(" names ")"
pub params_print : {b : List Sign} (ns : List (List ℕ)) (rest : List ℕ) → AreIdents ns → Prints b b Params (λ v. v ≡ ns) (one_of (sign_sort signs.OpenParen ∷ [])) (params_text ns) rest
unfolding Params
params_print ns rest i =
    prints_text (40 ∷ (names_inner ns ++ 41 ∷ [])) (params_text ns) rest (ap (λ z. 40 ∷ z) (inner_is ns))
    (prints_both {X = λ v. v ≡ ns} (40 ∷ []) (names_inner ns ++ 41 ∷ []) rest (prints_open_paren _) (prints_both {X = λ v. v ≡ ns} (names_inner ns) (41 ∷ []) rest (names_print ns i (41 ∷ rest) refl) (prints_close_paren rest) (λ v w i j. i)) (λ v w i j. j))

-- Captured names.

abbrev pub IsCaptured : List ℕ → MaybeExpression → Captured → Type 0
IsCaptured n m v = (w : MaybeExpression) × IsMaybe m w × (captured n w ≡ v)

-- what a name is given
abbrev pub Given : Rule MaybeExpression
Given = maybe some_expression no_expression (behind (sign signs.Set) Expr)

abbrev pub MoreUses : List Sign → Uses → List ℕ → List ℕ → Uses → Type 0
MoreUses b us y rest a = (p : Place) → Further b b false (sign_sort signs.Comma ∷ []) always add_captured (behind (sign signs.Comma) OneUse) (IsUses us) y rest a p

module _ {b : List Sign} where
  pub given_none : (rest : List ℕ) → Prints b b Given (IsMaybe no_expression) anything [] rest
  given_none rest = prints_right [] rest (prints_empty rest refl)

  pub given_some : {r : Front} (e : Expression) (x rest : List ℕ) → Prints b b Whole (Is e) r x rest → Prints b b Given (IsMaybe (some_expression e)) anything (codes " = " ++ x) rest
  given_some e x rest P =
      prints_wide anything _ rest (λ ts k. refl) (prints_left _ rest (prints_made {V = Is e} _ rest (prints_blank (61 ∷ 32 ∷ x) rest (prints_both {X = Is e} (61 ∷ []) (32 ∷ x) rest (prints_set (x ++ rest)) (prints_blank x rest (prints_rec x rest P (λ v i. i))) (λ v w i j. j))) (λ v i. ap some_expression i)))

  one_use : {r : Front} (n : List ℕ) (m : MaybeExpression) (x rest : List ℕ) → IsIdent n → goes_on (x ++ rest) ≡ false → Prints b b Given (IsMaybe m) r x rest → Prints b b OneUse (IsCaptured n m) some (n ++ x) rest
  unfolding OneUse
  one_use n m x rest i e P = prints_wide some _ rest (λ ts k. opens_some (one_of (ident_sort ∷ [])) ts refl k) (prints_both {V = λ v. v ≡ n} n x rest (prints_ident n (x ++ rest) i e) P (λ v w i j. (w, j, ap (λ z. captured z w) (sym i))))

  pub uses_more : {r : Front} (n : List ℕ) (m : MaybeExpression) (us : Uses) (x y rest : List ℕ) (a : Uses) → IsIdent n → goes_on (x ++ (y ++ rest)) ≡ false → Prints b b Given (IsMaybe m) r x (y ++ rest) → ((w : MaybeExpression) → IsMaybe m w → MoreUses b us y rest (add_use a n w))
      → MoreUses b us (44 ∷ 32 ∷ ((n ++ x) ++ y)) rest a
  uses_more n m us x y rest a i e P Q =
      turns_more {W = IsCaptured n m} (sign_sort signs.Comma) (44 ∷ 32 ∷ (n ++ x)) y rest a refl refl refl
      (prints_both {X = IsCaptured n m} (44 ∷ []) (32 ∷ (n ++ x)) (y ++ rest) (prints_comma _) (prints_blank (n ++ x) (y ++ rest) (one_use n m x (y ++ rest) i e P)) (λ v w i j. j))
      (λ v j. subst (λ z. MoreUses b us y rest (add_captured a z)) j.2 (Q j.0 j.1))

  pub no_captures : (rest : List ℕ) → Prints b b MaybeUse (IsUses no_uses) anything [] rest
  unfolding MaybeUse
  no_captures rest = prints_right [] rest (prints_empty rest refl)

-- "use" "(" names ")"
pub some_captures : {b : List Sign} {r : Front} (n : List ℕ) (m : MaybeExpression) (us : Uses) (x y rest : List ℕ) → IsIdent n → goes_on (x ++ (y ++ 41 ∷ rest)) ≡ false → Prints (b ++ signs.OpenParen ∷ []) (b ++ signs.OpenParen ∷ []) Given (IsMaybe m) r x (y ++ 41 ∷ rest)
    → ((w : MaybeExpression) → IsMaybe m w → MoreUses (b ++ signs.OpenParen ∷ []) us y (41 ∷ rest) (add_use no_uses n w)) → Prints b b MaybeUse (IsUses us) anything (codes " use (" ++ (((n ++ x) ++ y) ++ 41 ∷ [])) rest
unfolding MaybeUse UseList UseNames
some_captures {b = b} n m us x y rest i e P Q =
    prints_wide anything _ rest (λ ts k. refl)
    (prints_left _ rest (prints_made {V = IsUses us} _ rest (prints_blank (codes "use (" ++ (((n ++ x) ++ y) ++ 41 ∷ [])) rest
    (prints_both {X = IsUses us} (codes "use") (codes " (" ++ (((n ++ x) ++ y) ++ 41 ∷ [])) rest (prints_word words.Use _ refl)
    (prints_blank (40 ∷ (((n ++ x) ++ y) ++ 41 ∷ [])) rest (prints_both {X = IsUses us} (40 ∷ []) (((n ++ x) ++ y) ++ 41 ∷ []) rest (prints_open_paren _) (prints_both {V = IsUses us} ((n ++ x) ++ y) (41 ∷ []) rest inner (prints_close_paren rest) (λ v w i j. i)) (λ v w i j. j)))
    (λ v w i j. j)))
    (λ v i. i)))
  where
    inner : Prints (b ++ signs.OpenParen ∷ []) (b ++ signs.OpenParen ∷ []) UseNames (IsUses us) some ((n ++ x) ++ y) (41 ∷ rest)
    inner = prints_loop {V = λ a. (w : MaybeExpression) × IsMaybe m w × (add_use no_uses n w ≡ a)} (n ++ x) y (41 ∷ rest)
        (prints_made {V = IsCaptured n m} (n ++ x) (y ++ 41 ∷ rest) (one_use n m x (y ++ 41 ∷ rest) i e P) (λ v j. (j.0, j.1, ap (add_captured no_uses) j.2)))
        (λ a j. subst (λ z. MoreUses (b ++ signs.OpenParen ∷ []) us y (41 ∷ rest) z) j.2 (Q j.0 j.1))

-- Functions and loops.

function_is : (ns : List (List ℕ)) (us : Uses) (d : Statements) (v : List (List ℕ)) (w : Pair Uses Statements) → v ≡ ns → IsUses us (left w) × IsBlock d (right w) → IsFunction (function ns us d) (function v (left w) (right w))
function_is ns us d v w i j = ap (λ z. function z (bare_uses (left w)) (bare_statements (right w))) i ∙ (ap (λ z. function ns z (bare_statements (right w))) j.0 ∙ ap (function ns (bare_uses us)) j.1)

loop_is : (k : List ℕ) (t : Option (List ℕ)) (e : Expression) (v : List ℕ) (w : Pair (Option (List ℕ)) Expression) → v ≡ k → (left w ≡ t) × Is e (right w) → IsLoop (a_loop k t e) (a_loop v (left w) (right w))
loop_is k t e v w i j = ap (λ z. a_loop z (left w) (bare_expression (right w))) i ∙ (ap (λ z. a_loop k z (bare_expression (right w))) j.0 ∙ ap (a_loop k t) j.1)

module _ {b : List Sign} where
  pub func_prints : {o r : Front} (ns : List (List ℕ)) (us : Uses) (d : Statements) (y z rest : List ℕ) → AreIdents ns → Prints b b MaybeUse (IsUses us) o y (32 ∷ (z ++ rest)) → Prints b b Block (IsBlock d) r z rest
      → Prints b b Func (IsFunction (function ns us d)) (one_of (sign_sort signs.OpenParen ∷ [])) (params_text ns ++ (y ++ 32 ∷ z)) rest
  unfolding Func
  func_prints ns us d y z rest i P Q =
      prints_both {V = λ v. v ≡ ns} {W = λ w. IsUses us (left w) × IsBlock d (right w)} (params_text ns) (y ++ 32 ∷ z) rest (params_print ns _ i) (prints_both {V = IsUses us} y (32 ∷ z) rest P (prints_blank z rest Q) (λ v w i j. (i, j))) (λ v w i j. function_is ns us d v w i j)

  pub function_prints : {r : Front} (f : Function) (q : Place) (x rest : List ℕ) → Prints b b Func (IsFunction f) r x rest → Prints b b Prim (Is (expression q (function_value f))) (one_of (word_sort words.Function ∷ [])) (codes "function " ++ x) rest
  unfolding Prim FunctionLiteral FunctionFunc
  function_prints f q x rest P =
      prints_right _ rest (prints_right _ rest (prints_right _ rest (prints_right _ rest (prints_here {V = IsFunction f} _ rest refl
      (prints_both {X = IsFunction f} (codes "function") (32 ∷ x) rest (prints_word words.Function _ refl) (prints_blank x rest P) (λ v w i j. j))
      (λ t v i. ap (λ z. expression nowhere (function_value z)) i)))))

  no_value : (rest : List ℕ) → Prints b b Valued (λ v. v ≡ None) anything [] rest
  unfolding Valued
  no_value rest = prints_right [] rest (prints_empty rest refl)

  some_value : (v rest : List ℕ) → IsIdent v → goes_on rest ≡ false → Prints b b Valued (λ o. o ≡ Some v) anything (codes " => " ++ v) rest
  unfolding Valued
  some_value v rest i e =
      prints_wide anything _ rest (λ ts k. refl) (prints_left _ rest (prints_made {V = λ m. m ≡ v} _ rest (prints_blank (codes "=> " ++ v) rest (prints_both {X = λ m. m ≡ v} (codes "=>") (32 ∷ v) rest (prints_arrow (v ++ rest)) (prints_blank v rest (prints_ident v rest i e)) (λ v w i j. j))) (λ w j. ap Some j)))

-- "(" key [ "=>" value ] "in" expr ")"
loop_prints : {b : List Sign} {o r : Front} (k : List ℕ) (t : Option (List ℕ)) (e : Expression) (x y rest : List ℕ) → IsIdent k → goes_on (x ++ (codes " in " ++ ((y ++ 41 ∷ []) ++ rest))) ≡ false
    → Prints (b ++ signs.OpenParen ∷ []) (b ++ signs.OpenParen ∷ []) Valued (λ v. v ≡ t) o x (codes " in " ++ ((y ++ 41 ∷ []) ++ rest)) → Prints (b ++ signs.OpenParen ∷ []) (b ++ signs.OpenParen ∷ []) Whole (Is e) r y (41 ∷ rest)
    → Prints b b LoopHead (IsLoop (a_loop k t e)) (one_of (sign_sort signs.OpenParen ∷ [])) (40 ∷ (k ++ (x ++ (codes " in " ++ (y ++ 41 ∷ []))))) rest
unfolding LoopHead
loop_prints k t e x y rest i g P Q =
    prints_both {X = IsLoop (a_loop k t e)} (40 ∷ []) (k ++ (x ++ (codes " in " ++ (y ++ 41 ∷ [])))) rest (prints_open_paren _)
    (prints_both {V = λ v. v ≡ k} {W = λ w. (left w ≡ t) × Is e (right w)} k (x ++ (codes " in " ++ (y ++ 41 ∷ []))) rest (prints_ident k _ i (ap goes_on (append_assoc x (codes " in " ++ (y ++ 41 ∷ [])) rest) ∙ g))
    (prints_both {V = λ v. v ≡ t} {W = Is e} x (codes " in " ++ (y ++ 41 ∷ [])) rest P
    (prints_blank (codes "in " ++ (y ++ 41 ∷ [])) rest (prints_both {X = Is e} (codes "in") (32 ∷ (y ++ 41 ∷ [])) rest (prints_word words.In _ refl) (prints_blank (y ++ 41 ∷ []) rest (prints_both {V = Is e} y (41 ∷ []) rest (prints_rec y (41 ∷ rest) Q (λ v i. i)) (prints_close_paren rest) (λ v w i j. i))) (λ v w i j. j)))
    (λ v w i j. (i, j)))
    (λ v w i j. loop_is k t e v w i j))
    (λ v w i j. j)

pub key_loop_prints : {b : List Sign} {r : Front} (k : List ℕ) (e : Expression) (y rest : List ℕ) → IsIdent k → Prints (b ++ signs.OpenParen ∷ []) (b ++ signs.OpenParen ∷ []) Whole (Is e) r y (41 ∷ rest)
    → Prints b b LoopHead (IsLoop (a_loop k None e)) (one_of (sign_sort signs.OpenParen ∷ [])) (40 ∷ (k ++ (codes " in " ++ (y ++ 41 ∷ [])))) rest
key_loop_prints k e y rest i P = loop_prints k None e [] y rest i refl (no_value _) P

pub value_loop_prints : {b : List Sign} {r : Front} (k v : List ℕ) (e : Expression) (y rest : List ℕ) → IsIdent k → IsIdent v → Prints (b ++ signs.OpenParen ∷ []) (b ++ signs.OpenParen ∷ []) Whole (Is e) r y (41 ∷ rest)
    → Prints b b LoopHead (IsLoop (a_loop k (Some v) e)) (one_of (sign_sort signs.OpenParen ∷ [])) (40 ∷ (k ++ (codes " => " ++ (v ++ (codes " in " ++ (y ++ 41 ∷ [])))))) rest
value_loop_prints k v e y rest i j P = loop_prints k (Some v) e (codes " => " ++ v) y rest i refl (some_value v _ j refl) P
