-- Inclusions of files, printed from their parts.
use Rattle.std.proofs.Common.{◌≡◌, ℕ, List, [], ◌∷◌, ◌++◌, Bool, false, refl, sym, ap, ◌∙◌, subst, append_assoc, append-nil}
use Rattle.std.specs.Prelude.{codes}
use Rattle.std.specs.Str.{IsUtf8}
use Rattle.site_base.specs.Quoted.{quoted}
use Rattle.site_base.specs.declared.place.Place.{Place}
use Rattle.dsl_syntax.specs.Syntax.{include, include_library, include_all}
use Rattle.dsl_lexer.specs.Brackets.{keeps}
use Rattle.dsl_lexer.specs.Letters.{goes_on}
use Rattle.dsl_lexer.specs.Tokens.{quotes, IsToken}
use Rattle.dsl_lexer.specs.declared.sign.Sign.{Sign}
use Rattle.dsl_lexer.specs.declared.sign.Sign.TheVariants as signs
use Rattle.dsl_lexer.specs.declared.token_kind.TokenKind.TheVariants as kinds
use Rattle.dsl_lexer.specs.declared.word.Word.TheVariants as words
use Rattle.dsl_rules.specs.Grammar.{always}
use Rattle.dsl_grammar.specs.Codes.{sign_sort, word_sort, string_sort, ident_sort}
use Rattle.dsl_grammar.specs.Terms.{sign, IDENT, behind}
use Rattle.dsl_grammar.specs.Grammar.{dashed, Located, located, Dashed, AngledName, LibraryName, LocatedString, included, included_library, included_all, Included, IncludedAll, Inclusion}
use Rattle.dsl_print.specs.Bare.{bare_statement_kind}
use Rattle.dsl_print.proofs.Good.{AreIdents, dashes, IsLibrary}
use Rattle.dsl_print.proofs.Strings.{quoted_string, quoted_utf8}
use Rattle.dsl_print.proofs.SignTokens.{less_token, minus_token, greater_token}
use Rattle.dsl_print.proofs.Printed.{one_of, Prints, prints_both, prints_made, prints_left, prints_right, prints_here, prints_blank, prints_one, prints_text}
use Rattle.dsl_print.proofs.Loops.{Further, turns_end, turns_more, prints_loop}
use Rattle.dsl_print.proofs.Spelled.{prints_word, prints_sign, prints_ident, prints_string, prints_comma}
use Rattle.dsl_print.proofs.Alike.{IsKind}

-- a text at some place
abbrev IsLocated : List ℕ → Located → Type 0
IsLocated n l = (q : Place) × (l ≡ located q n)

-- what follows a name that more names may follow
dashes_end : (ns : List (List ℕ)) (rest : List ℕ) → goes_on (dashes ns ++ 62 ∷ rest) ≡ false
dashes_end [] rest = refl
dashes_end (n ∷ ns) rest = refl

-- the sign before a library's name
less_library : (k : Bool) (n x rest : List ℕ) → IsLibrary n → IsToken k (kinds.Sign signs.Less) (60 ∷ []) ((n ++ x) ++ rest)
less_library k n x rest (first, others, i, are, e) =
    subst (λ z. IsToken k (kinds.Sign signs.Less) (60 ∷ []) ((z ++ x) ++ rest)) (sym e)
    (subst (IsToken k (kinds.Sign signs.Less) (60 ∷ [])) (sym (append_assoc (first ++ dashes others) x rest ∙ append_assoc first (dashes others) (x ++ rest))) (less_token k first _ i.0))

module _ {b : List Sign} where
  -- further names of a library
  dashes_further : (ns : List (List ℕ)) (target rest a : List ℕ) → AreIdents ns → a ++ dashes ns ≡ target
      → (p : Place) → Further b b false (sign_sort signs.Minus ∷ []) always dashed (behind (sign signs.Minus) IDENT) (λ m. m ≡ target) (dashes ns) (62 ∷ rest) a p
  dashes_further [] target rest a are e = turns_end _ a (sym (append-nil a) ∙ e)
  dashes_further (n ∷ ns) target rest a are e = turns_more {W = λ m. m ≡ n} (sign_sort signs.Minus) (45 ∷ n) (dashes ns) (62 ∷ rest) a refl refl refl
      (prints_both {X = λ m. m ≡ n} (45 ∷ []) n (dashes ns ++ 62 ∷ rest) (prints_sign signs.Minus _ refl (minus_token (keeps b) n _ are.0.0)) (prints_ident n _ are.0 (dashes_end ns rest)) (λ v w i j. j))
      (λ v i. dashes_further ns target rest (dashed a v) are.1 (ap (λ z. dashed a z ++ dashes ns) i ∙ (append_assoc (a ++ codes "-") n (dashes ns) ∙ (append_assoc a (45 ∷ []) (n ++ dashes ns) ∙ e))))

  -- IDENT { "-" IDENT }
  dashed_prints : (n rest : List ℕ) → IsLibrary n → Prints b b Dashed (λ m. m ≡ n) (one_of (ident_sort ∷ [])) n (62 ∷ rest)
  unfolding Dashed
  dashed_prints n rest (first, others, i, are, e) = prints_text (first ++ dashes others) n (62 ∷ rest) (sym e)
      (prints_loop first (dashes others) (62 ∷ rest) (prints_ident first _ i (dashes_end others rest)) (λ a j. dashes_further others n rest a are (ap (λ z. z ++ dashes others) j ∙ sym e)))

  -- "<" IDENT { "-" IDENT } ">"
  angled_prints : (n rest : List ℕ) → IsLibrary n → Prints b b AngledName (λ m. m ≡ n) (one_of (sign_sort signs.Less ∷ [])) (60 ∷ (n ++ 62 ∷ [])) (10 ∷ rest)
  unfolding AngledName
  angled_prints n rest i = prints_both {X = λ m. m ≡ n} (60 ∷ []) (n ++ 62 ∷ []) (10 ∷ rest) (prints_sign signs.Less _ refl (less_library (keeps b) n (62 ∷ []) (10 ∷ rest) i))
      (prints_both n (62 ∷ []) (10 ∷ rest) (dashed_prints n (10 ∷ rest) i) (prints_sign signs.Greater (10 ∷ rest) refl (greater_token (keeps b) rest)) (λ v w j k. j)) (λ v w j k. k)

  -- a string with its place
  located_prints : (n rest : List ℕ) → IsUtf8 n → Prints b b LocatedString (IsLocated n) (one_of (string_sort ∷ [])) (quoted n) rest
  unfolding LocatedString
  located_prints n rest u = prints_one (kinds.Str n) (quoted n) rest (quotes, quoted_string n, u) refl (λ p. (p, refl)) (quoted_utf8 n u)

  -- "include" STRING
  pub include_prints : (n : List ℕ) (q : Place) (rest : List ℕ) → IsUtf8 n → Prints b b Inclusion (IsKind (include n q)) (one_of (word_sort words.Include ∷ [])) (codes "include " ++ quoted n) rest
  unfolding Inclusion Included
  include_prints n q rest u = prints_left _ rest (prints_both {X = IsKind (include n q)} (codes "include") (32 ∷ quoted n) rest (prints_word words.Include _ refl)
      (prints_blank _ rest (prints_left _ rest (prints_made _ rest (located_prints n rest u) (λ l i. ap (λ z. bare_statement_kind (included z)) i.1)))) (λ v w i j. j))

  -- "include" "<" IDENT { "-" IDENT } ">"
  pub include_library_prints : (n : List ℕ) (q : Place) (rest : List ℕ) → IsLibrary n → Prints b b Inclusion (IsKind (include_library n q)) (one_of (word_sort words.Include ∷ [])) (codes "include <" ++ (n ++ 62 ∷ [])) (10 ∷ rest)
  unfolding Inclusion Included LibraryName
  include_library_prints n q rest i = prints_left _ _ (prints_both {X = IsKind (include_library n q)} (codes "include") (codes " <" ++ (n ++ 62 ∷ [])) (10 ∷ rest) (prints_word words.Include _ refl)
      (prints_blank _ _ (prints_right _ _ (prints_made {V = IsLocated n} _ _ (prints_here _ _ refl (angled_prints n rest i) (λ t m e. (t.place, ap (located t.place) e))) (λ l j. ap (λ z. bare_statement_kind (included_library z)) j.1)))) (λ v w j k. k))

  -- "include_recursive" STRING "," STRING
  pub include_all_prints : (d n : List ℕ) (q : Place) (rest : List ℕ) → IsUtf8 d → IsUtf8 n → Prints b b Inclusion (IsKind (include_all d n q)) (one_of (word_sort words.IncludeRecursive ∷ [])) (codes "include_recursive " ++ (quoted d ++ 44 ∷ 32 ∷ quoted n)) rest
  unfolding Inclusion IncludedAll
  include_all_prints d n q rest u w = prints_right _ rest (prints_both {X = IsKind (include_all d n q)} (codes "include_recursive") (32 ∷ (quoted d ++ 44 ∷ 32 ∷ quoted n)) rest (prints_word words.IncludeRecursive _ refl)
      (prints_blank _ rest (prints_both (quoted d) (44 ∷ 32 ∷ quoted n) rest (located_prints d _ u)
      (prints_left _ rest (prints_made {X = λ m. m ≡ n} _ rest (prints_both {X = λ m. m ≡ n} (44 ∷ []) (32 ∷ quoted n) rest (prints_comma _) (prints_blank _ rest (prints_string n rest w)) (λ v w i j. j)) (λ m i. i)))
      (λ l m i j. ap (λ z. bare_statement_kind (included_all z m)) i.1 ∙ cc j))) (λ v w i j. j))
