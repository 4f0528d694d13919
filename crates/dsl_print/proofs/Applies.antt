-- Statements with `apply`, printed from their parts.
use Rattle.std.proofs.Common.{◌≡◌, ℕ, List, [], ◌∷◌, ◌++◌, Bool, true, false, not, Option, Some, None, refl, sym, ap, ◌∙◌, subst, arith, append_assoc}
use Rattle.std.proofs.lemmas.Bool.Decides.{nat_tests}
use Rattle.std.specs.Prelude.{codes, nat_eq}
use Rattle.site_base.specs.declared.place.Place.{Place}
use Rattle.dsl_syntax.specs.Syntax.{Expression, MaybeExpression, no_expression, some_expression, Loop, MaybeLoop, no_loop, some_loop, Uses, no_uses, more_uses, Statements, apply}
use Rattle.dsl_lexer.specs.Letters.{goes_on}
use Rattle.dsl_lexer.specs.declared.sign.Sign.{Sign}
use Rattle.dsl_lexer.specs.declared.sign.Sign.TheVariants as signs
use Rattle.dsl_lexer.specs.declared.token.Token.{Token}
use Rattle.dsl_lexer.specs.declared.word.Word.TheVariants as words
use Rattle.dsl_rules.specs.Alphabet.{Sort, among}
use Rattle.dsl_grammar.specs.Codes.{sorts, sign_sort, word_sort}
use Rattle.dsl_grammar.specs.Grammar.{Whole, MaybeUse, Body, LoopHead, bodied, Heads, heads, OneHead, head_to, head_for, may_head, add_head, AnyHead, ApplyHeads, Headed, headed, applied, ApplyName, HeadedBody, ApplyStatement, Kind}
use Rattle.dsl_tree.specs.Spelling.{target_text, uses_text, apply_name_text, apply_loop_text}
use Rattle.dsl_print.specs.Bare.{bare_maybe_loop}
use Rattle.dsl_print.proofs.Good.{IsIdent, IsMaybeIdent}
use Rattle.dsl_print.proofs.Printed.{Front, anything, no_brace, one_of, opens, Prints, prints_both, prints_made, prints_left, prints_right, prints_rec_not, prints_blank, prints_wide, prints_empty, prints_text, prints_rest}
use Rattle.dsl_print.proofs.Loops.{Further, turns_end, turns_more, turns_last, prints_loop, one_sort}
use Rattle.dsl_print.proofs.Spelled.{IsEnd, prints_word, prints_ident}
use Rattle.dsl_print.proofs.Expressions.{paren_prints, postfix_of, unary_of, level_of, whole_of}
use Rattle.dsl_print.proofs.Objects.{prints_three, IsBodied, use_body_prints}
use Rattle.dsl_print.proofs.Alike.{Is, IsMaybe, IsUses, IsLoop, IsKind, IsBlock}

-- a text that is empty, or begins with a blank
abbrev pub is_spaced : List ℕ → Bool
is_spaced [] = true
is_spaced (a ∷ x) = nat_eq a 32

-- an expression may end before a blank
pub blank_end : (rest : List ℕ) → IsEnd (32 ∷ rest)
blank_end [] = (refl, refl)
blank_end (a ∷ rest) = (refl, refl)

-- and before such a text, if it may end before what follows that
pub spaced_end : (x rest : List ℕ) → is_spaced x ≡ true → IsEnd rest → IsEnd (x ++ rest)
spaced_end [] rest s e = e
spaced_end (a ∷ x) rest s e = let is : a ≡ 32 = grind (arith, nat_tests) in subst (λ z. IsEnd (z ∷ (x ++ rest))) (sym is) (blank_end (x ++ rest))

-- Parts of an `apply` are such texts.

pub name_spaced : (e : MaybeExpression) → is_spaced (apply_name_text e) ≡ true
name_spaced no_expression = refl
name_spaced (some_expression e) = refl

pub target_spaced : (to : Option (List ℕ)) → is_spaced (target_text to) ≡ true
target_spaced None = refl
target_spaced (Some t) = refl

pub loop_spaced : (l : MaybeLoop) → is_spaced (apply_loop_text l) ≡ true
loop_spaced no_loop = refl
loop_spaced (some_loop l) = refl

pub uses_spaced : (us : Uses) → is_spaced (uses_text us) ≡ true
uses_spaced no_uses = refl
uses_spaced (more_uses n e us) = refl

-- a sort that is no brace
pub no_brace_of : (s : Sort) → among s (sign_sort signs.OpenBrace ∷ []) ≡ false → (ts : List Token) → opens (one_of (s ∷ [])) ts ≡ true → opens no_brace ts ≡ true
no_brace_of s e [] o = absurd cc
no_brace_of s e (t ∷ ts) o = ap (λ z. not (among z (sign_sort signs.OpenBrace ∷ []))) (one_sort (sorts.sort_of t) s o) ∙ ap not e

-- the heads of an `apply` that are these but for places
abbrev pub IsHeads : Option (List ℕ) → MaybeLoop → Heads → Type 0
IsHeads to l (heads to' m) = (to' ≡ to) × (bare_maybe_loop m ≡ bare_maybe_loop l)

-- further heads
abbrev pub Heading : List Sign → Option (List ℕ) → MaybeLoop → List ℕ → List ℕ → Heads → Type 0
Heading b to l text rest a = (p : Place) → Further b b false (word_sort words.To ∷ word_sort words.For ∷ []) may_head add_head AnyHead (IsHeads to l) text rest a p

-- a head with a loop
abbrev IsFor : Loop → OneHead → Type 0
IsFor l v = (m : Loop) × (v ≡ head_for m) × IsLoop l m

-- heads, with what is used and the body
abbrev IsHeaded : Option (List ℕ) → MaybeLoop → Uses → Statements → Headed → Type 0
IsHeaded to l us d (headed hs c) = IsHeads to l hs × IsBodied us d c

applied_is : (t : List ℕ) (e : MaybeExpression) (to : Option (List ℕ)) (l : MaybeLoop) (us : Uses) (d : Statements) (s : List ℕ) (f : MaybeExpression) (h : Headed) → s ≡ t → IsMaybe e f → IsHeaded to l us d h → IsKind (apply t e to l us d) (applied s f h)
applied_is t e to l us d s f (headed (heads to' m) (bodied vs c)) i j ((k, n), (q, r)) = cc

module _ {b : List Sign} where
  -- no name
  pub name_none_prints : (rest : List ℕ) → Prints b b ApplyName (IsMaybe no_expression) anything [] rest
  unfolding ApplyName
  name_none_prints rest = prints_right [] rest (prints_empty rest refl)

  -- a name that begins with no brace
  pub name_bare_prints : (e : Expression) (x rest : List ℕ) → Prints b b Whole (Is e) no_brace x rest → Prints b b ApplyName (IsMaybe (some_expression e)) no_brace (32 ∷ x) rest
  unfolding ApplyName
  name_bare_prints e x rest P = prints_left _ rest (prints_blank x rest (prints_rec_not x rest P (λ v i. ap some_expression i)))

  -- a name in parentheses
  pub name_paren_prints : {o : Front} (e : Expression) (x rest : List ℕ) → Prints (b ++ signs.OpenParen ∷ []) (b ++ signs.OpenParen ∷ []) Whole (Is e) o x (41 ∷ rest) → Prints b b ApplyName (IsMaybe (some_expression e)) no_brace (32 ∷ 40 ∷ (x ++ 41 ∷ [])) rest
  name_paren_prints e x rest P = name_bare_prints e (40 ∷ (x ++ 41 ∷ [])) rest (prints_wide no_brace _ rest (no_brace_of (sign_sort signs.OpenParen) refl)
      (whole_of e _ rest (level_of 11 0 _ rest (unary_of e _ rest refl (postfix_of e _ rest refl (paren_prints x rest P))))))

  -- no loop
  pub heading_none : (to : Option (List ℕ)) (rest : List ℕ) → Heading b to no_loop [] rest (heads to no_loop)
  heading_none to rest = turns_end rest (heads to no_loop) (refl, refl)

  -- "for" loop
  pub heading_for : {o : Front} (to : Option (List ℕ)) (l : Loop) (x rest : List ℕ) → Prints b b LoopHead (IsLoop l) o x rest → Heading b to (some_loop l) (codes " for " ++ x) rest (heads to no_loop)
  unfolding AnyHead
  heading_for to l x rest P = turns_last {W = IsFor l} (word_sort words.For) (codes " for " ++ x) rest (heads to no_loop) refl refl refl
      (prints_right _ rest (prints_made {V = IsLoop l} {X = IsFor l} _ rest (prints_blank _ rest (prints_both {X = IsLoop l} (codes "for") (32 ∷ x) rest (prints_word words.For _ refl) (prints_blank x rest P) (λ v w i j. j))) (λ v i. (v, refl, i))))
      (λ v i. subst (λ z. IsHeads to (some_loop l) (add_head (heads to no_loop) z)) (sym i.1) (refl, ap some_loop i.2))

  -- [ "to" IDENT ], and a loop or none
  heads_prints : (to : Option (List ℕ)) (l : MaybeLoop) (w rest : List ℕ) → IsMaybeIdent to → goes_on (w ++ rest) ≡ false → Heading b to l w rest (heads to no_loop) → Prints b b ApplyHeads (IsHeads to l) anything (target_text to ++ w) rest
  unfolding ApplyHeads AnyHead
  heads_prints None l w rest i g H = prints_loop {V = λ a. a ≡ heads None no_loop} [] w rest (prints_empty _ refl) (λ a j. subst (Heading b None l w rest) (sym j) H)
  heads_prints (Some t) l w rest i g H = prints_loop {V = λ a. a ≡ heads None no_loop} [] (codes " to " ++ (t ++ w)) rest (prints_empty _ refl)
      (λ a j. subst (Heading b (Some t) l (codes " to " ++ (t ++ w)) rest) (sym j) (turns_more {W = λ v. v ≡ head_to t} (word_sort words.To) (codes " to " ++ t) w rest (heads None no_loop) refl refl refl
      (prints_left _ _ (prints_made {V = λ m. m ≡ t} _ _ (prints_blank _ _ (prints_both {X = λ m. m ≡ t} (codes "to") (32 ∷ t) _ (prints_word words.To _ refl) (prints_blank t _ (prints_ident t _ i g)) (λ v w i j. j))) (λ m k. ap head_to k)))
      (λ v k. subst (λ z. Heading b (Some t) l w rest (add_head (heads None no_loop) z)) (sym k) H)))

  -- heads [use] body
  headed_prints : {r s : Front} (to : Option (List ℕ)) (l : MaybeLoop) (us : Uses) (d : Statements) (w y z rest : List ℕ) → IsMaybeIdent to → is_spaced w ≡ true → is_spaced y ≡ true
      → Heading b to l w (y ++ 32 ∷ (z ++ rest)) (heads to no_loop) → Prints b b MaybeUse (IsUses us) r y (32 ∷ (z ++ rest)) → Prints b b Body (IsBlock d) s z rest
      → Prints b b HeadedBody (IsHeaded to l us d) anything (target_text to ++ (w ++ (y ++ 32 ∷ z))) rest
  unfolding HeadedBody
  headed_prints to l us d w y z rest i sw sy H U B = prints_text _ _ rest (append_assoc (target_text to) w (y ++ 32 ∷ z))
      (prints_both (target_text to ++ w) (y ++ 32 ∷ z) rest
      (prints_rest (target_text to ++ w) (append_assoc y (32 ∷ z) rest) (heads_prints to l w (y ++ 32 ∷ (z ++ rest)) i (spaced_end w _ sw (spaced_end y _ sy (blank_end (z ++ rest)))).0 H))
      (use_body_prints us d y z rest U B) (λ v w i j. (i, j)))

  -- "apply" IDENT [expr] heads [use] body
  pub apply_prints : {o r s : Front} (t : List ℕ) (e : MaybeExpression) (to : Option (List ℕ)) (l : MaybeLoop) (us : Uses) (d : Statements) (x w y z rest : List ℕ) → IsIdent t → IsMaybeIdent to
      → is_spaced x ≡ true → is_spaced w ≡ true → is_spaced y ≡ true → Prints b b ApplyName (IsMaybe e) o x (target_text to ++ (w ++ (y ++ 32 ∷ (z ++ rest)))) → Heading b to l w (y ++ 32 ∷ (z ++ rest)) (heads to no_loop)
      → Prints b b MaybeUse (IsUses us) r y (32 ∷ (z ++ rest)) → Prints b b Body (IsBlock d) s z rest
      → Prints b b Kind (IsKind (apply t e to l us d)) (one_of (word_sort words.Apply ∷ [])) (codes "apply " ++ (t ++ (x ++ (target_text to ++ (w ++ (y ++ 32 ∷ z)))))) rest
  unfolding Kind ApplyStatement
  apply_prints t e to l us d x w y z rest i j sx sw sy P H U B =
      let same : (target_text to ++ (w ++ (y ++ 32 ∷ z))) ++ rest ≡ target_text to ++ (w ++ (y ++ 32 ∷ (z ++ rest))) =
      append_assoc (target_text to) (w ++ (y ++ 32 ∷ z)) rest ∙ ap (λ u. target_text to ++ u) (append_assoc w (y ++ 32 ∷ z) rest ∙ ap (λ u. w ++ u) (append_assoc y (32 ∷ z) rest)) in
      let apart : IsEnd (x ++ (target_text to ++ (w ++ (y ++ 32 ∷ (z ++ rest))))) = spaced_end x _ sx (spaced_end (target_text to) _ (target_spaced to) (spaced_end w _ sw (spaced_end y _ sy (blank_end (z ++ rest))))) in
      prints_right _ rest (prints_right _ rest (prints_left _ rest (prints_both {X = IsKind (apply t e to l us d)} (codes "apply") (32 ∷ (t ++ (x ++ (target_text to ++ (w ++ (y ++ 32 ∷ z)))))) rest (prints_word words.Apply _ refl)
      (prints_blank _ rest (prints_three applied t x (target_text to ++ (w ++ (y ++ 32 ∷ z))) rest
      (prints_rest t (ap (λ u. x ++ u) same) (prints_ident t (x ++ (target_text to ++ (w ++ (y ++ 32 ∷ (z ++ rest))))) i apart.0)) (prints_rest x same P) (headed_prints to l us d w y z rest j sw sy H U B)
      (λ u v h k m n. applied_is t e to l us d u v h k m n)))
      (λ v w k m. m))))
