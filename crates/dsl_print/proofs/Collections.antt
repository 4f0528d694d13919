-- Calls, arrays and dictionaries, printed from their parts.
use Rattle.std.proofs.Common.{◌≡◌, ℕ, List, [], ◌∷◌, ◌++◌, true, false, codes, refl, sym, ap, subst, append_assoc}
use Rattle.std.specs.Str.{IsUtf8}
use Rattle.site_base.specs.declared.place.Place.{Place}
use Rattle.site_base.specs.Quoted.{quoted}
use Rattle.dsl_syntax.specs.Syntax.{Expression, expression, Expressions, no_expressions, MaybeExpression, no_expression, some_expression, Entries, no_entries, call, array, dictionary}
use Rattle.dsl_lexer.specs.declared.sign.Sign.{Sign}
use Rattle.dsl_lexer.specs.declared.sign.Sign.TheVariants as signs
use Rattle.dsl_lexer.specs.declared.token_kind.TokenKind.TheVariants as kinds
use Rattle.dsl_lexer.specs.Brackets.{keeps}
use Rattle.dsl_lexer.specs.Tokens.{quotes}
use Rattle.dsl_rules.specs.Grammar.{one, always}
use Rattle.dsl_grammar.specs.Codes.{sign_sort, string_sort}
use Rattle.dsl_syntax.specs.Lists.{add_expression, add_entry, Entry, entry}
use Rattle.dsl_grammar.specs.Terms.{sign, behind, bsep, add_turn, Turn, nothing, thing}
use Rattle.dsl_grammar.specs.Grammar.{Expr, Whole, Prim, Array, BracketedElements, Elements, Slots, slots, slots_value, may_follow, add_slot, Slot, CommaSlot, Dict, BracedPairs, Pairs, MaybePair, Pair, add_pair, Postfix, BegunPrim, OneTail, Arguments, Listed}
use Rattle.dsl_print.specs.Bare.{bare_expressions, bare_entries, nowhere}
use Rattle.dsl_print.proofs.SignTokens.{comma_token}
use Rattle.dsl_print.proofs.Strings.{quoted_string, quoted_utf8}
use Rattle.dsl_print.proofs.Printed.{Front, anything, one_of, has_some, Prints, prints_both, prints_made, prints_left, prints_right, prints_here, prints_rec, prints_blank, prints_one, prints_empty, prints_rest}
use Rattle.dsl_print.proofs.Loops.{Further, turns_more, turns_last, prints_loop, prints_once}
use Rattle.dsl_print.proofs.Spelled.{Any, prints_open_paren, prints_close_paren, prints_open_bracket, prints_close_bracket, prints_brace_blank, prints_close_brace, prints_comma, prints_set}
use Rattle.dsl_print.proofs.Expressions.{IsCall, call_is}
use Rattle.dsl_print.proofs.Ascii.{ascii_utf8}
use Rattle.dsl_print.proofs.Alike.{Is, IsBegun, AreLike}

-- one expression
abbrev pub IsAlone : Expression → Expressions → Type 0
IsAlone e a = (v : Expression) × Is e v × (add_expression no_expressions v ≡ a)

abbrev pub IsSlot : Expression → Slots → Type 0
IsSlot e a = (v : Expression) × Is e v × (slots (add_expression no_expressions v) true ≡ a)

-- an expression that stands there
abbrev pub IsGiven : Expression → MaybeExpression → Type 0
IsGiven e m = (v : Expression) × Is e v × (some_expression v ≡ m)

-- further arguments, and further elements, each behind a comma
abbrev pub MoreArguments : List Sign → Expressions → List ℕ → List ℕ → Expressions → Type 0
MoreArguments b es y rest a = (p : Place) → Further b b false (sign_sort signs.Comma ∷ []) always add_expression (behind (sign signs.Comma) Expr) (AreLike es) y rest a p

abbrev pub FromSlots : List Sign → Expressions → List ℕ → List ℕ → Slots → Type 0
FromSlots b es y rest a = (p : Place) → Further b b false (sign_sort signs.Comma ∷ []) may_follow add_slot CommaSlot (λ s. AreLike es (slots_value s)) y rest a p

-- further entries, each behind a comma
abbrev pub MoreEntries : List Sign → Entries → List ℕ → List ℕ → Entries → Type 0
MoreEntries b ps y rest a = (p : Place) → Further b b false bsep always (add_turn add_pair) (behind (one bsep (λ t. t.place)) MaybePair) (λ v. bare_entries v ≡ bare_entries ps) y rest a p

-- this entry, but for places
abbrev pub IsEntry : List ℕ → Expression → Entry → Type 0
IsEntry k e v = (f : Expression) × Is e f × (entry k f ≡ v)

abbrev pub IsTurn : List ℕ → Expression → Turn Entry → Type 0
IsTurn k e t = (f : Expression) × Is e f × (thing (entry k f) ≡ t)

module _ {b : List Sign} where
  -- Arguments.

  pub arguments_more : {r : Front} (e : Expression) (es : Expressions) (x y rest : List ℕ) (a : Expressions) → Prints b b Whole (Is e) r x (y ++ rest) → ((v : Expression) → Is e v → MoreArguments b es y rest (add_expression a v))
      → MoreArguments b es (44 ∷ 32 ∷ (x ++ y)) rest a
  arguments_more e es x y rest a P Q =
      turns_more {W = Is e} (sign_sort signs.Comma) (44 ∷ 32 ∷ x) y rest a refl refl refl
      (prints_both {X = Is e} (44 ∷ []) (32 ∷ x) (y ++ rest) (prints_comma _) (prints_blank x (y ++ rest) (prints_rec x (y ++ rest) P (λ v i. i))) (λ v w i j. j))
      Q

  pub no_arguments : (rest : List ℕ) → Prints b b Arguments (AreLike no_expressions) anything [] rest
  unfolding Arguments
  no_arguments rest = prints_right [] rest (prints_empty rest refl)

  pub some_arguments : {r : Front} (e : Expression) (es : Expressions) (x y rest : List ℕ) → Prints b b Whole (Is e) r x (y ++ rest) → ((v : Expression) → Is e v → MoreArguments b es y rest (add_expression no_expressions v))
      → Prints b b Arguments (AreLike es) r (x ++ y) rest
  unfolding Arguments Listed
  some_arguments e es x y rest P Q =
      prints_left _ rest (prints_made {V = AreLike es} _ rest (prints_loop {V = IsAlone e} x y rest
      (prints_made {V = Is e} x (y ++ rest) (prints_rec x (y ++ rest) P (λ v i. i)) (λ v i. (v, i, refl)))
      (λ a i. subst (λ z. MoreArguments b es y rest z) i.2 (Q i.0 i.1)))
      (λ v i. i))

  pub call_prints : {o r : Front} (e : Expression) (es : Expressions) (q : Place) (x y rest : List ℕ) → has_some o ≡ true → Prints b b Prim (Is e) o x (40 ∷ (y ++ 41 ∷ rest)) → Prints (b ++ signs.OpenParen ∷ []) (b ++ signs.OpenParen ∷ []) Arguments (AreLike es) r y (41 ∷ rest)
      → Prints b b Postfix (IsBegun (expression q (call e es))) o (x ++ 40 ∷ (y ++ 41 ∷ [])) rest
  unfolding Postfix BegunPrim OneTail
  call_prints e es q x y rest s P Q =
      prints_loop x (40 ∷ (y ++ 41 ∷ [])) rest (prints_here {X = IsBegun e} x _ s (prints_rest x (append_assoc (40 ∷ y) (41 ∷ []) rest) P) (λ t v i. i))
      (λ a ia. turns_last {W = IsCall es} (sign_sort signs.OpenParen) (40 ∷ (y ++ 41 ∷ [])) rest a refl refl refl
      (prints_right _ rest (prints_right _ rest (prints_made _ rest (prints_both {X = AreLike es} (40 ∷ []) (y ++ 41 ∷ []) rest (prints_open_paren _) (prints_both y (41 ∷ []) rest Q (prints_close_paren rest) (λ v w i j. i)) (λ v w i j. j)) (λ v iv. (v, refl, iv)))))
      (λ v iv. call_is a v e es q ia iv))

  -- Arrays.

  pub slots_more : {r : Front} (e : Expression) (es : Expressions) (x y rest : List ℕ) (a : Expressions) → Prints b b Whole (Is e) r x (y ++ rest) → ((v : Expression) → Is e v → FromSlots b es y rest (slots (add_expression a v) true))
      → FromSlots b es (44 ∷ 32 ∷ (x ++ y)) rest (slots a true)
  unfolding CommaSlot Slot
  slots_more e es x y rest a P Q =
      turns_more {W = IsGiven e} (sign_sort signs.Comma) (44 ∷ 32 ∷ x) y rest (slots a true) refl refl refl
      (prints_both {X = IsGiven e} (44 ∷ []) (32 ∷ x) (y ++ rest) (prints_comma _) (prints_blank x (y ++ rest) (prints_left x (y ++ rest) (prints_made {V = Is e} x (y ++ rest) (prints_rec x (y ++ rest) P (λ v i. i)) (λ v i. (v, i, refl))))) (λ v w i j. j))
      (λ v i. subst (λ z. FromSlots b es y rest (add_slot (slots a true) z)) i.2 (Q i.0 i.1))

  pub no_elements : (rest : List ℕ) → Prints b b Elements (λ s. AreLike no_expressions (slots_value s)) anything [] rest
  unfolding Elements Slot
  no_elements rest = prints_once [] rest (prints_made {V = λ m. m ≡ no_expression} [] rest (prints_right [] rest (prints_empty rest refl)) (λ v i. ap (λ z. bare_expressions (slots_value (add_slot (slots no_expressions true) z))) i))

  pub some_elements : {r : Front} (e : Expression) (es : Expressions) (x y rest : List ℕ) → Prints b b Whole (Is e) r x (y ++ rest) → ((v : Expression) → Is e v → FromSlots b es y rest (slots (add_expression no_expressions v) true))
      → Prints b b Elements (λ s. AreLike es (slots_value s)) r (x ++ y) rest
  unfolding Elements Slot
  some_elements e es x y rest P Q =
      prints_loop {V = IsSlot e} x y rest
      (prints_made {V = IsGiven e} x (y ++ rest) (prints_left x (y ++ rest) (prints_made {V = Is e} x (y ++ rest) (prints_rec x (y ++ rest) P (λ v i. i)) (λ v i. (v, i, refl)))) (λ v i. (i.0, i.1, ap (add_slot (slots no_expressions true)) i.2)))
      (λ a i. subst (λ z. FromSlots b es y rest z) i.2 (Q i.0 i.1))

  pub array_prints : {r : Front} (es : Expressions) (q : Place) (x rest : List ℕ) → Prints (b ++ signs.OpenBracket ∷ []) (b ++ signs.OpenBracket ∷ []) Elements (λ s. AreLike es (slots_value s)) r x (93 ∷ rest)
      → Prints b b Prim (Is (expression q (array es))) (one_of (sign_sort signs.OpenBracket ∷ [])) (91 ∷ (x ++ 93 ∷ [])) rest
  unfolding Prim Array BracketedElements
  array_prints es q x rest P =
      prints_right _ rest (prints_right _ rest (prints_left _ rest (prints_here {V = λ s. AreLike es (slots_value s)} _ rest refl
      (prints_both (91 ∷ []) (x ++ 93 ∷ []) rest (prints_open_bracket _) (prints_both x (93 ∷ []) rest P (prints_close_bracket rest) (λ v w i j. i)) (λ v w i j. j))
      (λ t v i. ap (λ z. expression nowhere (array z)) i))))

  -- Dictionaries.

  -- key = value
  pub pair_prints : {r : Front} (k : List ℕ) (e : Expression) (x rest : List ℕ) → IsUtf8 k → Prints b b Whole (Is e) r x rest → Prints b b Pair (IsEntry k e) (one_of (string_sort ∷ [])) (quoted k ++ (codes " = " ++ x)) rest
  unfolding Pair
  pair_prints k e x rest u P =
      prints_both {V = λ m. m ≡ k} (quoted k) (codes " = " ++ x) rest (prints_one (kinds.Str k) (quoted k) _ (quotes, quoted_string k, u) refl (λ p. refl) (quoted_utf8 k u))
      (prints_blank (61 ∷ 32 ∷ x) rest (prints_both {X = Is e} (61 ∷ []) (32 ∷ x) rest (prints_set (x ++ rest)) (prints_both [] (32 ∷ x) rest (prints_once {X = λ n. Unit {0}} [] ((32 ∷ x) ++ rest) (prints_empty _ tt)) (prints_blank x rest (prints_rec x rest P (λ v i. i))) (λ v w i j. j)) (λ v w i j. j)))
      (λ v w i j. (w, j, ap (λ z. entry z w) (sym i)))

  maybe_pair : {r : Front} (k : List ℕ) (e : Expression) (x rest : List ℕ) → IsUtf8 k → Prints b b Whole (Is e) r x rest → Prints b b MaybePair (IsTurn k e) (one_of (string_sort ∷ [])) (quoted k ++ (codes " = " ++ x)) rest
  unfolding MaybePair
  maybe_pair k e x rest u P = prints_left _ rest (prints_made {V = IsEntry k e} _ rest (pair_prints k e x rest u P) (λ v i. (i.0, i.1, ap thing i.2)))

  pub entries_more : {r : Front} (k : List ℕ) (e : Expression) (ps : Entries) (x y rest : List ℕ) (a : Entries) → IsUtf8 k → Prints b b Whole (Is e) r x (y ++ rest) → ((v : Expression) → Is e v → MoreEntries b ps y rest (add_entry a k v))
      → MoreEntries b ps (44 ∷ 32 ∷ ((quoted k ++ (codes " = " ++ x)) ++ y)) rest a
  entries_more k e ps x y rest a u P Q =
      turns_more {W = IsTurn k e} (sign_sort signs.Comma) (44 ∷ 32 ∷ (quoted k ++ (codes " = " ++ x))) y rest a refl refl refl
      (prints_both {X = IsTurn k e} (44 ∷ []) (32 ∷ (quoted k ++ (codes " = " ++ x))) (y ++ rest) (comma_among _) (prints_blank _ (y ++ rest) (maybe_pair k e x (y ++ rest) u P)) (λ v w i j. j))
      (λ v i. subst (λ z. MoreEntries b ps y rest (add_turn add_pair a z)) i.2 (Q i.0 i.1))
    where
      comma_among : (s : List ℕ) → Prints b b (one bsep (λ t. t.place)) Any (one_of (sign_sort signs.Comma ∷ [])) (44 ∷ []) s
      comma_among s = prints_one (kinds.Sign signs.Comma) (44 ∷ []) s (comma_token (keeps b) s) refl (λ p. tt) (ascii_utf8 (44 ∷ []) refl)

  pub no_pairs : (rest : List ℕ) → Prints b b Pairs (λ v. bare_entries v ≡ bare_entries no_entries) anything [] rest
  unfolding Pairs MaybePair
  no_pairs rest = prints_once [] rest (prints_made {V = λ m. m ≡ nothing} [] rest (prints_right [] rest (prints_empty rest refl)) (λ v i. ap (λ z. bare_entries (add_turn add_pair no_entries z)) i))

  pub some_pairs : {r : Front} (k : List ℕ) (e : Expression) (ps : Entries) (x y rest : List ℕ) → IsUtf8 k → Prints b b Whole (Is e) r x (y ++ rest) → ((v : Expression) → Is e v → MoreEntries b ps y rest (add_entry no_entries k v))
      → Prints b b Pairs (λ v. bare_entries v ≡ bare_entries ps) (one_of (string_sort ∷ [])) ((32 ∷ (quoted k ++ (codes " = " ++ x))) ++ y) rest
  unfolding Pairs
  some_pairs k e ps x y rest u P Q =
      prints_loop {V = λ a. (f : Expression) × Is e f × (add_entry no_entries k f ≡ a)} (32 ∷ (quoted k ++ (codes " = " ++ x))) y rest
      (prints_made {V = IsTurn k e} _ (y ++ rest) (prints_blank _ (y ++ rest) (maybe_pair k e x (y ++ rest) u P)) (λ v i. (i.0, i.1, ap (add_turn add_pair no_entries) i.2)))
      (λ a i. subst (λ z. MoreEntries b ps y rest z) i.2 (Q i.0 i.1))

  -- between braces, with a blank behind the first one and before the last
  pub dictionary_prints : {r : Front} (ps : Entries) (q : Place) (x z rest : List ℕ) → x ++ 32 ∷ 125 ∷ [] ≡ 32 ∷ z → Prints (b ++ signs.OpenBrace ∷ []) (b ++ signs.OpenBrace ∷ []) Pairs (λ v. bare_entries v ≡ bare_entries ps) r x (32 ∷ 125 ∷ rest)
      → Prints b b Prim (Is (expression q (dictionary ps))) (one_of (sign_sort signs.OpenBrace ∷ [])) (123 ∷ (x ++ 32 ∷ 125 ∷ [])) rest
  unfolding Prim Dict BracedPairs
  dictionary_prints ps q x z rest e P =
      prints_right _ rest (prints_right _ rest (prints_right _ rest (prints_left _ rest (prints_here {V = λ v. bare_entries v ≡ bare_entries ps} _ rest refl
      (prints_both (123 ∷ []) (x ++ 32 ∷ 125 ∷ []) rest (prints_rest (123 ∷ []) (ap (λ u. u ++ rest) e) (prints_brace_blank (z ++ rest))) (prints_both x (32 ∷ 125 ∷ []) rest P (prints_blank (125 ∷ []) rest (prints_close_brace rest)) (λ v w i j. i)) (λ v w i j. j))
      (λ t v i. ap (λ z. expression nowhere (dictionary z)) i)))))
