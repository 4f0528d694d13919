-- Four tokens tell a lambda from an expression in parentheses.
use Rattle.std.proofs.Common.{◌≡◌, ◌⊎◌, ℕ, zero, suc, List, [], ◌∷◌, ◌++◌, drop, Bool, true, false, refl, sym, ◌∙◌, subst, inl, inr, true≢false}
use Rattle.dsl_lexer.specs.declared.token.Token.{Token}
use Rattle.dsl_lexer.specs.declared.word.Word.TheVariants as words
use Rattle.dsl_lexer.specs.declared.sign.Sign.TheVariants as signs
use Rattle.dsl_syntax.specs.Syntax.{Expression, expression}
use Rattle.dsl_rules.specs.Alphabet.{Sort, among, and, or, apart, at}
use Rattle.dsl_rules.specs.Rules.{Rule as RuleOf, Both, Turns, may}
use Rattle.dsl_rules.specs.Grammar.{Rules, Derives, always, fold_pair, pair}
use Rattle.dsl_rules.proofs.Basics.{among_is, same_head, and_left, and_right, at_none_left, at_none_right, same_is, or_left, or_right}
use Rattle.dsl_grammar.specs.Codes.{sorts, word_sort, sign_sort, ident_sort}
use Rattle.dsl_grammar.specs.Operators.{level_sorts, unary_sorts}
use Rattle.dsl_grammar.specs.Terms.{Name, Value, text, sign, IDENT, behind, maybe}
use Rattle.dsl_grammar.specs.Grammar.{add_name, Begun, begun, begun_expression, literal_kind, literal_sorts, tail_sorts, with_tail, joined, begins_define, Literal, Paren, Array, BracketedElements, Dict, BracedPairs, FunctionFunc, FunctionLiteral, Func, OneTail, Prefixes, Prim, BegunPrim, Postfix, Prefixed, Unary, Operator, Level, Params, Names, LambdaFunc, Lambda, begins_lambda}
use Rattle.dsl_grammar.proofs.Defining.{one_at, among_one, both_hold}

-- what stands behind the parenthesis of a lambda
abbrev pub behind_open : List Token → Bool
behind_open ts =
    or (at sorts (sign_sort signs.CloseParen ∷ []) ts) (and (at sorts (ident_sort ∷ []) ts) (or (at sorts (sign_sort signs.Comma ∷ []) (drop 1 ts)) (and (at sorts (sign_sort signs.CloseParen ∷ []) (drop 1 ts)) (at sorts (sign_sort signs.Arrow ∷ []) (drop 1 (drop 1 ts))))))

module _ (L : Rules Token Name Value) where
  -- a primary expression with nothing before it and behind it
  pub alone : (k : ℕ) (t : Token) (ts : List Token) (e : Expression) (rest : List Token) → Derives sorts L Prim (t ∷ ts) e rest → (x : Begun) × (begun_expression x ≡ e) × Derives sorts L (Level k) (t ∷ ts) x rest
  unfolding Level Unary Prefixed Postfix BegunPrim
  alone zero t ts e rest d = (begun t.place e, refl, (e, inr (begun t.place e, (rest, begun t.place e, [], (e, d, refl), (refl, refl)), refl), refl))
  alone (suc k) t ts e rest d = let x = alone k t ts e rest d in (x.0, x.1, (rest, x.0, [], x.2, (refl, refl)))

  -- what stands in parentheses where an expression begins with one
  abbrev Parened : List Token → List Token → Type 0
  Parened ts rest = (e : Expression) × (after : List Token) × Derives sorts L Paren ts e after × (at sorts (sign_sort signs.Arrow ∷ []) after ≡ true → rest ≡ after)

  arrow_away : (cs : List Sort) → among (sign_sort signs.Arrow) cs ≡ false → (ts : List Token) → at sorts (sign_sort signs.Arrow ∷ []) ts ≡ true → at sorts cs ts ≡ true → ⊥
  arrow_away cs n [] a m = absurd cc
  arrow_away cs n (t ∷ ts) a m = true≢false (sym (subst (λ z. among z cs ≡ true) (same_is (sorts.sort_of t) (sign_sort signs.Arrow) (among_one (sorts.sort_of t) (sign_sort signs.Arrow) a)) m) ∙ n)

  other_first : (cs ds : List Sort) → apart cs ds ≡ true → (ts : List Token) → at sorts cs ts ≡ true → at sorts ds ts ≡ true → ⊥
  other_first cs ds h [] a m = absurd cc
  other_first cs ds h (t ∷ ts) a m = true≢false (sym m ∙ Rattle.dsl_rules.proofs.Basics.apart_not (sorts.sort_of t) cs ds h a)

  literal_first : (ts : List Token) (e : Expression) (rest : List Token) → Derives sorts L Literal ts e rest → at sorts literal_sorts ts ≡ true
  unfolding Literal
  literal_first ts e rest d = (one_at literal_sorts (λ t. expression t.place (literal_kind t.kind)) ts e rest d).0

  array_first : (ts : List Token) (e : Expression) (rest : List Token) → Derives sorts L Array ts e rest → at sorts (sign_sort signs.OpenBracket ∷ []) ts ≡ true
  unfolding Array BracketedElements
  array_first [] e rest d = absurd d
  array_first (t ∷ ts) e rest d = d.1.3.0

  dict_first : (ts : List Token) (e : Expression) (rest : List Token) → Derives sorts L Dict ts e rest → at sorts (sign_sort signs.OpenBrace ∷ []) ts ≡ true
  unfolding Dict BracedPairs
  dict_first [] e rest d = absurd d
  dict_first (t ∷ ts) e rest d = d.1.3.0

  function_first : (ts : List Token) (e : Expression) (rest : List Token) → Derives sorts L FunctionLiteral ts e rest → at sorts (word_sort words.Function ∷ []) ts ≡ true
  unfolding FunctionLiteral FunctionFunc
  function_first [] e rest d = absurd d
  function_first (t ∷ ts) e rest d = d.1.3.0

  paren_first : (ts : List Token) (e : Expression) (rest : List Token) → Derives sorts L Paren ts e rest → at sorts (sign_sort signs.OpenParen ∷ []) ts ≡ true
  unfolding Paren
  paren_first ts e rest d = (one_at (sign_sort signs.OpenParen ∷ []) (λ t. t.place) ts d.1 d.0 d.3).0

  -- behind `function` no name follows
  function_unnamed : (ts : List Token) (e : Expression) (rest : List Token) → Derives sorts L FunctionLiteral ts e rest → at sorts (sign_sort signs.OpenParen ∷ []) (drop 1 ts) ≡ true
  unfolding FunctionLiteral FunctionFunc Func Params
  function_unnamed [] e rest d = absurd d
  function_unnamed (t ∷ ts) e rest d =
      let x = d.1.4.3 in
      subst (λ z. at sorts (sign_sort signs.OpenParen ∷ []) z ≡ true) (sym d.1.3.2) (one_at (sign_sort signs.OpenParen ∷ []) (λ t. t.place) d.1.0 x.1 x.0 x.3).0

  paren_prim : (ts : List Token) (e : Expression) (rest : List Token) → Derives sorts L Prim ts e rest → at sorts (sign_sort signs.OpenParen ∷ []) ts ≡ true → Derives sorts L Paren ts e rest
  unfolding Prim
  paren_prim ts e rest (inl d) a = absurd (other_first (sign_sort signs.OpenParen ∷ []) literal_sorts refl ts a (literal_first ts e rest d))
  paren_prim ts e rest (inr (inl d)) a = d
  paren_prim ts e rest (inr (inr (inl d))) a = absurd (other_first (sign_sort signs.OpenParen ∷ []) (sign_sort signs.OpenBracket ∷ []) refl ts a (array_first ts e rest d))
  paren_prim ts e rest (inr (inr (inr (inl d)))) a = absurd (other_first (sign_sort signs.OpenParen ∷ []) (sign_sort signs.OpenBrace ∷ []) refl ts a (dict_first ts e rest d))
  paren_prim ts e rest (inr (inr (inr (inr d)))) a = absurd (other_first (sign_sort signs.OpenParen ∷ []) (word_sort words.Function ∷ []) refl ts a (function_first ts e rest d))

  may_at : (cs : List Sort) (g : Sort → Bool) (ts : List Token) → may sorts cs g ts ≡ true → at sorts cs ts ≡ true
  may_at cs g [] m = absurd cc
  may_at cs g (t ∷ ts) m = and_left (at sorts cs (t ∷ ts)) (g (sorts.sort_of t)) m

  no_turn : {A C : Type 0} (cs : List Sort) (more : C → Sort → Bool) (step : C → A → C) (R : RuleOf Token A) (xs : List A) (c d : C) (mid rest : List Token) → among (sign_sort signs.Arrow) cs ≡ false → Turns sorts false cs more step R xs c mid d rest → at sorts (sign_sort signs.Arrow ∷ []) mid ≡ true → rest ≡ mid
  no_turn cs more step R [] c d mid rest n ds a = sym ds.1
  no_turn cs more step R (x ∷ xs) c d mid rest n ds a = absurd (arrow_away cs n mid a (may_at cs (more c) mid ds.1))

  postfix_parened : (ts : List Token) (x : Begun) (rest : List Token) → Derives sorts L Postfix ts x rest → at sorts (sign_sort signs.OpenParen ∷ []) ts ≡ true → Parened ts rest
  unfolding Postfix BegunPrim
  postfix_parened [] x rest d a = absurd cc
  postfix_parened (t ∷ ts) x rest d a = (d.3.0, d.0, paren_prim (t ∷ ts) d.3.0 d.0 d.3.1 a, λ arrow. no_turn tail_sorts always with_tail (Derives sorts L OneTail) d.2 d.1 x d.0 rest refl d.4 arrow)

  unary_parened : (ts : List Token) (x : Begun) (rest : List Token) → Derives sorts L Unary ts x rest → at sorts (sign_sort signs.OpenParen ∷ []) ts ≡ true → Parened ts rest
  unfolding Unary Prefixed Prefixes
  unary_parened [] x rest d a = absurd cc
  unary_parened (t ∷ ts) x rest d a = by d.0 d.1
    where
      by : (e : Expression) → Derives sorts L Prefixed (t ∷ ts) e rest → Parened (t ∷ ts) rest
      by e (inl d) = absurd (other_first (sign_sort signs.OpenParen ∷ []) unary_sorts refl (t ∷ ts) a d.3.3.1.0)
      by e (inr d) = postfix_parened (t ∷ ts) d.0 rest d.1 a

  arrow_not : (k : ℕ) → among (sign_sort signs.Arrow) (level_sorts k) ≡ false
  arrow_not zero = refl
  arrow_not (suc zero) = refl
  arrow_not (suc (suc zero)) = refl
  arrow_not (suc (suc (suc zero))) = refl
  arrow_not (suc (suc (suc (suc zero)))) = refl
  arrow_not (suc (suc (suc (suc (suc zero))))) = refl
  arrow_not (suc (suc (suc (suc (suc (suc zero)))))) = refl
  arrow_not (suc (suc (suc (suc (suc (suc (suc zero))))))) = refl
  arrow_not (suc (suc (suc (suc (suc (suc (suc (suc zero)))))))) = refl
  arrow_not (suc (suc (suc (suc (suc (suc (suc (suc (suc zero))))))))) = refl
  arrow_not (suc (suc (suc (suc (suc (suc (suc (suc (suc (suc zero)))))))))) = refl
  arrow_not (suc (suc (suc (suc (suc (suc (suc (suc (suc (suc (suc k))))))))))) = refl

  pub level_parened : (k : ℕ) (ts : List Token) (x : Begun) (rest : List Token) → Derives sorts L (Level k) ts x rest → at sorts (sign_sort signs.OpenParen ∷ []) ts ≡ true → Parened ts rest
  unfolding Level
  level_parened zero ts x rest d a = unary_parened ts x rest d a
  level_parened (suc k) ts x rest d a =
      let y = level_parened k ts d.1 d.0 d.3 a in (
        y.0,
        y.1,
        y.2,
        λ arrow.
            let same : d.0 ≡ y.1 = y.3 arrow in
            no_turn (level_sorts k) always (fold_pair joined) (λ ts a rest. Both pair (Derives sorts L (Operator k)) (Derives sorts L (Level k)) ts a rest) d.2 d.1 x d.0 rest (arrow_not k) d.4 (subst (λ z. at sorts (sign_sort signs.Arrow ∷ []) z ≡ true) (sym same) arrow) ∙ same,
      )

  -- an expression that begins with `function` is no definition
  prim_undefined : (ts : List Token) (e : Expression) (rest : List Token) → Derives sorts L Prim ts e rest → begins_define ts ≡ false
  unfolding Prim
  prim_undefined ts e rest d = by (begins_define ts) refl
    where
      first : begins_define ts ≡ true → at sorts (word_sort words.Function ∷ []) ts ≡ true
      first h = and_left (at sorts (word_sort words.Function ∷ []) ts) (at sorts (ident_sort ∷ []) (drop 1 ts)) h

      of : Derives sorts L Prim ts e rest → begins_define ts ≡ true → ⊥
      of (inl d) h = other_first (word_sort words.Function ∷ []) literal_sorts refl ts (first h) (literal_first ts e rest d)
      of (inr (inl d)) h = other_first (word_sort words.Function ∷ []) (sign_sort signs.OpenParen ∷ []) refl ts (first h) (paren_first ts e rest d)
      of (inr (inr (inl d))) h = other_first (word_sort words.Function ∷ []) (sign_sort signs.OpenBracket ∷ []) refl ts (first h) (array_first ts e rest d)
      of (inr (inr (inr (inl d)))) h = other_first (word_sort words.Function ∷ []) (sign_sort signs.OpenBrace ∷ []) refl ts (first h) (dict_first ts e rest d)
      of (inr (inr (inr (inr d)))) h = other_first (sign_sort signs.OpenParen ∷ []) (ident_sort ∷ []) refl (drop 1 ts) (function_unnamed ts e rest d) (and_right (at sorts (word_sort words.Function ∷ []) ts) (at sorts (ident_sort ∷ []) (drop 1 ts)) h)

      by : (b : Bool) → begins_define ts ≡ b → b ≡ false
      by true h = absurd (of d h)
      by false h = refl

  pub level_undefined : (k : ℕ) (ts : List Token) (x : Begun) (rest : List Token) → Derives sorts L (Level k) ts x rest → begins_define ts ≡ false
  unfolding Level Unary Prefixed Prefixes Postfix BegunPrim
  level_undefined zero [] x rest d = absurd d
  level_undefined zero (t ∷ ts) x rest d = by d.0 d.1
    where
      by : (e : Expression) → Derives sorts L Prefixed (t ∷ ts) e rest → begins_define (t ∷ ts) ≡ false
      by e (inl d) = not_function (among (sorts.sort_of t) (word_sort words.Function ∷ [])) refl
        where
          not_function : (b : Bool) → among (sorts.sort_of t) (word_sort words.Function ∷ []) ≡ b → and b (at sorts (ident_sort ∷ []) ts) ≡ false
          not_function true h = absurd (other_first (word_sort words.Function ∷ []) unary_sorts refl (t ∷ ts) h d.3.3.1.0)
          not_function false h = refl
      by e (inr d) = prim_undefined (t ∷ ts) d.1.3.0 d.1.0 d.1.3.1
  level_undefined (suc k) ts x rest d = level_undefined k ts d.1 d.0 d.3

  names_at : (ts : List Token) (ns : List (List ℕ)) (rest : List Token) → Derives sorts L Names ts ns rest → (at sorts (ident_sort ∷ []) ts ≡ true) × ((at sorts (sign_sort signs.Comma ∷ []) (drop 1 ts) ≡ true) ⊎ (drop 1 ts ≡ rest))
  unfolding Names
  names_at ts ns rest d = let x = one_at (ident_sort ∷ []) text ts d.3.0 d.0 d.3.1 in (x.0, by d.2 d.1 d.4 x.1)
    where
      by : (xs : List (List ℕ)) (c : List (List ℕ)) → Turns sorts false (sign_sort signs.Comma ∷ []) always add_name (Derives sorts L (behind (sign signs.Comma) IDENT)) xs c d.0 ns rest → drop 1 ts ≡ d.0 → (at sorts (sign_sort signs.Comma ∷ []) (drop 1 ts) ≡ true) ⊎ (drop 1 ts ≡ rest)
      by [] c y e = inr (e ∙ y.1)
      by (x ∷ xs) c y e = inl (subst (λ z. at sorts (sign_sort signs.Comma ∷ []) z ≡ true) (sym e) (may_at (sign_sort signs.Comma ∷ []) (always c) d.0 y.1))

  behind_names : (ts m2 mid : List Token) → (at sorts (ident_sort ∷ []) ts ≡ true) × ((at sorts (sign_sort signs.Comma ∷ []) (drop 1 ts) ≡ true) ⊎ (drop 1 ts ≡ m2)) → (at sorts (sign_sort signs.CloseParen ∷ []) m2 ≡ true) × (drop 1 m2 ≡ mid) → at sorts (sign_sort signs.Arrow ∷ []) mid ≡ true → behind_open ts ≡ true
  behind_names ts m2 mid (i, inl c) close arrow = or_right (at sorts (sign_sort signs.CloseParen ∷ []) ts) _ (both_hold (at sorts (ident_sort ∷ []) ts) _ i (or_left (at sorts (sign_sort signs.Comma ∷ []) (drop 1 ts)) _ c))
  behind_names ts m2 mid (i, inr e) close arrow =
      or_right (at sorts (sign_sort signs.CloseParen ∷ []) ts) _ (both_hold (at sorts (ident_sort ∷ []) ts) _ i (or_right (at sorts (sign_sort signs.Comma ∷ []) (drop 1 ts)) _ (both_hold (at sorts (sign_sort signs.CloseParen ∷ []) (drop 1 ts)) _ (subst (λ z. at sorts (sign_sort signs.CloseParen ∷ []) z ≡ true) (sym e) close.0)
      (subst (λ z. at sorts (sign_sort signs.Arrow ∷ []) (drop 1 z) ≡ true) (sym e) (subst (λ z. at sorts (sign_sort signs.Arrow ∷ []) z ≡ true) (sym close.1) arrow)))))

  pub lambda_at : (ts : List Token) (e : Expression) (rest : List Token) → Derives sorts L Lambda ts e rest → begins_lambda ts ≡ true
  unfolding Lambda LambdaFunc Params
  lambda_at [] e rest d = absurd d
  lambda_at (t ∷ ts) e rest d =
      let dp = d.1.3 in
      let db = d.1.4 in
      let close = one_at (sign_sort signs.CloseParen ∷ []) (λ t. t.place) dp.4.0 dp.4.2 d.1.0 dp.4.4 in
      let arrow = one_at (sign_sort signs.Arrow ∷ []) (λ t. t.place) d.1.0 db.1 db.0 db.3 in
      both_hold (at sorts (sign_sort signs.OpenParen ∷ []) (t ∷ ts)) (behind_open ts) dp.3.0 (subst (λ z. behind_open z ≡ true) (sym dp.3.2) (by dp.4.3 close arrow.0))
    where
      by : Derives sorts L (maybe (λ ns. ns) [] Names) d.1.3.0 d.1.3.4.1 d.1.3.4.0 → (at sorts (sign_sort signs.CloseParen ∷ []) d.1.3.4.0 ≡ true) × (drop 1 d.1.3.4.0 ≡ d.1.0) → at sorts (sign_sort signs.Arrow ∷ []) d.1.0 ≡ true → behind_open d.1.3.0 ≡ true
      by (inl x) close arrow = behind_names d.1.3.0 d.1.3.4.0 d.1.0 (names_at d.1.3.0 x.0 d.1.3.4.0 x.1) close arrow
      by (inr x) close arrow = or_left (at sorts (sign_sort signs.CloseParen ∷ []) d.1.3.0) _ (subst (λ z. at sorts (sign_sort signs.CloseParen ∷ []) z ≡ true) (sym x.1) close.0)

-- the test is settled by the tokens through the one at which reading stops
pub settles : (front : List Token) (t : Token) (s s' : List Token) (b : Bool) → begins_lambda (front ++ t ∷ s) ≡ b → (front ≡ [] → among (sorts.sort_of t) (sign_sort signs.OpenParen ∷ []) ≡ true → ⊥)
    → ((x : Token) → front ≡ x ∷ [] → among (sorts.sort_of x) (sign_sort signs.OpenParen ∷ []) ≡ true → among (sorts.sort_of t) (ident_sort ∷ []) ≡ true → ⊥)
    → ((x y : Token) → front ≡ x ∷ y ∷ [] → among (sorts.sort_of x) (sign_sort signs.OpenParen ∷ []) ≡ true → among (sorts.sort_of y) (ident_sort ∷ []) ≡ true → among (sorts.sort_of t) (sign_sort signs.CloseParen ∷ []) ≡ true → ⊥) → begins_lambda (front ++ t ∷ s') ≡ b
settles [] t s s' b is a1 a2 a3 = by (among (sorts.sort_of t) (sign_sort signs.OpenParen ∷ [])) refl is
  where
    by : (c : Bool) → among (sorts.sort_of t) (sign_sort signs.OpenParen ∷ []) ≡ c → begins_lambda (t ∷ s) ≡ b → begins_lambda (t ∷ s') ≡ b
    by true h is = absurd (a1 refl h)
    by false h is = let q : begins_lambda (t ∷ s) ≡ false = rw h refl in rw h (sym q ∙ is)
settles (x ∷ []) t s s' b is a1 a2 a3 = by (among (sorts.sort_of x) (sign_sort signs.OpenParen ∷ [])) refl (among (sorts.sort_of t) (sign_sort signs.CloseParen ∷ [])) refl (among (sorts.sort_of t) (ident_sort ∷ [])) refl is
  where
    by : (c : Bool) → among (sorts.sort_of x) (sign_sort signs.OpenParen ∷ []) ≡ c → (d : Bool) → among (sorts.sort_of t) (sign_sort signs.CloseParen ∷ []) ≡ d → (e : Bool) → among (sorts.sort_of t) (ident_sort ∷ []) ≡ e → begins_lambda (x ∷ t ∷ s) ≡ b → begins_lambda (x ∷ t ∷ s') ≡ b
    by false h d g e i is = let q : begins_lambda (x ∷ t ∷ s) ≡ false = rw h refl in rw h (sym q ∙ is)
    by true h true g e i is = let q : begins_lambda (x ∷ t ∷ s) ≡ true = rw (h, g) refl in rw (h, g) (sym q ∙ is)
    by true h false g true i is = absurd (a2 x refl h i)
    by true h false g false i is = let q : begins_lambda (x ∷ t ∷ s) ≡ false = rw (h, g, i) refl in rw (h, g, i) (sym q ∙ is)
settles (x ∷ y ∷ []) t s s' b is a1 a2 a3 = by (among (sorts.sort_of x) (sign_sort signs.OpenParen ∷ [])) refl (among (sorts.sort_of y) (sign_sort signs.CloseParen ∷ [])) refl (among (sorts.sort_of y) (ident_sort ∷ [])) refl (among (sorts.sort_of t) (sign_sort signs.Comma ∷ [])) refl (among (sorts.sort_of t) (sign_sort signs.CloseParen ∷ [])) refl is
  where
    by : (c : Bool) → among (sorts.sort_of x) (sign_sort signs.OpenParen ∷ []) ≡ c → (d : Bool) → among (sorts.sort_of y) (sign_sort signs.CloseParen ∷ []) ≡ d → (e : Bool) → among (sorts.sort_of y) (ident_sort ∷ []) ≡ e → (f : Bool) → among (sorts.sort_of t) (sign_sort signs.Comma ∷ []) ≡ f → (k : Bool) → among (sorts.sort_of t) (sign_sort signs.CloseParen ∷ []) ≡ k → begins_lambda (x ∷ y ∷ t ∷ s) ≡ b → begins_lambda (x ∷ y ∷ t ∷ s') ≡ b
    by false h d g e i f j k l is = let q : begins_lambda (x ∷ y ∷ t ∷ s) ≡ false = rw h refl in rw h (sym q ∙ is)
    by true h true g e i f j k l is = let q : begins_lambda (x ∷ y ∷ t ∷ s) ≡ true = rw (h, g) refl in rw (h, g) (sym q ∙ is)
    by true h false g false i f j k l is = let q : begins_lambda (x ∷ y ∷ t ∷ s) ≡ false = rw (h, g, i) refl in rw (h, g, i) (sym q ∙ is)
    by true h false g true i true j k l is = let q : begins_lambda (x ∷ y ∷ t ∷ s) ≡ true = rw (h, g, i, j) refl in rw (h, g, i, j) (sym q ∙ is)
    by true h false g true i false j true l is = absurd (a3 x y refl h i l)
    by true h false g true i false j false l is = let q : begins_lambda (x ∷ y ∷ t ∷ s) ≡ false = rw (h, g, i, j, l) refl in rw (h, g, i, j, l) (sym q ∙ is)
settles (x ∷ y ∷ z ∷ front) t s s' b is a1 a2 a3 = subst (λ v. and (among (sorts.sort_of x) (sign_sort signs.OpenParen ∷ [])) (or (among (sorts.sort_of y) (sign_sort signs.CloseParen ∷ [])) (and (among (sorts.sort_of y) (ident_sort ∷ [])) (or (among (sorts.sort_of z) (sign_sort signs.Comma ∷ [])) (and (among (sorts.sort_of z) (sign_sort signs.CloseParen ∷ [])) v)))) ≡ b) (same_head sorts (sign_sort signs.Arrow ∷ []) front t s s') is
