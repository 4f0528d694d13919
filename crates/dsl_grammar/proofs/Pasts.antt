-- Reading takes the tokens that settle whether a lambda begins.
use Rattle.std.proofs.Common.{◌≡◌, ◌≤◌, ◌<◌, ◌⊎◌, ℕ, zero, suc, List, [], ◌∷◌, ◌++◌, length, drop, Bool, true, false, cond, Option, Some, None, option_map, refl, sym, ap, ◌∙◌, subst, inl, inr, arith, length-append, true≢false}
use Rattle.site_base.specs.declared.place.Place.{Place}
use Rattle.dsl_syntax.specs.declared.bin_op.BinOp.{BinOp}
use Rattle.dsl_lexer.specs.declared.token.Token.{Token}
use Rattle.dsl_lexer.specs.declared.sign.Sign.TheVariants as signs
use Rattle.dsl_syntax.specs.Syntax.{Expression, expression, function_value, Function, function, no_uses, Statements}
use Rattle.dsl_rules.specs.Alphabet.{Sort, among, and, or, apart, at, over}
use Rattle.dsl_rules.specs.Rules.{may}
use Rattle.dsl_rules.specs.Grammar.{Pair, Rules, Derives, either, both, made, always, fold_pair, pair}
use Rattle.dsl_rules.specs.Reading.{Read, got, bad, read, first, one_read, both_read, turns, ◌>>=◌}
use Rattle.dsl_rules.proofs.Basics.{and_left, and_right, at_none_right, same_is, apart_not, at_nothing}
use Rattle.dsl_rules.proofs.Law.{Law, Quiet, put, shrinks, starts as begins_with, got_is, got_bad, bind_put, cut}
use Rattle.dsl_rules.proofs.Shape.{Env, name_sets, sets, Lift, lift, room, sure, guarded, Fits}
use Rattle.dsl_grammar.specs.Codes.{sorts, sign_sort, ident_sort}
use Rattle.dsl_grammar.specs.Operators.{level_sorts}
use Rattle.dsl_grammar.specs.Terms.{Name, expr, Value, starts, Rule, text, sign, behind, maybe}
use Rattle.dsl_grammar.specs.Grammar.{Expr, Returned, with_prefixes, Arguments, Listed, Slot, Elements, CommaSlot, MaybeUse, UseList, UseNames, OneUse, Pairs, MaybePair, Pair as PairRule, add_name, Begun, begun, begun_expression, literal_sorts, tail_sorts, with_tail, joined, Literal, Paren, Array, BracketedElements, Dict, BracedPairs, FunctionFunc, FunctionLiteral, Func, OneTail, Prefixes, Prim, BegunPrim, Postfix, Prefixed, Unary, Operator, Level, Params, Names, LambdaFunc, Lambda, begins_lambda, LambdaBody}
use Rattle.dsl_grammar.proofs.Fitting.{goes, opening, Also, FitsHere, fits_Names, fits_LambdaBody, fits_OneTail}
use Rattle.dsl_grammar.proofs.Defining.{AheadsHere, one_at, among_one}
use Rattle.dsl_rules.proofs.Twice.{both_put}
use Rattle.dsl_rules.proofs.Deep.{law}
use Rattle.dsl_grammar.proofs.LevelFits.{fits_Operator, fits_Level, level_guarded, level_sure_paren}
use Rattle.dsl_grammar.proofs.Lambdas.{behind_open, lambda_at, level_parened, settles}

-- what is made of what was read ends where that does
map_put : {A B : Type 0} (f : A → B) (r : Read Token A) (o : Option B) (k : List Token) → (r >>= λ x rest. got (f x) rest) ≡ put o k → (i : Option A) × (r ≡ put i k)
map_put f (got x rest) o k e = (Some x, ap (got x) (Rattle.dsl_rules.proofs.Law.put_got (f x) rest o k e).1)
map_put f (bad s) o k e = (None, ap bad (Rattle.dsl_rules.proofs.Law.put_bad s o k e).1)

one_fewer : {A : Type 0} (cs : List Sort) (f : Token → A) (ts : List Token) (o : Option A) (k : List Token) → one_read sorts cs f ts ≡ put o k → length k ≤ length ts
one_fewer cs f [] o k e = omega (arith, ap length (Rattle.dsl_rules.proofs.Law.put_bad [] o k e).1)
one_fewer cs f (t ∷ ts) o k e = by (among (sorts.sort_of t) cs) e
  where
    by : (b : Bool) → cond b (got (f t) ts) (bad (t ∷ ts)) ≡ put o k → length k ≤ length (t ∷ ts)
    by true e = omega (arith, ap length (Rattle.dsl_rules.proofs.Law.put_got (f t) ts o k e).1)
    by false e = omega (arith, ap length (Rattle.dsl_rules.proofs.Law.put_bad (t ∷ ts) o k e).1)

one_is : {A : Type 0} (cs : List Sort) (f : Token → A) (t : Token) (ts : List Token) → among (sorts.sort_of t) cs ≡ true → one_read sorts cs f (t ∷ ts) ≡ got (f t) ts
one_is cs f t ts m = rw m refl

turns_fewer : {A C : Type 0} (cs : List Sort) (more : C → Sort → Bool) (step : C → A → C) (p : List Token → Read Token A) (r : ℕ) → ((ts : List Token) (o : Option A) (k : List Token) → length ts ≤ r → p ts ≡ put o k → length k ≤ length ts) → (m : ℕ) (c : C) (ts : List Token) (o : Option C) (k : List Token) → length ts ≤ r → turns sorts false cs more step p m c ts ≡ put o k → length k ≤ length ts
turns_fewer cs more step p r fewer zero c ts o k le e = omega (arith, ap length (Rattle.dsl_rules.proofs.Law.put_got c ts o k e).1)
turns_fewer cs more step p r fewer (suc m) c ts o k le e = by (λ x mid. turns_fewer cs more step p r fewer m (step c x) mid o k) (may sorts cs (more c) ts) e
  where
    of : ((x : _) (mid : List Token) → length mid ≤ r → turns sorts false cs more step p m (step c x) mid ≡ put o k → length k ≤ length mid) → ((p ts ≡ bad k) × (o ≡ None)) ⊎ ((x : _) × (mid : List Token) × (p ts ≡ got x mid) × (turns sorts false cs more step p m (step c x) mid ≡ put o k)) → length k ≤ length ts
    of again (inl y) = fewer ts None k le y.0
    of again (inr y) = let u = fewer ts (Some y.0) y.1 le y.2 in let v = again y.0 y.1 (omega (arith, u)) y.3 in omega (arith, u, v)

    by : ((x : _) (mid : List Token) → length mid ≤ r → turns sorts false cs more step p m (step c x) mid ≡ put o k → length k ≤ length mid) → (b : Bool) → cond b (p ts >>= λ x mid. turns sorts false cs more step p m (step c x) mid) (got c ts) ≡ put o k → length k ≤ length ts
    by again true e = of again (bind_put (p ts) (λ x mid. turns sorts false cs more step p m (step c x) mid) o k e)
    by again false e = omega (arith, ap length (Rattle.dsl_rules.proofs.Law.put_got c ts o k e).1)

cond_most : (n : ℕ) (b : Bool) → cond b (suc n) n ≤ suc n
cond_most n true = omega arith
cond_most n false = omega arith

pub sort_is : (t : Token) (c : Sort) → among (sorts.sort_of t) (c ∷ []) ≡ true → (cs : List Sort) (b : Bool) → among c cs ≡ b → among (sorts.sort_of t) cs ≡ b
sort_is t c m cs b e = subst (λ z. among z cs ≡ b) (sym (same_is (sorts.sort_of t) c (among_one (sorts.sort_of t) c m))) e

module _ (n n' m m' : ℕ) (L : ℕ → Rules Token Name Value) (E E' : (k : Name) → List Token → Read Token (Value k)) (env : Env sorts Value starts goes opening Also n n' L E E') (most : suc n ≤ m) (most' : suc n' ≤ m') where
  abbrev rd : {A : Type 0} → Rule A → List Token → Read Token A
  rd g ts = read sorts starts m E g ts

  abbrev rm : {A : Type 0} → Rule A → ℕ
  rm g = room sorts Value starts goes opening n g

  fewer : {A : Type 0} (g : Rule A) → FitsHere g → (ts : List Token) (o : Option A) (k : List Token) → length ts ≤ rm g → rd g ts ≡ put o k → length k ≤ length ts
  fewer g w ts o k le e =
      let x = cut sorts (sets sorts Value starts goes opening g) n (rm g) (room sorts Value starts goes opening n' g) (λ h. Derives sorts (L h) g) (read sorts starts m E g) (read sorts starts m' E' g) (law sorts Value starts goes opening Also n n' m m' L E E' env most most' g w) ts o k le e in
      omega (arith, ap length x.1, length-append x.0 k)

  -- Lambdas.

  abbrev names_or_none : Rule (List (List ℕ))
  names_or_none = maybe (λ ns. ns) [] Names

  fits_names_or_none : FitsHere names_or_none
  unfolding Names
  fits_names_or_none = (fits_Names, lift tt, lift (refl, refl))

  names_take : (t : Token) (s : List Token) (o : Option (List (List ℕ))) (k : List Token) → length (t ∷ s) ≤ suc n → among (sorts.sort_of t) (ident_sort ∷ []) ≡ true → rd names_or_none (t ∷ s) ≡ put o k → length k ≤ length s
  unfolding Names
  names_take t s o k le i e = (law sorts Value starts goes opening Also n n' m m' L E E' env most most' names_or_none fits_names_or_none).takes t s o k le (sort_is t ident_sort i (ident_sort ∷ []) true refl) e

  one_name : (y t : Token) (s : List Token) → length (y ∷ t ∷ s) ≤ suc n → among (sorts.sort_of y) (ident_sort ∷ []) ≡ true → among (sorts.sort_of t) (sign_sort signs.CloseParen ∷ []) ≡ true → rd names_or_none (y ∷ t ∷ s) ≡ got (add_name [] (text y)) (t ∷ s)
  unfolding Names
  one_name y t s le i c = (law sorts Value starts goes opening Also n n' m m' L E E' env most most' names_or_none fits_names_or_none).complete 0 (y ∷ t ∷ s) (add_name [] (text y)) (t ∷ s) le (inl (add_name [] (text y), (t ∷ s, add_name [] (text y), [], (text y, (i, refl, refl), refl), (refl, refl)), refl)) quiet
    where
      quiet : Quiet sorts (λ e. Rattle.dsl_rules.proofs.Shape.go sorts Value starts goes opening e names_or_none) (t ∷ s)
      quiet true = at_nothing sorts (over sorts true (t ∷ s))
      quiet false = sort_is t (sign_sort signs.CloseParen) c (Rattle.dsl_rules.proofs.Shape.go sorts Value starts goes opening false names_or_none) false refl

  abbrev close_it : Rule Place
  close_it = sign signs.CloseParen

  -- what reading behind the opening parenthesis leaves
  Inner : List Token → List Token → Type 0
  Inner ts s = (o : Option (List (List ℕ))) (k : List Token) → both_read (λ x _. x) (rd names_or_none) (rd close_it) ts ≡ put o k → length k ≤ length s

  inner_name : (t : Token) (s : List Token) → length (t ∷ s) ≤ suc n → among (sorts.sort_of t) (ident_sort ∷ []) ≡ true → Inner (t ∷ s) s
  unfolding Inner
  inner_name t s le i o k e = by (both_put (λ x _. x) (rd names_or_none) (rd close_it) (t ∷ s) o k e)
    where
      by : ((rd names_or_none (t ∷ s) ≡ bad k) × (o ≡ None)) ⊎ ((a : List (List ℕ)) × (mid : List Token) × (i : Option Place) × (rd names_or_none (t ∷ s) ≡ got a mid) × (rd close_it mid ≡ put i k) × (o ≡ option_map (λ _. a) i)) → length k ≤ length s
      by (inl y) = names_take t s None k le i y.0
      by (inr y) = let u = names_take t s (Some y.0) y.1 le i y.3 in let v = one_fewer (sign_sort signs.CloseParen ∷ []) (λ t. t.place) y.1 y.2 k y.4 in omega (arith, u, v)

  inner_close : (z t : Token) (s : List Token) → length (z ∷ t ∷ s) ≤ suc n → among (sorts.sort_of z) (ident_sort ∷ []) ≡ true → among (sorts.sort_of t) (sign_sort signs.CloseParen ∷ []) ≡ true → Inner (z ∷ t ∷ s) s
  unfolding Inner
  inner_close z t s le i c o k e = by (both_put (λ x _. x) (rd names_or_none) (rd close_it) (z ∷ t ∷ s) o k e)
    where
      is : rd names_or_none (z ∷ t ∷ s) ≡ got (add_name [] (text z)) (t ∷ s)
      is = one_name z t s le i c

      by : ((rd names_or_none (z ∷ t ∷ s) ≡ bad k) × (o ≡ None)) ⊎ ((a : List (List ℕ)) × (mid : List Token) × (i : Option Place) × (rd names_or_none (z ∷ t ∷ s) ≡ got a mid) × (rd close_it mid ≡ put i k) × (o ≡ option_map (λ _. a) i)) → length k ≤ length s
      by (inl y) = absurd (got_bad (add_name [] (text z)) (t ∷ s) k (sym is ∙ y.0))
      by (inr y) =
          let same = got_is (add_name [] (text z)) y.0 (t ∷ s) y.1 (sym is ∙ y.3) in
          let w : got t.place s ≡ put y.2 k = sym (one_is (sign_sort signs.CloseParen ∷ []) (λ t. t.place) t s c) ∙ subst (λ z. rd close_it z ≡ put y.2 k) (sym same.1) y.4 in
          omega (arith, ap length (Rattle.dsl_rules.proofs.Law.put_got t.place s y.2 k w).1)

  params_past : (x : Token) (ts s : List Token) → among (sorts.sort_of x) (sign_sort signs.OpenParen ∷ []) ≡ true → Inner ts s → (o : Option (List (List ℕ))) (k : List Token) → rd Params (x ∷ ts) ≡ put o k → length k ≤ length s
  unfolding Inner Params
  params_past x ts s p inner o k e = by (both_put (λ _ y. y) (rd (sign signs.OpenParen)) (both_read (λ x _. x) (rd names_or_none) (rd close_it)) (x ∷ ts) o k e)
    where
      is : rd (sign signs.OpenParen) (x ∷ ts) ≡ got x.place ts
      is = one_is (sign_sort signs.OpenParen ∷ []) (λ t. t.place) x ts p

      by : ((rd (sign signs.OpenParen) (x ∷ ts) ≡ bad k) × (o ≡ None)) ⊎ ((a : Place) × (mid : List Token) × (i : Option (List (List ℕ))) × (rd (sign signs.OpenParen) (x ∷ ts) ≡ got a mid) × (both_read (λ x _. x) (rd names_or_none) (rd close_it) mid ≡ put i k) × (o ≡ option_map (λ y. y) i)) → length k ≤ length s
      by (inl y) = absurd (got_bad x.place ts k (sym is ∙ y.0))
      by (inr y) = let same = got_is x.place y.0 ts y.1 (sym is ∙ y.3) in inner y.2 k (subst (λ z. both_read (λ x _. x) (rd names_or_none) (rd close_it) z ≡ put y.2 k) (sym same.1) y.4)

  abbrev arrow_body : Rule Statements
  arrow_body = behind (sign signs.Arrow) LambdaBody

  fits_arrow_body : FitsHere arrow_body
  unfolding LambdaBody Returned
  fits_arrow_body = (lift (refl, refl), fits_LambdaBody, lift ((refl, refl), refl))

  lambda_past : (x : Token) (ts s : List Token) → length (x ∷ ts) ≤ suc n → length s ≤ length ts → among (sorts.sort_of x) (sign_sort signs.OpenParen ∷ []) ≡ true → Inner ts s → (o : Option Expression) (k : List Token) → rd Lambda (x ∷ ts) ≡ put o k → length k ≤ length s
  unfolding Lambda LambdaFunc
  lambda_past x ts s le less p inner o k e =
      let i = map_put (λ f. expression x.place (function_value f)) (rd LambdaFunc (x ∷ ts)) o k e in
      by i.0 (both_put (λ ps b. function ps no_uses b) (rd Params) (rd arrow_body) (x ∷ ts) i.0 k i.1)
    where
      by : (i : Option Function) → ((rd Params (x ∷ ts) ≡ bad k) × (i ≡ None)) ⊎ ((a : List (List ℕ)) × (mid : List Token) × (j : Option Statements) × (rd Params (x ∷ ts) ≡ got a mid) × (rd arrow_body mid ≡ put j k) × (i ≡ option_map (λ b. function a no_uses b) j)) → length k ≤ length s
      by i (inl y) = params_past x ts s p inner None k y.0
      by i (inr y) =
          let u = params_past x ts s p inner (Some y.0) y.1 y.3 in
          let v = fewer arrow_body fits_arrow_body y.1 y.2 k (omega (arith, u)) y.4 in
          omega (arith, u, v)

  -- Expressions.

  -- what reading an expression behind the opening parenthesis leaves
  Within : List Token → List Token → Type 0
  Within ts s = (o : Option Expression) (k : List Token) → both_read (λ x _. x) (rd Expr) (rd close_it) ts ≡ put o k → length k ≤ length s

  within_name : (t : Token) (s : List Token) → length (t ∷ s) ≤ n → among (sorts.sort_of t) (ident_sort ∷ []) ≡ true → Within (t ∷ s) s
  unfolding Within
  within_name t s le i o k e = by (both_put (λ x _. x) (rd Expr) (rd close_it) (t ∷ s) o k e)
    where
      take : (o : Option Expression) (k : List Token) → rd Expr (t ∷ s) ≡ put o k → length k ≤ length s
      take o k e = let j = map_put (λ e. e) (E expr (t ∷ s)) o k e in (env.law expr).takes t s j.0 k le (sort_is t ident_sort i (starts expr) true refl) j.1

      by : ((rd Expr (t ∷ s) ≡ bad k) × (o ≡ None)) ⊎ ((a : Expression) × (mid : List Token) × (i : Option Place) × (rd Expr (t ∷ s) ≡ got a mid) × (rd close_it mid ≡ put i k) × (o ≡ option_map (λ _. a) i)) → length k ≤ length s
      by (inl y) = take None k y.0
      by (inr y) = let u = take (Some y.0) y.1 y.3 in let v = one_fewer (sign_sort signs.CloseParen ∷ []) (λ t. t.place) y.1 y.2 k y.4 in omega (arith, u, v)

  within_close : (z t : Token) (s : List Token) → length (z ∷ t ∷ s) ≤ n → among (sorts.sort_of z) (ident_sort ∷ []) ≡ true → among (sorts.sort_of t) (sign_sort signs.CloseParen ∷ []) ≡ true → Within (z ∷ t ∷ s) s
  unfolding Within
  within_close z t s le i c o k e = by (both_put (λ x _. x) (rd Expr) (rd close_it) (z ∷ t ∷ s) o k e)
    where
      named : (e : Expression) × (E expr (z ∷ t ∷ s) ≡ got e (t ∷ s))
      named = env.also.names z t s (among_one (sorts.sort_of z) ident_sort i) (sort_is t (sign_sort signs.CloseParen) c (sign_sort signs.CloseParen ∷ sign_sort signs.Comma ∷ []) true refl) le

      is : rd Expr (z ∷ t ∷ s) ≡ got named.0 (t ∷ s)
      is = rw named.1 refl

      by : ((rd Expr (z ∷ t ∷ s) ≡ bad k) × (o ≡ None)) ⊎ ((a : Expression) × (mid : List Token) × (i : Option Place) × (rd Expr (z ∷ t ∷ s) ≡ got a mid) × (rd close_it mid ≡ put i k) × (o ≡ option_map (λ _. a) i)) → length k ≤ length s
      by (inl y) = absurd (got_bad named.0 (t ∷ s) k (sym is ∙ y.0))
      by (inr y) =
          let same = got_is named.0 y.0 (t ∷ s) y.1 (sym is ∙ y.3) in
          let w : got t.place s ≡ put y.2 k = sym (one_is (sign_sort signs.CloseParen ∷ []) (λ t. t.place) t s c) ∙ subst (λ z. rd close_it z ≡ put y.2 k) (sym same.1) y.4 in
          omega (arith, ap length (Rattle.dsl_rules.proofs.Law.put_got t.place s y.2 k w).1)

  paren_past : (x : Token) (ts s : List Token) → among (sorts.sort_of x) (sign_sort signs.OpenParen ∷ []) ≡ true → Within ts s → (o : Option Expression) (k : List Token) → rd Paren (x ∷ ts) ≡ put o k → length k ≤ length s
  unfolding Within Paren
  paren_past x ts s p inner o k e = by (both_put (λ _ y. y) (rd (sign signs.OpenParen)) (both_read (λ x _. x) (rd Expr) (rd close_it)) (x ∷ ts) o k e)
    where
      is : rd (sign signs.OpenParen) (x ∷ ts) ≡ got x.place ts
      is = one_is (sign_sort signs.OpenParen ∷ []) (λ t. t.place) x ts p

      by : ((rd (sign signs.OpenParen) (x ∷ ts) ≡ bad k) × (o ≡ None)) ⊎ ((a : Place) × (mid : List Token) × (i : Option Expression) × (rd (sign signs.OpenParen) (x ∷ ts) ≡ got a mid) × (both_read (λ x _. x) (rd Expr) (rd close_it) mid ≡ put i k) × (o ≡ option_map (λ y. y) i)) → length k ≤ length s
      by (inl y) = absurd (got_bad x.place ts k (sym is ∙ y.0))
      by (inr y) = let same = got_is x.place y.0 ts y.1 (sym is ∙ y.3) in inner y.2 k (subst (λ z. both_read (λ x _. x) (rd Expr) (rd close_it) z ≡ put y.2 k) (sym same.1) y.4)

  literal_not : (x : Token) → among (sorts.sort_of x) (sign_sort signs.OpenParen ∷ []) ≡ true → among (sorts.sort_of x) (first sorts starts false Literal) ≡ false
  unfolding Literal
  literal_not x p = sort_is x (sign_sort signs.OpenParen) p literal_sorts false refl

  paren_is : (x : Token) → among (sorts.sort_of x) (sign_sort signs.OpenParen ∷ []) ≡ true → among (sorts.sort_of x) (first sorts starts false Paren) ≡ true
  unfolding Paren
  paren_is x p = p

  prim_past : (x : Token) (ts s : List Token) → among (sorts.sort_of x) (sign_sort signs.OpenParen ∷ []) ≡ true → Within ts s → (o : Option Expression) (k : List Token) → rd Prim (x ∷ ts) ≡ put o k → length k ≤ length s
  unfolding Prim
  prim_past x ts s p inner o k e =
      let a = literal_not x p in
      let b = paren_is x p in
      paren_past x ts s p inner o k (subst (λ c. cond c (rd Paren (x ∷ ts)) (rd (either Array (either Dict FunctionLiteral)) (x ∷ ts)) ≡ put o k) b (subst (λ c. cond c (rd Literal (x ∷ ts)) (cond (at sorts (first sorts starts false Paren) (x ∷ ts)) (rd Paren (x ∷ ts)) (rd (either Array (either Dict FunctionLiteral)) (x ∷ ts))) ≡ put o k) a e))

  tail_room : (j : ℕ) → j ≤ suc n → j ≤ rm OneTail
  unfolding OneTail Arguments Listed
  tail_room j le = le

  operator_room : (i j : ℕ) → j ≤ suc n → j ≤ rm (Operator i)
  unfolding Operator
  operator_room i j le = le

  level_room : (i j : ℕ) → j ≤ suc n → j ≤ rm (Level i)
  level_room i j le = subst (λ b. j ≤ cond b (suc n) n) (sym (level_guarded i)) le

  postfix_past : (x : Token) (ts s : List Token) → length (x ∷ ts) ≤ suc n → length s ≤ length ts → among (sorts.sort_of x) (sign_sort signs.OpenParen ∷ []) ≡ true → Within ts s → (o : Option Begun) (k : List Token) → rd Postfix (x ∷ ts) ≡ put o k → length k ≤ length s
  unfolding Postfix BegunPrim
  postfix_past x ts s le less p inner o k e = by (bind_put (rd BegunPrim (x ∷ ts)) (turns sorts false tail_sorts always with_tail (rd OneTail) m) o k e)
    where
      prim : (o : Option Begun) (k : List Token) → rd BegunPrim (x ∷ ts) ≡ put o k → length k ≤ length s
      prim o k e = let i = map_put (λ e. begun x.place e) (rd Prim (x ∷ ts)) o k e in prim_past x ts s p inner i.0 k i.1

      by : ((rd BegunPrim (x ∷ ts) ≡ bad k) × (o ≡ None)) ⊎ ((c : Begun) × (mid : List Token) × (rd BegunPrim (x ∷ ts) ≡ got c mid) × (turns sorts false tail_sorts always with_tail (rd OneTail) m c mid ≡ put o k)) → length k ≤ length s
      by (inl y) = prim None k y.0
      by (inr y) =
          let u = prim (Some y.0) y.1 y.2 in
          let v = turns_fewer tail_sorts always with_tail (rd OneTail) (suc n) (λ ts o k le e. fewer OneTail fits_OneTail ts o k (tail_room (length ts) le) e) m y.0 y.1 o k (omega (arith, u)) y.3 in
          omega (arith, u, v)

  prefixed_not : (x : Token) → among (sorts.sort_of x) (sign_sort signs.OpenParen ∷ []) ≡ true → among (sorts.sort_of x) (first sorts starts false (both with_prefixes Prefixes (made begun_expression Postfix))) ≡ false
  unfolding Prefixes Postfix BegunPrim Prim Literal Paren Array BracketedElements Elements CommaSlot Slot Dict BracedPairs Pairs MaybePair PairRule FunctionLiteral FunctionFunc Func Params Names MaybeUse UseList UseNames OneUse OneTail Arguments Listed
  prefixed_not x p = sort_is x (sign_sort signs.OpenParen) p (first sorts starts false (both with_prefixes Prefixes (made begun_expression Postfix))) false refl

  unary_past : (x : Token) (ts s : List Token) → length (x ∷ ts) ≤ suc n → length s ≤ length ts → among (sorts.sort_of x) (sign_sort signs.OpenParen ∷ []) ≡ true → Within ts s → (o : Option Begun) (k : List Token) → rd Unary (x ∷ ts) ≡ put o k → length k ≤ length s
  unfolding Unary Prefixed
  unary_past x ts s le less p inner o k e =
      let i = map_put (λ e. begun x.place e) (rd Prefixed (x ∷ ts)) o k e in
      let j = subst (λ c. cond c (rd (both with_prefixes Prefixes (made begun_expression Postfix)) (x ∷ ts)) (rd (made begun_expression Postfix) (x ∷ ts)) ≡ put i.0 k) (prefixed_not x p) i.1 in
      let z = map_put begun_expression (rd Postfix (x ∷ ts)) i.0 k j in
      postfix_past x ts s le less p inner z.0 k z.1

  -- what stands behind an operand takes no more than there is
  operand_fewer : (j : ℕ) → j < 11 → (ts : List Token) (o : Option (Pair BinOp Begun)) (k : List Token) → length ts ≤ suc n → both_read pair (rd (Operator j)) (rd (Level j)) ts ≡ put o k → length k ≤ length ts
  operand_fewer j h ts o k le e = by (both_put pair (rd (Operator j)) (rd (Level j)) ts o k e)
    where
      by : ((rd (Operator j) ts ≡ bad k) × (o ≡ None)) ⊎ ((a : BinOp) × (mid : List Token) × (i : Option Begun) × (rd (Operator j) ts ≡ got a mid) × (rd (Level j) mid ≡ put i k) × (o ≡ option_map (pair a) i)) → length k ≤ length ts
      by (inl y) = fewer (Operator j) (fits_Operator j h) ts None k (operator_room j (length ts) le) y.0
      by (inr y) =
          let u = fewer (Operator j) (fits_Operator j h) ts (Some y.0) y.1 (operator_room j (length ts) le) y.3 in
          let v = fewer (Level j) (fits_Level j (omega arith)) y.1 y.2 k (level_room j (length y.1) (omega (arith, u))) y.4 in
          omega (arith, u, v)

  level_past : (j : ℕ) → j ≤ 11 → (x : Token) (ts s : List Token) → length (x ∷ ts) ≤ suc n → length s ≤ length ts → among (sorts.sort_of x) (sign_sort signs.OpenParen ∷ []) ≡ true → Within ts s → (o : Option Begun) (k : List Token) → rd (Level j) (x ∷ ts) ≡ put o k → length k ≤ length s
  unfolding Level
  level_past zero h x ts s le less p inner o k e = unary_past x ts s le less p inner o k e
  level_past (suc j) h x ts s le less p inner o k e = by (λ o k e. level_past j (omega arith) x ts s le less p inner o k e) (bind_put (rd (Level j) (x ∷ ts)) (turns sorts false (level_sorts j) always (fold_pair joined) (both_read pair (rd (Operator j)) (rd (Level j))) m) o k e)
    where
      by : ((o : Option Begun) (k : List Token) → rd (Level j) (x ∷ ts) ≡ put o k → length k ≤ length s) → ((rd (Level j) (x ∷ ts) ≡ bad k) × (o ≡ None)) ⊎ ((c : Begun) × (mid : List Token) × (rd (Level j) (x ∷ ts) ≡ got c mid) × (turns sorts false (level_sorts j) always (fold_pair joined) (both_read pair (rd (Operator j)) (rd (Level j))) m c mid ≡ put o k)) → length k ≤ length s
      by again (inl y) = again None k y.0
      by again (inr y) =
          let u = again (Some y.0) y.1 y.2 in
          let v = turns_fewer (level_sorts j) always (fold_pair joined) (both_read pair (rd (Operator j)) (rd (Level j))) (suc n) (λ ts o k le e. operand_fewer j (omega arith) ts o k le e) m y.0 y.1 o k (omega (arith, u)) y.3 in
          omega (arith, u, v)

  past : (b : Bool) (x : Token) (ts s : List Token) → length (x ∷ ts) ≤ suc n → length s ≤ length ts → among (sorts.sort_of x) (sign_sort signs.OpenParen ∷ []) ≡ true → Inner ts s → Within ts s → (o : Option Expression) (k : List Token) → cond b (rd Lambda (x ∷ ts)) (rd (made begun_expression (Level 11)) (x ∷ ts)) ≡ put o k → length k ≤ length s
  past true x ts s le less p inner within o k e = lambda_past x ts s le less p inner o k e
  past false x ts s le less p inner within o k e = let i = map_put begun_expression (rd (Level 11) (x ∷ ts)) o k e in level_past 11 (omega arith) x ts s le less p within i.0 k i.1

  pub past_first : (b : Bool) (x t : Token) (s f : List Token) (o : Option Expression) → length (x ∷ t ∷ s) ≤ suc n → among (sorts.sort_of x) (sign_sort signs.OpenParen ∷ []) ≡ true → among (sorts.sort_of t) (ident_sort ∷ []) ≡ true → cond b (rd Lambda (x ∷ t ∷ s)) (rd (made begun_expression (Level 11)) (x ∷ t ∷ s)) ≡ put o (f ++ t ∷ s) → ⊥
  past_first b x t s f o le p i e = let w = past b x (t ∷ s) s le (omega arith) p (inner_name t s (omega arith) i) (within_name t s (omega arith) i) o (f ++ t ∷ s) e in omega (arith, w, length-append f (t ∷ s))

  pub past_second : (b : Bool) (x y t : Token) (s f : List Token) (o : Option Expression) → length (x ∷ y ∷ t ∷ s) ≤ suc n → among (sorts.sort_of x) (sign_sort signs.OpenParen ∷ []) ≡ true → among (sorts.sort_of y) (ident_sort ∷ []) ≡ true → among (sorts.sort_of t) (sign_sort signs.CloseParen ∷ []) ≡ true → cond b (rd Lambda (x ∷ y ∷ t ∷ s)) (rd (made begun_expression (Level 11)) (x ∷ y ∷ t ∷ s)) ≡ put o (f ++ t ∷ s) → ⊥
  past_second b x y t s f o le p i c e = let w = past b x (y ∷ t ∷ s) s le (omega arith) p (inner_close y t s (omega arith) i c) (within_close y t s (omega arith) i c) o (f ++ t ∷ s) e in omega (arith, w, length-append f (t ∷ s))

  -- Lambdas that are expressions otherwise.

  head_of : (cs : List Sort) (ts : List Token) → at sorts cs ts ≡ true → (t : Token) × (us : List Token) × (ts ≡ t ∷ us) × (among (sorts.sort_of t) cs ≡ true)
  head_of cs [] a = absurd cc
  head_of cs (t ∷ ts) a = (t, ts, refl, a)

  at_apart : (cs ds : List Sort) → apart cs ds ≡ true → (ts : List Token) → at sorts cs ts ≡ true → at sorts ds ts ≡ false
  at_apart cs ds h [] a = refl
  at_apart cs ds h (t ∷ ts) a = apart_not (sorts.sort_of t) cs ds h a

  clash : (cs ds : List Sort) → apart cs ds ≡ true → (ts : List Token) → at sorts cs ts ≡ true → at sorts ds ts ≡ true → ⊥
  clash cs ds h ts a m = true≢false (sym m ∙ at_apart cs ds h ts a)

  -- what an expression in parentheses is made of
  Inside : ℕ → List Token → List Token → Type 0
  Inside h ts after = (e : Expression) × (m2 : List Token) × L h expr (drop 1 ts) e m2 × (at sorts (sign_sort signs.CloseParen ∷ []) m2 ≡ true) × (drop 1 m2 ≡ after)

  inside_of : (h : ℕ) (ts : List Token) (e : Expression) (after : List Token) → Derives sorts (L h) Paren ts e after → Inside h ts after
  unfolding Inside Paren
  inside_of h ts e after d =
      let x = one_at (sign_sort signs.OpenParen ∷ []) (λ t. t.place) ts d.1 d.0 d.3 in
      let y = d.4 in
      let z = one_at (sign_sort signs.CloseParen ∷ []) (λ t. t.place) y.0 y.2 after y.4 in
      (y.3.0, y.0, subst (λ k. L h expr k y.3.0 y.0) (sym x.1) y.3.1, z.0, z.1)

  -- behind a parenthesis that closes over a name alone
  single : (h : ℕ) (ts after : List Token) → length ts ≤ suc n → at sorts (ident_sort ∷ []) (drop 1 ts) ≡ true → (cs : List Sort) → apart cs (sign_sort signs.CloseParen ∷ []) ≡ true ⊎ (cs ≡ sign_sort signs.CloseParen ∷ []) → (sub : (t : Token) → among (sorts.sort_of t) cs ≡ true → among (sorts.sort_of t) (sign_sort signs.CloseParen ∷ sign_sort signs.Comma ∷ []) ≡ true) → at sorts cs (drop 1 (drop 1 ts)) ≡ true → Inside h ts after → (at sorts (sign_sort signs.CloseParen ∷ []) (drop 1 (drop 1 ts)) ≡ true) × (after ≡ drop 1 (drop 1 (drop 1 ts)))
  unfolding Inside
  single h [] after le i cs how sub c y = absurd cc
  single h (x ∷ []) after le i cs how sub c y = absurd cc
  single h (x ∷ t ∷ []) after le i cs how sub c y = absurd cc
  single h (x ∷ t ∷ u ∷ s) after le i cs how sub c y =
      let z = env.also.names t u s (among_one (sorts.sort_of t) ident_sort i) (sub u c) (omega arith) in
      let w = (env.law expr).complete h (t ∷ u ∷ s) y.0 y.1 (omega arith) y.2 (quiet y.1 y.3) in
      let same = got_is y.0 z.0 y.1 (u ∷ s) (sym w ∙ z.1) in
      (subst (λ k. at sorts (sign_sort signs.CloseParen ∷ []) k ≡ true) same.1 y.3, sym y.4 ∙ ap (drop 1) same.1)
    where
      quiet : (ts : List Token) → at sorts (sign_sort signs.CloseParen ∷ []) ts ≡ true → Quiet sorts (λ e. cond e [] (goes expr)) ts
      quiet ts a true = at_nothing sorts (over sorts true ts)
      quiet ts a false = at_apart (sign_sort signs.CloseParen ∷ []) (goes expr) refl ts a

  not_lambda : (h : ℕ) (ts rest after : List Token) → length ts ≤ suc n → Inside h ts after → (at sorts (sign_sort signs.Arrow ∷ []) after ≡ true → rest ≡ after) → at sorts (sign_sort signs.Arrow ∷ []) rest ≡ false → behind_open (drop 1 ts) ≡ true → ⊥
  unfolding Inside
  not_lambda h ts rest after le y ends quiet b = of (at sorts (sign_sort signs.CloseParen ∷ []) (drop 1 ts)) refl b
    where
      closed : at sorts (sign_sort signs.CloseParen ∷ []) (drop 1 ts) ≡ true → ⊥
      closed c = clash (sign_sort signs.CloseParen ∷ []) (starts expr) refl (drop 1 ts) c (begins_with sorts (name_sets sorts Value starts goes opening expr) n n n' (λ h. L h expr) (E expr) (E' expr) (env.law expr) refl h (drop 1 ts) y.0 y.1 y.2)

      comma : at sorts (ident_sort ∷ []) (drop 1 ts) ≡ true → at sorts (sign_sort signs.Comma ∷ []) (drop 1 (drop 1 ts)) ≡ true → ⊥
      comma i c =
          let z = single h ts after le i (sign_sort signs.Comma ∷ []) (inl refl) (λ t m. sort_is t (sign_sort signs.Comma) m (sign_sort signs.CloseParen ∷ sign_sort signs.Comma ∷ []) true refl) c y in
          clash (sign_sort signs.Comma ∷ []) (sign_sort signs.CloseParen ∷ []) refl (drop 1 (drop 1 ts)) c z.0

      arrow : at sorts (ident_sort ∷ []) (drop 1 ts) ≡ true → at sorts (sign_sort signs.CloseParen ∷ []) (drop 1 (drop 1 ts)) ≡ true → at sorts (sign_sort signs.Arrow ∷ []) (drop 1 (drop 1 (drop 1 ts))) ≡ true → ⊥
      arrow i c a =
          let z = single h ts after le i (sign_sort signs.CloseParen ∷ []) (inr refl) (λ t m. sort_is t (sign_sort signs.CloseParen) m (sign_sort signs.CloseParen ∷ sign_sort signs.Comma ∷ []) true refl) c y in
          let there : at sorts (sign_sort signs.Arrow ∷ []) after ≡ true = subst (λ k. at sorts (sign_sort signs.Arrow ∷ []) k ≡ true) (sym z.1) a in
          true≢false (sym (subst (λ k. at sorts (sign_sort signs.Arrow ∷ []) k ≡ true) (sym (ends there)) there) ∙ quiet)

      last : (c : Bool) → at sorts (sign_sort signs.Comma ∷ []) (drop 1 (drop 1 ts)) ≡ c → at sorts (ident_sort ∷ []) (drop 1 ts) ≡ true → or c (and (at sorts (sign_sort signs.CloseParen ∷ []) (drop 1 (drop 1 ts))) (at sorts (sign_sort signs.Arrow ∷ []) (drop 1 (drop 1 (drop 1 ts))))) ≡ true → ⊥
      last true m i b = comma i m
      last false m i b = arrow i (and_left (at sorts (sign_sort signs.CloseParen ∷ []) (drop 1 (drop 1 ts))) (at sorts (sign_sort signs.Arrow ∷ []) (drop 1 (drop 1 (drop 1 ts)))) b) (and_right (at sorts (sign_sort signs.CloseParen ∷ []) (drop 1 (drop 1 ts))) (at sorts (sign_sort signs.Arrow ∷ []) (drop 1 (drop 1 (drop 1 ts)))) b)

      of : (c : Bool) → at sorts (sign_sort signs.CloseParen ∷ []) (drop 1 ts) ≡ c → or c (and (at sorts (ident_sort ∷ []) (drop 1 ts)) (or (at sorts (sign_sort signs.Comma ∷ []) (drop 1 (drop 1 ts))) (and (at sorts (sign_sort signs.CloseParen ∷ []) (drop 1 (drop 1 ts))) (at sorts (sign_sort signs.Arrow ∷ []) (drop 1 (drop 1 (drop 1 ts))))))) ≡ true → ⊥
      of true m b = closed m
      of false m b =
          let i = and_left (at sorts (ident_sort ∷ []) (drop 1 ts)) (or (at sorts (sign_sort signs.Comma ∷ []) (drop 1 (drop 1 ts))) (and (at sorts (sign_sort signs.CloseParen ∷ []) (drop 1 (drop 1 ts))) (at sorts (sign_sort signs.Arrow ∷ []) (drop 1 (drop 1 (drop 1 ts)))))) b in
          last (at sorts (sign_sort signs.Comma ∷ []) (drop 1 (drop 1 ts))) refl i (and_right (at sorts (ident_sort ∷ []) (drop 1 ts)) (or (at sorts (sign_sort signs.Comma ∷ []) (drop 1 (drop 1 ts))) (and (at sorts (sign_sort signs.CloseParen ∷ []) (drop 1 (drop 1 ts))) (at sorts (sign_sort signs.Arrow ∷ []) (drop 1 (drop 1 (drop 1 ts)))))) b)

  pub no_lambda : (h : ℕ) (ts : List Token) (e : Expression) (rest : List Token) → length ts ≤ suc n → Derives sorts (L h) (made begun_expression (Level 11)) ts e rest → at sorts (sign_sort signs.Arrow ∷ []) rest ≡ false → begins_lambda ts ≡ false
  no_lambda h ts e rest le d quiet = by (begins_lambda ts) refl
    where
      by : (b : Bool) → begins_lambda ts ≡ b → b ≡ false
      by false m = refl
      by true m =
          let y = level_parened (L h) 11 ts d.0 rest d.1 (and_left (at sorts (sign_sort signs.OpenParen ∷ []) ts) (behind_open (drop 1 ts)) m) in
          absurd (not_lambda h ts rest y.1 le (inside_of h ts y.0 y.1 y.2) y.3 quiet (and_right (at sorts (sign_sort signs.OpenParen ∷ []) ts) (behind_open (drop 1 ts)) m))

pub tells : AheadsHere (sign_sort signs.Arrow ∷ []) begins_lambda Lambda (made begun_expression (Level 11))
unfolding Lambda LambdaFunc Params
tells n n' m m' L E E' env most most' lg lh = record {
  first_holds = λ h ts a rest le d. lambda_at (L h) ts a rest d;
  second_fails = λ h ts a rest le d q. no_lambda n n' m m' L E E' env most most' h ts a rest (let k = cond_most n b0 in omega (arith, k)) d (at_none_right sorts (Rattle.dsl_rules.proofs.Shape.go sorts Value starts goes opening false Lambda ++ Rattle.dsl_rules.proofs.Shape.go sorts Value starts goes opening false (made begun_expression (Level 11))) (sign_sort signs.Arrow ∷ []) rest (q false));
  begins = λ ts e. and_left (at sorts (sign_sort signs.OpenParen ∷ []) ts) (behind_open (drop 1 ts)) e;
  settled = λ b front t s s' f o le le' is e. settles front t s s' b is (λ none p. first b t s f o p (subst (λ z. length (z ++ t ∷ s) ≤ suc n) none (let k = cond_most n b0 in omega (arith, k))) (subst (λ z. cond b (read sorts starts m E Lambda (z ++ t ∷ s)) (read sorts starts m E (made begun_expression (Level 11)) (z ++ t ∷ s)) ≡ put o (f ++ t ∷ s)) none e))
      (λ x none p i. past_first n n' m m' L E E' env most most' b x t s f o (subst (λ z. length (z ++ t ∷ s) ≤ suc n) none (let k = cond_most n b0 in omega (arith, k))) p i (subst (λ z. cond b (read sorts starts m E Lambda (z ++ t ∷ s)) (read sorts starts m E (made begun_expression (Level 11)) (z ++ t ∷ s)) ≡ put o (f ++ t ∷ s)) none e))
      (λ x y none p i c. past_second n n' m m' L E E' env most most' b x y t s f o (subst (λ z. length (z ++ t ∷ s) ≤ suc n) none (let k = cond_most n b0 in omega (arith, k))) p i c (subst (λ z. cond b (read sorts starts m E Lambda (z ++ t ∷ s)) (read sorts starts m E (made begun_expression (Level 11)) (z ++ t ∷ s)) ≡ put o (f ++ t ∷ s)) none e));
}
  where
    b0 : Bool
    b0 = and (guarded sorts Value starts goes opening Lambda) (guarded sorts Value starts goes opening (made begun_expression (Level 11)))

    first : (b : Bool) (t : Token) (s f : List Token) (o : Option Expression) → among (sorts.sort_of t) (sign_sort signs.OpenParen ∷ []) ≡ true → length (t ∷ s) ≤ suc n → cond b (read sorts starts m E Lambda (t ∷ s)) (read sorts starts m E (made begun_expression (Level 11)) (t ∷ s)) ≡ put o (f ++ t ∷ s) → ⊥
    first true t s f o p le e = let x = lg.takes t s o (f ++ t ∷ s) (subst (λ b. length (t ∷ s) ≤ cond b (suc n) n) (sym (level_guarded 11)) le) p e in omega (arith, x, length-append f (t ∷ s))
    first false t s f o p le e = let x = lh.takes t s o (f ++ t ∷ s) (subst (λ b. length (t ∷ s) ≤ cond b (suc n) n) (sym (level_guarded 11)) le) (sort_is t (sign_sort signs.OpenParen) p (sure sorts Value starts goes opening (Level 11)) true (level_sure_paren 11)) e in omega (arith, x, length-append f (t ∷ s))
