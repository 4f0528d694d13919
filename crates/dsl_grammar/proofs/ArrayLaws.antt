-- The elements of an array, read from left to right, are things between commas.
use Rattle.std.proofs.Common.{◌≡◌, ℕ, List, [], ◌∷◌, Bool, true, false, fold, Option, Some, None, refl, sym, ap, ◌∙◌, subst, inl, inr}
use Rattle.std.specs.Prelude.{◌⊎◌}
use Rattle.site_base.specs.declared.place.Place.{Place}
use Rattle.dsl_syntax.specs.Syntax.{Expression, Expressions, no_expressions, MaybeExpression, no_expression, some_expression}
use Rattle.dsl_syntax.specs.Lists.{add_expression}
use Rattle.dsl_lexer.specs.declared.token.Token.{Token}
use Rattle.dsl_lexer.specs.declared.sign.Sign.TheVariants as signs
use Rattle.dsl_rules.specs.Alphabet.{Sort, and, at}
use Rattle.dsl_rules.specs.Rules.{Rule as RuleOf, Both, Made, Either, Empty, Turns, may}
use Rattle.dsl_rules.specs.Grammar.{Rules, Derives}
use Rattle.dsl_grammar.specs.Codes.{sorts, sign_sort}
use Rattle.dsl_grammar.specs.Terms.{Name, Value}
use Rattle.dsl_grammar.specs.Grammar.{Expr, Slots, slots, slots_value, may_follow, add_slot, Slot, CommaSlot, Elements as ReadElements, names}
use Rattle.dsl_grammar.specs.Table.{Same, Many, Comma, Next, Elements, Listing}
use Rattle.dsl_grammar.proofs.Turns.{may_at}
use Rattle.dsl_grammar.proofs.Defining.{one_at}

abbrev commas : List Sort
commas = sign_sort signs.Comma ∷ []

no_more : (b : Bool) → and b false ≡ true → ⊥
no_more true e = cc
no_more false e = cc

module _ (X : RuleOf Token Expression) where
  -- an element, or none
  abbrev One : RuleOf Token MaybeExpression
  One ts m rest = Either (Made some_expression X) (Empty no_expression) ts m rest

  abbrev Behind : RuleOf Token MaybeExpression
  Behind ts m rest = Both (λ _ x. x) Comma One ts m rest

  abbrev Rest : List MaybeExpression → Slots → List Token → Slots → List Token → Type 0
  Rest xs c ts d rest = Turns sorts false commas may_follow add_slot Behind xs c ts d rest

  -- behind a comma with no element nothing follows
  stopped : (xs : List MaybeExpression) (c : Expressions) (ts : List Token) (d : Slots) (rest : List Token) → Rest xs (slots c false) ts d rest → (slots c false ≡ d) × (ts ≡ rest)
  stopped [] c ts d rest r = r
  stopped (x ∷ xs) c [] d rest r = absurd (let q : false ≡ true = r.1 in cc)
  stopped (x ∷ xs) c (t ∷ ts) d rest r = absurd (no_more (at sorts commas (t ∷ ts)) r.1)

  abbrev End : List Token → Option Place → List Token → Type 0
  End ts o rest = Either (Made Some Comma) (Empty None) ts o rest

  -- elements behind an element, and a comma behind them
  abbrev Followed : Expressions → List Token → Expressions → List Token → Type 0
  Followed c ts v rest = (mid : List Token) × (ys : List Expression) × (o : Option Place) × Many (Next X) ts ys mid × End mid o rest × (fold add_expression c ys ≡ v)

  followed : (xs : List MaybeExpression) (c : Expressions) (ts : List Token) (d : Slots) (rest : List Token) → Rest xs (slots c true) ts d rest → Followed c ts (slots_value d) rest
  followed [] c ts d rest r = (ts, [], None, refl, inr (refl, r.1), ap slots_value r.0)
  followed (x ∷ xs) c ts d rest (m, h, (k, p, y, s, inl (a, r, e1), e2), more) =
      let w = followed xs (add_expression c a) m d rest (subst (λ z. Rest xs (add_slot (slots c true) z) m d rest) (sym (e1 ∙ e2)) more) in
      (w.0, a ∷ w.1, w.2, (m, (k, p, a, s, r, refl), w.3), w.4, w.5)
  followed (x ∷ xs) c ts d rest (m, h, (k, p, y, s, inr (e1, e3), e2), more) =
      let q = stopped xs c m d rest (subst (λ z. Rest xs (add_slot (slots c true) z) m d rest) (sym (e1 ∙ e2)) more) in
      (ts, [], Some p, refl, inl (p, subst (λ z. Comma ts p z) (e3 ∙ q.1) s, refl), ap slots_value q.0)

  -- what is read
  abbrev Read : List Token → Expressions → List Token → Type 0
  Read ts v rest = (d : Slots) × ((mid : List Token) × (c : Slots) × (xs : List MaybeExpression) × Made (add_slot (slots no_expressions true)) One ts c mid × Rest xs c mid d rest) × (slots_value d ≡ v)

  listed : (ts : List Token) (v : Expressions) (rest : List Token) → Read ts v rest → Listing add_expression no_expressions X ts v rest
  listed ts v rest (d, (m, c, xs, (y, inl (a, r, e1), e2), more), e) =
      let w = followed xs (add_expression no_expressions a) m d rest (subst (λ z. Rest xs z m d rest) (sym (ap (add_slot (slots no_expressions true)) e1 ∙ e2)) more) in
      (a ∷ w.1, inl (w.0, a ∷ w.1, w.2, (m, a, w.1, r, w.3, refl), w.4, refl), w.5 ∙ e)
  listed ts v rest (d, (m, c, xs, (y, inr (e1, e3), e2), more), e) =
      let q = stopped xs no_expressions m d rest (subst (λ z. Rest xs z m d rest) (sym (ap (add_slot (slots no_expressions true)) e1 ∙ e2)) more) in
      ([], inr (refl, e3 ∙ q.1), ap slots_value q.0 ∙ e)

  -- And back.

  follows : (c : Expressions) (ts : List Token) (p : Place) (mid : List Token) → Comma ts p mid → may sorts commas (may_follow (slots c true)) ts ≡ true
  follows c ts p mid s = may_at commas ts ∙ (one_at commas (λ t. t.place) ts p mid s).0

  abbrev Turned : Expressions → List Token → Expressions → List Token → Type 0
  Turned c ts v rest = (xs : List MaybeExpression) × (d : Slots) × Rest xs (slots c true) ts d rest × (slots_value d ≡ v)

  ended : (c : Expressions) (ts : List Token) (o : Option Place) (rest : List Token) → End ts o rest → Turned c ts c rest
  ended c ts o rest (inl (p, s, e)) = (no_expression ∷ [], slots c false, (rest, follows c ts p rest s, (rest, p, no_expression, s, inr (refl, refl), refl), (refl, refl)), refl)
  ended c ts o rest (inr (e1, e2)) = ([], slots c true, (refl, e2), refl)

  turned : (ys : List Expression) (c : Expressions) (ts mid : List Token) (o : Option Place) (rest : List Token) → Many (Next X) ts ys mid → End mid o rest → Turned c ts (fold add_expression c ys) rest
  turned [] c ts mid o rest e last = subst (λ z. Turned c z c rest) (sym e) (ended c mid o rest last)
  turned (y ∷ ys) c ts mid o rest (m, (k, p, a, s, x, e2), more) last =
      let w = turned ys (add_expression c y) m mid o rest more last in
      (some_expression y ∷ w.0, w.1, (m, follows c ts p k s, (k, p, some_expression y, s, inl (y, subst (λ z. X k z m) e2 x, refl), refl), w.2), w.3)

  read_back : (ts : List Token) (v : Expressions) (rest : List Token) → Listing add_expression no_expressions X ts v rest → Read ts v rest
  read_back ts v rest (zs, inl (n, ws, o, (k, a, ys, x, more, e3), last, e2), e) =
      let w = turned ys (add_expression no_expressions a) k n o rest more last in
      (w.1, (k, slots (add_expression no_expressions a) true, w.0, (some_expression a, inl (a, x, refl), refl), w.2), w.3 ∙ subst (λ z. fold add_expression no_expressions z ≡ v) (sym (e3 ∙ e2)) e)
  read_back ts v rest (zs, inr (e1, e3), e) = (slots no_expressions false, (ts, slots no_expressions false, [], (no_expression, inr (refl, refl), refl), (refl, e3)), subst (λ z. fold add_expression no_expressions z ≡ v) (sym e1) e)

pub elements_are : (h : ℕ) → Same (Made slots_value (Derives sorts (names h) ReadElements)) (Listing add_expression no_expressions (Derives sorts (names h) Expr))
unfolding ReadElements Slot CommaSlot
elements_are h ts v rest = ((λ d. listed (Derives sorts (names h) Expr) ts v rest d), (λ d. read_back (Derives sorts (names h) Expr) ts v rest d))
