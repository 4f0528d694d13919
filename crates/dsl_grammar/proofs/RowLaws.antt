-- A row, read from left to right, is things between separators.
use Rattle.std.proofs.Common.{◌≡◌, ℕ, List, [], ◌∷◌, true, false, fold, refl, sym, ◌∙◌, subst, inl, inr}
use Rattle.site_base.specs.declared.place.Place.{Place}
use Rattle.dsl_syntax.specs.Syntax.{no_entries, no_statements}
use Rattle.dsl_lexer.specs.declared.token.Token.{Token}
use Rattle.dsl_rules.specs.Alphabet.{Sort}
use Rattle.dsl_rules.specs.Rules.{Rule as RuleOf, Both, Made, Either, Empty, Turns, may}
use Rattle.dsl_rules.specs.Grammar.{Rules, Derives, always}
use Rattle.dsl_grammar.specs.Codes.{sorts}
use Rattle.dsl_grammar.specs.Terms.{Name, Value, Rule, Turn, nothing, thing, add_turn, maybe, row_of, sep, bsep}
use Rattle.dsl_grammar.specs.Grammar.{names, Pair, Pairs, MaybePair, add_pair, BodyStatement, BodyStatements, MaybeBodyStatement, AnyStatement, BlockStatements, MaybeStatement, Top, FileStatements, MaybeTop}
use Rattle.dsl_syntax.specs.Lists.{add_statement}
use Rattle.dsl_grammar.specs.Table.{Same, Many, Separator, Further, Row}
use Rattle.dsl_grammar.proofs.Turns.{may_at}
use Rattle.dsl_grammar.proofs.Defining.{one_at}

module _ {A C : Type 0} (seps : List Sort) (add : C → A → C) (X : RuleOf Token A) where
  -- a thing, or none
  abbrev Maybe : RuleOf Token (Turn A)
  Maybe ts x rest = Either (Made thing X) (Empty nothing) ts x rest

  -- the turns of a row
  abbrev Behind : RuleOf Token (Turn A)
  Behind ts x rest = Both (λ _ x. x) (Separator seps) Maybe ts x rest

  abbrev Rest : List (Turn A) → C → List Token → C → List Token → Type 0
  Rest xs c ts d rest = Turns sorts false seps always (add_turn add) Behind xs c ts d rest

  -- things and separators behind a thing
  abbrev Followed : C → List Token → C → List Token → Type 0
  Followed c ts d rest = (mid : List Token) × (ys : List A) × (ps : List Place) × Many (Further seps X) ts ys mid × Many (Separator seps) mid ps rest × (fold add c ys ≡ d)

  -- one separator more before what follows
  with_separator : (c d : C) (p : Place) (ts mid rest : List Token) → Separator seps ts p mid → Followed c mid d rest → Followed c ts d rest
  with_separator c d p ts mid rest s (m, [], ps, ys, qs, e) = (ts, [], p ∷ ps, refl, (mid, s, subst (λ z. Many (Separator seps) z ps rest) (sym ys) qs), e)
  with_separator c d p ts mid rest s (m, y ∷ ys, ps, (n, (k, q, y', t, (l, ts', y'', us, x, e2), e1), more), qs, e) = (m, y ∷ ys, ps, (n, (mid, p, y', s, (l, q ∷ ts', y'', (k, t, us), x, e2), e1), more), qs, e)

  -- the turns behind a thing
  followed : (xs : List (Turn A)) (c : C) (ts : List Token) (d : C) (rest : List Token) → Rest xs c ts d rest → Followed c ts d rest
  followed [] c ts d rest r = (ts, [], [], refl, r.1, r.0)
  followed (x ∷ xs) c ts d rest (m, h, (k, p, y, s, inl (a, r, e1), e2), more) =
      let w = followed xs (add_turn add c x) m d rest more in
      (w.0, a ∷ w.1, w.2, (m, (k, p, a, s, (k, [], a, refl, r, refl), refl), w.3), w.4, subst (λ z. fold add (add_turn add c z) w.1 ≡ d) (sym (e1 ∙ e2)) w.5)
  followed (x ∷ xs) c ts d rest (m, h, (k, p, y, s, inr (e1, e3), e2), more) =
      let w = followed xs (add_turn add c x) m d rest more in
      with_separator c d p ts k rest s (subst (λ z. Followed c z d rest) (sym e3) (subst (λ z. Followed (add_turn add c z) m d rest) (sym (e1 ∙ e2)) w))

  -- things and separators
  abbrev Led : C → List Token → C → List Token → Type 0
  Led none ts d rest = Row seps add none X ts d rest

  -- what the turns before the first thing are
  one_before : (none d : C) (p : Place) (ts mid rest : List Token) → Separator seps ts p mid → Led none mid d rest → Led none ts d rest
  one_before none d p ts mid rest s (m, ps, xs, qs, r, e) = (m, p ∷ ps, xs, (mid, s, qs), r, e)

  begun : (none d : C) (a : A) (ts mid rest : List Token) → X ts a mid → Followed (add none a) mid d rest → Led none ts d rest
  begun none d a ts mid rest r (m, ys, ps, more, qs, e) = (ts, [], a ∷ ys, refl, inl (m, a ∷ ys, ps, (mid, a, ys, r, more, refl), qs, refl), e)

  led : (xs : List (Turn A)) (none : C) (ts : List Token) (d : C) (rest : List Token) → Rest xs none ts d rest → Led none ts d rest
  led [] none ts d rest r = (ts, [], [], refl, inr (refl, r.1), r.0)
  led (x ∷ xs) none ts d rest (m, h, (k, p, y, s, inl (a, r, e1), e2), more) =
      one_before none d p ts k rest s (begun none d a k m rest r (subst (λ z. Followed (add_turn add none z) m d rest) (sym (e1 ∙ e2)) (followed xs (add_turn add none x) m d rest more)))
  led (x ∷ xs) none ts d rest (m, h, (k, p, y, s, inr (e1, e3), e2), more) =
      one_before none d p ts k rest s (subst (λ z. Led none z d rest) (sym e3) (subst (λ z. Led (add_turn add none z) m d rest) (sym (e1 ∙ e2)) (led xs (add_turn add none x) m d rest more)))

  -- And back.

  -- a separator is a turn
  turn_here : (c : C) (ts : List Token) (p : Place) (mid : List Token) → Separator seps ts p mid → may sorts seps (always c) ts ≡ true
  turn_here c ts p mid s = may_at seps ts ∙ (one_at seps (λ t. t.place) ts p mid s).0

  -- turns from here on
  abbrev Turned : C → List Token → C → List Token → Type 0
  Turned c ts d rest = (xs : List (Turn A)) × Rest xs c ts d rest

  nothing_first : (c d : C) (p : Place) (ts mid rest : List Token) → Separator seps ts p mid → Turned c mid d rest → Turned c ts d rest
  nothing_first c d p ts mid rest s r = (nothing ∷ r.0, (mid, turn_here c ts p mid s, (mid, p, nothing, s, inr (refl, refl), refl), r.1))

  -- separators, and the things between them, are turns
  turns_of_separators : (ps : List Place) (c d : C) (ts mid rest : List Token) → Many (Separator seps) ts ps mid → Turned c mid d rest → Turned c ts d rest
  turns_of_separators [] c d ts mid rest e r = subst (λ z. Turned c z d rest) (sym e) r
  turns_of_separators (p ∷ ps) c d ts mid rest (m, s, more) r = nothing_first c d p ts m rest s (turns_of_separators ps c d m mid rest more r)

  turns_of_further : (ps : List Place) (p : Place) (a : A) (c d : C) (ts k l mid rest : List Token) → Separator seps ts p k → Many (Separator seps) k ps l → X l a mid → Turned (add c a) mid d rest → Turned c ts d rest
  turns_of_further [] p a c d ts k l mid rest s e x r = (thing a ∷ r.0, (mid, turn_here c ts p k s, (k, p, thing a, s, inl (a, subst (λ z. X z a mid) (sym e) x, refl), refl), r.1))
  turns_of_further (q ∷ ps) p a c d ts k l mid rest s (m, t, more) x r = nothing_first c d p ts k rest s (turns_of_further ps q a c d k m l mid rest t more x r)

  turns_of_things : (ys : List A) (c d : C) (ts mid rest : List Token) → Many (Further seps X) ts ys mid → Turned (fold add c ys) mid d rest → Turned c ts d rest
  turns_of_things [] c d ts mid rest e r = subst (λ z. Turned c z d rest) (sym e) r
  turns_of_things (y ∷ ys) c d ts mid rest (m, (k, p, a, s, (l, ps, b, us, x, e2), e1), more) r =
      turns_of_further ps p y c d ts k l m rest s us (subst (λ z. X l z m) (e2 ∙ e1) x) (turns_of_things ys (add c y) d m mid rest more r)

  -- what is read as a row
  abbrev RowRead : C → List Token → C → List Token → Type 0
  RowRead none ts d rest = (mid : List Token) × (c : C) × (xs : List (Turn A)) × Made (add_turn add none) Maybe ts c mid × Rest xs c mid d rest

  read_behind : (none d : C) (ts rest : List Token) → Turned none ts d rest → RowRead none ts d rest
  read_behind none d ts rest r = (ts, none, r.0, (nothing, inr (refl, refl), refl), r.1)

  read_first : (ps : List Place) (a : A) (none d : C) (ts l mid rest : List Token) → Many (Separator seps) ts ps l → X l a mid → Turned (add none a) mid d rest → RowRead none ts d rest
  read_first [] a none d ts l mid rest e x r = (mid, add none a, r.0, (thing a, inl (a, subst (λ z. X z a mid) (sym e) x, refl), refl), r.1)
  read_first (p ∷ ps) a none d ts l mid rest (m, s, more) x r = read_behind none d ts rest (turns_of_further ps p a none d ts m l mid rest s more x r)

  -- both ways
  row_read : (none d : C) (ts rest : List Token) → Led none ts d rest → RowRead none ts d rest
  row_read none d ts rest (m, ps, xs, qs, inl (n, zs, rs, (k, a, ys, x, more, e3), us, e2), e1) =
      let e : fold add none (a ∷ ys) ≡ d = subst (λ z. fold add none z ≡ d) (sym (e3 ∙ e2)) e1 in
      read_first ps a none d ts m k rest qs x (turns_of_things ys (add none a) d k n rest more (turns_of_separators rs (fold add none (a ∷ ys)) d n rest rest us ([], (e, refl))))
  row_read none d ts rest (m, ps, xs, qs, inr (e2, e3), e1) = read_behind none d ts rest (turns_of_separators ps none d ts m rest qs ([], (subst (λ z. fold add none z ≡ d) (sym e2) e1, e3)))

  row_led : (none d : C) (ts rest : List Token) → RowRead none ts d rest → Led none ts d rest
  row_led none d ts rest (m, c, xs, (x, inl (a, r, e1), e2), more) = begun none d a ts m rest r (subst (λ z. Followed z m d rest) (sym (subst (λ z. add_turn add none z ≡ c) (sym e1) e2)) (followed xs c m d rest more))
  row_led none d ts rest (m, c, xs, (x, inr (e1, e3), e2), more) = subst (λ z. Led none z d rest) (sym e3) (subst (λ z. Led z m d rest) (sym (subst (λ z. add_turn add none z ≡ c) (sym e1) e2)) (led xs c m d rest more))

pub row_is : {A C : Type 0} (L : Rules Token Name Value) (seps : List Sort) (add : C → A → C) (none : C) (g : Rule A) → Same (Derives sorts L (row_of seps add none (maybe thing nothing g))) (Row seps add none (Derives sorts L g))
row_is L seps add none g ts c rest = ((λ d. row_led seps add (Derives sorts L g) none c ts rest d), (λ d. row_read seps add (Derives sorts L g) none c ts rest d))

-- The rows of this grammar.

pub pairs_are : (h : ℕ) → Same (Derives sorts (names h) Pairs) (Row bsep add_pair no_entries (Derives sorts (names h) Pair))
unfolding Pairs MaybePair
pairs_are h = row_is (names h) bsep add_pair no_entries Pair

pub body_is : (h : ℕ) → Same (Derives sorts (names h) BodyStatements) (Row bsep add_statement no_statements (Derives sorts (names h) BodyStatement))
unfolding BodyStatements MaybeBodyStatement
body_is h = row_is (names h) bsep add_statement no_statements BodyStatement

pub block_is : (h : ℕ) → Same (Derives sorts (names h) BlockStatements) (Row sep add_statement no_statements (Derives sorts (names h) AnyStatement))
unfolding BlockStatements MaybeStatement
block_is h = row_is (names h) sep add_statement no_statements AnyStatement

pub file_is : (h : ℕ) → Same (Derives sorts (names h) FileStatements) (Row sep add_statement no_statements (Derives sorts (names h) Top))
unfolding FileStatements MaybeTop
file_is h = row_is (names h) sep add_statement no_statements Top
