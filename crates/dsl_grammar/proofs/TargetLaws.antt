-- Assignments lead to the table's targets.
use Rattle.std.proofs.Common.{◌≡◌, ℕ, zero, suc, List, [], ◌∷◌, Bool, true, false, cond, Option, Some, None, is_some, refl, sym, ap, ◌∙◌, subst, inl, inr}
use Rattle.dsl_syntax.specs.Syntax.{at_name, at_this, at_globals, Expression, expression, no_steps, StatementKind, eval}
use Rattle.dsl_lexer.specs.declared.sign.Sign.TheVariants as signs
use Rattle.dsl_lexer.specs.declared.token.Token.{Token}
use Rattle.dsl_lexer.specs.declared.token_kind.TokenKind.{TokenKind}
use Rattle.dsl_lexer.specs.declared.token_kind.TokenKind.TheVariants as kinds
use Rattle.dsl_lexer.specs.declared.word.Word.TheVariants as words
use Rattle.dsl_rules.specs.Alphabet.{Sort, same, among, at}
use Rattle.dsl_rules.specs.Grammar.{Rules, Derives, always}
use Rattle.dsl_rules.specs.Rules.{Turns, may}
use Rattle.dsl_rules.proofs.Basics.{among_left, and_right, both_true}
use Rattle.dsl_grammar.specs.Codes.{sorts, kind_sort, word_sort, sign_sort, ident_sort}
use Rattle.dsl_grammar.specs.Grammar.{names, Target, target, target_of, target_of_kind, with_member, with_index, stepped, Begun, begun, begun_expression, Tail, member_tail, index_tail, with_tail, tail_sorts, OneTail, BegunPrim, Prim, Literal, literal_kind, literal_sorts, Postfix, Prefixed, Unary, Level, Lambda, Whole, Maybe_set, maybe_set, may_set, set_value, evaluated, Setting, setting, assigned, SetTo, SetOrEval}
use Rattle.dsl_grammar.specs.Operators.{set_sorts, set_of}
use Rattle.dsl_grammar.specs.Table.{step_on, step_sorts, set_to, Derived, Same, TableSetOrEval, TableStep, TableTarget, WordBase}
use Rattle.dsl_syntax.specs.Lists.{OneStep, to_member, to_index}
use Rattle.dsl_grammar.specs.Terms.{Name, Value, expr, kind_text}
use Rattle.dsl_grammar.proofs.Defining.{one_at}
use Rattle.dsl_grammar.proofs.Leading.{at_first, at_second, kept, whole_leads}
use Rattle.dsl_grammar.proofs.NameLaws.{env}
use Rattle.dsl_grammar.proofs.Pasts.{sort_is}
use Rattle.dsl_grammar.proofs.Turns.{may_at}

-- Targets are expressions.

-- `this` and `globals` are targets with a step
full : (y : OneStep) (f : Target) → stepped (Some (step_on f y)) ≡ Some (step_on f y)
full (to_member n) (target at_this no_steps) = refl
full (to_member n) (target at_globals no_steps) = refl
full (to_member n) f = refl
full (to_index i) (target at_this no_steps) = refl
full (to_index i) (target at_globals no_steps) = refl
full (to_index i) f = refl

-- with one step more an expression leads one step further
member_led : (c : Begun) (n : List ℕ) (f : Target) → target_of (begun_expression c) ≡ Some f → target_of (begun_expression (with_tail c (member_tail n))) ≡ Some (step_on f (to_member n))
member_led (begun p e) n (target r ss) q = ap (with_member n) q

index_led : (c : Begun) (i : Expression) (f : Target) → target_of (begun_expression c) ≡ Some f → target_of (begun_expression (with_tail c (index_tail i))) ≡ Some (step_on f (to_index i))
index_led (begun p e) i (target r ss) q = ap (with_index i) q

-- where each literal leads
name_led : (k : TokenKind) → among (kind_sort k) (ident_sort ∷ []) ≡ true → target_of_kind (literal_kind k) ≡ Some (target (at_name (kind_text k)) no_steps)
name_led (kinds.Ident t) m = refl
name_led k m = absurd cc

this_led : (k : TokenKind) → among (kind_sort k) (word_sort words.This ∷ []) ≡ true → target_of_kind (literal_kind k) ≡ Some (target at_this no_steps)
this_led (kinds.Word words.This) m = refl
this_led k m = absurd cc

globals_led : (k : TokenKind) → among (kind_sort k) (word_sort words.Globals ∷ []) ≡ true → target_of_kind (literal_kind k) ≡ Some (target at_globals no_steps)
globals_led (kinds.Word words.Globals) m = refl
globals_led k m = absurd cc

-- where a step begins, a tail may
tail_here : (c : Begun) (f : Target) (ts : List Token) → may sorts step_sorts (always f) ts ≡ true → may sorts tail_sorts (always c) ts ≡ true
tail_here c f [] h = absurd cc
tail_here c f (t ∷ ts) h = may_at tail_sorts (t ∷ ts) ∙ among_left (sorts.sort_of t) step_sorts (sign_sort signs.OpenParen ∷ []) (sym (may_at step_sorts (t ∷ ts)) ∙ h)

-- a token of another sort is no parenthesis
no_paren : (t : Token) (c : Sort) → among (sorts.sort_of t) (c ∷ []) ≡ true → among c (sign_sort signs.OpenParen ∷ []) ≡ false → same (kind_sort t.kind) (sign_sort signs.OpenParen) ≡ false
no_paren t c m n = by (same (kind_sort t.kind) (sign_sort signs.OpenParen)) (sort_is t c m (sign_sort signs.OpenParen ∷ []) false n)
  where
    by : (b : Bool) → cond b true false ≡ false → b ≡ false
    by true h = h
    by false h = refl

module _ (L : Rules Token Name Value) where
  -- steps, one after the other
  abbrev Steps : List OneStep → Target → List Token → Target → List Token → Type 0
  Steps ys f ts g rest = Turns sorts false step_sorts always step_on (Derives sorts L TableStep) ys f ts g rest

  -- where a step stands, a turn may be taken
  step_here : (f : Target) (ts : List Token) (y : OneStep) (rest : List Token) → Derives sorts L TableStep ts y rest → may sorts step_sorts (always f) ts ≡ true
  unfolding TableStep
  step_here f ts y rest (inl (n, d, is)) = may_at step_sorts ts ∙ at_first (sign_sort signs.Dot) (sign_sort signs.OpenBracket) ts (one_at (sign_sort signs.Dot ∷ []) (λ t. t.place) ts d.1 d.0 d.3).0
  step_here f ts y rest (inr (i, d, is)) = may_at step_sorts ts ∙ at_second (sign_sort signs.Dot) (sign_sort signs.OpenBracket) ts (one_at (sign_sort signs.OpenBracket ∷ []) (λ t. t.place) ts d.1 d.0 d.3).0

  -- steps are tails that lead there
  steps_led : (ys : List OneStep) (f g : Target) (c : Begun) (mid rest : List Token) → Steps ys f mid g rest → target_of (begun_expression c) ≡ Some f → (xs : List Tail) × (d : Begun) × Turns sorts false tail_sorts always with_tail (Derives sorts L OneTail) xs c mid d rest × (target_of (begun_expression d) ≡ Some g)
  unfolding TableStep OneTail
  steps_led [] f g c mid rest r e = ([], c, (refl, r.1), e ∙ ap Some r.0)
  steps_led (y ∷ ys) f g c mid rest (m, h, inl (n, d, is), turns) e =
      let w = steps_led ys (step_on f y) g (with_tail c (member_tail n)) m rest turns (member_led c n f e ∙ ap (λ z. Some (step_on f z)) is) in
      (member_tail n ∷ w.0, w.1, (m, tail_here c f mid h, inl (n, d, refl), w.2), w.3)
  steps_led (y ∷ ys) f g c mid rest (m, h, inr (i, d, is), turns) e =
      let w = steps_led ys (step_on f y) g (with_tail c (index_tail i)) m rest turns (index_led c i f e ∙ ap (λ z. Some (step_on f z)) is) in
      (index_tail i ∷ w.0, w.1, (m, tail_here c f mid h, inr (inl (i, d, refl)), w.2), w.3)

  -- an operand is an expression of each level
  level_of : (k : ℕ) (ts : List Token) (x : Begun) (rest : List Token) → Derives sorts L Unary ts x rest → Derives sorts L (Level k) ts x rest
  unfolding Level
  level_of zero ts x rest d = d
  level_of (suc k) ts x rest d = (rest, x, [], level_of k ts x rest d, (refl, refl))

  -- the expression that a target is read as
  abbrev Led : Token → List Token → Target → List Token → Type 0
  Led t ts g rest = (same (kind_sort t.kind) (sign_sort signs.OpenParen) ≡ false) × ((e : Expression) × Derives sorts L Whole (t ∷ ts) e rest × (stepped (target_of e) ≡ Some g))

  -- what begins a target, with steps behind it
  base_led : (t : Token) (ts mid : List Token) (c : Sort) (f g : Target) (ys : List OneStep) (rest : List Token) → among (sorts.sort_of t) (c ∷ []) ≡ true → among c literal_sorts ≡ true → among c (sign_sort signs.OpenParen ∷ []) ≡ false → target_of_kind (literal_kind t.kind) ≡ Some f → ts ≡ mid → Steps ys f mid g rest → stepped (Some g) ≡ Some g → Led t ts g rest
  unfolding Whole Unary Prefixed Postfix BegunPrim Prim Literal
  base_led t ts mid c f g ys rest m lit away is end steps whole =
      let w = steps_led ys f g (begun t.place (expression t.place (literal_kind t.kind))) mid rest steps is in
      let x = begun t.place (begun_expression w.1) in
      let d : Derives sorts L Unary (t ∷ ts) x rest = (begun_expression w.1, inr (w.1, (mid, begun t.place (expression t.place (literal_kind t.kind)), w.0, (expression t.place (literal_kind t.kind), inl (sort_is t c m literal_sorts true lit, refl, end), refl), w.2), refl), refl) in
      (no_paren t c m away, (begun_expression w.1, inr (x, level_of 11 (t ∷ ts) x rest d, refl), ap stepped w.3 ∙ whole))

  pub target_led : (t : Token) (ts : List Token) (g : Target) (rest : List Token) → Derives sorts L TableTarget (t ∷ ts) g rest → Led t ts g rest
  unfolding TableTarget
  target_led t ts g rest (inl (mid, f, ys, (n, (m, name, end), is), steps)) =
      base_led t ts mid ident_sort f g ys rest m refl refl (name_led t.kind m ∙ ap Some (ap (λ z. target (at_name z) no_steps) name ∙ is)) end steps (kept step_sorts step_on (Derives sorts L TableStep) (λ z. stepped (Some z) ≡ Some z) (λ f y. full y f) ys f g mid rest steps (subst (λ z. stepped (Some z) ≡ Some z) is refl))
  target_led t ts g rest (inr (mid, f, ys, (k, b, y, base, s, is), steps)) = by base
    where
      all : Steps (y ∷ ys) b k g rest
      all = (mid, step_here b k y mid s, s, subst (λ z. Steps ys z mid g rest) (sym is) steps)

      whole : stepped (Some g) ≡ Some g
      whole = kept step_sorts step_on (Derives sorts L TableStep) (λ z. stepped (Some z) ≡ Some z) (λ f y. full y f) ys f g mid rest steps (subst (λ z. stepped (Some z) ≡ Some z) is (full y b))

      by : Derives sorts L WordBase (t ∷ ts) b k → Led t ts g rest
      by (inl (p, (m, _, end), is)) = base_led t ts k (word_sort words.This) b g (y ∷ ys) rest m refl refl (this_led t.kind m ∙ ap Some is) end all whole
      by (inr (p, (m, _, end), is)) = base_led t ts k (word_sort words.Globals) b g (y ∷ ys) rest m refl refl (globals_led t.kind m ∙ ap Some is) end all whole

  -- each begins with a token
  pub target_some : (g : Target) (rest : List Token) → Derives sorts L TableTarget [] g rest → ⊥
  unfolding TableTarget
  target_some g rest (inl d) = d.3.1
  target_some g rest (inr d) = by d.3.3
    where
      by : Derives sorts L WordBase [] d.3.1 d.3.0 → ⊥
      by (inl w) = w.1
      by (inr w) = w.1

  level_some : (k : ℕ) (x : Begun) (rest : List Token) → Derives sorts L (Level k) [] x rest → ⊥
  unfolding Level Unary
  level_some zero x rest d = d
  level_some (suc k) x rest d = level_some k d.1 d.0 d.3

  pub whole_some : (e : Expression) (rest : List Token) → Derives sorts L Whole [] e rest → ⊥
  unfolding Whole Lambda
  whole_some e rest (inl d) = d
  whole_some e rest (inr (x, d, is)) = level_some 11 x rest d

-- Assignments.

-- what holds at a height holds one above it
deeper : (h : ℕ) (ts : List Token) (e : Expression) (rest : List Token) → names h expr ts e rest → names (suc h) expr ts e rest
deeper h ts e rest d = ((env h 0).law expr).more ts e rest d

set_deeper : (h : ℕ) (ts : List Token) (x : Setting) (rest : List Token) → Derives sorts (names h) SetTo ts x rest → Derives sorts (names (suc h)) SetTo ts x rest
unfolding SetTo
set_deeper h ts x rest (m, o, e, one, (k, n, f, lines, (i, d, e1), e2), e3) = (m, o, e, one, (k, n, f, lines, (i, deeper h k i rest d, e1), e2), e3)

-- where something is set
set_at : (h : ℕ) (ts : List Token) (x : Setting) (rest : List Token) → Derives sorts (names h) SetTo ts x rest → at sorts set_sorts ts ≡ true
unfolding SetTo
set_at h ts x rest d = (one_at set_sorts (λ t. set_of t.kind) ts d.1 d.0 d.3).0

-- what an expression that leads somewhere is read as
evaluated_is : (t : Token) (e : Expression) (g : Target) → same (kind_sort t.kind) (sign_sort signs.OpenParen) ≡ false → stepped (target_of e) ≡ Some g → evaluated t e ≡ maybe_set (eval e) (Some g)
evaluated_is t e g bare q = ap (λ b. maybe_set (eval e) (cond b None (stepped (target_of e)))) bare ∙ ap (maybe_set (eval e)) q

set_is : (s : StatementKind) (g : Target) (x : Setting) → set_value (assigned (maybe_set s (Some g)) x) ≡ set_to g x
set_is s (target r ss) (setting o e) = refl

-- if something may be set here
may_value : (c : Maybe_set) (ts : List Token) → may sorts set_sorts (may_set c) ts ≡ true → (k : Sort) × (may_set c k ≡ true)
may_value c [] h = absurd cc
may_value c (t ∷ ts) h = (sorts.sort_of t, and_right (at sorts set_sorts (t ∷ ts)) (may_set c (sorts.sort_of t)) h)

may_here : (c : Maybe_set) (ts : List Token) → at sorts set_sorts ts ≡ true → ((k : Sort) → may_set c k ≡ true) → may sorts set_sorts (may_set c) ts ≡ true
may_here c [] a h = absurd cc
may_here c (t ∷ ts) a h = both_true (at sorts set_sorts (t ∷ ts)) (may_set c (sorts.sort_of t)) a (h (sorts.sort_of t))

-- nothing is set twice
set_once : (c : Maybe_set) (x : Setting) (k : Sort) → may_set (assigned c x) k ≡ true → ⊥
set_once (maybe_set s None) x k h = absurd cc
set_once (maybe_set s (Some (target r ss))) (setting o e) k h = absurd cc

-- where something may be set, the expression leads somewhere
led_to : (t : Token) (e : Expression) (k : Sort) → may_set (evaluated t e) k ≡ true → (g : Target) × (same (kind_sort t.kind) (sign_sort signs.OpenParen) ≡ false) × (stepped (target_of e) ≡ Some g)
led_to t e k h = by (same (kind_sort t.kind) (sign_sort signs.OpenParen)) (stepped (target_of e)) refl refl h
  where
    by : (b : Bool) (o : Option Target) → same (kind_sort t.kind) (sign_sort signs.OpenParen) ≡ b → stepped (target_of e) ≡ o → is_some (cond b None o) ≡ true → (g : Target) × (same (kind_sort t.kind) (sign_sort signs.OpenParen) ≡ false) × (stepped (target_of e) ≡ Some g)
    by true o p q h = absurd cc
    by false None p q h = absurd cc
    by false (Some g) p q h = (g, p, q)

-- one way, and the other
table_of : (h : ℕ) (ts : List Token) (k : StatementKind) (rest : List Token) → Derives sorts (names h) SetOrEval ts k rest → Derives sorts (names h) TableSetOrEval ts k rest
unfolding SetOrEval TableSetOrEval
table_of h [] k rest d = absurd d.1.3
table_of zero (t ∷ ts) k rest d = absurd d.1.3.1.1
table_of (suc h) (t ∷ ts) k rest (s, (mid, c, [], (e, (f, d, e1), e2), turns), e3) =
    inr (e, (f, subst (λ z. names (suc h) expr (t ∷ ts) f z) turns.1 d, e1), ap set_value (e2 ∙ turns.0) ∙ e3)
table_of (suc h) (t ∷ ts) k rest (s, (mid, c, x ∷ [], (e, (f, d, e1), e2), turns), e3) =
    let v = may_value (evaluated t e) mid (subst (λ z. may sorts set_sorts (may_set z) mid ≡ true) (sym e2) turns.1) in
    let g = led_to t e v.0 v.1 in
    let tg = whole_leads (names h) (names (suc h)) (deeper h) t ts e g.0 mid g.1 (subst (λ z. names (suc h) expr (t ∷ ts) z mid) e1 d) g.2 in
    inl (mid, g.0, x, tg, subst (λ z. Derives sorts (names (suc h)) SetTo mid x z) turns.3.1 turns.2, sym (set_is (eval e) g.0 x) ∙ (ap (λ z. set_value (assigned z x)) (sym (evaluated_is t e g.0 g.1 g.2) ∙ e2) ∙ (ap set_value turns.3.0 ∙ e3)))
table_of (suc h) (t ∷ ts) k rest (s, (mid, c, x ∷ y ∷ xs, d, turns), e3) = absurd (let v = may_value (assigned c x) turns.0 turns.3.1 in set_once c x v.0 v.1)

of_table : (h : ℕ) (ts : List Token) (k : StatementKind) (rest : List Token) → Derives sorts (names h) TableSetOrEval ts k rest → Derives sorts (names (suc h)) SetOrEval ts k rest
unfolding SetOrEval TableSetOrEval
of_table h [] k rest (inl d) = absurd (target_some (names h) d.1 d.0 d.3)
of_table zero [] k rest (inr d) = absurd d.1.1
of_table (suc h) [] k rest (inr d) = absurd (whole_some (names h) d.1.0 rest d.1.1)
of_table h (t ∷ ts) k rest (inl (mid, g, x, d, set, is)) =
    let l = target_led (names h) t ts g mid d in
    let e = l.1.0 in
    let v = evaluated_is t e g l.0 l.1.2 in (
      assigned (evaluated t e) x,
      (mid, evaluated t e, x ∷ [], (e, (e, l.1.1, refl), refl), (rest, may_here (evaluated t e) mid (set_at h mid x rest set) (λ k. ap (λ z. may_set z k) v), set_deeper h mid x rest set, (refl, refl))),
      ap (λ z. set_value (assigned z x)) v ∙ (set_is (eval e) g x ∙ is),
    )
of_table h (t ∷ ts) k rest (inr (e, (f, d, e1), is)) = (evaluated t e, (rest, evaluated t e, [], (e, (f, deeper h (t ∷ ts) f rest d, e1), refl), (refl, refl)), is)

pub assignments : Same (Derived SetOrEval) (Derived TableSetOrEval)
assignments ts k rest = ((λ d. (d.0, table_of d.0 ts k rest d.1)), (λ d. (suc d.0, of_table d.0 ts k rest d.1)))
