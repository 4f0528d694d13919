-- An `if`, read from left to right, is its arms and at most one `else`.
use Rattle.std.proofs.Common.{◌≡◌, ℕ, List, [], ◌∷◌, Bool, true, false, cond, fold, refl, sym, ap, ◌∙◌, subst, inl, inr}
use Rattle.site_base.specs.declared.place.Place.{Place}
use Rattle.dsl_syntax.specs.Syntax.{Arms, no_arms, Statements, no_statements, StatementKind, choose}
use Rattle.dsl_syntax.specs.Lists.{Armed, armed}
use Rattle.dsl_lexer.specs.declared.token.Token.{Token}
use Rattle.dsl_lexer.specs.declared.word.Word.TheVariants as words
use Rattle.dsl_rules.specs.Alphabet.{Sort, and, same, among, at, skip}
use Rattle.dsl_rules.specs.Rules.{One, Either, Empty, Turns, may}
use Rattle.dsl_rules.specs.Grammar.{Rules, Derives, always}
use Rattle.dsl_grammar.specs.Codes.{sorts, word_sort, line_sort}
use Rattle.dsl_grammar.specs.Terms.{Name, Value, word, behind, nl}
use Rattle.dsl_grammar.specs.Grammar.{names, Block, Guarded, Choice, choice, choice_value, may_else, Otherwise, else_if, else_block, first_arm, add_else, ElseIf, Else, FirstChoice, Choices, IfStatement}
use Rattle.dsl_grammar.specs.Table.{Same, Many, FirstArm, ElseArm, ElseBlock, add_armed, TableIf}
use Rattle.dsl_grammar.proofs.Turns.{may_at}
use Rattle.dsl_grammar.proofs.Defining.{one_at}
use Rattle.dsl_grammar.proofs.Pasts.{sort_is}

abbrev else_word : List Sort
else_word = word_sort words.Else ∷ []

abbrev lines : List Sort
lines = line_sort ∷ []

-- Newlines.

abbrev LineTurns : List Place → List Token → ℕ → List Token → Type 0
LineTurns ps ts n rest = Turns sorts false lines always (λ n _. n) (One sorts lines (λ t. t.place)) ps 0 ts n rest

line_first : (t : Token) (ts : List Token) → same (sorts.sort_of t) line_sort ≡ true → at sorts lines (t ∷ ts) ≡ true
line_first t ts e = rw e refl

-- all of them may be read
all_lines : (ts : List Token) → (ps : List Place) × LineTurns ps ts 0 (skip sorts ts)
all_lines [] = ([], (refl, refl))
all_lines (t ∷ ts) = by (all_lines ts) (same (sorts.sort_of t) line_sort) refl
  where
    by : (ps : List Place) × LineTurns ps ts 0 (skip sorts ts) → (b : Bool) → same (sorts.sort_of t) line_sort ≡ b → (ps : List Place) × LineTurns ps (t ∷ ts) 0 (cond b (skip sorts ts) (t ∷ ts))
    by w true e = let m = line_first t ts e in (t.place ∷ w.0, (ts, may_at lines (t ∷ ts) ∙ m, (m, refl, refl), w.1))
    by w false e = ([], (refl, refl))

-- before `else` all of them are
not_line : (t : Token) (ts : List Token) → at sorts else_word (t ∷ ts) ≡ true → skip sorts (t ∷ ts) ≡ t ∷ ts
not_line t ts m = by (same (sorts.sort_of t) line_sort) (sort_is t (word_sort words.Else) m lines false refl)
  where
    by : (b : Bool) → cond b true false ≡ false → cond b (skip sorts ts) (t ∷ ts) ≡ t ∷ ts
    by true e = absurd cc
    by false e = refl

stands : (ts : List Token) → at sorts else_word ts ≡ true → skip sorts ts ≡ ts
stands [] m = refl
stands (t ∷ ts) m = not_line t ts m

is_line : (t : Token) (ts : List Token) → at sorts lines (t ∷ ts) ≡ true → skip sorts (t ∷ ts) ≡ skip sorts ts
is_line t ts m = by (same (sorts.sort_of t) line_sort) m
  where
    by : (b : Bool) → cond b true false ≡ true → cond b (skip sorts ts) (t ∷ ts) ≡ skip sorts ts
    by true e = refl
    by false e = absurd cc

lines_end : (ps : List Place) (ts : List Token) (n : ℕ) (rest : List Token) → LineTurns ps ts n rest → at sorts else_word rest ≡ true → skip sorts ts ≡ rest
lines_end [] ts n rest r m = stands ts (subst (λ z. at sorts else_word z ≡ true) (sym r.1) m) ∙ r.1
lines_end (p ∷ ps) [] n rest (k, h, o, more) m = absurd o
lines_end (p ∷ ps) (t ∷ ts) n rest (k, h, (a, e1, e2), more) m = is_line t ts a ∙ (ap (skip sorts) e2 ∙ lines_end ps k n rest more m)

no_turn : (us : List Token) (as' : Arms) (b : Statements) → may sorts else_word (may_else (choice as' b false)) us ≡ true → ⊥
no_turn [] as' b h = cc
no_turn (u ∷ us) as' b h = by (at sorts else_word (u ∷ us)) h
  where
    by : (b : Bool) → and b false ≡ true → ⊥
    by true e = cc
    by false e = cc

first_is : (a : Armed) → first_arm a ≡ choice (add_armed no_arms a) no_statements true
first_is (armed e b) = refl

else_is : (as' : Arms) (a : Armed) → add_else (choice as' no_statements true) (else_if a) ≡ choice (add_armed as' a) no_statements true
else_is as' (armed e b) = refl

module _ (L : Rules Token Name Value) where
  abbrev Rest : List Otherwise → Choice → List Token → Choice → List Token → Type 0
  Rest xs c ts d rest = Turns sorts true else_word may_else add_else (Derives sorts L Else) xs c ts d rest

  nl_read : (ts : List Token) → (n : ℕ) × Derives sorts L nl ts n (skip sorts ts)
  nl_read ts = let w = all_lines ts in (0, (ts, 0, w.0, (refl, refl), w.1))

  nl_end : (ts : List Token) (n : ℕ) (rest : List Token) → Derives sorts L nl ts n rest → at sorts else_word rest ≡ true → skip sorts ts ≡ rest
  nl_end ts n rest (m, c, ps, (e1, e2), r) h = ap (skip sorts) e2 ∙ lines_end ps m n rest (subst (λ z. Turns sorts false lines always (λ n _. n) (One sorts lines (λ t. t.place)) ps z m n rest) (sym e1) r) h

  -- what stands behind the word `else`
  abbrev Guard : List Token → Armed → List Token → Type 0
  Guard ts a rest = Derives sorts L (behind (word words.If) Guarded) ts a rest

  else_arm : (ts k : List Token) (p : Place) (a : Armed) (rest : List Token) → One sorts else_word (λ t. t.place) (skip sorts ts) p k → Guard k a rest → Derives sorts L ElseArm ts a rest
  unfolding ElseArm
  else_arm ts k p a rest w g = let l = nl_read ts in (skip sorts ts, l.0, a, l.1, (k, p, a, w, g, refl), refl)

  else_end : (ts k : List Token) (p : Place) (b : Statements) (rest : List Token) → One sorts else_word (λ t. t.place) (skip sorts ts) p k → Derives sorts L Block k b rest → Derives sorts L ElseBlock ts b rest
  unfolding ElseBlock
  else_end ts k p b rest w g = let l = nl_read ts in (skip sorts ts, l.0, b, l.1, (k, p, b, w, g, refl), refl)

  -- the same behind all newlines
  abbrev AtElse : {A : Type 0} → (List Token → A → List Token → Type 0) → List Token → A → List Token → Type 0
  AtElse X ts a rest = (k : List Token) × (p : Place) × One sorts else_word (λ t. t.place) (skip sorts ts) p k × X k a rest

  arm_at_else : (ts : List Token) (a : Armed) (rest : List Token) → Derives sorts L ElseArm ts a rest → AtElse Guard ts a rest
  unfolding ElseArm
  arm_at_else ts a rest (s, n, b, l, (k, p, c, w, g, e1), e2) =
      let same_tokens = nl_end ts n s l (one_at else_word (λ t. t.place) s p k w).0 in
      (k, p, subst (λ z. One sorts else_word (λ t. t.place) z p k) (sym same_tokens) w, subst (λ z. Guard k z rest) (e1 ∙ e2) g)

  block_at_else : (ts : List Token) (b : Statements) (rest : List Token) → Derives sorts L ElseBlock ts b rest → AtElse (Derives sorts L Block) ts b rest
  unfolding ElseBlock
  block_at_else ts a rest (s, n, b, l, (k, p, c, w, g, e1), e2) =
      let same_tokens = nl_end ts n s l (one_at else_word (λ t. t.place) s p k w).0 in
      (k, p, subst (λ z. One sorts else_word (λ t. t.place) z p k) (sym same_tokens) w, subst (λ z. Derives sorts L Block k z rest) (e1 ∙ e2) g)

  -- a turn is one of the two
  abbrev Turn : List Token → Otherwise → List Token → Type 0
  Turn us x rest =
      (k : List Token) × (p : Place) × (y : Otherwise) × One sorts else_word (λ t. t.place) us p k × Either (λ ts y rest. (a : Armed) × Guard ts a rest × (else_if a ≡ y)) (λ ts y rest. (b : Statements) × Derives sorts L Block ts b rest × (else_block b ≡ y)) k y rest × (y ≡ x)

  turn_is : (us : List Token) (x : Otherwise) (rest : List Token) → Derives sorts L Else us x rest → Turn us x rest
  unfolding Else ElseIf
  turn_is us x rest d = d

  is_turn : (us : List Token) (x : Otherwise) (rest : List Token) → Turn us x rest → Derives sorts L Else us x rest
  unfolding Else ElseIf
  is_turn us x rest d = d

  -- behind an `else` with a block nothing follows
  stopped : (xs : List Otherwise) (as' : Arms) (b : Statements) (ts : List Token) (d : Choice) (rest : List Token) → Rest xs (choice as' b false) ts d rest → (choice as' b false ≡ d) × (ts ≡ rest)
  stopped [] as' b ts d rest r = r
  stopped (x ∷ xs) as' b ts d rest (m, h, a, more) = absurd (no_turn (skip sorts ts) as' b h)

  abbrev Last : List Token → Statements → List Token → Type 0
  Last ts b rest = Either (Derives sorts L ElseBlock) (Empty no_statements) ts b rest

  -- arms behind an arm, and the block behind them
  abbrev Followed : Arms → List Token → StatementKind → List Token → Type 0
  Followed as' ts k rest = (mid : List Token) × (ys : List Armed) × (b : Statements) × Many (Derives sorts L ElseArm) ts ys mid × Last mid b rest × (choose (fold add_armed as' ys) b ≡ k)

  followed : (xs : List Otherwise) (as' : Arms) (ts : List Token) (d : Choice) (rest : List Token) → Rest xs (choice as' no_statements true) ts d rest → Followed as' ts (choice_value d) rest
  followed [] as' ts d rest r = (ts, [], no_statements, refl, inr (refl, r.1), ap choice_value r.0)
  followed (x ∷ xs) as' ts d rest (m, h, t, more) = by (λ bs r. followed xs bs m d rest r) (turn_is (skip sorts ts) x m t)
    where
      by : ((bs : Arms) → Rest xs (choice bs no_statements true) m d rest → Followed bs m (choice_value d) rest) → Turn (skip sorts ts) x m → Followed as' ts (choice_value d) rest
      by later (k, p, y, w, inl (a, g, e1), e2) =
          let f = later (add_armed as' a) (subst (λ z. Rest xs z m d rest) (ap (add_else (choice as' no_statements true)) (sym (e1 ∙ e2)) ∙ else_is as' a) more) in
          (f.0, a ∷ f.1, f.2, (m, else_arm ts k p a m w g, f.3), f.4, f.5)
      by later (k, p, y, w, inr (b, g, e1), e2) =
          let q = stopped xs as' b m d rest (subst (λ z. Rest xs (add_else (choice as' no_statements true) z) m d rest) (sym (e1 ∙ e2)) more) in
          (ts, [], b, refl, inl (subst (λ z. Derives sorts L ElseBlock ts b z) q.1 (else_end ts k p b m w g)), ap choice_value q.0)

  there : (ts : List Token) (s : StatementKind) (rest : List Token) → Derives sorts L IfStatement ts s rest → TableIf L ts s rest
  unfolding IfStatement Choices FirstChoice FirstArm
  there ts s rest (d, (m, c, xs, (k, p, y, w, (a, g, e1), e2), more), e) =
      let f = followed xs (add_armed no_arms a) m d rest (subst (λ z. Rest xs z m d rest) (sym (e1 ∙ e2) ∙ first_is a) more) in
      (f.0, a ∷ f.1, f.2, (m, a, f.1, (k, p, a, w, g, refl), f.3, refl), f.4, f.5 ∙ e)

  -- And back.

  abbrev Turned : Arms → List Token → StatementKind → List Token → Type 0
  Turned as' ts k rest = (xs : List Otherwise) × (d : Choice) × Rest xs (choice as' no_statements true) ts d rest × (choice_value d ≡ k)

  taken : (as' : Arms) (ts k : List Token) (p : Place) → One sorts else_word (λ t. t.place) (skip sorts ts) p k → may sorts else_word (may_else (choice as' no_statements true)) (skip sorts ts) ≡ true
  taken as' ts k p w = may_at else_word (skip sorts ts) ∙ (one_at else_word (λ t. t.place) (skip sorts ts) p k w).0

  ended : (as' : Arms) (ts : List Token) (b : Statements) (rest : List Token) → Last ts b rest → Turned as' ts (choose as' b) rest
  ended as' ts b rest (inl d) = by (block_at_else ts b rest d)
    where
      by : AtElse (Derives sorts L Block) ts b rest → Turned as' ts (choose as' b) rest
      by (k, p, w, g) = (else_block b ∷ [], choice as' b false, (rest, taken as' ts k p w, is_turn (skip sorts ts) (else_block b) rest (k, p, else_block b, w, inr (b, g, refl), refl), (refl, refl)), refl)
  ended as' ts b rest (inr (e1, e2)) = ([], choice as' no_statements true, (refl, e2), ap (choose as') e1)

  turned : (ys : List Armed) (as' : Arms) (ts mid : List Token) (b : Statements) (rest : List Token) → Many (Derives sorts L ElseArm) ts ys mid → Last mid b rest → Turned as' ts (choose (fold add_armed as' ys) b) rest
  turned [] as' ts mid b rest e last = subst (λ z. Turned as' z (choose as' b) rest) (sym e) (ended as' mid b rest last)
  turned (y ∷ ys) as' ts mid b rest (m, x, more) last = by (arm_at_else ts y m x) (turned ys (add_armed as' y) m mid b rest more last)
    where
      by : AtElse Guard ts y m → Turned (add_armed as' y) m (choose (fold add_armed (add_armed as' y) ys) b) rest → Turned as' ts (choose (fold add_armed (add_armed as' y) ys) b) rest
      by (k, p, w, g) (xs, d, r, e) = (else_if y ∷ xs, d, (m, taken as' ts k p w, is_turn (skip sorts ts) (else_if y) m (k, p, else_if y, w, inl (y, g, refl), refl), subst (λ z. Rest xs z m d rest) (sym (else_is as' y)) r), e)

  back : (ts : List Token) (s : StatementKind) (rest : List Token) → TableIf L ts s rest → Derives sorts L IfStatement ts s rest
  unfolding IfStatement Choices FirstChoice FirstArm
  back ts s rest (mid, arms, b, (m, a, ys, (k, p, c, w, g, e1), more, e2), last, e3) =
      let t = turned ys (add_armed no_arms a) m mid b rest more last in
      (t.1, (m, first_arm a, t.0, (k, p, first_arm a, w, (a, subst (λ z. Derives sorts L Guarded k z m) e1 g, refl), refl), subst (λ z. Rest t.0 z m t.1 rest) (sym (first_is a)) t.2), t.3 ∙ subst (λ z. choose (fold add_armed no_arms z) b ≡ s) (sym e2) e3)

pub arms_are : (h : ℕ) → Same (Derives sorts (names h) IfStatement) (TableIf (names h))
arms_are h ts s rest = ((λ x. there (names h) ts s rest x), (λ x. back (names h) ts s rest x))
