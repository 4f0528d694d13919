-- Expressions that lead somewhere are targets.
use Rattle.std.proofs.Common.{◌≡◌, ◌⊎◌, ℕ, zero, suc, List, [], ◌∷◌, ◌++◌, Bool, true, false, cond, Option, Some, None, refl, sym, ap, ◌∙◌, subst, inl, inr}
use Rattle.dsl_syntax.specs.Syntax.{at_name, at_this, at_globals, Expression, no_steps, member_step, index_step}
use Rattle.dsl_syntax.specs.declared.bin_op.BinOp.{BinOp}
use Rattle.dsl_lexer.specs.declared.sign.Sign.TheVariants as signs
use Rattle.dsl_lexer.specs.declared.token.Token.{Token}
use Rattle.dsl_lexer.specs.declared.token_kind.TokenKind.{TokenKind}
use Rattle.dsl_lexer.specs.declared.token_kind.TokenKind.TheVariants as kinds
use Rattle.dsl_lexer.specs.declared.word.Word.TheVariants as words
use Rattle.dsl_rules.specs.Alphabet.{Sort, same, among, at}
use Rattle.dsl_rules.specs.Grammar.{Rules, Derives, Pair, pair, always, fold_pair}
use Rattle.dsl_rules.specs.Rules.{Rule as RuleOf, Turns}
use Rattle.dsl_grammar.specs.Codes.{sorts, kind_sort, word_sort, sign_sort, ident_sort}
use Rattle.dsl_grammar.specs.Grammar.{Target, target, target_of, target_of_kind, with_member, with_index, stepped, Begun, begun, begun_expression, Tail, member_tail, index_tail, call_tail, with_tail, tail_sorts, OneTail, BegunPrim, Prim, Literal, Paren, Array, Dict, FunctionLiteral, literal_kind, Postfix, Prefix, prefix, with_prefixes, add_prefix, Prefixes, Prefixed, Unary, joined, Level, Lambda, Whole}
use Rattle.dsl_grammar.specs.Operators.{level_sorts, unary_sorts}
use Rattle.dsl_grammar.specs.Table.{step_on, step_sorts, TableStep, NameBase, WordBase, TableTarget}
use Rattle.dsl_syntax.specs.Lists.{OneStep, to_member, to_index}
use Rattle.dsl_grammar.specs.Terms.{Name, Value, expr, kind_text, sign, IDENT, behind, before}
use Rattle.dsl_grammar.proofs.Defining.{one_at}
use Rattle.dsl_grammar.proofs.Turns.{may_at}

-- where a step led, one step before
pub member_before : (n : List ℕ) (o : Option Target) (g : Target) → with_member n o ≡ Some g → (f : Target) × (o ≡ Some f) × (step_on f (to_member n) ≡ g)
member_before n None g e = absurd cc
member_before n (Some (target r ss)) g e = (target r ss, refl, cc)

pub index_before : (i : Expression) (o : Option Target) (g : Target) → with_index i o ≡ Some g → (f : Target) × (o ≡ Some f) × (step_on f (to_index i) ≡ g)
index_before i None g e = absurd cc
index_before i (Some (target r ss)) g e = (target r ss, refl, cc)

-- a target, of which `this` and `globals` alone are none
pub stepped_some : (o : Option Target) (g : Target) → stepped o ≡ Some g → o ≡ Some g
stepped_some None g e = absurd cc
stepped_some (Some (target (at_name t) ss)) g e = e
stepped_some (Some (target at_this no_steps)) g e = absurd cc
stepped_some (Some (target at_this (member_step m ss))) g e = e
stepped_some (Some (target at_this (index_step i ss))) g e = e
stepped_some (Some (target at_globals no_steps)) g e = absurd cc
stepped_some (Some (target at_globals (member_step m ss))) g e = e
stepped_some (Some (target at_globals (index_step i ss))) g e = e

-- at one of two signs
pub at_first : (a b : Sort) (ts : List Token) → at sorts (a ∷ []) ts ≡ true → at sorts (a ∷ b ∷ []) ts ≡ true
at_first a b [] h = absurd cc
at_first a b (t ∷ ts) h = by (same (sorts.sort_of t) a) h
  where
    by : (c : Bool) → cond c true false ≡ true → cond c true (cond (same (sorts.sort_of t) b) true false) ≡ true
    by true h = refl
    by false h = absurd cc

pub at_second : (a b : Sort) (ts : List Token) → at sorts (b ∷ []) ts ≡ true → at sorts (a ∷ b ∷ []) ts ≡ true
at_second a b [] h = absurd cc
at_second a b (t ∷ ts) h = by (same (sorts.sort_of t) a)
  where
    by : (c : Bool) → cond c true (cond (same (sorts.sort_of t) b) true false) ≡ true
    by true = refl
    by false = h

-- what each turn makes holds at the end
pub kept : {A C : Type 0} (cs : List Sort) (step : C → A → C) (R : RuleOf Token A) (P : C → Type 0) → ((c : C) (x : A) → P (step c x)) → (xs : List A) (c d : C) (mid rest : List Token) → Turns sorts false cs always step R xs c mid d rest → P c → P d
kept cs step R P made [] c d mid rest r p = subst P r.0 p
kept cs step R P made (x ∷ xs) c d mid rest r p = kept cs step R P made xs (step c x) d r.0 rest r.3 (made c x)

-- where an expression leads to
abbrev leads : Begun → Option Target
leads x = target_of (begun_expression x)

-- where a literal leads
literal_leads : (k : TokenKind) (g : Target) → target_of_kind (literal_kind k) ≡ Some g → ((among (kind_sort k) (ident_sort ∷ []) ≡ true) × (target (at_name (kind_text k)) no_steps ≡ g)) ⊎ (((among (kind_sort k) (word_sort words.This ∷ []) ≡ true) × (target at_this no_steps ≡ g)) ⊎ ((among (kind_sort k) (word_sort words.Globals ∷ []) ≡ true) × (target at_globals no_steps ≡ g)))
literal_leads (kinds.Ident t) g e = inl (refl, cc)
literal_leads (kinds.Word words.This) g e = inr (inl (refl, cc))
literal_leads (kinds.Word words.Globals) g e = inr (inr (refl, cc))
literal_leads k g e = absurd cc

module _ (L M : Rules Token Name Value) (more : (ts : List Token) (e : Expression) (rest : List Token) → L expr ts e rest → M expr ts e rest) where
  -- the steps of an expression's tails
  abbrev Before : Begun → Target → List Token → List Token → Type 0
  Before c g mid rest = (f : Target) × (ys : List OneStep) × (leads c ≡ Some f) × Turns sorts false step_sorts always step_on (Derives sorts M TableStep) ys f mid g rest

  -- each tail that leads further is a step
  member_turn : (c : Begun) (n : List ℕ) (g : Target) (ts mid rest : List Token) → Derives sorts L (behind (sign signs.Dot) IDENT) ts n mid → Before (with_tail c (member_tail n)) g mid rest → Before c g ts rest
  unfolding TableStep
  member_turn (begun p e) n g ts mid rest d (f, ys, is, steps) =
      let b = member_before n (target_of e) f is in
      let here = may_at step_sorts ts ∙ at_first (sign_sort signs.Dot) (sign_sort signs.OpenBracket) ts (one_at (sign_sort signs.Dot ∷ []) (λ t. t.place) ts d.1 d.0 d.3).0 in
      (b.0, to_member n ∷ ys, b.1, (mid, here, inl (n, d, refl), subst (λ z. Turns sorts false step_sorts always step_on (Derives sorts M TableStep) ys z mid g rest) (sym b.2) steps))

  index_turn : (c : Begun) (i : Expression) (g : Target) (ts mid rest : List Token) → Derives sorts L (behind (sign signs.OpenBracket) (before Rattle.dsl_grammar.specs.Grammar.Expr (sign signs.CloseBracket))) ts i mid → Before (with_tail c (index_tail i)) g mid rest → Before c g ts rest
  unfolding TableStep
  index_turn (begun p e) i g ts mid rest (k, q, j, first, (l, u, v, (w, x, e3), second, e2), e1) (f, ys, is, steps) =
      let b = index_before i (target_of e) f is in
      let here = may_at step_sorts ts ∙ at_second (sign_sort signs.Dot) (sign_sort signs.OpenBracket) ts (one_at (sign_sort signs.OpenBracket ∷ []) (λ t. t.place) ts q k first).0 in
      (b.0, to_index i ∷ ys, b.1, (mid, here, inr (i, (k, q, j, first, (l, u, v, (w, more k w l x, e3), second, e2), e1), refl), subst (λ z. Turns sorts false step_sorts always step_on (Derives sorts M TableStep) ys z mid g rest) (sym b.2) steps))

  tails_lead : (xs : List Tail) (c d : Begun) (g : Target) (mid rest : List Token) → Turns sorts false tail_sorts always with_tail (Derives sorts L OneTail) xs c mid d rest → leads d ≡ Some g → Before c g mid rest
  unfolding OneTail
  tails_lead [] c d g mid rest r e = (g, [], ap leads r.0 ∙ e, (refl, r.1))
  tails_lead (x ∷ xs) c d g mid rest (m, h, inl (n, t, is), turns) e = member_turn c n g mid m rest t (subst (λ z. Before (with_tail c z) g m rest) (sym is) (tails_lead xs (with_tail c x) d g m rest turns e))
  tails_lead (x ∷ xs) c d g mid rest (m, h, inr (inl (i, t, is)), turns) e = index_turn c i g mid m rest t (subst (λ z. Before (with_tail c z) g m rest) (sym is) (tails_lead xs (with_tail c x) d g m rest turns e))
  tails_lead (x ∷ xs) c d g mid rest (m, h, inr (inr (es, t, is)), turns) e = absurd (none c (subst (λ z. Before (with_tail c z) g m rest) (sym is) (tails_lead xs (with_tail c x) d g m rest turns e)))
    where
      none : (c : Begun) → Before (with_tail c (call_tail es)) g m rest → ⊥
      none (begun p e) b = absurd (let h = b.2 in cc)

  -- a primary expression that leads somewhere
  prim_leads : (t : Token) (ts : List Token) (e : Expression) (g : Target) (rest : List Token) → same (kind_sort t.kind) (sign_sort signs.OpenParen) ≡ false → Derives sorts L Prim (t ∷ ts) e rest → target_of e ≡ Some g → Derives sorts M NameBase (t ∷ ts) g rest ⊎ (Derives sorts M WordBase (t ∷ ts) g rest × (stepped (Some g) ≡ None))
  unfolding Prim Literal Paren Array Dict FunctionLiteral
  prim_leads t ts e g rest bare (inl (h, is, end)) q = by (literal_leads t.kind g (subst (λ z. target_of z ≡ Some g) (sym is) q))
    where
      by : ((among (kind_sort t.kind) (ident_sort ∷ []) ≡ true) × (target (at_name (kind_text t.kind)) no_steps ≡ g)) ⊎ (((among (kind_sort t.kind) (word_sort words.This ∷ []) ≡ true) × (target at_this no_steps ≡ g)) ⊎ ((among (kind_sort t.kind) (word_sort words.Globals ∷ []) ≡ true) × (target at_globals no_steps ≡ g))) → Derives sorts M NameBase (t ∷ ts) g rest ⊎ (Derives sorts M WordBase (t ∷ ts) g rest × (stepped (Some g) ≡ None))
      by (inl (m, is)) = inl (kind_text t.kind, (m, refl, end), is)
      by (inr (inl (m, is))) = inr (inl (t.place, (m, refl, end), is), subst (λ z. stepped (Some z) ≡ None) is refl)
      by (inr (inr (m, is))) = inr (inr (t.place, (m, refl, end), is), subst (λ z. stepped (Some z) ≡ None) is refl)
  prim_leads t ts e g rest bare (inr (inl d)) q = absurd (let h = d.3.0 in by (same (kind_sort t.kind) (sign_sort signs.OpenParen)) bare h)
    where
      by : (b : Bool) → b ≡ false → cond b true false ≡ true → ⊥
      by true e h = absurd cc
      by false e h = absurd cc
  prim_leads t ts e g rest bare (inr (inr (inl (s, d, is)))) q = absurd (let h = ap target_of is ∙ q in cc)
  prim_leads t ts e g rest bare (inr (inr (inr (inl (s, d, is))))) q = absurd (let h = ap target_of is ∙ q in cc)
  prim_leads t ts e g rest bare (inr (inr (inr (inr (f, d, is))))) q = absurd (let h = ap target_of is ∙ q in cc)

  -- each level with no operator
  postfix_leads : (t : Token) (ts : List Token) (x : Begun) (g : Target) (rest : List Token) → same (kind_sort t.kind) (sign_sort signs.OpenParen) ≡ false → Derives sorts L Postfix (t ∷ ts) x rest → leads x ≡ Some g → stepped (Some g) ≡ Some g → Derives sorts M TableTarget (t ∷ ts) g rest
  unfolding Postfix BegunPrim TableTarget
  postfix_leads t ts x g rest bare (mid, c, xs, (e, d, is), turns) q full = by (tails_lead xs c x g mid rest turns q)
    where
      word : (f : Target) (ys : List OneStep) → Turns sorts false step_sorts always step_on (Derives sorts M TableStep) ys f mid g rest → Derives sorts M WordBase (t ∷ ts) f mid → stepped (Some f) ≡ None → Derives sorts M TableTarget (t ∷ ts) g rest
      word f [] steps w none = absurd (let h : None ≡ Some g = sym none ∙ (ap (λ z. stepped (Some z)) steps.0 ∙ full) in cc)
      word f (y ∷ ys) (m, h, s, steps) w none = inr (m, step_on f y, ys, (mid, f, y, w, s, refl), steps)

      of : (f : Target) (ys : List OneStep) → Turns sorts false step_sorts always step_on (Derives sorts M TableStep) ys f mid g rest → Derives sorts M NameBase (t ∷ ts) f mid ⊎ (Derives sorts M WordBase (t ∷ ts) f mid × (stepped (Some f) ≡ None)) → Derives sorts M TableTarget (t ∷ ts) g rest
      of f ys steps (inl n) = inl (mid, f, ys, n, steps)
      of f ys steps (inr w) = word f ys steps w.0 w.1

      by : Before c g mid rest → Derives sorts M TableTarget (t ∷ ts) g rest
      by (f, ys, leads_to, steps) = of f ys steps (prim_leads t ts e f mid bare d (ap leads is ∙ leads_to))

  -- no operator leads anywhere
  prefixed_none : (os : List Prefix) (o : Prefix) (e : Expression) → target_of (with_prefixes (os ++ o ∷ []) e) ≡ None
  prefixed_none [] (prefix p u) e = refl
  prefixed_none (prefix p u ∷ os) o e = refl

  joined_none : (c : Begun) (x : Pair BinOp Begun) → leads (fold_pair joined c x) ≡ None
  joined_none (begun p e) (pair o (begun q f)) = refl

  none_some : (o : Option Target) (g : Target) → o ≡ None → o ≡ Some g → ⊥
  none_some o g a b = let h : None ≡ Some g = sym a ∙ b in absurd cc

  unary_leads : (t : Token) (ts : List Token) (x : Begun) (g : Target) (rest : List Token) → same (kind_sort t.kind) (sign_sort signs.OpenParen) ≡ false → Derives sorts L Unary (t ∷ ts) x rest → leads x ≡ Some g → stepped (Some g) ≡ Some g → Derives sorts M TableTarget (t ∷ ts) g rest
  unfolding Unary Prefixed Prefixes
  unary_leads t ts x g rest bare (e, inl (m, os, f, (n, o, xs, (q, one, first), turns), d, is), named) l full =
      absurd (none_some (target_of e) g (ap target_of (sym is) ∙ kept unary_sorts add_prefix _ (λ os. target_of (with_prefixes os f) ≡ None) (λ os o. prefixed_none os o f) xs o os n m turns (subst (λ z. target_of (with_prefixes z f) ≡ None) first (prefixed_none [] q f))) (ap leads named ∙ l))
  unary_leads t ts x g rest bare (e, inr (y, d, is), named) l full = postfix_leads t ts y g rest bare d (ap target_of is ∙ (ap leads named ∙ l)) full

  level_leads : (k : ℕ) (t : Token) (ts : List Token) (x : Begun) (g : Target) (rest : List Token) → same (kind_sort t.kind) (sign_sort signs.OpenParen) ≡ false → Derives sorts L (Level k) (t ∷ ts) x rest → leads x ≡ Some g → stepped (Some g) ≡ Some g → Derives sorts M TableTarget (t ∷ ts) g rest
  unfolding Level
  level_leads zero t ts x g rest bare d l full = unary_leads t ts x g rest bare d l full
  level_leads (suc k) t ts x g rest bare (mid, c, [], d, turns) l full = subst (λ z. Derives sorts M TableTarget (t ∷ ts) g z) turns.1 (level_leads k t ts c g mid bare d (ap leads turns.0 ∙ l) full)
  level_leads (suc k) t ts x g rest bare (mid, c, y ∷ ys, d, turns) l full =
      absurd (none_some (leads x) g (kept (level_sorts k) (fold_pair joined) _ (λ z. leads z ≡ None) joined_none ys (fold_pair joined c y) x turns.0 rest turns.3 (joined_none c y)) l)

  pub whole_leads : (t : Token) (ts : List Token) (e : Expression) (g : Target) (rest : List Token) → same (kind_sort t.kind) (sign_sort signs.OpenParen) ≡ false → Derives sorts L Whole (t ∷ ts) e rest → stepped (target_of e) ≡ Some g → Derives sorts M TableTarget (t ∷ ts) g rest
  unfolding Whole Lambda
  whole_leads t ts e g rest bare (inl (f, d, is)) q = absurd (let h = ap (λ z. stepped (target_of z)) is ∙ q in cc)
  whole_leads t ts e g rest bare (inr (x, d, is)) q =
      let l = stepped_some (target_of e) g q in
      level_leads 11 t ts x g rest bare d (ap target_of is ∙ l) (ap stepped (sym l) ∙ q)
