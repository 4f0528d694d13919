-- What expressions read, by what stands next.
use Rattle.std.proofs.Common.{◌≡◌, ◌≤◌, ◌-◌, ℕ, zero, suc, List, [], ◌∷◌, length, Bool, true, false, Result, Ok, Err, refl, sym, ap, subst, ◌∙◌, arith}
use Rattle.dsl_syntax.specs.declared.set_op.SetOp.{SetOp}
use Rattle.dsl_syntax.specs.Syntax.{Expression, Expressions}
use Rattle.dsl_rules.specs.Alphabet.{Sort, at, and, over}
use Rattle.dsl_rules.specs.Rules.{may}
use Rattle.dsl_rules.specs.Reading.{Read, got, bad, ◌>>=◌, one_read, turns}
use Rattle.site_base.specs.declared.place.Place.{Place}
use Rattle.dsl_lexer.specs.declared.sign.Sign.TheVariants as signs
use Rattle.dsl_grammar.specs.Codes.{sorts, sign_sort}
use Rattle.dsl_grammar.specs.Operators.{set_sorts, set_of}
use Rattle.dsl_statements.specs.Parts.{set_of_left}
use Rattle.dsl_lexer.specs.declared.token.Token.{Token}
use Rattle.dsl_rules.specs.Grammar.{made}
use Rattle.std.specs.Borrow.{Bor}
use Rattle.std.specs.Result.{IsErrAnd}
use Rattle.dsl_next.specs.Gives.{Gives}
use Rattle.dsl_next.specs.declared.stop.Stop.{Stop}
use Rattle.dsl_next.specs.declared.stop.Stop.TheVariants as stops
use Rattle.dsl_grammar.specs.Grammar.{Arguments, Braced, Listed, Whole, Lambda, Level, Begun, OneTail, index_tail, with_tail, begun_expression, begins_lambda, SetTo, setting}
use Rattle.dsl_grammar.specs.Reading.{reads, read_by}
use Rattle.dsl_grammar.specs.Terms.{block, expr, nl, starts}
use Rattle.dsl_grammar.proofs.LevelReads.{name_is, expr_is}
use Rattle.dsl_statements.specs.Leads.{braced_in}
use Rattle.dsl_statements.specs.declared.leads.Within.TheVariants as within

-- a block
pub block_is : (n : ℕ) (ts : List Token) → length ts ≤ n → reads n block ts ≡ read_by n (braced_in within.Block) ts
unfolding reads Braced
block_is zero [] le = refl
block_is zero (t ∷ ts) le = absurd (omega arith)
block_is (suc n) ts le = name_is (suc n) block ts (omega arith)

-- a function with "=>"
whole_lambda : (n : ℕ) (ts : List Token) → begins_lambda ts ≡ true → read_by n Whole ts ≡ read_by n Lambda ts
unfolding Whole
whole_lambda n ts h = rw h refl

pub expr_lambda : (n : ℕ) (ts : List Token) → length ts ≤ n → begins_lambda ts ≡ true → reads n expr ts ≡ read_by n Lambda ts
expr_lambda n ts le h = expr_is n ts le ∙ whole_lambda n ts h

-- operands between operators
whole_levels : (n : ℕ) (ts : List Token) → begins_lambda ts ≡ false → read_by n Whole ts ≡ read_by n (made begun_expression (Level 11)) ts
unfolding Whole
whole_levels n ts h = rw h refl

pub expr_levels : (n : ℕ) (ts : List Token) → length ts ≤ n → begins_lambda ts ≡ false → reads n expr ts ≡ read_by n (made begun_expression (Level 11)) ts
expr_levels n ts le h = expr_is n ts le ∙ whole_levels n ts h

-- what is assigned
pub set_got : (n : ℕ) (e x : Expression) (o : SetOp) (ts mid inner rest : List Token) → one_read sorts set_sorts (λ t. set_of t.kind) ts ≡ got o mid → read_by n nl mid ≡ got 0 inner → reads (n - 1) expr inner ≡ got x rest → read_by n (made (set_of_left e) SetTo) ts ≡ got (set_of_left e (setting o x)) rest
unfolding SetTo
set_got n e x o ts mid inner rest a b c = rw (a, b, c) refl

-- where a turn may be taken, its first token stands
pub may_first : (cs : List Sort) (more : Sort → Bool) (ts : List Token) → may sorts cs more ts ≡ true → at sorts cs ts ≡ true
may_first cs more [] h = absurd cc
may_first cs more (t ∷ ts) h = by (at sorts cs (t ∷ ts)) refl h
  where
    by : (b : Bool) → at sorts cs (t ∷ ts) ≡ b → and b (more (sorts.sort_of t)) ≡ true → at sorts cs (t ∷ ts) ≡ true
    by true e q = e
    by false e q = absurd cc

-- a turn, and the turns after it
pub turn_made : {A C : Type 0} (m k : ℕ) (look : Bool) (cs : List Sort) (more : C → Sort → Bool) (step : C → A → C) (p : List Token → Read Token A) (c : C) (ts : List Token) → m ≡ suc k → may sorts cs (more c) (over sorts look ts) ≡ true → turns sorts look cs more step p m c ts ≡ ((p (over sorts look ts) >>= λ x rest. got (step c x) rest) >>= turns sorts look cs more step p k)
turn_made {A} {C} m k look cs more step p c ts e h = rw (e, h) (by (p (over sorts look ts)))
  where
    by : (r : Read Token A) → (r >>= λ x mid. turns sorts look cs more step p k (step c x) mid) ≡ ((r >>= λ x rest. got (step c x) rest) >>= turns sorts look cs more step p k)
    by (got x mid) = refl
    by (bad s) = refl

-- the arguments of a call, where some stand there
pub arguments_are : (n : ℕ) (ts : List Token) → at sorts (starts expr) ts ≡ true → read_by n Arguments ts ≡ read_by n Listed ts
unfolding Arguments Listed
arguments_are n ts h = rw h (by (read_by n Listed ts))
  where
    by : (r : Read Token Expressions) → (r >>= λ x rest. got x rest) ≡ r
    by (got x rest) = refl
    by (bad s) = refl

-- an element of an operand
pub index_read : (n : ℕ) (b : Begun) (i : Expression) (p : Place) (ts inner after : List Token) → at sorts (sign_sort signs.Dot ∷ []) ts ≡ false → at sorts (sign_sort signs.OpenBracket ∷ []) ts ≡ true → one_read sorts (sign_sort signs.OpenBracket ∷ []) (λ t. t.place) ts ≡ got p inner → reads (n - 1) expr inner ≡ got i after
    → read_by n (made (with_tail b) OneTail) ts ≡ (one_read sorts (sign_sort signs.CloseBracket ∷ []) (λ t. t.place) after >>= λ q rest. got (with_tail b (index_tail i)) rest)
unfolding OneTail
index_read n b i p ts inner after away here opened read = rw (away, here, opened, read) (by (one_read sorts (sign_sort signs.CloseBracket ∷ []) (λ t. t.place) after))
  where
    by : (r : Read Token Place) → ((((r >>= λ q rest. got i rest) >>= λ x rest. got x rest) >>= λ x rest. got (index_tail x) rest) >>= λ x rest. got (with_tail b x) rest) ≡ (r >>= λ q rest. got (with_tail b (index_tail i)) rest)
    by (got q rest) = refl
    by (bad s) = refl

-- what stops a part stops the whole
pub stopped : {A B C D : Type 0} (v : A → D) (w : B → C) (result : Result (A × Bor (List Token)) Stop) (e : Stop) (r : Read Token C) (f : C → List Token → Read Token D) → IsErrAnd result (λ x. x ≡ e) → Gives {A = B} w (Err e) r → Gives v result (r >>= f)
stopped v w (Ok x) e r f h q = absurd h
stopped {A} {B} v w (Err x) e r f h q = subst (λ s. Gives {A = A} v (Err s) (r >>= f)) (sym h) (by e q)
  where
    by : (s : Stop) → Gives {A = B} w (Err s) r → Gives {A = A} v (Err s) (r >>= f)
    by (stops.Fault g) q = ap (λ z. z >>= f) q
    by stops.Memory q = tt
