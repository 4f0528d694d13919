-- One loop over all levels reads what the levels read.
use Rattle.std.proofs.Common.{◌≡◌, ◌≤◌, ◌<◌, ℕ, zero, suc, ◌+◌, ◌-◌, ◌*◌, List, [], ◌∷◌, Bool, true, false, cond, nat_eq, Option, Some, None, Result, Ok, Err, refl, sym, ap, ◌∙◌, subst, arith}
use Rattle.std.proofs.lemmas.Bool.{ne_eqb, eq-eqb, eqb-false, eqb-true}
use Rattle.std.proofs.Math.Arith.{lt_of_le-ne}
use Rattle.std.proofs.Math.Nat.{mul-le-mul_right}
use Rattle.dsl_syntax.specs.declared.bin_op.BinOp.{BinOp}
use Rattle.dsl_lexer.specs.declared.token.Token.{Token}
use Rattle.dsl_lexer.specs.declared.token_kind.TokenKind.{TokenKind}
use Rattle.dsl_lexer.specs.declared.token_kind.TokenKind.TheVariants as kinds
use Rattle.dsl_lexer.specs.declared.word.Word.{Word}
use Rattle.dsl_lexer.specs.declared.word.Word.TheVariants as words
use Rattle.dsl_lexer.specs.declared.sign.Sign.{Sign}
use Rattle.dsl_lexer.specs.declared.sign.Sign.TheVariants as signs
use Rattle.dsl_rules.specs.Alphabet.{Sort, and, among, at}
use Rattle.dsl_rules.specs.Grammar.{made, always, Pair, fold_pair}
use Rattle.dsl_rules.specs.Reading.{Read, got, bad, ◌>>=◌}
use Rattle.dsl_grammar.specs.Codes.{sorts, kind_sort}
use Rattle.dsl_grammar.specs.Grammar.{Begun, Level, Operator, Unary, joined}
use Rattle.dsl_grammar.specs.Operators.{level_sorts}
use Rattle.dsl_grammar.specs.Reading.{read_by}
use Rattle.dsl_grammar.proofs.Turns.{may_at, turns_end}
use Rattle.dsl_next.specs.Gives.{Gives}
use Rattle.dsl_next.specs.declared.stop.Stop.{Stop}
use Rattle.dsl_next.specs.declared.stop.Stop.TheVariants as stops
use Rattle.dsl_parts.specs.ExprParts.{operand_view}
use Rattle.dsl_parts.specs.Levels.{operator_level, next_level, Operated, level_turns, climb, climbs, height, GoesOn}
use Rattle.dsl_parts.specs.declared.levels.Climb.{Climb}

-- A token is an operator of one level at most.

-- of so many levels it is one of the level f alone
abbrev fits : Sort → ℕ → ℕ → Bool
fits c f zero = true
fits c f (suc j) = and (cond (among c (level_sorts j)) (nat_eq j f) (cond (nat_eq j f) false true)) (fits c f j)

sign_fits : (s : Sign) → fits (kind_sort (kinds.Sign s)) (operator_level (kinds.Sign s)) 11 ≡ true
sign_fits signs.NotIn = refl
sign_fits signs.AddSet = refl
sign_fits signs.SubtractSet = refl
sign_fits signs.MultiplySet = refl
sign_fits signs.DivideSet = refl
sign_fits signs.Arrow = refl
sign_fits signs.Equal = refl
sign_fits signs.NotEqual = refl
sign_fits signs.AtMost = refl
sign_fits signs.AtLeast = refl
sign_fits signs.ShiftLeft = refl
sign_fits signs.ShiftRight = refl
sign_fits signs.And = refl
sign_fits signs.Or = refl
sign_fits signs.OpenParen = refl
sign_fits signs.CloseParen = refl
sign_fits signs.OpenBracket = refl
sign_fits signs.CloseBracket = refl
sign_fits signs.OpenBrace = refl
sign_fits signs.CloseBrace = refl
sign_fits signs.Dot = refl
sign_fits signs.Comma = refl
sign_fits signs.Semicolon = refl
sign_fits signs.Set = refl
sign_fits signs.Plus = refl
sign_fits signs.Minus = refl
sign_fits signs.Star = refl
sign_fits signs.Slash = refl
sign_fits signs.Percent = refl
sign_fits signs.Not = refl
sign_fits signs.Tilde = refl
sign_fits signs.Less = refl
sign_fits signs.Greater = refl
sign_fits signs.BitAnd = refl
sign_fits signs.BitXor = refl
sign_fits signs.BitOr = refl

word_fits : (w : Word) → fits (kind_sort (kinds.Word w)) (operator_level (kinds.Word w)) 11 ≡ true
word_fits words.Object = refl
word_fits words.Template = refl
word_fits words.Apply = refl
word_fits words.To = refl
word_fits words.For = refl
word_fits words.In = refl
word_fits words.Use = refl
word_fits words.Where = refl
word_fits words.Assign = refl
word_fits words.Ignore = refl
word_fits words.Import = refl
word_fits words.Include = refl
word_fits words.IncludeRecursive = refl
word_fits words.Const = refl
word_fits words.Var = refl
word_fits words.Function = refl
word_fits words.Return = refl
word_fits words.Break = refl
word_fits words.Continue = refl
word_fits words.If = refl
word_fits words.Else = refl
word_fits words.While = refl
word_fits words.Throw = refl
word_fits words.True = refl
word_fits words.False = refl
word_fits words.Null = refl
word_fits words.This = refl
word_fits words.Globals = refl
word_fits words.Try = refl
word_fits words.Except = refl
word_fits words.Namespace = refl
word_fits words.Using = refl
word_fits words.Locals = refl
word_fits words.Debugger = refl
word_fits words.IgnoreOnError = refl
word_fits words.Library = refl
word_fits words.IncludeZones = refl

kind_fits : (k : TokenKind) → fits (kind_sort k) (operator_level k) 11 ≡ true
kind_fits (kinds.Sign s) = sign_fits s
kind_fits (kinds.Word w) = word_fits w
kind_fits (kinds.Ident t) = refl
kind_fits (kinds.Number n) = refl
kind_fits (kinds.Str t) = refl
kind_fits kinds.NewLine = refl
kind_fits kinds.End = refl

level_is : (c : Sort) (f n j : ℕ) → fits c f n ≡ true → j < n → among c (level_sorts j) ≡ nat_eq j f
level_is c f zero j h le = absurd (omega (arith, le))
level_is c f (suc n) j h le = by (λ p q. level_is c f n j p q) (among c (level_sorts n)) (nat_eq n f) (fits c f n) refl refl refl h
  where
    here : (fits c f n ≡ true → j < n → among c (level_sorts j) ≡ nat_eq j f) → (x y : Bool) → among c (level_sorts n) ≡ x → nat_eq n f ≡ y → x ≡ y → fits c f n ≡ true → among c (level_sorts j) ≡ nat_eq j f
    here below x y p q e r = split (nat_eq j n) refl
      where
        split : (z : Bool) → nat_eq j n ≡ z → among c (level_sorts j) ≡ nat_eq j f
        split true s = let same : j ≡ n = eqb-true j n s in rw same (p ∙ e ∙ sym q)
        split false s = below r (lt_of_le-ne {i = j} {k = n} (omega (arith, le)) (eqb-false j n s))

    by : (fits c f n ≡ true → j < n → among c (level_sorts j) ≡ nat_eq j f) → (x y z : Bool) → among c (level_sorts n) ≡ x → nat_eq n f ≡ y → fits c f n ≡ z → and (cond x y (cond y false true)) z ≡ true → among c (level_sorts j) ≡ nat_eq j f
    by below true true true p q r h = here below true true p q refl r
    by below true false z p q r h = absurd cc
    by below true true false p q r h = absurd cc
    by below false true z p q r h = absurd cc
    by below false false true p q r h = here below false false p q refl r
    by below false false false p q r h = absurd cc

pub one_level : (k : TokenKind) (j : ℕ) → j ≤ 10 → among (kind_sort k) (level_sorts j) ≡ nat_eq j (operator_level k)
one_level k j le = level_is (kind_sort k) (operator_level k) 11 j (kind_fits k) (omega (arith, le))

-- whether an operator of a level stands next
stands : (ts : List Token) (j : ℕ) → j < 11 → at sorts (level_sorts j) ts ≡ nat_eq j (next_level ts)
stands [] j le = sym (ne_eqb j 11 (λ e. omega (arith, le, e)))
stands (t ∷ ts) j le = one_level t.kind j (omega (arith, le))

pub stands_not : (ts : List Token) (j : ℕ) → j < 11 → (j ≡ next_level ts → ⊥) → at sorts (level_sorts j) ts ≡ false
stands_not ts j le other = stands ts j le ∙ ne_eqb j (next_level ts) other

pub stands_next : (ts : List Token) (j : ℕ) → j < 11 → j ≡ next_level ts → at sorts (level_sorts j) ts ≡ true
stands_next ts j le is = stands ts j le ∙ eq-eqb j (next_level ts) is

-- The levels of the grammar are one climb behind the first operand.

ends : (r : Read Token Begun) → (r >>= λ b ts. got b ts) ≡ r
ends (got b ts) = refl
ends (bad ts) = refl

after : (n d k j : ℕ) (r : Read Token Begun) → ((b : Begun) (rest : List Token) → climb n (suc d) n k b rest ≡ (climb n d n k b rest >>= level_turns n j n)) → (r >>= climb n (suc d) n k) ≡ ((r >>= climb n d n k) >>= level_turns n j n)
after n d k j (got b rest) h = h b rest
after n d k j (bad rest) h = refl

more : (n d k j : ℕ) (b : Begun) (ts : List Token) → j ≡ d + k → climb n (suc d) n k b ts ≡ (climb n d n k b ts >>= level_turns n j n)
more n zero k j b ts e = ends (level_turns n k n b ts) ∙ ap (λ i. level_turns n i n b ts) {x = k} {y = j} (omega (arith, e))
more n (suc d) k j b ts e = after n d (suc k) j (level_turns n k n b ts) (λ x rest. more n d (suc k) j x rest (omega (arith, e)))

pub whole : (n l : ℕ) (ts : List Token) → read_by n (Level l) ts ≡ (read_by n Unary ts >>= climb n l n 0)
unfolding Level
whole n zero ts = sym (ends (read_by n Unary ts))
whole n (suc l) ts = ap (λ r. r >>= level_turns n l n) (whole n l ts) ∙ sym (after n l 0 l (read_by n Unary ts) (λ x rest. more n l 0 l x rest (omega arith)))

-- A climb by what stands next.

skip : (n d m k : ℕ) (b : Begun) (ts : List Token) → at sorts (level_sorts k) ts ≡ false → climb n (suc d) m k b ts ≡ climb n d n (suc k) b ts
skip n d m k b ts off = ap (λ r. r >>= climb n d n (suc k)) (turns_end m false (level_sorts k) always (fold_pair joined) (read_by n (Operated k)) b ts (may_at (level_sorts k) ts ∙ off))

-- nothing of any level that is left
pub stop : (n d m k : ℕ) (b : Begun) (ts : List Token) → ((j : ℕ) → k ≤ j → j < k + d → at sorts (level_sorts j) ts ≡ false) → climb n d m k b ts ≡ got b ts
stop n zero m k b ts off = refl
stop n (suc d) m k b ts off = skip n d m k b ts (off k (omega arith) (omega arith)) ∙ stop n d n (suc k) b ts (λ j x y. off j (omega (arith, x)) (omega (arith, y)))

-- no turn is left at the first, and nothing of the others
pub spent : (n d m k : ℕ) (b : Begun) (ts : List Token) → m ≡ 0 → ((j : ℕ) → k < j → j < k + d → at sorts (level_sorts j) ts ≡ false) → climb n d m k b ts ≡ got b ts
spent n zero m k b ts e off = refl
spent n (suc d) zero k b ts e off = stop n d n (suc k) b ts (λ j x y. off j (omega (arith, x)) (omega (arith, y)))
spent n (suc d) (suc m) k b ts e off = absurd (omega (arith, e))

-- nothing of the levels below f
pub raise : (n e d w m k f : ℕ) (b : Begun) (ts : List Token) → w ≡ e + 1 + d → f ≡ e + 1 + k → ((j : ℕ) → k ≤ j → j < f → at sorts (level_sorts j) ts ≡ false) → climb n w m k b ts ≡ climb n d n f b ts
raise n e d zero m k f b ts x y off = absurd (omega (arith, x))
raise n zero d (suc w) m k f b ts x y off =
    skip n w m k b ts (off k (omega arith) (omega (arith, y)))
    ∙ ap (λ i. climb n i n (suc k) b ts) {x = w} {y = d} (omega (arith, x))
    ∙ ap (λ i. climb n d n i b ts) {x = suc k} {y = f} (omega (arith, y))
raise n (suc e) d (suc w) m k f b ts x y off =
    skip n w m k b ts (off k (omega arith) (omega (arith, y)))
    ∙ raise n e d w n (suc k) f b ts (omega (arith, x)) (omega (arith, y)) (λ j p q. off j (omega (arith, p)) q)

-- one operator with its operand
pub take : (n d m k : ℕ) (b : Begun) (ts : List Token) → 0 < d → 0 < m → at sorts (level_sorts k) ts ≡ true → climb n d m k b ts ≡ (read_by n (made (fold_pair joined b) (Operated k)) ts >>= climb n d (m - 1) k)
take n zero m k b ts p q on = absurd (omega (arith, p))
take n (suc d) zero k b ts p q on = absurd (omega (arith, q))
take n (suc d) (suc m) k b ts p q on =
    ap (λ z. cond z (read_by n (Operated k) ts >>= λ x mid. level_turns n k m (fold_pair joined b x) mid) (got b ts) >>= climb n d n (suc k)) (may_at (level_sorts k) ts ∙ on)
    ∙ by (read_by n (Operated k) ts)
    ∙ ap (λ i. read_by n (made (fold_pair joined b) (Operated k)) ts >>= climb n (suc d) i k) {x = m} {y = suc m - 1} (omega arith)
  where
    by : (r : Read Token (Pair BinOp Begun)) → ((r >>= λ x mid. level_turns n k m (fold_pair joined b x) mid) >>= climb n d n (suc k)) ≡ ((r >>= λ x rest. got (fold_pair joined b x) rest) >>= climb n (suc d) m k)
    by (got x mid) = refl
    by (bad s) = refl

-- a higher level leaves fewer turns
falls_by : (a b s t m : ℕ) → t < s → b < a → b * s + t < a * s + m
falls_by a b s t m p q = let much = mul-le-mul_right {m = b + 1} {n = a} s (omega (arith, q)) in omega (arith, p, much)

pub falls : (n a b m : ℕ) → 0 < n → b < a → b * (n + 1) + (n - 1) < a * (n + 1) + m
falls n a b m p q = falls_by a b (n + 1) (n - 1) m (omega arith) q

-- How a climb goes on, by the level of the operator that stands next.

-- one that binds tighter than the last, or not below the limit
pub none_out : (n l : ℕ) (c : Climb) (ts : List Token) → l ≤ 11 → ((j : ℕ) → c.level ≤ j → j < l → j ≡ next_level ts → ⊥) → GoesOn n l c ts None
none_out n l c ts le out b =
    stop n (l - c.level) c.turns c.level b ts (λ j x y. stands_not ts j (omega (arith, x, y, le)) (out j x (omega (arith, x, y))))

-- one of the last one's level, of which no more may follow
pub none_spent : (n l : ℕ) (c : Climb) (ts : List Token) → l ≤ 11 → c.turns ≡ 0 → c.level ≡ next_level ts → GoesOn n l c ts None
none_spent n l c ts le e same b =
    spent n (l - c.level) c.turns c.level b ts e (λ j x y. stands_not ts j (omega (arith, x, y, le)) (λ q. omega (arith, x, q, same)))

-- one of a higher level
pub some_higher : (n l f : ℕ) (c : Climb) (ts : List Token) → l ≤ 11 → 0 < n → f ≡ next_level ts → c.level < f → f < l → GoesOn n l c ts (Some (record { level = f; turns = n - 1 }))
some_higher n l f c ts le pos same over under = (
  under,
  falls n (l - c.level) (l - f) c.turns pos (omega (arith, over, under)),
  λ b.
      raise n (f - c.level - 1) (l - f) (l - c.level) c.turns c.level f b ts (omega (arith, over, under)) (omega (arith, over))
      (λ j x y. stands_not ts j (omega (arith, y, under, le)) (λ q. omega (arith, q, y, same)))
      ∙ take n (l - f) n f b ts (omega (arith, under)) pos (stands_next ts f (omega (arith, under, le)) same),
)

-- one of the last one's level
pub some_same : (n l : ℕ) (c : Climb) (ts : List Token) → l ≤ 11 → c.level ≡ next_level ts → c.level < l → 0 < c.turns → GoesOn n l c ts (Some (record { level = c.level; turns = c.turns - 1 }))
some_same n l c ts le same under pos = (
  under,
  omega (arith, pos),
  λ b. take n (l - c.level) c.turns c.level b ts (omega (arith, under)) pos (stands_next ts c.level (omega (arith, under, le)) same),
)

-- A climb as the parser makes it.

-- behind the first operand
pub begun_climb : (n l : ℕ) (b : Begun) (ts rest : List Token) → read_by n Unary ts ≡ got b rest → climb n (l - 0) n 0 b rest ≡ read_by n (Level l) ts
begun_climb n l b ts rest q = ap (λ d. climb n d n 0 b rest) {x = l - 0} {y = l} (omega arith) ∙ sym (whole n l ts ∙ ap (λ r. r >>= climb n l n 0) q)

-- where it goes on, and where it ends
pub goes_on : (n l : ℕ) (c d : Climb) (ts : List Token) (o : Option Climb) → o ≡ Some d → GoesOn n l c ts o → GoesOn n l c ts (Some d)
goes_on n l c d ts o e g = subst (GoesOn n l c ts) e g

pub ends_here : (n l : ℕ) (c : Climb) (ts : List Token) (o : Option Climb) → o ≡ None → GoesOn n l c ts o → (b : Begun) → climbs n l c b ts ≡ got b ts
ends_here n l c ts o e g = subst (GoesOn n l c ts) e g

-- an operator with its operand, and what is bad of them
pub operated_got : (n k : ℕ) (a b : Begun) (o : BinOp) (ts mid rest : List Token) → read_by n (Operator k) ts ≡ got o mid → read_by n (Level k) mid ≡ got b rest → read_by n (made (fold_pair joined a) (Operated k)) ts ≡ got (joined a o b) rest
operated_got n k a b o ts mid rest p q = rw (p, q) refl

pub operator_bad : (n k : ℕ) (a : Begun) (ts : List Token) (stop : Stop) → Gives {A = BinOp} (λ o. o) (Err stop) (read_by n (Operator k) ts) → Gives operand_view (Err stop) (read_by n (made (fold_pair joined a) (Operated k)) ts)
operator_bad n k a ts (stops.Fault f) q = rw q refl
operator_bad n k a ts stops.Memory q = tt

pub operand_bad : (n k : ℕ) (a : Begun) (o : BinOp) (ts mid : List Token) (stop : Stop) → read_by n (Operator k) ts ≡ got o mid → Gives operand_view (Err stop) (read_by n (Level k) mid) → Gives operand_view (Err stop) (read_by n (made (fold_pair joined a) (Operated k)) ts)
operand_bad n k a o ts mid (stops.Fault f) p q = rw (p, q) refl
operand_bad n k a o ts mid stops.Memory p q = tt

-- the climb goes on as the operator and its operand do
pub climb_got : (n l : ℕ) (c d : Climb) (a b : Begun) (ts rest : List Token) (all : Read Token Begun) → GoesOn n l c ts (Some d) → read_by n (made (fold_pair joined a) (Operated d.level)) ts ≡ got b rest → climbs n l c a ts ≡ all → climbs n l d b rest ≡ all
climb_got n l c d a b ts rest all g q w = sym (ap (λ r. r >>= climbs n l d) q) ∙ sym (g.2 a) ∙ w

pub climb_bad : (n l : ℕ) (c d : Climb) (a : Begun) (ts : List Token) (stop : Stop) (all : Read Token Begun) → GoesOn n l c ts (Some d) → Gives operand_view (Err stop) (read_by n (made (fold_pair joined a) (Operated d.level)) ts) → climbs n l c a ts ≡ all → Gives operand_view (Err stop) all
climb_bad n l c d a ts (stops.Fault f) all g q w = sym w ∙ g.2 a ∙ ap (λ r. r >>= climbs n l d) q
climb_bad n l c d a ts stops.Memory all g q w = tt
