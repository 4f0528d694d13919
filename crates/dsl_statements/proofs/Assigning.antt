-- Assignments, and expressions as statements, as the code reads them.
use Rattle.std.proofs.Common.{◌≡◌, ℕ, suc, ◌-◌, ◌<◌, List, [], ◌∷◌, length, nat_eq, Bool, true, false, not, cond, Option, Some, None, is_some, refl, sym, ap, ◌∙◌, arith}
use Rattle.dsl_syntax.specs.Syntax.{Expression, eval, at_name, at_this, at_globals, no_steps, member_step, index_step}
use Rattle.dsl_lexer.specs.declared.token.Token.{Token}
use Rattle.dsl_lexer.specs.declared.sign.Sign.TheVariants as signs
use Rattle.dsl_rules.specs.Alphabet.{same, at, and}
use Rattle.dsl_rules.specs.Grammar.{made}
use Rattle.dsl_rules.specs.Rules.{may}
use Rattle.dsl_rules.specs.Reading.{Read, got, bad, ◌>>=◌, turns}
use Rattle.dsl_grammar.specs.Codes.{sorts, kind_sort, sign_sort}
use Rattle.dsl_grammar.specs.Grammar.{Target, target, target_of, stepped, Maybe_set, maybe_set, may_set, set_value, evaluated, Setting, setting, assigned, SetTo, SetOrEval}
use Rattle.dsl_grammar.specs.Operators.{set_sorts}
use Rattle.dsl_statements.specs.Parts.{set_of_left}
use Rattle.dsl_grammar.specs.Reading.{reads, read_by}
use Rattle.dsl_grammar.specs.Terms.{expr}
use Rattle.dsl_grammar.proofs.Turns.{turns_on, turns_bad, turns_end}

-- an assignment stands here
abbrev pub here_set : Expression → List Token → List Token → Bool
here_set e ts rest = and (is_some (stepped (target_of e))) (and (not (at sorts (sign_sort signs.OpenParen ∷ []) ts)) (at sorts set_sorts rest))

-- the turn is taken where it does
may_is : (e : Expression) (t : Token) (ts rest : List Token) → may sorts set_sorts (may_set (evaluated t e)) rest ≡ here_set e (t ∷ ts) rest
may_is e t ts [] = by (is_some (stepped (target_of e))) (not (at sorts (sign_sort signs.OpenParen ∷ []) (t ∷ ts)))
  where
    by : (a b : Bool) → false ≡ and a (and b false)
    by true true = refl
    by true false = refl
    by false b = refl
may_is e t ts (r ∷ rest) = by (at sorts set_sorts (r ∷ rest)) (same (kind_sort t.kind) (sign_sort signs.OpenParen)) (stepped (target_of e))
  where
    by : (a b : Bool) (o : Option Target) → and a (is_some (cond b None o)) ≡ and (is_some o) (and (not (cond b true false)) a)
    by true true None = refl
    by true true (Some x) = refl
    by true false None = refl
    by true false (Some x) = refl
    by false true None = refl
    by false true (Some x) = refl
    by false false None = refl
    by false false (Some x) = refl

-- where it does, the target is the expression's
left_is : (e : Expression) (t : Token) (ts rest : List Token) → here_set e (t ∷ ts) rest ≡ true → evaluated t e ≡ maybe_set (eval e) (stepped (target_of e))
left_is e t ts rest = by (at sorts set_sorts rest) (same (kind_sort t.kind) (sign_sort signs.OpenParen)) (stepped (target_of e))
  where
    by : (a b : Bool) (o : Option Target) → and (is_some o) (and (not (cond b true false)) a) ≡ true → maybe_set (eval e) (cond b None o) ≡ maybe_set (eval e) o
    by a true None h = refl
    by a true (Some x) h = absurd cc
    by a false o h = refl

-- no second turn is taken
only_one : (c : Maybe_set) (x : Setting) (ts : List Token) → may sorts set_sorts (may_set (assigned c x)) ts ≡ false
only_one c x [] = refl
only_one c x (t ∷ ts) = by (at sorts set_sorts (t ∷ ts)) c x
  where
    by : (b : Bool) (c : Maybe_set) (x : Setting) → and b (may_set (assigned c x) (sorts.sort_of t)) ≡ false
    by true (maybe_set s None) x = refl
    by true (maybe_set s (Some (target r ss))) (setting o e) = refl
    by false c x = refl

-- behind the expression
behind_left : (n : ℕ) (t : Token) (ts rest : List Token) (e : Expression) → reads (n - 1) expr (t ∷ ts) ≡ got e rest → read_by n SetOrEval (t ∷ ts) ≡ (turns sorts false set_sorts may_set assigned (read_by n SetTo) n (evaluated t e) rest >>= λ x more. got (set_value x) more)
unfolding SetOrEval
behind_left n t ts rest e h = rw h refl

pub eval_alone : (n : ℕ) (ts rest : List Token) (e : Expression) → nat_eq (length ts) 0 ≡ false → reads (n - 1) expr ts ≡ got e rest → here_set e ts rest ≡ false → read_by n SetOrEval ts ≡ got (eval e) rest
eval_alone n [] rest e some h off = absurd cc
eval_alone n (t ∷ ts) rest e some h off =
    behind_left n t ts rest e h ∙ ap (λ r. r >>= λ x more. got (set_value x) more) (turns_end n false set_sorts may_set assigned (read_by n SetTo) (evaluated t e) rest (may_is e t ts rest ∙ off))

-- what is assigned behind a target
pub set_read : (n : ℕ) (ts rest : List Token) (e : Expression) → 0 < n → nat_eq (length ts) 0 ≡ false → reads (n - 1) expr ts ≡ got e rest → here_set e ts rest ≡ true → read_by n SetOrEval ts ≡ read_by n (made (set_of_left e) SetTo) rest
set_read n [] rest e le some h on = absurd cc
set_read n (t ∷ ts) rest e le some h on = by (read_by n SetTo rest) refl
  where
    counts : n ≡ suc (n - 1)
    counts = omega arith

    by : (r : Read Token Setting) → read_by n SetTo rest ≡ r → read_by n SetOrEval (t ∷ ts) ≡ (read_by n SetTo rest >>= λ x more. got (set_of_left e x) more)
    by (got x mid) q =
        behind_left n t ts rest e h
        ∙ ap (λ r. r >>= λ x more. got (set_value x) more)
        (turns_on n (n - 1) false set_sorts may_set assigned (read_by n SetTo) (evaluated t e) x rest mid counts (may_is e t ts rest ∙ on) q
        ∙ turns_end (n - 1) false set_sorts may_set assigned (read_by n SetTo) (assigned (evaluated t e) x) mid (only_one (evaluated t e) x mid))
        ∙ ap (λ c. got (set_value (assigned c x)) mid) (left_is e t ts rest on)
        ∙ sym (ap (λ r. r >>= λ x more. got (set_of_left e x) more) q)
    by (bad s) q =
        behind_left n t ts rest e h
        ∙ ap (λ r. r >>= λ x more. got (set_value x) more)
        (turns_bad n (n - 1) false set_sorts may_set assigned (read_by n SetTo) (evaluated t e) rest s counts (may_is e t ts rest ∙ on) q)
        ∙ sym (ap (λ r. r >>= λ x more. got (set_of_left e x) more) q)

-- where a target stands, it is whole
pub stepped_is : (o : Option Target) → is_some (stepped o) ≡ true → stepped o ≡ o
stepped_is None h = refl
stepped_is (Some (target (at_name t) ss)) h = refl
stepped_is (Some (target at_this no_steps)) h = absurd cc
stepped_is (Some (target at_this (member_step m ss))) h = refl
stepped_is (Some (target at_this (index_step e ss))) h = refl
stepped_is (Some (target at_globals no_steps)) h = absurd cc
stepped_is (Some (target at_globals (member_step m ss))) h = refl
stepped_is (Some (target at_globals (index_step e ss))) h = refl

-- the test of the target alone
pub set_target : (e : Expression) (ts rest : List Token) → here_set e ts rest ≡ true → is_some (stepped (target_of e)) ≡ true
set_target e ts rest = by (is_some (stepped (target_of e)))
  where
    by : (b : Bool) → and b (and (not (at sorts (sign_sort signs.OpenParen ∷ []) ts)) (at sorts set_sorts rest)) ≡ true → b ≡ true
    by true h = refl
    by false h = h
