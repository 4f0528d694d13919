-- What expressions and their levels read, by the bound and by the level.
use Rattle.std.proofs.Common.{◌≡◌, ◌≢◌, ◌<◌, ◌≤◌, ℕ, zero, suc, ◌-◌, List, [], ◌∷◌, length, nat_eq, true, refl, sym, ◌∙◌, arith}
use Rattle.std.proofs.lemmas.Bool.Decides.{nat_tests}
use Rattle.dsl_lexer.specs.declared.token.Token.{Token}
use Rattle.dsl_rules.specs.Grammar.{chain}
use Rattle.dsl_rules.specs.Reading.{bad}
use Rattle.dsl_grammar.specs.Grammar.{Whole, Level, Operator, Unary, joined, production}
use Rattle.dsl_grammar.specs.Operators.{level_sorts}
use Rattle.dsl_grammar.specs.Reading.{reads, read_by}
use Rattle.dsl_grammar.specs.Terms.{Name, expr}

pub name_is : (n : ℕ) (k : Name) (ts : List Token) → 0 < n → reads n k ts ≡ read_by n (production k) ts
unfolding reads
name_is zero k ts some = absurd (omega arith)
name_is (suc n) k ts some = let one : suc n - 1 ≡ n = omega arith in rw one refl

-- there is no expression at the end
whole_end : (n : ℕ) → read_by n Whole [] ≡ bad []
unfolding Whole Level Unary
whole_end n = refl

-- where there are no more tokens than the bound
pub expr_is : (n : ℕ) (ts : List Token) → length ts ≤ n → reads n expr ts ≡ read_by n Whole ts
unfolding reads
expr_is zero [] le = sym (whole_end 0)
expr_is zero (t ∷ ts) le = absurd (omega arith)
expr_is (suc n) ts le = name_is (suc n) expr ts (omega arith)

pub expr_end : (n : ℕ) (ts : List Token) → nat_eq (length ts) 0 ≡ true → reads n expr ts ≡ bad ts
expr_end n [] none = expr_is n [] (omega arith) ∙ whole_end n
expr_end n (t ∷ ts) none = absurd (let e : length (t ∷ ts) ≡ 0 = grind (arith, nat_tests) in omega (arith, e))

pub level_none : (n k : ℕ) (ts : List Token) → k ≡ 0 → read_by n (Level k) ts ≡ read_by n Unary ts
unfolding Level
level_none n zero ts e = refl
level_none n (suc k) ts e = absurd cc

pub level_on : (n k : ℕ) (ts : List Token) → k ≢ 0 → read_by n (Level k) ts ≡ read_by n (chain (level_sorts (k - 1)) joined (Level (k - 1)) (Operator (k - 1))) ts
unfolding Level
level_on n zero ts e = absurd (e refl)
level_on n (suc k) ts e = let one : suc k - 1 ≡ k = omega arith in rw one refl
