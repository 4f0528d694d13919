-- Turns of rows, by what each makes of the things before it.
use Rattle.std.proofs.Common.{◌≡◌, ◌≢◌, ◌-◌, ℕ, zero, suc, List, [], ◌∷◌, drop, Bool, true, false, refl, ap, ◌∙◌, arith}
use Rattle.dsl_syntax.specs.Syntax.{Statement, Statements, no_expression, some_expression, Expression}
use Rattle.dsl_lexer.specs.declared.token.Token.{Token}
use Rattle.dsl_rules.specs.Alphabet.{Sort, at, outside}
use Rattle.dsl_rules.specs.Grammar.{one, made, always}
use Rattle.dsl_rules.specs.Reading.{Read, got, bad, ◌>>=◌, turns, first}
use Rattle.dsl_rules.proofs.Choice.{inside}
use Rattle.dsl_lexer.specs.declared.sign.Sign.TheVariants as signs
use Rattle.dsl_grammar.specs.Codes.{sorts, sign_sort}
use Rattle.dsl_grammar.specs.Grammar.{production, ApplyName}
use Rattle.dsl_syntax.specs.Lists.{add_statement}
use Rattle.dsl_grammar.specs.Reading.{reads, read_by}
use Rattle.dsl_grammar.specs.Terms.{Name, expr, starts, Rule, Turn, nothing, thing, add_turn, behind, maybe}
use Rattle.dsl_grammar.proofs.Turns.{turns_on, may_at}

-- Rows of statements.

-- what the turns from here on give
abbrev pub row_from : ℕ → List Sort → Rule (Turn Statement) → ℕ → Statements → List Token → Read Token Statements
row_from most seps g m ss ts = turns sorts false seps always (add_turn add_statement) (read_by most (behind (one seps (λ t. t.place)) g)) m ss ts

pub row_step : (most m n : ℕ) (seps : List Sort) (g : Rule (Turn Statement)) (ss us : Statements) (ts mid : List Token) → m ≡ suc n → at sorts seps ts ≡ true → read_by most (made (add_turn add_statement ss) g) (drop 1 ts) ≡ got us mid → row_from most seps g m ss ts ≡ row_from most seps g n us mid
row_step most m n seps g ss us [] mid e h q = absurd cc
row_step most m n seps g ss us (t ∷ ts) mid e h q = by (read_by most g ts) refl q
  where
    by : (r : Read Token (Turn Statement)) → read_by most g ts ≡ r → (r >>= λ x rest. got (add_turn add_statement ss x) rest) ≡ got us mid → row_from most seps g m ss (t ∷ ts) ≡ row_from most seps g n us mid
    by (got x rest) is q =
        let taken : read_by most (behind (one seps (λ t. t.place)) g) (t ∷ ts) ≡ got x rest = rw (h, is) refl in
        let same_value : add_turn add_statement ss x ≡ us = cc in
        let same_rest : rest ≡ mid = cc in
        turns_on m n false seps always (add_turn add_statement) (read_by most (behind (one seps (λ t. t.place)) g)) ss x (t ∷ ts) rest e (may_at seps (t ∷ ts) ∙ h) taken
        ∙ ap (λ z. row_from most seps g n z rest) same_value
        ∙ ap (λ z. row_from most seps g n us z) same_rest
    by (bad s) is q = absurd cc

-- One thing of a row, or none.

pub thing_is : (most : ℕ) (cs : List Sort) (g : Rule Statement) → first sorts starts false g ≡ cs → (ss : Statements) (ts : List Token) → at sorts cs ts ≡ true → read_by most (made (add_turn add_statement ss) (maybe thing nothing g)) ts ≡ (read_by most g ts >>= λ s rest. got (add_statement ss s) rest)
thing_is most cs g e ss ts h = rw (e, h) (by (read_by most g ts))
  where
    by : (r : Read Token Statement) → ((r >>= λ s rest. got (thing s) rest) >>= λ x rest. got (add_turn add_statement ss x) rest) ≡ (r >>= λ s rest. got (add_statement ss s) rest)
    by (got s rest) = refl
    by (bad s) = refl

pub thing_absent : (most : ℕ) (cs : List Sort) (g : Rule Statement) → first sorts starts false g ≡ cs → (ss : Statements) (ts : List Token) → at sorts cs ts ≡ false → read_by most (made (add_turn add_statement ss) (maybe thing nothing g)) ts ≡ got ss ts
thing_absent most cs g e ss ts h = rw (e, h) refl

-- The name of an apply rule.

abbrev pub name_sorts : List Sort
name_sorts = outside (sign_sort signs.OpenBrace ∷ []) (starts expr)

no_brace : (ts : List Token) → at sorts name_sorts ts ≡ true → at sorts (sign_sort signs.OpenBrace ∷ []) ts ≡ false
no_brace [] h = refl
no_brace (t ∷ ts) h = (inside (sorts.sort_of t) (sign_sort signs.OpenBrace ∷ []) (starts expr) h).1

pub name_read : (most : ℕ) (e : Expression) (ts rest : List Token) → at sorts name_sorts ts ≡ true → reads (most - 1) expr ts ≡ got e rest → read_by most ApplyName ts ≡ got (some_expression e) rest
unfolding ApplyName
name_read most e ts rest h q = let n = no_brace ts h in rw (h, n, q) refl

pub name_is : (most : ℕ) (ts : List Token) → at sorts name_sorts ts ≡ true → read_by most ApplyName ts ≡ (reads (most - 1) expr ts >>= λ e rest. got (some_expression e) rest)
unfolding ApplyName
name_is most ts h = let n = no_brace ts h in rw (h, n) refl

pub name_absent : (most : ℕ) (ts : List Token) → at sorts name_sorts ts ≡ false → read_by most ApplyName ts ≡ got no_expression ts
unfolding ApplyName
name_absent most ts h = rw h refl
