-- Reading by the grammar.
use Rattle.std.specs.Prelude.{ℕ, zero, suc, ◌-◌, List}
use Rattle.dsl_lexer.specs.declared.token.Token.{Token}
use Rattle.dsl_rules.specs.Reading.{Read, bad, read}
use Rattle.dsl_grammar.specs.Codes.{sorts}
use Rattle.dsl_grammar.specs.Terms.{Name, Value, starts, Rule}
use Rattle.dsl_grammar.specs.Grammar.{production}

-- what each name reads, with a bound on the tokens
unfoldable pub reads : ℕ → (k : Name) → List Token → Read Token (Value k)
reads zero k ts = bad ts
reads (suc n) k ts = read sorts starts (suc n) (reads n) (production k) ts

-- what a production reads of so many tokens at most
abbrev pub read_by : {A : Type 0} → ℕ → Rule A → List Token → Read Token A
read_by n g ts = read sorts starts n (reads (n - 1)) g ts
