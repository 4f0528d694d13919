-- What the functions of the parser return, beside what the grammar reads.
use Rattle.std.specs.Prelude.{◌≡◌, List, Result, Ok, Err}
use Rattle.std.specs.Borrow.{Bor}
use Rattle.dsl_lexer.specs.declared.token.Token.{Token}
use Rattle.dsl_rules.specs.Reading.{Read, got, bad}
use Rattle.dsl_next.specs.declared.stop.Stop.{Stop}
use Rattle.dsl_next.specs.declared.stop.Stop.TheVariants as stops

-- what a function returned is what is read, as `view` sees its value, unless memory ran out
abbrev pub Gives : {A B : Type 0} → (A → B) → Result (A × Bor (List Token)) Stop → Read Token B → Type 0
Gives view (Ok x) r = r ≡ got (view x.0) x.1.now
Gives view (Err (stops.Fault f)) r = r ≡ bad f.now
Gives view (Err stops.Memory) r = Unit {0}
