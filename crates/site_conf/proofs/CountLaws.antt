-- The inclusions of a file are as many as its statements that include files.
use Rattle.std.proofs.Common.{◌≡◌, ℕ, suc, cond, List, ◌++◌, length, refl, ap}
use Rattle.std.specs.Option.{option_to_list}
use Rattle.dsl_syntax.specs.Syntax as syntax
use Rattle.walk_order.specs.Orders.{is_inclusion, inclusion_count}
use Rattle.conf_sources.specs.Inclusions.{inclusion_of, inclusions}
use Rattle.conf_sources.specs.declared.inclusion.Inclusion.{Inclusion}

counted_by : (k : syntax.StatementKind) (n : ℕ) (more : List Inclusion) → length more ≡ n → length (option_to_list (inclusion_of k) ++ more) ≡ cond (is_inclusion k) (suc n) n
counted_by (syntax.object x0 x1 x2 x3) n more e = e
counted_by (syntax.template x0 x1 x2 x3) n more e = e
counted_by (syntax.apply x0 x1 x2 x3 x4 x5) n more e = e
counted_by (syntax.assign x0) n more e = e
counted_by (syntax.ignore x0) n more e = e
counted_by (syntax.import x0) n more e = e
counted_by (syntax.throw x0) n more e = e
counted_by (syntax.eval x0) n more e = e
counted_by (syntax.include x0 x1) n more e = ap suc e
counted_by (syntax.include_library x0 x1) n more e = ap suc e
counted_by (syntax.include_all x0 x1 x2) n more e = ap suc e
counted_by (syntax.const x0 x1) n more e = e
counted_by (syntax.var x0 x1) n more e = e
counted_by (syntax.set x0 x1 x2 x3) n more e = e
counted_by (syntax.choose x0 x1) n more e = e
counted_by (syntax.while x0 x1) n more e = e
counted_by (syntax.for x0 x1) n more e = e
counted_by (syntax.define x0 x1) n more e = e
counted_by (syntax.return x0) n more e = e
counted_by syntax.break n more e = e
counted_by syntax.continue n more e = e

pub counted : (tree : syntax.Statements) → length (inclusions tree) ≡ inclusion_count tree
counted syntax.no_statements = refl
counted (syntax.more_statements (syntax.statement p k) ss) = counted_by k (inclusion_count ss) (inclusions ss) (counted ss)
