use Rattle.std.proofs.Common.{rules, ◌≡◌, ◌+◌, ◌-◌, true, arith}
use Rattle.dsl_rules.specs.Alphabet.{at}
use Rattle.dsl_grammar.specs.Codes.{sorts}
use Rattle.dsl_parts.specs.ExprParts.{prefixes_view}
use Rattle.dsl_grammar.specs.Grammar.{OnePrefix, add_prefix}
use Rattle.dsl_grammar.specs.Operators.{unary_sorts}
use Rattle.dsl_next.proofs.Turns.{step_at}
use Rattle.dsl_parts.proofs.prefixes.prefixes.Goals as goal

pub loop-preserved : goal.loop-preserved
loop-preserved c =
    let held : at sorts unary_sorts c.loop.rest.now ≡ true = search rules in
    step_at c.args.most _ (c.args.most - (c.loop.counter + 1)) unary_sorts add_prefix OnePrefix (prefixes_view c.loop.signs.items) (prefixes_view c.in_ok-longer.longer.items) c.loop.rest.now c.in_ok-longer.after.now _ (omega arith) held c.in_ok-longer.ensures c.loop.invariant
