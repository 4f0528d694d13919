use Rattle.std.proofs.Common.{rules, ◌≡◌, [], ◌∷◌, ◌+◌, ◌-◌, drop, true, refl, arith}
use Rattle.dsl_lexer.specs.declared.sign.Sign.TheVariants as signs
use Rattle.dsl_rules.specs.Alphabet.{at}
use Rattle.dsl_rules.specs.Grammar.{made}
use Rattle.dsl_rules.specs.Reading.{got}
use Rattle.dsl_grammar.specs.Codes.{sorts, sign_sort}
use Rattle.dsl_grammar.specs.Grammar.{dashed}
use Rattle.dsl_grammar.specs.Reading.{read_by}
use Rattle.dsl_grammar.specs.Terms.{IDENT}
use Rattle.dsl_next.proofs.Turns.{step_behind}
use Rattle.dsl_statements.proofs.inclusions.dashed_name.Goals as goal

pub loop-preserved : goal.loop-preserved
loop-preserved c =
    let held : at sorts (sign_sort signs.Minus ∷ []) c.loop.rest.now ≡ true = search rules in
    let next = (let q = c.in_ok-part.ensures in rw c.after_first.ensures at q) in
    let longer : c.push_str.new.self ≡ dashed c.loop.name c.in_ok-part.part = search rules in
    let read : read_by c.args.most (made (dashed c.loop.name) IDENT) (drop 1 c.loop.rest.now) ≡ got c.push_str.new.self c.in_ok-part.after.now = rw (next, longer) refl in
    step_behind c.args.most _ (c.args.most - (c.loop.counter + 1)) (sign_sort signs.Minus ∷ []) dashed IDENT c.loop.name c.push_str.new.self c.loop.rest.now c.in_ok-part.after.now _ (omega arith) held read c.loop.invariant
