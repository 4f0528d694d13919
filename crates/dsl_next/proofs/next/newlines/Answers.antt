use Rattle.std.proofs.Common.{rules, ◌≡◌, [], ◌∷◌, ◌+◌, ◌-◌, suc, true, sym, ◌∙◌, arith}
use Rattle.dsl_rules.specs.Alphabet.{at}
use Rattle.dsl_grammar.specs.Codes.{sorts, line_sort}
use Rattle.dsl_grammar.proofs.Turns.{line_turn}
use Rattle.dsl_next.proofs.next.newlines.Goals as goal

pub loop-preserved : goal.loop-preserved
loop-preserved c =
    let counts : c.args.most - c.loop.counter ≡ suc (c.args.most - (c.loop.counter + 1)) = omega arith in
    let held : at sorts (line_sort ∷ []) c.loop.rest.now ≡ true = search rules in
    rw c.after_first-rest.ensures (sym (line_turn _ _ c.loop.rest.now counts held) ∙ c.loop.invariant)
