use Rattle.std.proofs.Common.{◌≡◌, ◌++◌, ◌∷◌, false, nat_lt, drop}
use Rattle.dsl_tree.specs.Spelling.{names_text, params_text}
use Rattle.dsl_tree.proofs.exprs.push_params.Given as goal

abbrev pub invariant-loop-i : goal.invariant-loop-i
invariant-loop-i l = l.out ++ names_text (nat_lt 0 l.i) (drop l.i l.params) ≡ l.fn.out ++ params_text l.params
