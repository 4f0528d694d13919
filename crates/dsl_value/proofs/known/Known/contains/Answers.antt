use Rattle.std.proofs.Common.{◌≡◌, true, sym, subst, ◌∙◌, arith}
use Rattle.std.specs.BTreeSet.{contains}
use Rattle.std.specs.Ordering.{nat_cmp}
use Rattle.dsl_value.proofs.known.Known.contains.Goals as goal

pub returns : goal.returns
returns c = λ cells known yes.
    known c.args.levels c.args.left c.args.right (omega arith) (omega arith)
    (subst (λ n. contains nat_cmp c.args.self.now.numbers n ≡ true) c.number.ensures (sym c.contains.ensures ∙ yes))
