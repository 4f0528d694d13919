use Rattle.std.proofs.Common.{length, sym, subst, ap}
use Rattle.dsl_value.specs.Contents.{plain}
use Rattle.dsl_value.specs.Whole.{Stands}
use Rattle.rule_expressions.proofs.Looping.{strings_named, pairs_named}
use Rattle.rule_expressions.proofs.loops.elements_of.Goals as goal

pub returns-in-None-Array-clause-named : goal.returns-in-None-Array-clause-named
returns-in-None-Array-clause-named c = strings_named c.args.work.now.store c.args.key.now c.deref.result.now c.strings.result c.strings.ensures

pub returns-in-Some-Dict-clause-named : goal.returns-in-Some-Dict-clause-named
returns-in-Some-Dict-clause-named c =
    let s = c.args.work.now.store in
    pairs_named s c.args.key.now c.in-Some-Dict.second _ c.pair_elements.result c.pair_elements.ensures
    (subst (Stands (length s.cells) (length s.functions)) (ap plain c.in-Some-Dict.is-1) c.cell.ensures.stands).0
