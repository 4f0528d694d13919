use Rattle.std.proofs.Common.{length, subst, sym}
use Rattle.dsl_value.specs.Whole.{NamesAll}
use Rattle.eval_work.specs.Kept.{NamedAll}
use Rattle.name_work.proofs.calling.call_locals.Goals as goal

pub returns-clause-named : goal.returns-clause-named
returns-clause-named c =
    let s = c.args.work.now.store in
    let cells = length s.cells in
    let functions = length s.functions in
    c.in_ok-put_params.ensures.named cells functions
    (c.in_ok-put_all.ensures.named cells functions (subst (NamesAll cells functions) (sym c.new-locals.ensures) tt) (subst (NamesAll cells functions) (sym c.deref.ensures.value) c.function.ensures.captures))
    (subst (NamedAll s) (sym c.deref-2.ensures.value) c.requires.args)
