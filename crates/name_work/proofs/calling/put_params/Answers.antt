use Rattle.std.proofs.Common.{drop, sym, ap, ◌∙◌}
use Rattle.std.proofs.lemmas.List.{drop_all}
use Rattle.dsl_value.specs.Pairs.{dict_of}
use Rattle.eval_meaning.specs.Functions.{bound}
use Rattle.eval_work.proofs.Named.{all_named, bound_named}
use Rattle.name_work.proofs.calling.put_params.Goals as goal

pub returns-clause-named : goal.returns-clause-named
returns-clause-named c = λ cells functions a h.
    let ns = c.args.params.now in
    let vs = c.args.args.now in
    let all = sym (ap (λ ms. dict_of (bound ms (drop c.loop-i.i vs)) c.loop-i.locals) (drop_all c.loop-i.i ns c.loop-i-test.false)) ∙ c.loop-i.invariant in
    all_named cells functions (bound ns vs) c.args.locals.now c.loop-i.locals all a (bound_named cells functions ns vs h)
