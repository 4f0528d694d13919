use Rattle.std.proofs.Common.{rules, ◌≡◌}
use Rattle.dsl_value.specs.Pairs.{dict_of}
use Rattle.eval_work.proofs.Named.{all_named}
use Rattle.eval_work.proofs.locals.Locals.put_left.Goals as goal

pub returns-clause-named : goal.returns-clause-named
returns-clause-named c = λ cells functions a h.
    let all : c.loop-name.self ≡ dict_of c.args.pairs.now c.args.self.now = search rules in
    all_named cells functions c.args.pairs.now c.args.self.now c.loop-name.self all a h
