use Rattle.std.proofs.Common.{◌≡◌, ◌+◌, ◌<◌, ◌^◌, ◌++◌, length, sym, subst, ap, arith, length-append}
use Rattle.dsl_value.specs.Whole.{NamesAll}
use Rattle.dsl_value.proofs.Kept.{added_function}
use Rattle.dsl_value.proofs.Growing.{shows_function}
use Rattle.dsl_value.proofs.store.Store.add_function.Goals as goal

pub invariant_of-self-2 : goal.invariant_of-self-2
invariant_of-self-2 c =
    let count : length (c.self.inside.frozen.functions ++ c.self.inside.live.functions) ≡ length c.args.self.now.functions = ap (λ s. length s.functions) c.self.view_is in
    let sum = length-append c.self.inside.frozen.functions c.self.inside.live.functions in
    let few : length c.args.self.now.functions + 1 < 2 ^ 32 = omega (arith, c.in_ok-number.ensures, c.functions.ensures, c.functions-2.ensures, count, sum) in
    added_function c.self.inside.frozen c.self.inside.live c.self.inside.base c.self.invariant c.args.self.now c.self.view_is _ _ few (subst (NamesAll (length c.args.self.now.cells) (length c.args.self.now.functions)) (sym c.into_vec.ensures) c.requires.stands) c.in_ok-add_function.ensures.ok

pub returns-clause-grows : goal.returns-clause-grows
returns-clause-grows c = shows_function c.self.inside.frozen c.self.inside.live c.self.inside.base c.args.self.now c.self.view_is _ _ c.in_ok-add_function.ensures.ok
