use Rattle.std.proofs.Common.{◌≡◌, ◌+◌, ◌<◌, ◌^◌, ◌++◌, length, sym, subst, ap, ◌∙◌, arith, length-append}
use Rattle.dsl_value.specs.Contents.{dict}
use Rattle.dsl_value.specs.Whole.{Stands}
use Rattle.dsl_value.proofs.Kept.{added}
use Rattle.dsl_value.proofs.Growing.{shows_cell}
use Rattle.dsl_value.proofs.store.Store.sorted_dict.Goals as goal

pub invariant_of-self-2 : goal.invariant_of-self-2
invariant_of-self-2 c =
    let count : length (c.self.inside.frozen.cells ++ c.self.inside.live.cells) ≡ length c.args.self.now.cells = ap (λ s. length s.cells) c.self.view_is in
    let sum = length-append c.self.inside.frozen.cells c.self.inside.live.cells in
    let few : length c.args.self.now.cells + 1 < 2 ^ 32 = omega (arith, c.in_ok-number.ensures, c.len.ensures, c.len-2.ensures, count, sum) in
    added c.self.inside.frozen c.self.inside.live c.self.inside.base c.self.invariant c.args.self.now c.self.view_is _ _ few (subst (λ ps. Stands (length c.args.self.now.cells) (length c.args.self.now.functions) (dict ps)) (sym (c.of_rising-sorted.ensures ∙ c.into_vec.ensures)) (c.requires.stands, c.requires.sorted)) c.in_ok-add.ensures.ok

pub returns-clause-grows : goal.returns-clause-grows
returns-clause-grows c = shows_cell c.self.inside.frozen c.self.inside.live c.self.inside.base c.args.self.now c.self.view_is _ _ c.in_ok-add.ensures.ok
