use Rattle.std.proofs.Common.{◌≡◌, ◌+◌, ◌<◌, ◌^◌, [], ◌∷◌, ◌++◌, length, sym, subst, ◌∙◌, ap, arith, length-append}
use Rattle.dsl_value.specs.Contents.{dict, pairs_of}
use Rattle.dsl_value.specs.Pairs.{find, dict_of}
use Rattle.dsl_value.specs.Whole.{Stands}
use Rattle.dsl_value.proofs.Kept.{added, stands_dict}
use Rattle.dsl_value.proofs.Rising.{added_last, last_wins}
use Rattle.dsl_value.proofs.Growing.{shows_cell}
use Rattle.dsl_value.proofs.store.Store.dict.Goals as goal

pub invariant_of-self-2 : goal.invariant_of-self-2
invariant_of-self-2 c =
    let count : length (c.self.inside.frozen.cells ++ c.self.inside.live.cells) ≡ length c.args.self.now.cells = ap (λ s. length s.cells) c.self.view_is in
    let sum = length-append c.self.inside.frozen.cells c.self.inside.live.cells in
    let few : length c.args.self.now.cells + 1 < 2 ^ 32 = omega (arith, c.in_ok-number.ensures, c.len.ensures, c.len-2.ensures, count, sum) in
    added c.self.inside.frozen c.self.inside.live c.self.inside.base c.self.invariant c.args.self.now c.self.view_is _ _ few (subst (λ ps. Stands (length c.args.self.now.cells) (length c.args.self.now.functions) (dict ps)) (sym (c.in_ok-sorted.ensures ∙ ap (λ ps. dict_of ps []) c.into_vec.ensures)) (stands_dict _ _ _ c.requires.stands)) c.in_ok-add.ensures.ok

pub returns-clause-last : goal.returns-clause-last
returns-clause-last c key =
    ap (λ k. find key (pairs_of k)) (added_last c.self.inside.frozen.cells c.self.inside.live.cells c.add.new.self.cells (dict (dict_of c.args.pairs [])) (length c.args.self.now.cells)
    (ap (λ l. l.cells) c.in_ok-add.ensures.ok ∙ ap (λ ps. c.self.inside.live.cells ++ dict ps ∷ []) (c.in_ok-sorted.ensures ∙ ap (λ ps. dict_of ps []) c.into_vec.ensures)) (ap (λ s. length s.cells) c.self.view_is))
    ∙ last_wins key c.args.pairs

pub returns-clause-grows : goal.returns-clause-grows
returns-clause-grows c = shows_cell c.self.inside.frozen c.self.inside.live c.self.inside.base c.args.self.now c.self.view_is _ _ c.in_ok-add.ensures.ok
