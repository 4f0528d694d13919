use Rattle.std.proofs.Common.{◌≤◌, ap, subst}
use Rattle.dsl_value.specs.Changes.{changed}
use Rattle.dsl_value.proofs.Kept.{changed as changed_cell, stands_changed}
use Rattle.dsl_value.proofs.Growing.{grows_changed}
use Rattle.dsl_value.proofs.store.Store.change.Goals as goal

pub invariant_of-self-2 : goal.invariant_of-self-2
invariant_of-self-2 c = (changed_cell c.self.inside.frozen c.self.inside.live c.self.inside.base c.args.cell (λ x. changed c.args.change x) c.self.invariant (c.is_frozen.ensures.live c.if-is_frozen.false) _ _ c.args.self.now c.self.view_is c.len.ensures c.requires.inside (stands_changed _ _ _ c.args.change c.requires.stands) c.in_ok-change.ensures.ok).0

pub returns-clause-ok : goal.returns-clause-ok
returns-clause-ok c = (changed_cell c.self.inside.frozen c.self.inside.live c.self.inside.base c.args.cell (λ x. changed c.args.change x) c.self.invariant (c.is_frozen.ensures.live c.if-is_frozen.false) _ _ c.args.self.now c.self.view_is c.len.ensures c.requires.inside (stands_changed _ _ _ c.args.change c.requires.stands) c.in_ok-change.ensures.ok).1

pub returns-clause-grows : goal.returns-clause-grows
returns-clause-grows c =
    grows_changed c.args.self.now _ c.args.cell c.args.change (subst (λ b. b ≤ c.args.cell) (ap (λ s. s.base) c.self.view_is) (c.is_frozen.ensures.live c.if-is_frozen.false))
    ((changed_cell c.self.inside.frozen c.self.inside.live c.self.inside.base c.args.cell (λ x. changed c.args.change x) c.self.invariant (c.is_frozen.ensures.live c.if-is_frozen.false) _ _ c.args.self.now c.self.view_is c.len.ensures c.requires.inside (stands_changed _ _ _ c.args.change c.requires.stands) c.in_ok-change.ensures.ok).1)
