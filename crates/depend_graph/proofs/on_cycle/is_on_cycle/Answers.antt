use Rattle.std.proofs.Common.{◌≡◌, true, false, sym, ap, ◌∙◌}
use Rattle.depend_graph.specs.Parents.{has}
use Rattle.depend_graph.proofs.Freed.{off_cycle}
use Rattle.depend_graph.proofs.OnCycle.{by_ancestors, by_none}
use Rattle.depend_graph.proofs.on_cycle.is_on_cycle.Goals as goal

pub returns-then-cleared-depend-clause-no : goal.returns-then-cleared-depend-clause-no
returns-then-cleared-depend-clause-no c = λ s are mine no.
    off_cycle s c.args.depend.now mine (c.requires.cleared.free s are c.args.depend.now.child c.if-cleared-depend.true)

pub returns-clause-yes : goal.returns-clause-yes
returns-clause-yes c = λ s are yes.
    let there : has c.args.depend.now.child c.as_slice.result.now ≡ true = sym c.is_among.ensures ∙ yes in
    by_ancestors s c.args.depend.now c.in_ok-found.found (c.in_ok-found.ensures.above s are) (ap (has c.args.depend.now.child) (sym c.as_slice.ensures) ∙ there)

pub returns-clause-no : goal.returns-clause-no
returns-clause-no c = λ s are mine no.
    let gone : has c.args.depend.now.child c.as_slice.result.now ≡ false = sym c.is_among.ensures ∙ no in
    by_none s c.args.depend.now c.in_ok-found.found (c.in_ok-found.ensures.above s are) c.if-depend.false (ap (has c.args.depend.now.child) (sym c.as_slice.ensures) ∙ gone)
