use Rattle.std.proofs.Common.{List, ℕ, Some, sym, ap, ◌∙◌, Bor}
use Rattle.depend_graph.proofs.Keying.{alone_in, firsts_known, firsts_new, firsts_none, known_in, new_in}
use Rattle.depend_graph.proofs.teams.leader_of.Goals as goal

pub returns-in_default-clause-leader : goal.returns-in_default-clause-leader
returns-in_default-clause-leader c = λ ds long firsts. alone_in ds c.args.depend.now c.args.place long c.in_default.is

pub returns-in_default-clause-firsts : goal.returns-in_default-clause-firsts
returns-in_default-clause-firsts c = λ ds long firsts. firsts_none (λ (r : Bor (List ℕ)). r.now) c.args.firsts.now ds c.args.depend.now c.in_default.is firsts

pub returns-in-Some-get-clause-leader : goal.returns-in-Some-get-clause-leader
returns-in-Some-get-clause-leader c = λ ds long firsts.
    known_in ds c.args.depend.now c.as_str.result.now c.in-Some-get.leader.now (c.in-Some.is ∙ ap Some (sym c.as_str.ensures))
    (sym (firsts (c.args.depend.now.child, c.as_str.result)) ∙ sym c.in-Some-get.ensures.value)

pub returns-in-Some-get-clause-firsts : goal.returns-in-Some-get-clause-firsts
returns-in-Some-get-clause-firsts c = λ ds long firsts.
    firsts_known (λ (r : Bor (List ℕ)). r.now) c.args.firsts.now ds c.args.depend.now c.as_str.result.now c.in-Some-get.leader.now (c.in-Some.is ∙ ap Some (sym c.as_str.ensures))
    (sym (firsts (c.args.depend.now.child, c.as_str.result)) ∙ sym c.in-Some-get.ensures.value) firsts

pub returns-clause-leader : goal.returns-clause-leader
returns-clause-leader c = λ ds long firsts.
    new_in ds c.args.depend.now c.as_str.result.now c.args.place long (c.in-Some.is ∙ ap Some (sym c.as_str.ensures))
    (sym (firsts (c.args.depend.now.child, c.as_str.result)) ∙ sym c.in_default-get.ensures.value)

pub returns-clause-firsts : goal.returns-clause-firsts
returns-clause-firsts c = λ ds long firsts.
    firsts_new (λ (r : Bor (List ℕ)). r.now) c.args.firsts.now c.insert.new.self ds c.args.depend.now c.as_str.result c.args.place long (c.in-Some.is ∙ ap Some (sym c.as_str.ensures))
    (sym (firsts (c.args.depend.now.child, c.as_str.result)) ∙ sym c.in_default-get.ensures.value) c.in_ok-insert.ensures.updates.0 firsts
