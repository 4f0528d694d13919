use Rattle.std.proofs.Common.{rules, ap, ◌∙◌, ◌++◌, sym}
use Rattle.dsl_lib.proofs.Parts.{replaced_step, replaced_none, pushed_twice}
use Rattle.dsl_lib.proofs.replacing.push_replaced.Goals as goal

pub loop-front-preserved : goal.loop-front-preserved
loop-front-preserved c = (search rules, pushed_twice c.loop-front.out _ _ c.in-Some.front.now c.args.by.now _ _ _ c.in_ok-push_str.ensures.ok c.in_ok-push_str-2.ensures.ok (replaced_step _ _ _ _ _ c.requires c.in-Some.ensures.cases) c.loop-front.invariant.1)

pub returns : goal.returns
returns c = c.in_ok-push_str-3.ensures.ok ∙ ap (λ x. c.loop-front.out ++ x) (sym (replaced_none c.args.part.now c.args.by.now c.loop-front.rest.now c.requires c.in_default.ensures.cases)) ∙ c.loop-front.invariant.1
