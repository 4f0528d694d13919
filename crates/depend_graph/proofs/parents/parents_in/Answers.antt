use Rattle.std.proofs.Common.{◌≡◌, ◌<◌, List, get_or, ap, ◌∙◌, length, arith, length-set, sym, subst}
use Rattle.site_model.specs.declared.depend_spec.DependSpec.{DependSpec}
use Rattle.depend_graph.proofs.Pushing.{given_step}
use Rattle.depend_graph.proofs.parents.parents_in.Goals as goal

pub loop-depend-preserved : goal.loop-depend-preserved
loop-depend-preserved c =
    let l : c.loop-depend.depend-index < length c.args.site.now.depends = subst (λ (xs : List DependSpec). c.loop-depend.depend-index < length xs) c.as_slice-depend-items.ensures c.loop-depend-test.true in
    let at : c.depend-item.result ≡ get_or c.args.site.now.depends c.loop-depend.depend-index c.depend-item.result = c.depend-item.is ∙ ap (λ (xs : List DependSpec). get_or xs c.loop-depend.depend-index c.depend-item.result) c.as_slice-depend-items.ensures in
    let h = c.requires.children c.loop-depend.depend-index c.depend-item.result l in
    let e = c.loop-depend.invariant.long in
    let inside : c.depend-item.result.child < length c.loop-depend.lists = subst (λ (d : DependSpec). d.child < length c.loop-depend.lists) (sym at) (omega (arith, h, e)) in
    record {
      long = ap length c.in_ok-push.ensures.ok ∙ length-set c.loop-depend.lists _ _ ∙ c.loop-depend.invariant.long;
      parents = λ k in_range. given_step c.loop-depend.lists c.push.new.self k c.args.site.now.depends c.loop-depend.depend-index c.depend-item.result _ l at inside c.in_ok-push.ensures.ok (c.loop-depend.invariant.parents k in_range);
    }
