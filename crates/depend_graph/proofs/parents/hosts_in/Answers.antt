use Rattle.std.proofs.Common.{◌≡◌, ◌<◌, List, length, get_or, map, None, Some, ap, ◌∙◌, subst, arith, length-set}
use Rattle.std.proofs.lemmas.List.{length-map}
use Rattle.site_model.specs.PlainSite.{check_view}
use Rattle.site_model.specs.declared.check_spec.CheckSpec.{CheckSpec}
use Rattle.depend_graph.proofs.Asking.{its_host}
use Rattle.depend_graph.proofs.Pushing.{hosted, unhosted}
use Rattle.run_meaning.specs.Turns.{of_index}
use Rattle.depend_graph.proofs.parents.hosts_in.Goals as goal
use Rattle.depend_graph.proofs.parents.hosts_in.Goals.{in-Some+in_ok-push, in_default}

pub loop-checkable-preserved : goal.loop-checkable-preserved
loop-checkable-preserved c =
    let l : c.loop-checkable.checkable < length c.args.site.now.checkables = subst (λ (xs : List CheckSpec). c.loop-checkable.checkable < length xs) c.as_slice-spec-items.ensures c.loop-checkable-test.true in
    let at : c.spec-item.result ≡ get_or c.args.site.now.checkables c.loop-checkable.checkable c.spec-item.result = c.spec-item.is ∙ ap (λ (xs : List CheckSpec). get_or xs c.loop-checkable.checkable c.spec-item.result) c.as_slice-spec-items.ensures in
    let e = c.loop-checkable.invariant.long in
    let m = length-map c.args.site.now.checkables check_view in
    elim c.match-spec.branch [
      | in-Some+in_ok-push w ↦ record {
        long = ap length (w.lists-is ∙ w.in_ok-push.ensures.ok) ∙ length-set c.loop-checkable.lists _ _ ∙ c.loop-checkable.invariant.long;
        hosts = λ k. hosted (map check_view c.args.site.now.checkables) c.loop-checkable.lists c.match-spec.lists c.loop-checkable.checkable w.in-Some.host k (omega (arith, l, e, m)) (w.lists-is ∙ w.in_ok-push.ensures.ok)
            (its_host c.args.site.now.checkables c.loop-checkable.checkable c.spec-item.result l at (Some w.in-Some.host) w.in-Some.is) c.loop-checkable.invariant.hosts;
      }
      | in_default w ↦ record {
        long = ap length w.lists-is ∙ c.loop-checkable.invariant.long;
        hosts = λ k. ap (of_index k) w.lists-is ∙ unhosted (map check_view c.args.site.now.checkables) c.loop-checkable.lists c.loop-checkable.checkable k
            (its_host c.args.site.now.checkables c.loop-checkable.checkable c.spec-item.result l at None w.in_default.is) c.loop-checkable.invariant.hosts;
      }
    ]
