use Rattle.std.proofs.Common.{◌≡◌, ◌+◌, Some, true, length, slice_get, refl, sym, ap, ◌∙◌, subst, arith}
use Rattle.std.proofs.lemmas.Option.{slice_get_read}
use Rattle.site_model.specs.PlainSite.{site_view}
use Rattle.run_meaning.specs.Reachability.{parents_of}
use Rattle.depend_graph.specs.Parents.{has}
use Rattle.depend_graph.proofs.BuildSteps.{parents_below}
use Rattle.depend_graph.proofs.Has.{eq_self}
use Rattle.depend_graph.proofs.OnCycle.{AreFound, added_one, all_found, no_found, none_found, passed}
use Rattle.depend_graph.proofs.Steps.{parent_has}
use Rattle.depend_graph.proofs.on_cycle.on_cycles.Goals as goal
use Rattle.depend_graph.proofs.on_cycle.on_cycles.Goals.{then-branch+in_ok-push, else-branch}

pub cleared-requires : goal.cleared-requires
cleared-requires c = parents_below (site_view c.args.site.now) c.requires.sound c.args.parents.now c.requires.parents

pub is_on_cycle-requires-clause-below : goal.is_on_cycle-requires-clause-below
is_on_cycle-requires-clause-below c = parents_below (site_view c.args.site.now) c.requires.sound c.args.parents.now c.requires.parents

pub loop-place-preserved : goal.loop-place-preserved
loop-place-preserved c =
    let s = site_view c.args.site.now in
    let d = c.depend-item.result in
    let at : slice_get c.args.site.now.depends c.loop-place.place ≡ Some d =
    ap (λ xs. slice_get xs c.loop-place.place) (sym c.as_slice-depend-items.ensures)
    ∙ slice_get_read c.as_slice-depend-items.result.now (length c.as_slice-depend-items.result.now) c.loop-place.place d refl c.loop-place-test.true c.depend-item.is in
    let mine : has d.parent (parents_of s d.child) ≡ true = parent_has s d.child c.loop-place.place d at (eq_self d.child) in
    record {
      long = c.in_ok-is_on_cycle.ensures.length;
      most = c.in_ok-is_on_cycle.ensures.marked;
      found = elim c.if-branch.branch [
        | then-branch+in_ok-push w ↦
            subst (AreFound s (c.loop-place.place + 1)) (sym (ap (λ v. v.items) w.found-is ∙ w.in_ok-push.ensures.items))
            (added_one s c.loop-place.place c.loop-place.found.items d c.loop-place.invariant.found at (c.in_ok-is_on_cycle.ensures.yes s c.requires.parents w.if-branch.true))
        | else-branch w ↦
            subst (AreFound s (c.loop-place.place + 1)) (sym (ap (λ v. v.items) w.found-is))
            (passed s c.loop-place.place c.loop-place.found.items d c.loop-place.invariant.found at (c.in_ok-is_on_cycle.ensures.no s c.requires.parents mine w.if-branch.false))
      ];
    }

pub returns-clause-some : goal.returns-clause-some
returns-clause-some c =
    let s = site_view c.args.site.now in
    let many : c.loop-place.place ≡ length s.depends = omega (arith, c.loop-place-test.false, c.loop-place.auto.place-end, ap length c.as_slice-depend-items.ensures) in
    all_found s c.from.result (subst (λ n. AreFound s n c.from.result) many (subst (AreFound s c.loop-place.place) (sym c.from.ensures) c.loop-place.invariant.found))

pub returns-clause-none : goal.returns-clause-none
returns-clause-none c =
    let s = site_view c.args.site.now in
    let many : c.loop-place.place ≡ length s.depends = omega (arith, c.loop-place-test.false, c.loop-place.auto.place-end, ap length c.as_slice-depend-items.ensures) in
    no_found s c.from.result (subst (λ n. AreFound s n c.from.result) many (subst (AreFound s c.loop-place.place) (sym c.from.ensures) c.loop-place.invariant.found))
