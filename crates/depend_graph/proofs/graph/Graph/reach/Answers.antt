use Rattle.std.proofs.Common.{◌≡◌, ◌<◌, length, get_or, set, AllPairs, refl, sym, ap, ◌∙◌, subst, arith, true, length-set}
use Rattle.site_model.specs.PlainSite.{site_view}
use Rattle.run_meaning.specs.Reachability.{ancestors, is_held, reach_of}
use Rattle.run_meaning.specs.Turns.{of_index}
use Rattle.depend_graph.specs.Graph.{AreParentsFirst}
use Rattle.depend_graph.specs.Outlooks.{flagged, outlook_of, step_of}
use Rattle.depend_graph.specs.Parents.{has}
use Rattle.depend_graph.proofs.Ancestors.{ancestor_in}
use Rattle.depend_graph.proofs.Has.{never_both}
use Rattle.depend_graph.proofs.Places.{ancestors_rise}
use Rattle.depend_graph.proofs.Reached.{known_more, order_has, reach_last, reach_next}
use Rattle.depend_graph.proofs.graph.Graph.reach.Goals as goal
use Rattle.depend_graph.proofs.graph.Graph.reach.Goals.{in-Some, in_default}

pub reach_at-requires-clause-fit : goal.reach_at-requires-clause-fit
reach_at-requires-clause-fit c =
    let e = c.ancestors-above.ensures (site_view c.args.site.now) c.requires.graph in
    record {
      rising = subst (AllPairs (λ p q. p < q)) (sym e) (ancestors_rise (site_view c.args.site.now) c.args.checkable);
      sights = c.requires.sights ∙ sym e;
      places = c.in_ok-positions.ensures;
      teams = c.requires.graph.teams;
    }

pub reach_at-requires-clause-checkable : goal.reach_at-requires-clause-checkable
reach_at-requires-clause-checkable c =
    let o = outlook_of (site_view c.args.site.now) c.args.zone.now c.args.purpose c.args.moment c.args.sights.now in
    let order = c.as_slice-ancestor-items.result.now in
    let l : c.loop-ancestor.ancestor-index < length order = c.loop-ancestor-test.true in
    (ancestor_in (site_view c.args.site.now) c.args.checkable (get_or order c.loop-ancestor.ancestor-index 0)
    (order_has o c.requires.graph.has_order c.args.checkable c.requires.checkable order (subst (AreParentsFirst (site_view c.args.site.now) c.args.checkable) (sym c.as_slice-ancestor-items.ensures.value) (c.in_ok-order.ensures (site_view c.args.site.now) c.requires.graph)) c.loop-ancestor.ancestor-index l))

pub place_of-requires : goal.place_of-requires
place_of-requires c =
    let e = c.ancestors-above.ensures (site_view c.args.site.now) c.requires.graph in
    record {
      rising = subst (AllPairs (λ p q. p < q)) (sym e) (ancestors_rise (site_view c.args.site.now) c.args.checkable);
      sights = c.requires.sights ∙ sym e;
      places = c.in_ok-positions.ensures;
      teams = c.requires.graph.teams;
    }

pub loop-ancestor-preserved : goal.loop-ancestor-preserved
loop-ancestor-preserved c =
    let s = site_view c.args.site.now in
    let o = outlook_of s c.args.zone.now c.args.purpose c.args.moment c.args.sights.now in
    let order = c.as_slice-ancestor-items.result.now in
    let above = of_index c.args.checkable c.args.self.now.ancestors in
    let flags = c.loop-ancestor.blocked.items in
    let first = subst (AreParentsFirst (site_view c.args.site.now) c.args.checkable) (sym c.as_slice-ancestor-items.ensures.value) (c.in_ok-order.ensures (site_view c.args.site.now) c.requires.graph) in
    let e = c.ancestors-above.ensures (site_view c.args.site.now) c.requires.graph in
    let mine : above ≡ ancestors (site_view c.args.site.now) c.args.checkable = c.requires.graph.ancestors c.args.checkable c.requires.checkable in
    let a : c.ancestors-above.result.now ≡ above = e ∙ sym mine in
    let i = c.loop-ancestor.ancestor-index in
    let l : i < length order = c.loop-ancestor-test.true in
    let at : get_or c.as_slice-ancestor-items.result.now i 0 ≡ get_or order i 0 = refl in
    let known = c.loop-ancestor.invariant.flags in
    let held : c.is_held-is_held.result ≡ is_held (reach_of o (get_or order i 0)) =
    c.is_held-is_held.ensures ∙ ap is_held (c.reach_at.ensures
    ∙ ap (λ xs. step_of o (flagged xs c.as_slice.result.now) (get_or c.as_slice-ancestor-items.result.now i 0)) a
    ∙ ap (λ fs. step_of o (flagged above fs) (get_or c.as_slice-ancestor-items.result.now i 0)) c.as_slice.ensures.value
    ∙ ap (step_of o (flagged above flags)) at
    ∙ reach_next o c.requires.graph.has_order c.args.checkable c.requires.checkable order first above flags i l known) in
    let rises : AllPairs (λ p q. p < q) above = subst (AllPairs (λ p q. p < q)) (sym mine) (ancestors_rise (site_view c.args.site.now) c.args.checkable) in
    elim c.match-place_of.branch [
      | in-Some w ↦
          let put : c.match-place_of.blocked.items ≡ set flags w.in-Some.place c.is_held-is_held.result = ap (λ v. v.items) w.blocked-is in
          record {
            long = ap length put ∙ length-set flags w.in-Some.place c.is_held-is_held.result ∙ c.loop-ancestor.invariant.long;
            flags = λ k h. ap (λ fs. flagged above fs (get_or order k 0)) put
                ∙ known_more o c.requires.graph.has_order c.args.checkable c.requires.checkable order first above flags i w.in-Some.place c.is_held-is_held.result rises
                (subst (λ xs. w.in-Some.place < length xs) a w.in-Some.ensures.place) c.loop-ancestor.invariant.long
                (ap (λ xs. get_or xs w.in-Some.place 0) (sym a) ∙ w.in-Some.ensures.number ∙ at) held known k (omega (arith, h));
          }
      | in_default w ↦
          let there : has (get_or order i 0) (ancestors (site_view c.args.site.now) c.args.checkable) ≡ true = order_has o c.requires.graph.has_order c.args.checkable c.requires.checkable order first i l in
          absurd (never_both (ap (λ k. has k c.ancestors-above.result.now) at ∙ ap (has (get_or order i 0)) e ∙ there) w.in_default.ensures.none)
    ]

pub reach_at-requires-2-clause-fit : goal.reach_at-requires-2-clause-fit
reach_at-requires-2-clause-fit c =
    let e = c.ancestors-above.ensures (site_view c.args.site.now) c.requires.graph in
    record {
      rising = subst (AllPairs (λ p q. p < q)) (sym e) (ancestors_rise (site_view c.args.site.now) c.args.checkable);
      sights = c.requires.sights ∙ sym e;
      places = c.in_ok-positions.ensures;
      teams = c.requires.graph.teams;
    }

pub returns : goal.returns
returns c =
    let s = site_view c.args.site.now in
    let o = outlook_of s c.args.zone.now c.args.purpose c.args.moment c.args.sights.now in
    let order = c.as_slice-ancestor-items.result.now in
    let above = of_index c.args.checkable c.args.self.now.ancestors in
    let flags = c.loop-ancestor.blocked.items in
    let first = subst (AreParentsFirst (site_view c.args.site.now) c.args.checkable) (sym c.as_slice-ancestor-items.ensures.value) (c.in_ok-order.ensures (site_view c.args.site.now) c.requires.graph) in
    let e = c.ancestors-above.ensures (site_view c.args.site.now) c.requires.graph in
    let mine : above ≡ ancestors (site_view c.args.site.now) c.args.checkable = c.requires.graph.ancestors c.args.checkable c.requires.checkable in
    let a : c.ancestors-above.result.now ≡ above = e ∙ sym mine in
    let past = c.loop-ancestor-test.false in
    c.reach_at-2.ensures
    ∙ ap (λ xs. step_of o (flagged xs c.as_slice-2.result.now) c.args.checkable) a
    ∙ ap (λ fs. step_of o (flagged above fs) c.args.checkable) c.as_slice-2.ensures.value
    ∙ reach_last o c.requires.graph.has_order c.args.checkable c.requires.checkable order first above flags (λ k h. c.loop-ancestor.invariant.flags k (omega (arith, h, past)))
