-- One more is ranked.
use Rattle.std.proofs.Common.{◌≡◌, ◌<◌, ◌∷◌, ◌++◌, [], length, map, sym, ap, ◌∙◌, subst, append_assoc, arith}
use Rattle.std.proofs.lemmas.List.{map-append}
use Rattle.std.specs.Vec.Iter.{into_iter_items}
use Rattle.run_meaning.proofs.Lists.{length_map}
use Rattle.site_model.specs.PlainSite.{check_view, site_view}
use Rattle.round_check.specs.declared.ordering.Ranked.{Ranked}
use Rattle.round_check.specs.Ordered.{AreRanked, told_by_rank}
use Rattle.round_check.proofs.LoopLaws.{ranked_more}
use Rattle.round_check.proofs.ordering.with_ranks.Goals as goal

pub loop-told-preserved : goal.loop-told-preserved
loop-told-preserved c =
    let s = site_view c.args.site.now in
    let t = c.in-Some.told in
    let list = c.loop-told.list.items in
    let rest = into_iter_items c.next.new.self in
    let x : Ranked = record { rank = length c.ancestors-rank.result.now; told = t } in
    let many : length s.checkables ≡ length c.args.site.now.checkables = length_map check_view c.args.site.now.checkables in
    let lt : t.checkable < length s.checkables = omega (arith, many, c.if-told-len.false, c.len-in-loop-told.ensures) in
    let grown = c.in_ok-push.ensures.items in (
      subst (AreRanked s) (sym grown) (ranked_more s list x c.loop-told.invariant.0 lt (ap length (c.ancestors-rank.ensures s c.requires))),
      ap (λ ys. map told_by_rank ys ++ rest) grown
          ∙ ap (λ ys. ys ++ rest) (map-append told_by_rank list (x ∷ []))
          ∙ append_assoc (map told_by_rank list) (t ∷ []) rest
          ∙ ap (λ ys. map told_by_rank list ++ ys) (sym c.in-Some.ensures.steps.0)
          ∙ c.loop-told.invariant.1,
    )
