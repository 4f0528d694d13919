use Rattle.std.proofs.Common.{◌≡◌, ◌≤◌, ◌+◌, ◌++◌, drop, length, sym, ap, subst, ◌∙◌, append-nil, arith}
use Rattle.std.proofs.Math.ListN.{drop_of_length-le}
use Rattle.std.specs.List.{AllByRecursion, filter}
use Rattle.dsl_value.specs.Whole.{Names}
use Rattle.dsl_ops.specs.Seen.{found_in}
use Rattle.dsl_ops.proofs.Lists.{all_kept}
use Rattle.dsl_lib.proofs.Kept.{kept_seen, kept_step}
use Rattle.dsl_lib.proofs.sets.kept_in.Goals as goal

pub loop-value-preserved : goal.loop-value-preserved
loop-value-preserved c =
    ap (λ ws. ws ++ filter (found_in c.args.store.now.cells c.in_ok-seen.seen) (drop (c.loop-value.value-index + 1) c.args.values.now)) c.in_ok-keep_seen.ensures
    ∙ kept_step (found_in c.args.store.now.cells c.in_ok-seen.seen) c.args.values.now c.loop-value.value-index c.value-item.result c.loop-value.kept _ (omega arith) c.value-item.is c.loop-value.invariant

pub returns-clause-kept : goal.returns-clause-kept
returns-clause-kept c =
    let le : length c.args.values.now ≤ c.loop-value.value-index = omega arith in
    sym (append-nil c.loop-value.kept)
    ∙ ap (λ vs. c.loop-value.kept ++ filter (found_in c.args.store.now.cells c.in_ok-seen.seen) vs) (sym (drop_of_length-le c.args.values.now le))
    ∙ c.loop-value.invariant
    ∙ kept_seen _ _ c.args.store.now.cells c.args.others.now c.in_ok-seen.seen c.in_ok-seen.ensures c.args.values.now

pub returns-clause-stands : goal.returns-clause-stands
returns-clause-stands c =
    let le : length c.args.values.now ≤ c.loop-value.value-index = omega arith in
    let made : c.loop-value.kept ≡ filter (found_in c.args.store.now.cells c.in_ok-seen.seen) c.args.values.now =
    sym (append-nil c.loop-value.kept)
    ∙ ap (λ vs. c.loop-value.kept ++ filter (found_in c.args.store.now.cells c.in_ok-seen.seen) vs) (sym (drop_of_length-le c.args.values.now le))
    ∙ c.loop-value.invariant in
    subst (AllByRecursion (Names (length c.args.store.now.cells) (length c.args.store.now.functions))) (sym made) (all_kept _ _ _ c.requires.values)
