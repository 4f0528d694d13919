use Rattle.std.proofs.Common.{◌≡◌, ◌≤◌, ◌++◌, length, not, sym, ap, subst, ◌∙◌, append-nil, arith}
use Rattle.std.proofs.Math.ListN.{drop_of_length-le}
use Rattle.std.specs.List.{AllByRecursion, filter}
use Rattle.dsl_value.specs.Whole.{Names}
use Rattle.dsl_ops.specs.Seen.{found_in}
use Rattle.dsl_ops.proofs.Among.{without_seen}
use Rattle.dsl_ops.proofs.Lists.{all_kept}
use Rattle.dsl_ops.proofs.membership.left_without.Goals as goal

pub returns-clause-items : goal.returns-clause-items
returns-clause-items c =
    let le : length c.args.left.now ≤ c.loop-item.item-index = omega arith in
    sym (append-nil c.loop-item.items)
    ∙ ap (λ left. c.loop-item.items ++ filter (λ v. not (found_in c.args.store.now.cells c.in_ok-seen.seen v)) left) (sym (drop_of_length-le c.args.left.now le))
    ∙ c.loop-item.invariant
    ∙ without_seen _ _ c.args.store.now.cells c.args.right.now c.in_ok-seen.seen c.in_ok-seen.ensures c.args.left.now

pub returns-clause-stands : goal.returns-clause-stands
returns-clause-stands c =
    let le : length c.args.left.now ≤ c.loop-item.item-index = omega arith in
    let made : c.loop-item.items ≡ filter (λ v. not (found_in c.args.store.now.cells c.in_ok-seen.seen v)) c.args.left.now =
    sym (append-nil c.loop-item.items)
    ∙ ap (λ left. c.loop-item.items ++ filter (λ v. not (found_in c.args.store.now.cells c.in_ok-seen.seen v)) left) (sym (drop_of_length-le c.args.left.now le))
    ∙ c.loop-item.invariant in
    subst (AllByRecursion (Names (length c.args.store.now.cells) (length c.args.store.now.functions))) (sym made) (all_kept _ _ _ c.requires.left)
