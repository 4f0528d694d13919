use Rattle.std.proofs.Common.{◌≡◌, ◌≤◌, ◌++◌, ◌∷◌, [], length, take, sym, ap, subst, ◌∙◌, arith}
use Rattle.std.proofs.lemmas.List.{take_more}
use Rattle.std.proofs.lemmas.List.Elements.{All-from_recursion}
use Rattle.dsl_value.specs.Whole.{Names}
use Rattle.dsl_ops.specs.Seen.{IsSeen}
use Rattle.dsl_ops.proofs.Among.{adds_seen, take_past}
use Rattle.dsl_ops.proofs.seen.seen_of.Goals as goal

pub loop-item-init : goal.loop-item-init
loop-item-init c = c.new-seen.ensures _ _ _

pub loop-item-preserved : goal.loop-item-preserved
loop-item-preserved c =
    let n = length c.args.store.now.cells in
    let m = length c.args.store.now.functions in
    let xs = c.args.items.now in
    let i = c.loop-item.item-index in
    let more = take_more xs i c.item-item.result (omega arith) in
    let named = subst (Names n m) (sym c.item-item.is) (All-from_recursion (Names n m) xs c.requires i c.item-item.result (omega arith)) in
    subst (λ vs. IsSeen n m c.args.store.now.cells vs c.add.new.self) (sym (more ∙ ap (λ x. take i xs ++ x ∷ []) (sym c.item-item.is)))
    (adds_seen n m c.args.store.now.cells (take i xs) c.loop-item.seen c.add.new.self c.item-item.result c.loop-item.invariant named c.in_ok-add.ensures)

pub returns : goal.returns
returns c =
    let le : length c.args.items.now ≤ c.loop-item.item-index = omega arith in
    subst (λ vs. IsSeen (length c.args.store.now.cells) (length c.args.store.now.functions) c.args.store.now.cells vs c.loop-item.seen) (take_past c.args.items.now c.loop-item.item-index le) c.loop-item.invariant
