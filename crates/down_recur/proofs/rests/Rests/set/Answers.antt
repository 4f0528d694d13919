-- A second changed, then that of its block, and then that of the block's part.
use Rattle.std.proofs.Common.{◌≡◌, ◌/◌, ◌<◌, length, set, sym, ap, ◌∙◌, subst, arith}
use Rattle.down_recur.proofs.Blocks.{renewed}
use Rattle.down_recur.specs.Rests.{AreLeast, least_of}
use Rattle.down_recur.proofs.rests.Rests.set.Goals as goal

pub invariant_of-self : goal.invariant_of-self
invariant_of-self c =
    let seconds = c.self.inside.seconds.items in
    let blocks = c.self.inside.blocks.items in
    let parts = c.self.inside.parts.items in
    let place = c.args.place in
    let after = set seconds place c.args.second in
    let block = place / 32 in
    let two : block / 32 ≡ place / 1024 = omega arith in
    let new_blocks : c.renew.new.blocks.items ≡ set blocks block (least_of block after) = c.renew.ensures ∙ ap (λ xs. set blocks block (least_of block xs)) c.deref.ensures.value in
    let new_parts : c.renew-2.new.blocks.items ≡ set parts (block / 32) (least_of (block / 32) c.renew.new.blocks.items) =
    c.renew-2.ensures ∙ ap (λ xs. set parts (place / 1024) (least_of (place / 1024) xs)) c.deref-2.ensures.value ∙ ap (λ b. set parts b (least_of b c.renew.new.blocks.items)) (sym two) in
    let inside : place < length seconds = omega (arith, c.requires, ap length c.self.view_is) in
    let first = renewed blocks seconds place c.args.second inside c.self.invariant.0 in
    let second = renewed parts blocks block (least_of block after) (omega (arith, c.self.invariant.0.enough)) c.self.invariant.1 in (
      subst (λ xs. AreLeast xs after) (sym new_blocks) first,
      subst (λ ps. AreLeast ps c.renew.new.blocks.items) (sym new_parts)
          (subst (λ bs. AreLeast (set parts (block / 32) (least_of (block / 32) bs)) bs) (sym new_blocks) second),
    )
