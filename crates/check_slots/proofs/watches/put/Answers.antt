-- It is taken off, and put on again where no order is outstanding.
use Rattle.std.proofs.Common.{sym, ap, ◌∙◌, cond, set, None, Some}
use Rattle.check_slots.proofs.OnWheel.{after_place, after_remove, placed_again}
use Rattle.check_slots.proofs.watches.put.Goals as goal

pub returns : goal.returns
returns g c =
    let old = c.args.wheel.now in
    let k = c.args.checkable in
    let off = after_remove c.remove.result old c.remove.new.self k c.remove.ensures.moment c.remove.ensures.same c.remove.ensures.removed in
    placed_again old c.remove.new.self c.place.new.self k c.args.watch.now.next c.requires off
    (λ free. after_place c.place.result c.remove.new.self c.place.new.self k c.args.watch.now.next free c.place.ensures.present c.place.ensures.placed)
    ∙ ap (λ m. set old k m) (sym (ap (λ t. cond t None (Some c.args.watch.now.next)) c.if-watch.false))
