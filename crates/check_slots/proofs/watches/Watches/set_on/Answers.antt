-- One is set, on the wheel as well.
use Rattle.std.proofs.Common.{set, ap, ◌∙◌}
use Rattle.std.proofs.lemmas.List.{map-set}
use Rattle.check_slots.specs.Watches.{watch_as}
use Rattle.check_slots.proofs.OnWheel.{still_on}
use Rattle.check_slots.proofs.watches.Watches.set_on.Goals as goal

pub invariant_of-self : goal.invariant_of-self
invariant_of-self g c = still_on c.self.inside.wheel c.put.new.wheel c.self.inside.each.items c.args.checkable c.args.watch c.self.invariant c.put.ensures

pub returns : goal.returns
returns g c = map-set watch_as c.self.inside.each.items c.args.checkable c.args.watch ∙ ap (λ ws. set ws c.args.checkable (watch_as c.args.watch)) c.self.view_is
