-- What is told so far, with what the elements that are left name, is all.
use Rattle.std.proofs.Common.{◌≡◌, ◌++◌, drop}
use Rattle.site_base.specs.View.{items_view}
use Rattle.conf_check.specs.Keys.{in_keys}
use Rattle.conf_check.specs.References.{items_faults}
use Rattle.conf_check.proofs.names.Reference.push_items.Given as goal

abbrev pub invariant-loop-item : goal.invariant-loop-item
invariant-loop-item l =
    l.out ++ items_faults (in_keys l.self.keys.now) l.self.item l.self.attribute.now l.of (items_view (drop l.item-index l.items))
    ≡ l.fn.out ++ items_faults (in_keys l.self.keys.now) l.self.item l.self.attribute.now l.of (items_view l.items)
