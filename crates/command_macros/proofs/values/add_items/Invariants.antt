use Rattle.std.proofs.Common.{◌≡◌, drop}
use Rattle.site_base.specs.View.{items_view}
use Rattle.command_macros.specs.Arguments.{in_front, item_words}
use Rattle.command_macros.specs.Macros.{own_made}
use Rattle.command_macros.specs.Scopes.{scope_view}
use Rattle.command_macros.proofs.values.add_items.Given as goal

abbrev pub invariant-loop-item : goal.invariant-loop-item
invariant-loop-item l =
    in_front l.words (item_words (own_made (scope_view l.scope)) (items_view (drop l.item-index l.items)))
    ≡ in_front l.fn.words (item_words (own_made (scope_view l.scope)) (items_view l.items))
