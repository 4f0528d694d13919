use Rattle.std.proofs.Common.{◌≡◌, []}
use Rattle.site_base.specs.View.{pairs_view}
use Rattle.command_macros.specs.Arguments.{in_front}
use Rattle.command_macros.specs.Macros.{own_made}
use Rattle.command_macros.specs.Scopes.{scope_view}
use Rattle.command_macros.specs.Sorted.{places_from, words_along}
use Rattle.command_macros.proofs.commands.add_arguments.Given as goal

abbrev pub invariant-loop-entry : goal.invariant-loop-entry
invariant-loop-entry l =
    in_front l.words (words_along (own_made (scope_view l.scope)) l.arguments l.entry-iterator)
    ≡ in_front l.fn.words (words_along (own_made (scope_view l.scope)) l.arguments (places_from (pairs_view l.arguments) 0 []))
