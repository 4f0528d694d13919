use Rattle.std.proofs.Common.{◌≡◌, ◌+◌, ◌*◌, length}
use denote.Shadow.{shadow}
use denote.Text.{Utf8}
use Rattle.site_base.specs.View.{view}
use Rattle.command_macros.specs.Macros.{macro_made, text_with}
use Rattle.command_macros.specs.Made.{behind}
use Rattle.command_macros.specs.Returns.{macro_name}
use Rattle.command_macros.specs.Scopes.{scope_view}
use Rattle.command_macros.specs.Values.{value_made, nothing_of}
use Rattle.command_macros.specs.Walk.{opened_made, opened_weight}
use Rattle.command_macros.proofs.texts.+macros.Given as goal

-- How deep each function calls others with the same number of depths.

abbrev pub decreases-push_value : goal.decreases-push_value
decreases-push_value l = 8 * l.left + 7

abbrev pub decreases-next_item : goal.decreases-next_item
decreases-next_item l = 8 * l.left + 6

abbrev pub decreases-begin_value : goal.decreases-begin_value
decreases-begin_value l = 8 * l.left + 5

abbrev pub decreases-push_text : goal.decreases-push_text
decreases-push_text l = 8 * l.left + 4

abbrev pub decreases-push_between : goal.decreases-push_between
decreases-push_between l = 8 * l.left + 3

abbrev pub decreases-push_macro : goal.decreases-push_macro
decreases-push_macro l = 8 * l.left + 2

-- what stands so far, and what the rest of the text becomes
abbrev pub invariant-push_text-loop-front : goal.invariant-push_text-loop-front
invariant-push_text-loop-front l =
    shadow (Utf8 l.rest)
    × (behind l.out (text_with (macro_made (scope_view l.scope) l.left) l.rest) ≡ behind l.fn.out (text_with (macro_made (scope_view l.scope) l.left) l.fn.text))

abbrev pub decreases-push_text-loop-front : goal.decreases-push_text-loop-front
decreases-push_text-loop-front l = length l.rest

-- and what the arrays become that are gone through
abbrev pub invariant-push_value-loop-array : goal.invariant-push_value-loop-array
invariant-push_value-loop-array l =
    behind l.out (opened_made (text_with (macro_made (scope_view l.scope) l.left)) (nothing_of (macro_name l.name)) l.opened.items)
    ≡ behind l.fn.out (value_made (text_with (macro_made (scope_view l.scope) l.left)) (nothing_of (macro_name l.name)) (view l.value))

abbrev pub decreases-push_value-loop-array : goal.decreases-push_value-loop-array
decreases-push_value-loop-array l = opened_weight l.opened.items
