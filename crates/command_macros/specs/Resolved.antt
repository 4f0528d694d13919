-- The words of a checkable's command.
use Rattle.std.specs.Prelude.{ℕ, List, [], ◌∷◌, Option, Some, None, codes, slice_get}
use Rattle.site_base.specs.Data.{Data, null, boolean, number, string, list, dict, Pairs}
use Rattle.site_model.specs.PlainSite.{PlainSite, PlainCheck}
use Rattle.command_macros.specs.Arguments.{Words, words, lacks, joined, item_words, argument_words}
use Rattle.command_macros.specs.Lookups.{Scope, pairs_of, value_at}
use Rattle.command_macros.specs.Macros.{own_made}
use Rattle.command_macros.specs.Made.{Made, made, missing}
use Rattle.command_macros.specs.Orders.{in_order}
use Rattle.command_macros.specs.Scopes.{scope_of}

-- of the arguments, one after another
abbrev pub arguments_words : (List ℕ → Made) → List (List ℕ × Data) → Words
arguments_words text [] = words []
arguments_words text (e ∷ es) = joined (argument_words text e.0 e.1) (arguments_words text es)

-- what a shell is told
abbrev pub shell_words : Made → Words
shell_words (made text) = words (codes "/bin/sh" ∷ codes "-c" ∷ text ∷ [])
shell_words (missing name) = lacks name

-- of a `command`: a text goes to a shell, and its arguments aren't looked at
abbrev pub command_words : (List ℕ → Made) → Option Data → Pairs → Words
command_words text None arguments = arguments_words text (in_order arguments)
command_words text (Some null) arguments = arguments_words text (in_order arguments)
command_words text (Some (boolean b)) arguments = arguments_words text (in_order arguments)
command_words text (Some (number n)) arguments = arguments_words text (in_order arguments)
command_words text (Some (string t)) arguments = shell_words (text t)
command_words text (Some (list ds)) arguments = joined (item_words text ds) (arguments_words text (in_order arguments))
command_words text (Some (dict ps)) arguments = arguments_words text (in_order arguments)

-- where macros are looked up in this scope
abbrev pub scope_words : Scope → Words
scope_words s =
    command_words (own_made s) (value_at (codes "command") s.command.attributes)
    (pairs_of (value_at (codes "arguments") s.command.attributes))

-- without a checkable there are no words
abbrev pub check_words : PlainSite → Option PlainCheck → Words
check_words s None = words []
check_words s (Some c) = scope_words (scope_of s c)

-- of the command of the checkable at a place
abbrev pub resolved : PlainSite → ℕ → Words
resolved s k = check_words s (slice_get s.checkables k)
