-- What is made of macros, depth by depth.
use Rattle.std.specs.Prelude.{ℕ, zero, suc, List, Option, Some, None}
use Rattle.site_base.specs.Data.{Data}
use Rattle.command_macros.specs.Lookups.{Scope, value_of}
use Rattle.command_macros.specs.Made.{Made, made, missing, filled}
use Rattle.command_macros.specs.Pieces.{pieces}
use Rattle.command_macros.specs.Values.{value_made}

-- what the command itself sets has depth 0, the value of a macro in it depth 1, and so on; macros are looked up down to this depth
abbrev pub deepest : ℕ
deepest = 15

-- of a text, if this is what is made of macros
abbrev pub text_with : (List ℕ → Made) → List ℕ → Made
text_with look text = filled look (pieces text)

-- of a macro with this value, where `text` is what is made of texts in it; without a value it is missing
abbrev pub found_made : (List ℕ → Made) → List ℕ → Option Data → Made
found_made text name None = missing name
found_made text name (Some d) = value_made text (missing name) d

-- of a macro in a text, where macros are looked up in so many depths, that of the text among them
unfoldable pub macro_made : Scope → ℕ → List ℕ → Made
macro_made s zero name = missing name
macro_made s (suc left) name = found_made (text_with (macro_made s left)) name (value_of s name)

-- of a text that the command itself sets
abbrev pub own_made : Scope → List ℕ → Made
own_made s = text_with (macro_made s (suc deepest))
