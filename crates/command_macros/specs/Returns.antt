-- What the functions return.
use Rattle.std.specs.Prelude.{ℕ, ◌≡◌, List, Option, Some, None, Result, Ok, Err}
use Rattle.std.specs.Borrow.{Bor}
use Rattle.std.specs.Option.{option_map}
use Rattle.site_base.specs.Data.{Data}
use Rattle.site_base.specs.View.{view}
use Rattle.site_base.specs.declared.tree.Tree.{Tree}
use Rattle.command_macros.specs.Arguments.{Words, words, lacks, in_front, Found, found, lacking}
use Rattle.command_macros.specs.Made.{Made, made, missing, behind}
use Rattle.command_macros.specs.declared.macro_error.MacroError.{MacroError}
use Rattle.command_macros.specs.declared.macro_error.MacroError.TheVariants as error
use Rattle.command_macros.specs.declared.stop.Stop.{Stop}
use Rattle.command_macros.specs.declared.stop.Stop.TheVariants as stop
use Rattle.command_macros.specs.declared.values.Values.{Values}

-- a tree that is found, as its plain value
abbrev pub tree_found : Option (Bor Tree) → Option Data
tree_found tree = option_map (λ t. view t.now) tree

abbrev pub macro_name : Option (Bor (List ℕ)) → Option (List ℕ)
macro_name name = option_map (λ t. t.now) name

-- behind this text that one is written, or a macro is missing, unless memory ran out
abbrev pub Writes : {A : Type 0} → List ℕ → List ℕ → Result A Stop → Made → Type 0
Writes old new (Ok x) m = behind old m ≡ made new
Writes old new (Err (stop.Missing name)) m = m ≡ missing name.now
Writes old new (Err stop.Memory) m = Unit {0}

-- behind these words others are added
abbrev pub Adds : {A : Type 0} → List (List ℕ) → List (List ℕ) → Result A Stop → Words → Type 0
Adds old new (Ok x) ws = in_front old ws ≡ words new
Adds old new (Err (stop.Missing name)) ws = ws ≡ lacks name.now
Adds old new (Err stop.Memory) ws = Unit {0}

abbrev pub Finds : Result Values Stop → Found → Type 0
Finds (Ok v) f = f ≡ found v
Finds (Err (stop.Missing name)) f = f ≡ lacking name.now
Finds (Err stop.Memory) f = Unit {0}

-- these are the words, or this macro is the one that is missing, unless memory ran out
abbrev pub Gives : Result (List (List ℕ)) MacroError → Words → Type 0
Gives (Ok ws) r = r ≡ words ws
Gives (Err (error.MissingMacro name)) r = r ≡ lacks name
Gives (Err error.OutOfMemory) r = Unit {0}

-- what stopped a command, as it is told, unless memory ran out
abbrev pub IsErrorOf : Stop → MacroError → Type 0
IsErrorOf (stop.Missing name) (error.MissingMacro told) = told ≡ name.now
IsErrorOf (stop.Missing name) error.OutOfMemory = Unit {0}
IsErrorOf stop.Memory (error.MissingMacro told) = ⊥
IsErrorOf stop.Memory error.OutOfMemory = Unit {0}
