-- Orders with their words.
use Rattle.std.specs.Prelude.{ℕ, List, Result, Ok, Err}
use Rattle.command_macros.specs.Arguments as arguments
use Rattle.command_macros.specs.Resolved.{resolved}
use Rattle.run_meaning.specs.Turns as turns
use Rattle.run_meaning.specs.Turns.{Command}
use Rattle.site_model.specs.PlainSite.{PlainSite}
use Rattle.turn_engine.specs.declared.order_out.OrderOut.{OrderOut}

abbrev pub command_as : arguments.Words → Command
command_as (arguments.words ws) = turns.words ws
command_as (arguments.lacks name) = turns.missing name

-- the command of the checkable at a place, with its macros resolved
abbrev pub command_of : PlainSite → ℕ → Command
command_of s k = command_as (resolved s k)

abbrev pub command_in : Result (List (List ℕ)) (List ℕ) → Command
command_in (Ok ws) = turns.words ws
command_in (Err name) = turns.missing name

abbrev pub order_as : OrderOut → turns.Ordered
order_as o = record { number = o.number; checkable = o.checkable; command = command_in o.argv }
