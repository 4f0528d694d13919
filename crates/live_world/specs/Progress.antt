-- How far an order is.
use Rattle.std.specs.Prelude.{ℕ, ⊤}
use Rattle.live_world.specs.declared.running.Progress.{Progress}
use Rattle.live_world.specs.declared.running.Progress.TheVariants.{Waiting, Thread}

-- the order that its report will be of
abbrev pub order_of : Progress → ℕ
order_of (Waiting order) = order.number
order_of (Thread signs thread) = thread.promise.0

-- a thread runs its program
abbrev pub HasThread : Progress → Type 0
HasThread (Waiting order) = ⊥
HasThread (Thread signs thread) = ⊤
