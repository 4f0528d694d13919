-- Turns of the world, and the orders that have no report yet.
use Rattle.std.specs.Prelude.{ℕ, ◌≡◌, ◌+◌, ◌≤◌, List, ◌++◌, map, Option, IfSome}
use Rattle.std.specs.Time.{instant_nanos}
use Rattle.std.specs.declared.time.Instant.{Instant}
use Rattle.site_edge.specs.declared.order.Order.{Order}
use Rattle.site_edge.specs.declared.report.Report.{Report}
use Rattle.live_world.specs.declared.running.Running.{Running}

-- a second has passed between the last turn, if there was one, and this one
abbrev pub IsSecondLater : Option Instant → Option Instant → Type 0
IsSecondLater last this = IfSome last (λ l. IfSome this (λ t. instant_nanos l + 1000000000 ≤ instant_nanos t))

-- the numbers of orders without a report
abbrev pub numbers : List Running → List ℕ
numbers running = map (λ r. r.number) running

abbrev pub reported : List Report → List ℕ
reported reports = map (λ r. r.order) reports

abbrev pub ordered : List Order → List ℕ
ordered orders = map (λ o. o.number) orders

-- the first of the orders were started
abbrev pub StartsPart : List Order → List ℕ → List ℕ → Type 0
StartsPart orders old new = (part : List Order) × (rest : List Order) × (orders ≡ part ++ rest) × (new ≡ old ++ ordered part)
